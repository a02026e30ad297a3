-- Statements about lists, item by item. (This project's profile.)
use Rattle.std.specs.Prelude.{ℕ, ◌≤◌, nat_le, Bool, ◌&&◌, List, [], ◌∷◌, ◌++◌}

-- a number from low to high
abbrev pub Within : ℕ → ℕ → ℕ → Type 0
Within low high n = (low ≤ n) × (n ≤ high)

-- the test of such a number
unfoldable pub is_within : ℕ → ℕ → ℕ → Bool
is_within low high n = nat_le low n && nat_le n high

-- each item fits, given those before it
abbrev pub EachAfter : {X : Type 0} → (List X → X → Type 0) → List X → List X → Type 0
EachAfter Fits before [] = Unit {0}
EachAfter Fits before (x ∷ xs) = Fits before x × EachAfter Fits (before ++ x ∷ []) xs

-- the value of a function at the last of some items, or 0 if there are none
abbrev pub at_last : {X : Type 0} → (X → ℕ) → List X → ℕ
at_last f [] = 0
at_last f (x ∷ []) = f x
at_last f (x ∷ y ∷ xs) = at_last f (y ∷ xs)
