-- What a call added to a list. The list may be visible to contracts or not, before the call and after it; if it is
-- visible after the call, it was visible before. (This project's profile.)
use Rattle.std.specs.Prelude.{◌≡◌, ℕ, ◌-◌, ◌≤◌, List, ◌++◌, length, take, Option, Some, None}

-- all items were added at the end, in order
abbrev pub Adds : {X : Type 0} → Option (List X) → Option (List X) → List X → Type 0
Adds (Some before) (Some after) piece = after ≡ before ++ piece
Adds (Some before) None piece = Unit {0}
Adds None (Some after) piece = ⊥
Adds None None piece = Unit {0}

-- a prefix of the items was added at the end, possibly none, but not all of them
abbrev pub AddsLess : {X : Type 0} → Option (List X) → Option (List X) → List X → Type 0
AddsLess (Some before) (Some after) piece = (n : ℕ) × (n ≤ length piece - 1) × (after ≡ before ++ take n piece)
AddsLess (Some before) None piece = Unit {0}
AddsLess None (Some after) piece = ⊥
AddsLess None None piece = Unit {0}
