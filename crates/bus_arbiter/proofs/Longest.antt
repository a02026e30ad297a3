-- The greatest of some numbers, one more at a time.
use Rattle.std.proofs.Common.{◌≡◌, ℕ, zero, suc, ◌+◌, ◌<◌, max, List, [], ◌∷◌, length, map, drop, get_or, refl, ap, ◌∙◌, arith}
use Rattle.std.specs.Prelude.{fold}

one-more : {X : Type 0} (f : X → ℕ) (xs : List X) (i : ℕ) (d : X) (a : ℕ) → i < length xs
    → fold max a (map f (drop i xs)) ≡ fold max (max a (f (get_or xs i d))) (map f (drop (suc i) xs))
one-more f [] i d a within = absurd (omega arith)
one-more f (x ∷ xs) zero d a within = refl
one-more f (x ∷ xs) (suc i) d a within = one-more f xs i d a (omega arith)

pub longest-more : {X : Type 0} (f : X → ℕ) (xs : List X) (i : ℕ) (d : X) (a : ℕ) → i < length xs
    → fold max a (map f (drop i xs)) ≡ fold max (max a (f (get_or xs i d))) (map f (drop (i + 1) xs))
longest-more f xs i d a within =
    let one : suc i ≡ i + 1 = omega arith in
    one-more f xs i d a within ∙ ap (λ j. fold max (max a (f (get_or xs i d))) (map f (drop j xs))) one
