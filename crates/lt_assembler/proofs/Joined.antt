-- Words joined by spaces.
use Rattle.std.proofs.Common.{◌≡◌, ℕ, List, [], ◌∷◌, ◌++◌, map, flat_map, sym, ap}
use Rattle.std.specs.List.{join_with_byte}
use Rattle.std.proofs.lemmas.List.{append-nil}

-- each word after the first has a space before it
pub join-map : {X : Type 0} (f : X → List ℕ) (w : List ℕ) (xs : List X)
    → join_with_byte 32 (w ∷ map f xs) ≡ w ++ flat_map (λ x. 32 ∷ f x) xs
join-map f w [] = sym (append-nil w)
join-map f w (x ∷ xs) = ap (λ (t : List ℕ). w ++ (32 ∷ t)) (join-map f (f x) xs)
