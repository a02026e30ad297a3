-- If exchanging two neighbours makes no difference to a relation of lists, neither does the order of a list.
use Rattle.std.proofs.Common.{ℕ, zero, suc, ◌<◌, List, [], ◌∷◌, length, get_or, set, refl, arith}
use Rattle.std.specs.List.{swap}
use Rattle.std.specs.List.Sorted.{IsPermutation}
use Rattle.std.proofs.lemmas.List.Sorted.{IsPermutation-keeps, IsPermutation-swap}
use Rattle.gr_base.proofs.Permuted.{EachTwo, each_two_permuted}

-- a relation of lists that is reflexive and transitive, and is kept if an item is added at the beginning of both lists
pub record IsCongruence {X : Type 0} (Same : List X → List X → Type 0) : Type 0 where
  pub same : (xs : List X) → Same xs xs
  pub goes_on : (xs ys zs : List X) → Same xs ys → Same ys zs → Same xs zs
  pub under : (x : X) (xs ys : List X) → Same xs ys → Same (x ∷ xs) (x ∷ ys)

module _ {X : Type 0} (R : X → X → Type 0) (Same : List X → List X → Type 0) (is : IsCongruence Same)
    (turned : (x y : X) (xs : List X) → R x y → Same (x ∷ y ∷ xs) (y ∷ x ∷ xs)) where
  behind : (x : X) (xs : List X) → EachTwo R (x ∷ xs) → EachTwo R xs
  behind x xs each = record {
    at = λ i j d in_i in_j differ.
        each.at (suc i) (suc j) d (omega (arith, in_i)) (omega (arith, in_j)) (omega (arith, differ));
  }

  -- the first item is exchanged with a later one
  first_exchanged : (x : X) (xs : List X) (j : ℕ) (d : X) → j < length xs
      → ((k : ℕ) → k < length xs → R x (get_or xs k d)) → EachTwo R xs → Same (x ∷ xs) (get_or xs j d ∷ set xs j x)
  first_exchanged x [] j d within first each = absurd (omega (arith, within))
  first_exchanged x (z ∷ xs) zero d within first each = turned x z xs (first 0 (omega arith))
  first_exchanged x (z ∷ xs) (suc j) d within first each =
      let y = get_or xs j d in
      is.goes_on (x ∷ z ∷ xs) (z ∷ x ∷ xs) (y ∷ z ∷ set xs j x) (turned x z xs (first 0 (omega arith)))
      (is.goes_on (z ∷ x ∷ xs) (z ∷ y ∷ set xs j x) (y ∷ z ∷ set xs j x)
      (is.under z (x ∷ xs) (y ∷ set xs j x)
      (first_exchanged x xs j d (omega (arith, within)) (λ k below. first (suc k) (omega (arith, below)))
      (behind z xs each)))
      (turned z y (set xs j x) (each.at 0 (suc j) d (omega arith) within (omega arith))))

  exchanged : (xs : List X) (i j : ℕ) (d : X) → i < length xs → j < length xs → EachTwo R xs
      → Same xs (set (set xs i (get_or xs j d)) j (get_or xs i d))
  exchanged [] i j d in_i in_j each = absurd (omega (arith, in_i))
  exchanged (x ∷ xs) zero zero d in_i in_j each = is.same (x ∷ xs)
  exchanged (x ∷ xs) zero (suc j) d in_i in_j each =
      first_exchanged x xs j d (omega (arith, in_j))
      (λ k below. each.at 0 (suc k) d (omega arith) (omega (arith, below)) (omega arith)) (behind x xs each)
  exchanged (x ∷ xs) (suc i) zero d in_i in_j each =
      first_exchanged x xs i d (omega (arith, in_i))
      (λ k below. each.at 0 (suc k) d (omega arith) (omega (arith, below)) (omega arith)) (behind x xs each)
  exchanged (x ∷ xs) (suc i) (suc j) d in_i in_j each =
      is.under x xs (set (set xs i (get_or xs j d)) j (get_or xs i d))
      (exchanged xs i j d (omega (arith, in_i)) (omega (arith, in_j)) (behind x xs each))

  swapped : (xs : List X) (i j : ℕ) → i < length xs → j < length xs → EachTwo R xs → Same xs (swap xs i j)
  swapped [] i j in_i in_j each = absurd (omega (arith, in_i))
  swapped (x ∷ xs) i j in_i in_j each = exchanged (x ∷ xs) i j x in_i in_j each

  -- the items of a list in another order
  pub same_permuted : (xs ys : List X) → IsPermutation xs ys → EachTwo R xs → Same xs ys
  same_permuted xs ys permuted each =
      (IsPermutation-keeps xs (λ l. EachTwo R l × Same xs l) (each, is.same xs)
      (λ l i j in_i in_j kept. (
        each_two_permuted R l (swap l i j) (IsPermutation-swap l (swap l i j) i j in_i in_j refl) kept.0,
        is.goes_on xs l (swap l i j) kept.1 (swapped l i j in_i in_j kept.0),
      )) ys permuted).1
