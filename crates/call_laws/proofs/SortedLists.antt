-- Each list has a sorted permutation.
use Rattle.std.proofs.Common.{ℕ, zero, suc, ◌<◌, ◌≤◌, List, [], ◌∷◌, length, get_or, ◌⊎◌, inl, inr, arith}
use Rattle.std.specs.Prelude.{insert}
use Rattle.std.specs.List.Sorted.{IsNonDecreasingBy, IsPermutation}
use Rattle.std.proofs.lemmas.Bool.{cases_lt}
use Rattle.std.proofs.lemmas.List.Sorted.{IsNonDecreasingBy-insert, IsNonDecreasingBy-short, IsPermutation-cons, IsPermutation-insert, IsPermutation-refl, IsPermutation-trans}

module _ {X : Type 0} (key : X → ℕ) where
  -- where an item belongs in a sorted list
  record Gap (xs : List X) (y : X) : Type 0 where
    at : ℕ
    within : at ≤ length xs
    before : (k : ℕ) (d : X) → k < at → key (get_or xs k d) ≤ key y
    behind : (k : ℕ) (d : X) → at ≤ k → k < length xs → key y ≤ key (get_or xs k d)

  gap : (y : X) (xs : List X) → IsNonDecreasingBy key xs → Gap xs y
  gap y [] sorted = record {
    at = 0;
    within = omega arith;
    before = λ k d low. absurd (omega (arith, low));
    behind = λ k d past low. absurd (omega (arith, low));
  }
  gap y (x ∷ xs) sorted = by (cases_lt (key x) (key y)) (gap y xs (λ i j d le low. sorted (suc i) (suc j) d (omega (arith, le)) (omega (arith, low))))
    where
      before-next : Gap xs y → key x < key y → (at : ℕ) → at ≤ length xs → ((k : ℕ) (d : X) → k < at → key (get_or xs k d) ≤ key y)
          → (k : ℕ) (d : X) → k < suc at → key (get_or (x ∷ xs) k d) ≤ key y
      before-next g less at in_list earlier zero d low = omega (arith, less)
      before-next g less at in_list earlier (suc k) d low = earlier k d (omega (arith, low))

      behind-next : (at : ℕ) → ((k : ℕ) (d : X) → at ≤ k → k < length xs → key y ≤ key (get_or xs k d))
          → (k : ℕ) (d : X) → suc at ≤ k → k < length (x ∷ xs) → key y ≤ key (get_or (x ∷ xs) k d)
      behind-next at later zero d past low = absurd (omega (arith, past))
      behind-next at later (suc k) d past low = later k d (omega (arith, past)) (omega (arith, low))

      by : (key x < key y) ⊎ (key y ≤ key x) → Gap xs y → Gap (x ∷ xs) y
      by (inl less) g = record {
        at = suc g.at;
        within = omega (arith, g.within);
        before = before-next g less g.at g.within g.before;
        behind = behind-next g.at g.behind;
      }
      by (inr low) g = record {
        at = 0;
        within = omega arith;
        before = λ k d none. absurd (omega (arith, none));
        behind = λ k d past within. omega (arith, low, sorted 0 k d (omega arith) within);
      }

  pub sorted-some : (xs : List X) → (ys : List X) × IsPermutation xs ys × IsNonDecreasingBy key ys
  sorted-some [] = ([], IsPermutation-refl [], IsNonDecreasingBy-short key [] (omega arith))
  sorted-some (x ∷ xs) =
      let rest = sorted-some xs in
      let g = gap x rest.0 rest.2 in (
        insert rest.0 g.at x,
        IsPermutation-trans (x ∷ xs) (x ∷ rest.0) (insert rest.0 g.at x) (IsPermutation-cons x xs rest.0 rest.1)
            (IsPermutation-insert rest.0 g.at x),
        IsNonDecreasingBy-insert key rest.0 g.at x rest.2 g.within g.before g.behind,
      )
