-- The first error among some statements is that of the first statement with one, and of no other.
use Rattle.std.proofs.Common.{◌≡◌, ℕ, zero, suc, ◌+◌, ◌<◌, List, [], ◌∷◌, slice_index_or, Option, Some, None, refl, ap, ◌∙◌, subst, arith}
use Rattle.std.specs.Option.{option_or}
use Rattle.gr_word.specs.declared.variables.Label.{Label}
use Rattle.src_tree.specs.declared.faults.TypeError.{TypeError}
use Rattle.src_tree.specs.Prelude.{Statement, StatementFault, first_among, IsFirstAt}

module _ (fault : StatementFault) where
  at_number : (n m : ℕ) (x : Label × Statement) (r : Option TypeError)
      → n ≡ m → fault x.0 n x.1 ≡ r → fault x.0 m x.1 ≡ r
  at_number n m x r e h = subst (λ k. fault x.0 k x.1 ≡ r) e h

  later : (n k : ℕ) (x : Label × Statement) (xs : List (Label × Statement)) (e : TypeError)
      → IsFirstAt fault n (x ∷ xs) (suc k) e → IsFirstAt fault (n + 1) xs k e
  later n k x xs e first = record {
    within = omega (arith, first.within);
    there = λ d. at_number (n + suc k) ((n + 1) + k) _ _ (omega arith) (first.there d);
    none_before =
        λ j d below. at_number (n + suc j) ((n + 1) + j) _ _ (omega arith) (first.none_before (suc j) d (omega arith));
  }

  -- the error of the first statement with one is found
  pub found_among : (n : ℕ) (xs : List (Label × Statement)) (k : ℕ) (e : TypeError) → IsFirstAt fault n xs k e
      → first_among fault n xs ≡ Some e
  found_among n [] k e first = absurd (omega (arith, first.within))
  found_among n (x ∷ xs) zero e first =
      ap (λ r. option_or r (first_among fault (n + 1) xs)) (at_number (n + 0) n x _ (omega arith) (first.there x))
  found_among n (x ∷ xs) (suc k) e first =
      ap (λ r. option_or r (first_among fault (n + 1) xs))
      (at_number (n + 0) n x _ (omega arith) (first.none_before 0 x (omega arith)))
      ∙ found_among (n + 1) xs k e (later n k x xs e first)

  -- one more statement before the others, without an error
  behind : (n k : ℕ) (x : Label × Statement) (xs : List (Label × Statement)) (e : TypeError) → fault x.0 n x.1 ≡ None
      → IsFirstAt fault (n + 1) xs k e → IsFirstAt fault n (x ∷ xs) (suc k) e
  behind n k x xs e none first = record {
    within = omega (arith, first.within);
    there = λ d. at_number ((n + 1) + k) (n + suc k) _ _ (omega arith) (first.there d);
    none_before = before;
  }
    where
      before : (j : ℕ) (d : Label × Statement) → j < suc k
          → fault (slice_index_or (x ∷ xs) j d).0 (n + j) (slice_index_or (x ∷ xs) j d).1 ≡ None
      before zero d below = at_number n (n + 0) x _ (omega arith) none
      before (suc j) d below =
          at_number ((n + 1) + j) (n + suc j) _ _ (omega arith) (first.none_before j d (omega (arith, below)))

  -- the error that is found is that of the first statement with one
  pub only_among : (n : ℕ) (xs : List (Label × Statement)) (e : TypeError) → first_among fault n xs ≡ Some e
      → (k : ℕ) × IsFirstAt fault n xs k e
  only_among n [] e none = absurd cc
  only_among n (x ∷ xs) e some = by (fault x.0 n x.1) refl some (only_among (n + 1) xs e)
    where
      by : (r : Option TypeError) → fault x.0 n x.1 ≡ r → option_or r (first_among fault (n + 1) xs) ≡ Some e
          → (first_among fault (n + 1) xs ≡ Some e → (k : ℕ) × IsFirstAt fault (n + 1) xs k e)
          → (k : ℕ) × IsFirstAt fault n (x ∷ xs) k e
      by (Some f) is same rest = (
        0,
        record {
          within = omega arith;
          there = λ d. at_number n (n + 0) x _ (omega arith) (is ∙ same);
          none_before = λ j d below. absurd (omega (arith, below));
        },
      )
      by None is same rest = let found = rest same in (suc found.0, behind n found.0 x xs e is found.1)
