-- Stores in which a word is replaced: what they are within.
use Rattle.std.proofs.Common.{◌≡◌, ◌≢◌, ℕ, ◌<◌, ◌≤◌, ℤ, pos, Option, Some, None, [], length, get_or, set, sym, ap, ◌∙◌, subst, ⊎_elim, arith}
use Rattle.std.proofs.lemmas.Bool.{cases_eq, cases_lt}
use Rattle.std.proofs.lemmas.List.{get_or-set_same, get_or-set_other, get_or_past, length-set, set_past}
use Rattle.src_tree.specs.Prelude.{Store, scalar, words_of_number, with_word, scalar_set}
use Rattle.scalar_ranges.specs.declared.ranges.Range.{Range}
use Rattle.scalar_ranges.specs.Prelude.{Ranges, range_at, IsIn, AreWithin}
use Rattle.scalar_ranges.proofs.Results.{no-range}

-- the words of other variables, and how many words each has
pub words-other : (store : Store) (k at : ℕ) (value : ℤ) (j : ℕ) → j ≢ k
    → words_of_number (with_word store k at value) j ≡ words_of_number store j
words-other store k at value j ne = get_or-set_other store k j (set (words_of_number store k) at value) [] ne

pub scalar-other : (store : Store) (k at : ℕ) (value : ℤ) (j : ℕ) → j ≢ k
    → scalar (with_word store k at value) j ≡ scalar store j
scalar-other store k at value j ne = ap (λ ws. get_or ws 0 (pos 0)) (words-other store k at value j ne)

words-own : (store : Store) (k at : ℕ) (value : ℤ) → k < length store
    → words_of_number (with_word store k at value) k ≡ set (words_of_number store k) at value
words-own store k at value below = get_or-set_same store k (set (words_of_number store k) at value) [] below

pub words-length : (store : Store) (k at : ℕ) (value : ℤ) (j : ℕ)
    → length (words_of_number (with_word store k at value) j) ≡ length (words_of_number store j)
words-length store k at value j = ⊎_elim own other (cases_eq j k)
  where
    other : j ≢ k → length (words_of_number (with_word store k at value) j) ≡ length (words_of_number store j)
    other ne = ap length (words-other store k at value j ne)

    inside : k < length store
        → length (words_of_number (with_word store k at value) k) ≡ length (words_of_number store k)
    inside below = ap length (words-own store k at value below) ∙ length-set (words_of_number store k) at value

    past : length store ≤ k
        → length (words_of_number (with_word store k at value) k) ≡ length (words_of_number store k)
    past above =
        ap (λ (s : Store). length (words_of_number s k))
        (set_past store k (set (words_of_number store k) at value) above)

    own : j ≡ k → length (words_of_number (with_word store k at value) j) ≡ length (words_of_number store j)
    own same =
        subst (λ i. length (words_of_number (with_word store k at value) i) ≡ length (words_of_number store i))
        (sym same)
        (⊎_elim inside past (cases_lt k (length store)))

-- a scalar that has a word gets its value
pub scalar-own : (store : Store) (k : ℕ) (value : ℤ) → 0 < length (words_of_number store k)
    → scalar (scalar_set store k value) k ≡ value
scalar-own store k value some = ⊎_elim inside past (cases_lt k (length store))
  where
    inside : k < length store → scalar (scalar_set store k value) k ≡ value
    inside below =
        ap (λ ws. get_or ws 0 (pos 0)) (words-own store k 0 value below)
        ∙ get_or-set_same (words_of_number store k) 0 value (pos 0) some

    past : length store ≤ k → scalar (scalar_set store k value) k ≡ value
    past above =
        let none : length (words_of_number store k) ≡ 0 = ap length (get_or_past store k [] above) in
        absurd (omega (arith, none, some))

-- A store in which only variable number k may differ is within what was known, with this of variable k.
pub set-within : (known : Ranges) (store next : Store) (k : ℕ) (r : Option Range) → AreWithin known store
    → ((j : ℕ) → length (words_of_number next j) ≡ length (words_of_number store j))
    → ((j : ℕ) → j ≢ k → scalar next j ≡ scalar store j)
    → ((s : Range) → r ≡ Some s → k < length known → IsIn s (scalar next k))
    → AreWithin (set known k r) next
set-within known store next k r are lengths others own = record {
  words = λ j below.
      let long = length-set known k r in
      let same = lengths j in
      let some = are.words j (omega (arith, below, long)) in
      omega (arith, same, some);
  within = λ j s found. ⊎_elim (at-own j s found) (at-other j s found) (cases_eq j k);
}
  where
    at-other : (j : ℕ) (s : Range) → range_at (set known k r) j ≡ Some s → j ≢ k → IsIn s (scalar next j)
    at-other j s found ne =
        subst (IsIn s) (sym (others j ne)) (are.within j s (sym (get_or-set_other known k j r None ne) ∙ found))

    at-own : (j : ℕ) (s : Range) → range_at (set known k r) j ≡ Some s → j ≡ k → IsIn s (scalar next j)
    at-own j s found same =
        subst (λ i. IsIn s (scalar next i)) (sym same)
        (⊎_elim inside past (cases_lt k (length known)))
      where
        found-own : range_at (set known k r) k ≡ Some s
        found-own = ap (range_at (set known k r)) (sym same) ∙ found

        inside : k < length known → IsIn s (scalar next k)
        inside below = own s (sym (get_or-set_same known k r None below) ∙ found-own) below

        past : length known ≤ k → IsIn s (scalar next k)
        past above =
            no-range s
            (sym (get_or_past (set known k r) k None
            (let long = length-set known k r in let l : length (set known k r) ≤ k = omega (arith, above, long) in l))
            ∙ found-own)
