-- There is a rearrangement of the words for any two lists of as many accesses.
use Rattle.std.proofs.Common.{◌≡◌, ℕ, zero, suc, ◌+◌, ◌<◌, ◌≤◌, List, [], ◌∷◌, ◌++◌, length, get_or, set, replicate, refl, sym, ap, ◌∙◌, subst, ⊎_elim, arith, length-set}
use Rattle.std.specs.List.{All, range_with_len}
use Rattle.std.specs.List.Sorted.{IsNonDecreasing, IsPermutation}
use Rattle.std.proofs.lemmas.Bool.{cases_lt}
use Rattle.std.proofs.lemmas.List.{length-replicate}
use Rattle.std.proofs.lemmas.List.Elements.{All-cons, All-nil}
use Rattle.std.proofs.lemmas.List.Sorted.{All-permutation, IsPermutation-append_comm, IsPermutation-append_left, IsPermutation-append_right, IsPermutation-cons, IsPermutation-refl, IsPermutation-trans}
use Rattle.path_oram.specs.Prelude.{IsRearrangement, IsWordOrder, words_next, words_read}
use Rattle.path_oram.proofs.Paired.{order_length, pairs_more, pairs_order}
use Rattle.path_oram.proofs.WordsOnce.{each_word_once}

-- the same numbers in rising order
pub record Risen (xs : List ℕ) : Type 0 where
  pub list : List ℕ
  pub same : IsPermutation xs list
  pub rising : IsNonDecreasing list

rising-cons : (x : ℕ) (xs : List ℕ) → All (λ y. x ≤ y) xs → IsNonDecreasing xs → IsNonDecreasing (x ∷ xs)
rising-cons x xs least rising zero zero d le within = omega arith
rising-cons x xs least rising zero (suc j) d le within = least j d (omega (arith, within))
rising-cons x xs least rising (suc i) zero d le within = absurd (omega (arith, le))
rising-cons x xs least rising (suc i) (suc j) d le within = rising i j d (omega (arith, le)) (omega (arith, within))

rising-rest : (x : ℕ) (xs : List ℕ) → IsNonDecreasing (x ∷ xs) → IsNonDecreasing xs
rising-rest x xs rising i j d le within = rising (suc i) (suc j) d (omega (arith, le)) (omega (arith, within))

swapped : (x y : ℕ) (ys : List ℕ) → IsPermutation (x ∷ y ∷ ys) (y ∷ x ∷ ys)
swapped x y ys = IsPermutation-append_left ys (x ∷ y ∷ []) (y ∷ x ∷ []) (IsPermutation-append_comm (x ∷ []) (y ∷ []))

-- a number is inserted in order
put_in : (x : ℕ) (xs : List ℕ) → IsNonDecreasing xs → Risen (x ∷ xs)
put_in x [] rising = record {
  list = x ∷ [];
  same = IsPermutation-refl (x ∷ []);
  rising = rising-cons x [] (All-nil (λ y. x ≤ y)) rising;
}
put_in x (y ∷ ys) rising =
    let rest = put_in x ys (rising-rest y ys rising) in
    let behind : All (λ z. y ≤ z) ys = λ k d within. rising 0 (suc k) d (omega arith) (omega (arith, within)) in
    ⊎_elim
    (λ below. record {
      list = y ∷ rest.list;
      same = IsPermutation-trans (x ∷ y ∷ ys) (y ∷ x ∷ ys) (y ∷ rest.list) (swapped x y ys)
          (IsPermutation-cons y (x ∷ ys) rest.list rest.same);
      rising =
          rising-cons y rest.list
          (All-permutation (λ z. y ≤ z) (x ∷ ys) rest.list rest.same
          (All-cons (λ z. y ≤ z) x ys (omega (arith, below)) behind))
          rest.rising;
    })
    (λ above. record {
      list = x ∷ y ∷ ys;
      same = IsPermutation-refl (x ∷ y ∷ ys);
      rising = rising-cons x (y ∷ ys) (All-cons (λ z. x ≤ z) y ys above
          (λ k d within. let le = behind k d within in omega (arith, above, le))) rising;
    })
    (cases_lt y x)

risen : (xs : List ℕ) → Risen xs
risen [] =
    record { list = []; same = IsPermutation-refl []; rising = λ i j d le within. absurd (omega (arith, within)) }
risen (x ∷ xs) =
    let rest = risen xs in
    let all = put_in x rest.list rest.rising in
    record {
      list = all.list;
      same =
          IsPermutation-trans (x ∷ xs) (x ∷ rest.list) all.list (IsPermutation-cons x xs rest.list rest.same) all.same;
      rising = all.rising;
    }

-- the order of the words of a run
pub word_order : (count : ℕ) (blocks : List ℕ)
    → All (λ block. block < count) blocks → (order : List ℕ) × IsWordOrder count blocks order
word_order count blocks exist =
    let read = words_read count blocks in
    let next = words_next count blocks in
    let left = risen next in (
      read ++ left.list,
      record {
        left = left.list;
        parts = refl;
        rising = left.rising;
        once =
            IsPermutation-trans (range_with_len 0 (count + length blocks)) (read ++ next) (read ++ left.list)
            (each_word_once count blocks exist) (IsPermutation-append_right read next left.list left.same);
      },
    )

-- the pairs of two orders, up to a place
pub record PairedTo (from to : List ℕ) (place : ℕ) : Type 0 where
  pub pairs : List ℕ
  pub size : length pairs ≡ length from
  pub each : (i : ℕ) → i < place → get_or pairs (get_or from i 0) 0 ≡ get_or to i 0

paired_to : (from to : List ℕ)
    → IsPermutation (range_with_len 0 (length from)) from → (place : ℕ) → place ≤ length from → PairedTo from to place
paired_to from to order zero within = record {
  pairs = replicate (length from) 0;
  size = length-replicate (length from) 0;
  each = λ i less. absurd (omega (arith, less));
}
paired_to from to order (suc place) within =
    let before = paired_to from to order place (omega (arith, within)) in
    record {
      pairs = set before.pairs (get_or from place 0) (get_or to place 0);
      size = length-set before.pairs (get_or from place 0) (get_or to place 0) ∙ before.size;
      each = λ i less. pairs_more from before.pairs (λ k. get_or to k 0) place order before.size
          (omega (arith, within)) before.each i (omega (arith, less));
    }

-- there is a rearrangement for two lists of as many accesses
pub rearrangement : (count : ℕ) (first second : List ℕ)
    → length second ≡ length first → All (λ block. block < count) first → All (λ block. block < count) second
    → (pairs : List ℕ) × IsRearrangement count first second pairs
rearrangement count first second long one two =
    let n = count + length first in
    let from = word_order count first one in
    let to = word_order count second two in
    let same : count + length second ≡ n = ap (λ k. count + k) long in
    let to_once : IsPermutation (range_with_len 0 n) to.0 =
    subst (λ k. IsPermutation (range_with_len 0 k) to.0) same to.1.once in
    let size : length from.0 ≡ n = order_length n from.0 from.1.once in
    let itself : IsPermutation (range_with_len 0 (length from.0)) from.0 =
    subst (λ k. IsPermutation (range_with_len 0 k) from.0) (sym size) from.1.once in
    let all = paired_to from.0 to.0 itself (length from.0) (omega arith) in
    let each : (i : ℕ) → i < n → get_or all.pairs (get_or from.0 i 0) 0 ≡ get_or to.0 i 0 =
    λ i less. all.each i (omega (arith, less, size)) in (
      all.pairs,
      record {
        from = from.0;
        to = to.0;
        from_first = from.1;
        to_second = to.1;
        pairs = each;
        permutation = pairs_order n from.0 to.0 all.pairs from.1.once to_once (all.size ∙ size) each;
      },
    )
