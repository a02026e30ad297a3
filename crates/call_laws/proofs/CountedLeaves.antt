-- Leaves are shown as often on one input as on another that agrees with it.
use Rattle.std.proofs.Common.{◌≡◌, ℕ, ◌+◌, ◌<◌, ◌≤◌, ℤ, Bool, List, length, map, get_or, sym, ap, ◌∙◌, subst, arith}
use Rattle.std.specs.Prelude.{bytes_eq}
use Rattle.std.specs.List.{range_with_len}
use Rattle.std.proofs.lemmas.List.{ext_get_or, get_or-map, get_or_default, length-map}
use Rattle.std.proofs.lemmas.List.Elements.{All-from_get_or, All-get_or}
use Rattle.std.proofs.lemmas.List.FromFn.{length-range_with_len, get_or-range_with_len}
use Rattle.std.proofs.lemmas.List.Sorted.{Contains-permutation}
use Rattle.std.proofs.lemmas.List.Sums.{length-filter}
use Rattle.lt_isa.specs.Prelude.{Agree, Parts, blocks_of, IsInRange, IsOblivious}
use Rattle.path_oram.specs.LeavesAlike.{ShowAlike, touched}
use Rattle.path_oram.specs.Prelude.{leaves_shown}
use Rattle.path_oram.proofs.AlikeLeaves.{leaves_alike}
use Rattle.path_oram.proofs.Paired.{order_below, order_length}
use Rattle.call_laws.specs.Counting.{ShownAsOften, all_words, how_often}
use Rattle.call_laws.proofs.AllWords.{are-words, words-apart, words-of}
use Rattle.call_laws.proofs.Members.{Has, no-more-pass}

-- Words for the second run give words for the first, which show the same leaves: the rearrangement, read backwards.
module _ (most count height : ℕ) (first second : List ℕ) (alike : ShowAlike count first second) where
  abbrev drawn : ℕ
  drawn = count + length first

  as-drawn : count + length second ≡ drawn
  as-drawn = ap (λ n. count + n) alike.as_many

  size : length alike.rearranged ≡ drawn
  size = order_length drawn alike.rearranged alike.is.permutation

  abbrev moved : List ℕ → List ℕ
  moved others = map (λ k. get_or others k 0) alike.rearranged

  moved-size : (others : List ℕ) → length (moved others) ≡ drawn
  moved-size others = length-map alike.rearranged (λ k. get_or others k 0) ∙ size

  moved-at : (others : List ℕ) (k : ℕ) → k < drawn
      → get_or (moved others) k 0 ≡ get_or others (get_or alike.rearranged k 0) 0
  moved-at others k less =
      get_or-map (λ n. get_or others n 0) alike.rearranged k 0 0 (omega (arith, less, size))

  shows-same : (others : List ℕ)
      → leaves_shown count height (moved others) first ≡ leaves_shown count height others second
  shows-same others = alike.leaves height (moved others) others (λ k less. sym (moved-at others k less))

  number-below : (k : ℕ) → k < drawn → get_or alike.rearranged k 0 < drawn
  number-below k less = order_below drawn alike.rearranged alike.is.permutation k (omega (arith, less, size))

  moved-words : (others : List ℕ) → Has (all_words most (count + length second)) others
      → Has (all_words most drawn) (moved others)
  moved-words others has =
      let of = words-of most (count + length second) others has in
      are-words most drawn (moved others) (moved-size others)
      (All-from_get_or (λ word. word < most) (moved others) 0
      (λ k less.
      let small : k < drawn = omega (arith, less, moved-size others) in
      let there : get_or alike.rearranged k 0 < length others =
      omega (arith, number-below k small, of.0, as-drawn) in
      subst (λ word. word < most) (sym (moved-at others k small))
      (All-get_or (λ word. word < most) others (get_or alike.rearranged k 0) 0 there of.1)))

  -- each number is one of the rearrangement's
  place-of : (j : ℕ) → j < drawn → (k : ℕ) × (k < drawn) × (get_or alike.rearranged k 0 ≡ j)
  place-of j less =
      let found = Contains-permutation (range_with_len 0 drawn) alike.rearranged j alike.is.permutation (
        j,
        omega (arith, less, length-range_with_len 0 drawn),
        get_or-range_with_len 0 drawn j j less ∙ (let same : 0 + j ≡ j = omega arith in same),
      ) in
      (found.0, omega (arith, found.1, size), get_or_default alike.rearranged found.0 0 j found.1 ∙ found.2)

  moved-once : (x z : List ℕ) → Has (all_words most (count + length second)) x
      → Has (all_words most (count + length second)) z → moved x ≡ moved z → x ≡ z
  moved-once x z one two same =
      let long = (words-of most (count + length second) x one).0 in
      let wide = (words-of most (count + length second) z two).0 in
      ext_get_or 0 x z (long ∙ sym wide)
      (λ j less.
      let from = place-of j (omega (arith, less, long, as-drawn)) in
      ap (λ n. get_or x n 0) (sym from.2)
      ∙ sym (moved-at x from.0 from.1)
      ∙ ap (λ l. get_or l from.0 0) same
      ∙ moved-at z from.0 from.1
      ∙ ap (λ n. get_or z n 0) from.2)

  pub no-more-often : (leaves : List ℕ)
      → how_often most count height second leaves ≤ how_often most count height first leaves
  unfolding how_often
  no-more-often leaves =
      let shows : List ℕ → List ℕ → Bool = λ blocks words. bytes_eq (leaves_shown count height words blocks) leaves in
      let few = no-more-pass moved (shows second) (shows first) (all_words most (count + length second))
      (all_words most drawn) (words-apart most (count + length second))
      (λ others has passes.
      (moved-words others has, ap (λ shown. bytes_eq shown leaves) (shows-same others) ∙ passes))
      moved-once in
      omega (
        arith,
        few,
        length-filter (shows second) (all_words most (count + length second)),
        length-filter (shows first) (all_words most drawn),
      )

agree-sym : (o : Parts) (d e : List (List ℤ)) → Agree o d e → Agree o e d
agree-sym o d e agree = record {
  first_fits = agree.second_fits;
  second_fits = agree.first_fits;
  public_words = λ k s there public. sym (agree.public_words k s there public);
}

pub shown_as_often : (o : Parts) → IsInRange o → IsOblivious o → ShownAsOften o
shown_as_often o range oblivious d e agree n b two exists most height leaves =
    let alike = leaves_alike o range oblivious in
    let one = no-more-often most (blocks_of o b) height (touched o d n b) (touched o e n b)
    (alike d e agree n b two exists) leaves in
    let other = no-more-often most (blocks_of o b) height (touched o e n b) (touched o d n b)
    (alike e d (agree-sym o d e agree) n b two exists) leaves in
    omega (arith, one, other)
