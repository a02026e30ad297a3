-- How the trees above the first are made, in sequence.
use Rattle.std.proofs.Common.{◌≡◌, ℕ, suc, ◌+◌, ◌-◌, ◌*◌, ◌^◌, ◌<◌, ◌≤◌, List, [], ◌∷◌, ◌++◌, length, map, All, refl, sym, ap, ap₂, ◌∙◌, subst, ⊎_elim, arith, append_assoc, length-append}
use Rattle.std.proofs.lemmas.Bool.{cases_lt}
use Rattle.std.proofs.lemmas.List.{append-nil, length-map, map-append}
use Rattle.std.proofs.Math.Nat.{pow-suc}
use Rattle.rand_core.specs.Stream.{Stream}
use Rattle.path_oram.specs.Prelude.{Places, first_places, BlockTree, IsTree, first_words, leaf_of, words_left}
use Rattle.path_oram.proofs.Ahead.{length-first_words, words_left-more}
use Rattle.recursive_oram.specs.Prelude.{tree_level, shown_ahead, IsPositionMap, KeepsLeaves, count_above, Size, rec_leaves, size_of, words_made, IsMaking}
use Rattle.recursive_oram.proofs.Counted.{map-sizes}
use Rattle.recursive_oram.proofs.Read.{made-more, start-shown}

pub making-start : (words : Stream) (tree : BlockTree) (last : List ℕ) (left : Stream) (count : ℕ)
    → length tree.contents ≡ count → count ≤ 4096 → tree.places ≡ first_places tree.places.height last
    → last ≡ map (leaf_of tree.places.height) (first_words count words) → left ≡ words_left count words
    → IsMaking words tree [] last left
making-start words tree last left count is most first made drawn = record {
  keeps = λ others plain rest.
      subst (λ l. IsPositionMap l others plain) (sym (ap (λ (p : Places). p.leaves) first)) rest;
  few = omega (
    arith,
    ap length made,
    length-map (first_words count words) (leaf_of tree.places.height),
    length-first_words count words,
    most,
  );
  most = omega arith;
  made = (
    first ∙ ap (first_places tree.places.height)
        (made ∙ ap (λ n. map (leaf_of tree.places.height) (first_words n words)) (sym is)),
    tt,
  );
  drawn = let all : count ≡ length tree.contents + 0 = omega (arith, is) in drawn ∙ ap (λ n. words_left n words) all;
}

-- a quarter of this many
quarter : (n k : ℕ) → 4 < n → n ≤ 4 ^ (6 - k) → k ≤ 5 → k < 5
quarter n k more few most =
    ⊎_elim (λ less. less) (λ five.
    let is : 6 - k ≡ 1 = omega (arith, five, most) in
    absurd (omega (arith, more, few, ap (λ m. 4 ^ m) is))) (cases_lt k 5)

quarter-few : (n m : ℕ) → n ≤ 4 ^ suc m → count_above n ≤ 4 ^ m
quarter-few n m few = let next : 4 ^ suc m ≡ 4 ^ m * 4 = pow-suc 4 m in omega (arith, few, next)

total-more : (sizes : List Size) (size : Size) → words_made (sizes ++ size ∷ []) ≡ words_made sizes + size.count
total-more [] size = omega arith
total-more (first ∷ sizes) size = omega (arith, total-more sizes size)

pub making-more : (words : Stream) (tree : BlockTree) (above : List BlockTree) (last : List ℕ) (left : Stream)
    (next : BlockTree) (leaves : List ℕ) (after : Stream)
    → IsMaking words tree above last left → 4 < length last
    → KeepsLeaves last next → IsTree next → next.places ≡ first_places next.places.height leaves
    → leaves ≡ map (leaf_of next.places.height) (first_words (count_above (length last)) left)
    → after ≡ words_left (count_above (length last)) left
    → IsMaking words tree (above ++ next ∷ []) leaves after
making-more words tree above last left next leaves after making more keeps whole first own drawn =
    let same : next.places.leaves ≡ leaves = ap (λ (p : Places). p.leaves) first in
    let count = count_above (length last) in
    let low : length above < 5 = quarter (length last) (length above) more making.few making.most in
    let longer : length (above ++ next ∷ []) ≡ suc (length above) = omega (arith, length-append above (next ∷ [])) in
    let deep : 6 - length above ≡ suc (6 - length (above ++ next ∷ [])) = omega (arith, low, longer) in
    let many : length leaves ≡ count =
    ap length own ∙ (length-map (first_words count left) (leaf_of next.places.height)
    ∙ length-first_words count left) in
    let total = words_made (map size_of (tree ∷ above)) in
    let begun : left ≡ words_left (0 + total) words =
    let none : total ≡ 0 + total = omega arith in making.drawn ∙ ap (λ n. words_left n words) none in
    let all : words_made (map size_of (tree ∷ (above ++ next ∷ []))) ≡ total + count =
    ap words_made (map-append size_of (tree ∷ above) (next ∷ []))
    ∙ (total-more (map size_of (tree ∷ above)) (size_of next) ∙ ap (λ n. total + n) keeps.count) in
    record {
      keeps = λ others plain rest.
          subst (λ trees. IsPositionMap tree.places.leaves trees plain) (sym (append_assoc above (next ∷ []) others))
          (making.keeps (next ∷ others) plain (
            keeps,
            whole,
            subst (λ l. IsPositionMap l others plain)
                (sym same) rest,
          ));
      few = omega (
        arith,
        many,
        quarter-few (length last) (6 - length (above ++ next ∷ []))
            (subst (λ k. length last ≤ 4 ^ k) deep making.few),
      );
      most = omega (arith, low, longer);
      made = made-more words 0 (tree ∷ above) next making.made (
        first ∙ ap (first_places next.places.height)
            (own ∙ ap₂ (λ n stream. map (leaf_of next.places.height) (first_words n stream)) (sym keeps.count) begun),
        tt,
      );
      drawn = drawn ∙ (ap (words_left count) making.drawn
          ∙ (words_left-more total count words ∙ ap (λ n. words_left n words) (sym all)));
    }

-- once at most four leaves are left, all is kept
pub making-done : (words : Stream) (tree : BlockTree) (above : List BlockTree) (last : List ℕ) (left : Stream)
    → IsMaking words tree above last left → length last ≤ 4 → IsPositionMap tree.places.leaves above last
making-done words tree above last left making four =
    subst (λ trees. IsPositionMap tree.places.leaves trees last) (append-nil above) (making.keeps [] last (refl, four))

-- and then the bank shows what the words say
pub making-shown : (words : Stream) (tree : BlockTree) (above : List BlockTree) (last : List ℕ) (left : Stream)
    → IsMaking words tree above last left → length last ≤ 4 → IsTree tree
    → (list : List ℕ) → All (λ block. block < length tree.contents) list
    → shown_ahead (map tree_level (tree ∷ above)) left list
    ≡ rec_leaves (first_words
    (words_made (map size_of (tree ∷ above)) + length list * length (tree ∷ above)) words)
    (map size_of (tree ∷ above)) list
making-shown words tree above last left making four whole =
    start-shown words left (length tree.contents) (tree ∷ above) making.made
    (map-sizes tree above last whole (making-done words tree above last left making four)) making.drawn

-- how many leaves the words make
pub many-above : (own last : List ℕ) (height : ℕ) (words : Stream)
    → own ≡ map (leaf_of height) (first_words (count_above (length last)) words)
    → length own ≡ count_above (length last)
many-above own last height words made =
    ap length made
    ∙ (length-map (first_words (count_above (length last)) words) (leaf_of height)
    ∙ length-first_words (count_above (length last)) words)
