-- Four leaves a block.
use Rattle.std.proofs.Common.{◌≡◌, ℕ, ◌+◌, ◌*◌, ◌-◌, ◌/◌, ◌<◌, ◌≤◌, ℤ, pos, List, [], ◌++◌, length, take, replicate, map, get_or, ap, ◌∙◌, arith}
use Rattle.std.proofs.lemmas.List.{get_or_default, length-map, get_or-map, take_all}
use Rattle.banks.specs.Prelude.{cut, filled_up, in_blocks}
use Rattle.banks.proofs.Blocks.{block-cut, get_or-filled_up, length-block_of_words, length-cut, length-filled_up, word-cut}
use Rattle.path_oram.specs.Prelude.{BlockTree, IsHeightFor}
use Rattle.recursive_oram.specs.Prelude.{block_above, word_above, KeepsLeaves, count_above, kept_leaf}
use Rattle.recursive_oram.proofs.Kept.{block_exists, word_exists}

-- this many leaves as words, in whole blocks
abbrev pub as_kept : List ℕ → List ℤ
as_kept leaves = filled_up (count_above (length leaves) * 4) (map pos leaves)

pub length-as_kept : (leaves : List ℕ) → length (as_kept leaves) ≡ count_above (length leaves) * 4
length-as_kept leaves =
    length-filled_up (count_above (length leaves) * 4) (map pos leaves)
    (omega (arith, length-map {B = ℤ} leaves pos))

pub quarters : (leaves : List ℕ) → length (as_kept leaves) / 4 ≡ count_above (length leaves)
quarters leaves = omega (arith, length-as_kept leaves)

pub kept-made : (leaves : List ℕ) (tree : BlockTree) (words : List ℤ) → 4 < length leaves → words ≡ as_kept leaves
    → tree.contents ≡ in_blocks 4 words → tree.width ≡ 4 → KeepsLeaves leaves tree
kept-made leaves tree words more is cut_is width =
    let count = count_above (length leaves) in
    let size : length words ≡ count * 4 = ap length is ∙ length-as_kept leaves in
    let quarter : length words / 4 ≡ count = omega (arith, size) in
    let all : tree.contents ≡ cut 4 count words = cut_is ∙ ap (λ n. cut 4 n words) quarter in
    record {
      more = more;
      count = ap length all ∙ length-cut 4 count words;
      width = width;
      words = λ k d less.
          let there : k < count = omega (arith, less, ap length all, length-cut 4 count words) in
          ap length (get_or_default tree.contents k d [] less)
          ∙ (ap (λ c. length (get_or c k [])) all
          ∙ (ap length (block-cut 4 count words k there) ∙ length-block_of_words 4 count words k size there));
      each = λ block less.
          let there : block_above block < count = block_exists (length leaves) block less in
          let place : block_above block * 4 + word_above block ≡ block = omega arith in
          ap (λ c. kept_leaf c block) all
          ∙ (word-cut 4 count words (block_above block) (word_above block) there (word_exists block)
          ∙ (ap (λ k. get_or words k (pos 0)) place
          ∙ (ap (λ l. get_or l block (pos 0)) is
          ∙ (get_or-filled_up (count * 4) (map pos leaves) block
          ∙ get_or-map pos leaves block 0 (pos 0) less))));
    }

-- a number of leaves has one height
pub height-one : (n h k : ℕ) → IsHeightFor n h → IsHeightFor n k → h ≡ k
height-one n h k one other = omega (arith, one.least k other.enough, other.least h one.enough)

-- all leaves are words now, followed by zeros
pub kept-words : (leaves : List ℕ) (words new : List ℤ) (len index : ℕ) → length leaves ≤ index
    → words ≡ map pos (take index leaves) → len ≡ length words
    → let n = count_above (length leaves) * 4 in new ≡ take n words ++ replicate (n - len) (pos 0)
    → new ≡ as_kept leaves
unfolding filled_up
kept-words leaves words new len index past are count made =
    let n = count_above (length leaves) * 4 in
    let all : words ≡ map pos leaves = are ∙ ap (map pos) (take_all index leaves past) in
    let size : length words ≡ length leaves = ap length all ∙ length-map {B = ℤ} leaves pos in
    made
    ∙ (ap (λ l. l ++ replicate (n - len) (pos 0)) (take_all n words (omega (arith, size)) ∙ all)
    ∙ ap (λ k. map pos leaves ++ replicate (n - k) (pos 0)) (count ∙ ap length all))
