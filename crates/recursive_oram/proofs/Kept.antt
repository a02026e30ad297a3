-- The leaves that trees keep, after one was replaced.
use Rattle.std.proofs.Common.{◌≡◌, ◌≢◌, ℕ, zero, suc, Some, ◌/◌, ◌%◌, ◌<◌, ℤ, pos, List, [], ◌∷◌, length, get_or, set, sym, ap, ◌∙◌, subst, ⊎_elim, arith, get_or-set_same, get_or-set_other, length-set}
use Rattle.std.specs.List.{All}
use Rattle.std.specs.Prelude.{slice_get}
use Rattle.std.proofs.lemmas.Bool.{cases_eq}
use Rattle.std.proofs.lemmas.List.Elements.{All-set}
use Rattle.path_oram.specs.Prelude.{BlockTree, IsTree, MovesTo}
use Rattle.recursive_oram.specs.Prelude.{block_above, word_above, IsPositionMap, KeepsLeaves, count_above, kept_leaf}

-- a block of the level below has a block and a word of this one
pub block_exists : (n block : ℕ) → block < n → block_above block < count_above n
block_exists n block less = omega (arith, less)

pub word_exists : (block : ℕ) → word_above block < 4
word_exists block = omega arith

-- two blocks that share both are one
same_place : (a b : ℕ) → a / 4 ≡ b / 4 → a % 4 ≡ b % 4 → a ≡ b
same_place a b blocks words = omega (arith, blocks, words)

-- the blocks of a tree with the word of one block of the level below replaced
abbrev pub with_kept : List (List ℤ) → ℕ → ℤ → List (List ℤ)
with_kept contents block value =
    set contents (block_above block) (set (get_or contents (block_above block) []) (word_above block) value)

module _ (contents : List (List ℤ)) (block : ℕ) (value : ℤ) (words : All (λ b. length b ≡ 4) contents)
    (exists : block_above block < length contents) where
  wide : word_above block < length (get_or contents (block_above block) [])
  wide = omega (arith, words (block_above block) [] exists)

  same_kept : kept_leaf (with_kept contents block value) block ≡ value
  same_kept =
      ap (λ b. get_or b (word_above block) (pos 0))
      (get_or-set_same contents (block_above block)
      (set (get_or contents (block_above block) []) (word_above block) value) [] exists)
      ∙ get_or-set_same (get_or contents (block_above block) []) (word_above block) value (pos 0) wide

  other_kept : (other : ℕ) → other ≢ block → kept_leaf (with_kept contents block value) other ≡ kept_leaf contents other
  other_kept other differ =
      let old = get_or contents (block_above block) [] in
      let new = set old (word_above block) value in
      ⊎_elim
      (λ is.
      let apart : word_above other ≢ word_above block = λ e. differ (same_place other block is e) in
      ap (λ k. get_or (get_or (set contents (block_above block) new) k []) (word_above other) (pos 0)) is
      ∙ (ap (λ b. get_or b (word_above other) (pos 0)) (get_or-set_same contents (block_above block) new [] exists)
      ∙ (get_or-set_other old (word_above block) (word_above other) value (pos 0) apart
      ∙ sym (ap (λ k. get_or (get_or contents k []) (word_above other) (pos 0)) is))))
      (λ apart.
      ap (λ b. get_or b (word_above other) (pos 0))
      (get_or-set_other contents (block_above block) (block_above other) new [] apart))
      (cases_eq (block_above other) (block_above block))

  words_kept : All (λ b. length b ≡ 4) (with_kept contents block value)
  words_kept =
      All-set (λ b. length b ≡ 4) contents (block_above block)
      (set (get_or contents (block_above block) []) (word_above block) value)
      (length-set (get_or contents (block_above block) []) (word_above block) value
      ∙ words (block_above block) [] exists) words

-- a tree that keeps some leaves keeps them with one replaced, once that one's word is replaced
pub keeps-replaced : (leaves : List ℕ) (tree after : BlockTree) (block leaf : ℕ)
    → KeepsLeaves leaves tree → block < length leaves
    → after.contents ≡ with_kept tree.contents block (pos leaf) → after.width ≡ tree.width
    → KeepsLeaves (set leaves block leaf) after
keeps-replaced leaves tree after block leaf keeps within replaced width =
    let long : length (set leaves block leaf) ≡ length leaves = length-set leaves block leaf in
    let exists : block_above block < length tree.contents =
    omega (arith, block_exists (length leaves) block within, keeps.count) in
    record {
      more = omega (arith, long, keeps.more);
      count = ap length replaced
          ∙ (length-set tree.contents (block_above block)
          (set (get_or tree.contents (block_above block) []) (word_above block) (pos leaf))
          ∙ (keeps.count ∙ ap count_above (sym long)));
      width = width ∙ keeps.width;
      words = subst (All (λ b. length b ≡ 4)) (sym replaced)
          (words_kept tree.contents block (pos leaf) keeps.words exists);
      each = λ b less. ap (λ c. kept_leaf c b) replaced
          ∙ ⊎_elim
          (λ is.
          ap (kept_leaf (with_kept tree.contents block (pos leaf))) is
          ∙ (same_kept tree.contents block (pos leaf) keeps.words exists
          ∙ ap pos (sym (ap (λ k. get_or (set leaves block leaf) k 0) is
          ∙ get_or-set_same leaves block leaf 0 within))))
          (λ other.
          other_kept tree.contents block (pos leaf) keeps.words exists b other
          ∙ (keeps.each b (omega (arith, less, long))
          ∙ ap pos (sym (get_or-set_other leaves block b leaf 0 other))))
          (cases_eq b block);
    }

-- the trees above keep the leaves with one replaced
pub map-replaced : (leaves : List ℕ) (tree after : BlockTree) (above others : List BlockTree) (last plain : List ℕ)
    (block leaf old new : ℕ)
    → IsPositionMap leaves (tree ∷ above) last → block < length leaves
    → after.contents ≡ with_kept tree.contents block (pos leaf) → after.width ≡ tree.width → IsTree after
    → MovesTo tree.places (block_above block) old new after.places
    → IsPositionMap (set tree.places.leaves (block_above block) new) others plain
    → IsPositionMap (set leaves block leaf) (after ∷ others) plain
map-replaced leaves tree after above others last plain block leaf old new map within replaced width whole moved rest = (
  keeps-replaced leaves tree after block leaf map.0 within replaced width,
  whole,
  subst (λ l. IsPositionMap l others plain) (sym moved.leaves) rest,
)

-- each tree above is one, and keeps the leaves of the one below it
pub whole-above : (leaves : List ℕ) (above : List BlockTree) (last : List ℕ) → IsPositionMap leaves above last
    → (i : ℕ) (d : BlockTree)
    → i < length above → IsTree (get_or above i d)
whole-above leaves [] last map i d less = absurd (omega (arith, less))
whole-above leaves (tree ∷ above) last map zero d less = map.1
whole-above leaves (tree ∷ above) last map (suc i) d less =
    whole-above tree.places.leaves above last map.2 i d (omega (arith, less))

-- each tree above has four words a block
pub wide-above : (leaves : List ℕ) (above : List BlockTree) (last : List ℕ) → IsPositionMap leaves above last
    → (i : ℕ) (d : BlockTree)
    → i < length above → (get_or above i d).width ≡ 4
wide-above leaves [] last map i d less = absurd (omega (arith, less))
wide-above leaves (tree ∷ above) last map zero d less = map.0.width
wide-above leaves (tree ∷ above) last map (suc i) d less =
    wide-above tree.places.leaves above last map.2 i d (omega (arith, less))

-- the leaves of the last tree are held plainly
last-none : (leaves last : List ℕ) → IsPositionMap leaves [] last → leaves ≡ last
last-none leaves last map = map.0

pub last-first : (leaves : List ℕ) (above : List BlockTree) (last : List ℕ) → IsPositionMap leaves above last
    → length above ≡ 0 → leaves ≡ last
last-first leaves [] last map none = last-none leaves last map
last-first leaves (tree ∷ above) last map none = absurd (omega (arith, none))

pub last-above : (leaves : List ℕ) (above : List BlockTree) (last : List ℕ) → IsPositionMap leaves above last
    → (i : ℕ) (d : BlockTree)
    → suc i ≡ length above → (get_or above i d).places.leaves ≡ last
last-above leaves [] last map i d is = absurd (omega (arith, is))
last-above leaves (tree ∷ above) last map zero d is =
    last-first tree.places.leaves above last map.2 (omega (arith, is))
last-above leaves (tree ∷ above) last map (suc i) d is =
    last-above tree.places.leaves above last map.2 i d (omega (arith, is))

pub kept-first : (tree : BlockTree) (above : List BlockTree) (last : List ℕ) → IsTree tree
    → IsPositionMap tree.places.leaves above last
    → (next : BlockTree) → slice_get above 0 ≡ Some next → (block : ℕ) → block < length tree.contents
    → kept_leaf next.contents block ≡ pos (get_or tree.places.leaves block 0)
kept-first tree [] last whole map next is block less = absurd cc
kept-first tree (first ∷ above) last whole map next is block less =
    let same : first ≡ next = cc in
    ap (λ (t : BlockTree). kept_leaf t.contents block) (sym same) ∙ map.0.each block (omega (arith, less, whole.count))

pub kept-above : (leaves : List ℕ) (above : List BlockTree) (last : List ℕ) → IsPositionMap leaves above last
    → (i : ℕ) (d : BlockTree)
    → i < length above → (next : BlockTree) → slice_get above (suc i) ≡ Some next → (block : ℕ)
    → block < length (get_or above i d).contents
    → kept_leaf next.contents block ≡ pos (get_or (get_or above i d).places.leaves block 0)
kept-above leaves [] last map i d less next is block within = absurd (omega (arith, less))
kept-above leaves (tree ∷ above) last map zero d less next is block within =
    kept-first tree above last map.1 map.2 next is block within
kept-above leaves (tree ∷ above) last map (suc i) d less next is block within =
    kept-above tree.places.leaves above last map.2 i d (omega (arith, less)) next is block within
