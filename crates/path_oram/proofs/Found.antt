-- The leaf of a block is the one in its slot.
use Rattle.std.proofs.Common.{◌≡◌, ◌≢◌, ℕ, zero, suc, ◌+◌, ◌^◌, ◌<◌, cond, List, [], ◌∷◌, length, get_or, map, replicate, All, refl, sym, ap, ◌∙◌, subst, ⊎_elim, arith}
use Rattle.std.specs.Prelude.{Contains}
use Rattle.std.specs.List.{flat_map, range_with_len}
use Rattle.std.proofs.lemmas.Bool.{cases_eq, eq-eqb, ne_eqb}
use Rattle.std.proofs.lemmas.List.{ext_get_or, get_or-replicate, length-map, length-replicate}
use Rattle.std.proofs.lemmas.List.Elements.{All-append, All-map}
use Rattle.std.proofs.lemmas.List.FromFn.{get_or-map-range_with_len, length-range_with_len}
use Rattle.path_oram.specs.declared.bucket.Placed.{Placed}
use Rattle.path_oram.specs.Prelude.{Places, first_places, AllHaveLeaves, HaveLeaves, all_slots, blocks_in, leaf_in, places_of, slot_of, tree_blocks, IsHeightFor, IsWhole}
use Rattle.path_oram.proofs.Beginning.{first_whole}
use Rattle.path_oram.proofs.Slots.{all_in}
use Rattle.path_oram.proofs.Standing.{somewhere}

elsewhere : (x : ℕ) (xs : List ℕ) (b : ℕ) → x ≢ b → (k : ℕ) → k < length (x ∷ xs) → get_or (x ∷ xs) k b ≡ b
    → Contains xs b
elsewhere x xs b other zero less is = absurd (other is)
elsewhere x xs b other (suc k) less is = (k, omega (arith, less), is)

-- the leaf of a block that is in some slots
pub leaf_read : (leaves : List ℕ) (slots : List Placed) (block : ℕ)
    → HaveLeaves leaves slots → Contains (blocks_in slots) block → leaf_in slots block ≡ get_or leaves block 0
leaf_read leaves [] block have there = absurd (omega (arith, there.1))
leaf_read leaves (slot ∷ slots) block have there =
    ⊎_elim
    (λ same.
    ap (λ t. cond t slot.leaf (leaf_in slots block)) (eq-eqb slot.block block same)
    ∙ have 0 slot (omega arith) ∙ ap (λ b. get_or leaves b 0) same)
    (λ other.
    ap (λ t. cond t slot.leaf (leaf_in slots block)) (ne_eqb slot.block block other)
    ∙ leaf_read leaves slots block (λ k d less. have (suc k) d (omega (arith, less)))
    (elsewhere slot.block (blocks_in slots) block other there.0 there.1 there.2))
    (cases_eq slot.block block)

-- if each block is in some slot
pub leaves_read : (leaves : List ℕ) (count : ℕ) (slots : List Placed)
    → length leaves ≡ count → HaveLeaves leaves slots → ((block : ℕ) → block < count → Contains (blocks_in slots) block)
    → map (leaf_in slots) (range_with_len 0 count) ≡ leaves
leaves_read leaves count slots size have each =
    let long : length (map (leaf_in slots) (range_with_len 0 count)) ≡ count =
    length-map (range_with_len 0 count) (leaf_in slots) ∙ length-range_with_len 0 count in
    ext_get_or 0 (map (leaf_in slots) (range_with_len 0 count)) leaves (long ∙ sym size)
    (λ i less.
    let within : i < count = omega (arith, less, long) in
    let sum : 0 + i ≡ i = omega arith in
    get_or-map-range_with_len (leaf_in slots) 0 count i i 0 within sum ∙ leaf_read leaves slots i have (each i within))

everything_has : (leaves : List ℕ) (tree : List (List Placed)) → AllHaveLeaves leaves tree
    → HaveLeaves leaves (flat_map (λ bucket. bucket) tree)
everything_has leaves [] have = λ k d less. absurd (omega arith)
everything_has leaves (bucket ∷ tree) have =
    All-append (λ (s : Placed). s.leaf ≡ get_or leaves s.block 0) bucket (flat_map (λ b. b) tree)
    (have 0 bucket (omega arith)) (everything_has leaves tree (λ k d less. have (suc k) d (omega (arith, less))))

-- the places of slots whose leaves are those of a list
pub places_read : (count height : ℕ) (leaves : List ℕ) (stash : List Placed) (tree : List (List Placed))
    → length leaves ≡ count
    → IsWhole (record { height = height; leaves = leaves; tree = tree_blocks tree; stash = blocks_in stash })
    → HaveLeaves leaves stash → AllHaveLeaves leaves tree → (places_of count height stash tree).leaves ≡ leaves
places_read count height leaves stash tree size whole in_stash in_tree =
    leaves_read leaves count (all_slots stash tree) size
    (All-append (λ (s : Placed). s.leaf ≡ get_or leaves s.block 0) stash (flat_map (λ b. b) tree) in_stash
    (everything_has leaves tree in_tree))
    (λ block less. subst (λ l. Contains l block) (sym (all_in stash tree))
    (somewhere _ whole block (omega (arith, less, size))))

-- there is a leaf for each block
pub places_count : (count height : ℕ) (stash : List Placed) (tree : List (List Placed))
    → length (places_of count height stash tree).leaves ≡ count
places_count count height stash tree =
    length-map (range_with_len 0 count) (leaf_in (all_slots stash tree)) ∙ length-range_with_len 0 count

-- ---- before the first access

blocks_first : (leaves blocks : List ℕ) → blocks_in (map (slot_of leaves) blocks) ≡ blocks
blocks_first leaves [] = refl
blocks_first leaves (block ∷ blocks) = ap (λ l. block ∷ l) (blocks_first leaves blocks)

tree_first : (n : ℕ) → tree_blocks (replicate n []) ≡ replicate n []
tree_first zero = refl
tree_first (suc n) = ap (λ l. [] ∷ l) (tree_first n)

pub record Begun (count height : ℕ) (leaves : List ℕ) (stash : List Placed) (tree : List (List Placed)) : Type 0 where
  pub first : places_of count height stash tree ≡ first_places height leaves
  pub in_stash : HaveLeaves (places_of count height stash tree).leaves stash
  pub in_tree : AllHaveLeaves (places_of count height stash tree).leaves tree

pub begun : (count height : ℕ) (leaves : List ℕ) (stash : List Placed) (tree : List (List Placed))
    → count ≡ length leaves → stash ≡ map (slot_of leaves) (range_with_len 0 (length leaves))
    → tree ≡ replicate (2 ^ suc height) [] → IsHeightFor (length leaves) height
    → All (λ leaf. leaf < 2 ^ height) leaves → Begun count height leaves stash tree
begun count height leaves stash tree size in_order empty tall below =
    let size_of_tree = 2 ^ suc height in
    let blocks : blocks_in stash ≡ range_with_len 0 (length leaves) =
    ap blocks_in in_order ∙ blocks_first leaves (range_with_len 0 (length leaves)) in
    let buckets : tree_blocks tree ≡ replicate size_of_tree [] = ap tree_blocks empty ∙ tree_first size_of_tree in
    let have : HaveLeaves leaves stash =
    subst (HaveLeaves leaves) (sym in_order)
    (All-map (λ (s : Placed). s.leaf ≡ get_or leaves s.block 0) (slot_of leaves) (range_with_len 0 (length leaves))
    (λ k d less. refl)) in
    let all : AllHaveLeaves leaves tree =
    subst (AllHaveLeaves leaves) (sym empty)
    (λ k d less.
    let within_tree : k < size_of_tree = omega (arith, less, length-replicate {A = List Placed} size_of_tree []) in
    subst (HaveLeaves leaves) (sym (get_or-replicate size_of_tree k [] d within_tree))
    (λ i e within. absurd (omega arith))) in
    let places : Places =
    record { height = height; leaves = leaves; tree = tree_blocks tree; stash = blocks_in stash } in
    let whole : IsWhole places =
    subst
    (λ t. let p : Places = record { height = height; leaves = leaves; tree = t; stash = blocks_in stash } in IsWhole p)
    (sym buckets)
    (subst
    (λ s. let p : Places = record { height = height; leaves = leaves; tree = replicate size_of_tree []; stash = s } in
    IsWhole p)
    (sym blocks) (first_whole height leaves tall below)) in
    let read : (places_of count height stash tree).leaves ≡ leaves =
    places_read count height leaves stash tree (sym size) whole have all in
    record {
      first =
          ap (λ l. let p : Places = record
          { height = height; leaves = l; tree = tree_blocks tree; stash = blocks_in stash } in p) read
          ∙ ap (λ t. let p : Places = record
          { height = height; leaves = leaves; tree = t; stash = blocks_in stash } in p) buckets
          ∙ ap (λ s. let p : Places = record
          { height = height; leaves = leaves; tree = replicate size_of_tree []; stash = s } in p) blocks;
      in_stash = subst (λ l. HaveLeaves l stash) (sym read) have;
      in_tree = subst (λ l. AllHaveLeaves l tree) (sym read) all;
    }
