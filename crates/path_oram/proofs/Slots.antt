-- Slots as blocks, and the leaves in them.
use Rattle.std.proofs.Common.{◌≡◌, ◌≢◌, ℕ, zero, suc, ◌-◌, ◌<◌, cond, List, [], ◌∷◌, ◌++◌, length, get_or, set, take, map, All, refl, sym, ap, ◌∙◌, subst, ⊎_elim, arith, get_or-set_same, get_or-set_other}
use Rattle.std.specs.List.{flat_map, swap_remove}
use Rattle.std.proofs.lemmas.Bool.{cases_eq, cases_lt, eq-eqb, ne_eqb}
use Rattle.std.proofs.lemmas.List.{get_or_default, get_or_past, get_or_read, length-map, map-append, map-set, take-map}
use Rattle.std.proofs.lemmas.List.Elements.{All-append, All-map, All-push, All-set}
use Rattle.std.proofs.lemmas.List.Sorted.{All-permutation, IsPermutation-swap_remove}
use Rattle.std.proofs.Math.ListN.{get_or-map}
use Rattle.path_oram.specs.declared.bucket.Placed.{Placed}
use Rattle.path_oram.specs.Prelude.{all_blocks, held, AllHaveLeaves, HaveLeaves, all_slots, blocks_in, slots_at, tree_blocks, with_leaf}

-- ---- as blocks

pub held_blocks : (tree : List (List Placed)) (number : ℕ)
    → held (tree_blocks tree) number ≡ blocks_in (slots_at tree number)
held_blocks tree number = get_or-map blocks_in tree number []

pub count_blocks : (slots : List Placed) → length (blocks_in slots) ≡ length slots
count_blocks slots = length-map slots (λ (slot : Placed). slot.block)

pub held_length : (tree : List (List Placed)) (number : ℕ)
    → length (held (tree_blocks tree) number) ≡ length (slots_at tree number)
held_length tree number = ap length (held_blocks tree number) ∙ count_blocks (slots_at tree number)

pub count_buckets : (tree : List (List Placed)) → length (tree_blocks tree) ≡ length tree
count_buckets tree = length-map tree blocks_in

pub blocks_append : (slots more : List Placed) → blocks_in (slots ++ more) ≡ blocks_in slots ++ blocks_in more
blocks_append slots more = map-append (λ (slot : Placed). slot.block) slots more

-- a bucket that was read
pub bucket_blocks : (tree : List (List Placed)) (now : List (List ℕ)) (n number : ℕ) (bucket : List Placed)
    → tree_blocks tree ≡ now → n < length tree → n ≡ number → bucket ≡ get_or tree n bucket
    → blocks_in bucket ≡ held now number
bucket_blocks tree now n number bucket same within is read =
    ap blocks_in (get_or_read tree n bucket within read []) ∙ sym (held_blocks tree n) ∙ ap (held (tree_blocks tree)) is
    ∙ ap (λ t. held t number) same

-- a bucket is emptied
pub blocks_cleared : (tree : List (List Placed)) (number : ℕ)
    → tree_blocks (set tree number []) ≡ set (tree_blocks tree) number []
blocks_cleared tree number = map-set blocks_in tree number []

-- one more slot is added to a bucket
pub blocks_put : (tree : List (List Placed)) (number : ℕ) (slot : Placed)
    → tree_blocks (set tree number (slots_at tree number ++ slot ∷ []))
    ≡ set (tree_blocks tree) number (held (tree_blocks tree) number ++ slot.block ∷ [])
blocks_put tree number slot =
    map-set blocks_in tree number (slots_at tree number ++ slot ∷ [])
    ∙ ap (set (tree_blocks tree) number)
    (blocks_append (slots_at tree number) (slot ∷ []) ∙ ap (λ l. l ++ slot.block ∷ []) (sym (held_blocks tree number)))

-- a slot is removed from the stash
pub blocks_taken : (slots : List Placed) (place : ℕ) (slot : Placed)
    → blocks_in (swap_remove slots place slot) ≡ swap_remove (blocks_in slots) place slot.block
blocks_taken slots place slot =
    let block_of : Placed → ℕ = λ s. s.block in
    let last = get_or slots (length slots - 1) slot in
    sym (take-map block_of (length slots - 1) (set slots place last))
    ∙ ap (take (length slots - 1))
    (map-set block_of slots place last
    ∙ ap (set (blocks_in slots) place) (sym (get_or-map block_of slots (length slots - 1) slot)))
    ∙ ap (λ n. take (n - 1) (set (blocks_in slots) place (get_or (blocks_in slots) (n - 1) slot.block)))
    (sym (count_blocks slots))

-- the block of a slot
pub block_at : (slots : List Placed) (place d : ℕ) → place < length slots
    → (get_or slots place (record { block = 0; leaf = 0 })).block ≡ get_or (blocks_in slots) place d
block_at slots place d within =
    let none : Placed = record { block = 0; leaf = 0 } in
    sym (get_or-map (λ (s : Placed). s.block) slots place none)
    ∙ get_or_default (blocks_in slots) place 0 d (omega (arith, within, count_blocks slots))

-- a block gets another leaf
pub blocks_given : (block leaf : ℕ) (slots : List Placed)
    → blocks_in (map (with_leaf block leaf) slots) ≡ blocks_in slots
blocks_given block leaf [] = refl
blocks_given block leaf (slot ∷ slots) = ap (λ l. slot.block ∷ l) (blocks_given block leaf slots)

-- all slots as all blocks
pub all_in : (stash : List Placed) (tree : List (List Placed))
    → blocks_in (all_slots stash tree) ≡ all_blocks (blocks_in stash) (tree_blocks tree)
all_in stash tree =
    blocks_append stash (flat_map (λ bucket. bucket) tree) ∙ ap (λ l. blocks_in stash ++ l) (buckets tree)
  where
    buckets : (tree : List (List Placed))
        → blocks_in (flat_map (λ bucket. bucket) tree) ≡ flat_map (λ bucket. bucket) (tree_blocks tree)
    buckets [] = refl
    buckets (bucket ∷ tree) =
        blocks_append bucket (flat_map (λ b. b) tree) ∙ ap (λ l. blocks_in bucket ++ l) (buckets tree)

-- ---- with their leaves

module _ (leaves : List ℕ) where
  pub bucket_has : (tree : List (List Placed)) (number : ℕ) → AllHaveLeaves leaves tree
      → HaveLeaves leaves (slots_at tree number)
  bucket_has tree number have =
      ⊎_elim
      (λ within. have number [] within)
      (λ past. subst (HaveLeaves leaves) (sym (get_or_past tree number [] past)) (λ k d less. absurd (omega arith)))
      (cases_lt number (length tree))

  pub tree_cleared : (tree : List (List Placed)) (number : ℕ) → AllHaveLeaves leaves tree
      → AllHaveLeaves leaves (set tree number [])
  tree_cleared tree number have =
      All-set (HaveLeaves leaves) tree number [] (λ k d less. absurd (omega arith)) have

  pub tree_put : (tree : List (List Placed)) (number : ℕ) (slot : Placed) → AllHaveLeaves leaves tree
      → slot.leaf ≡ get_or leaves slot.block 0
      → AllHaveLeaves leaves (set tree number (slots_at tree number ++ slot ∷ []))
  tree_put tree number slot have right =
      All-set (HaveLeaves leaves) tree number (slots_at tree number ++ slot ∷ [])
      (All-push (λ (s : Placed). s.leaf ≡ get_or leaves s.block 0) (slots_at tree number) slot
      (bucket_has tree number have) right)
      have

  pub stash_poured : (stash more : List Placed) → HaveLeaves leaves stash → HaveLeaves leaves more
      → HaveLeaves leaves (stash ++ more)
  stash_poured stash more one two = All-append (λ (s : Placed). s.leaf ≡ get_or leaves s.block 0) stash more one two

  pub stash_taken : (stash : List Placed) (place : ℕ) (slot : Placed) → place < length stash
      → slot ≡ get_or stash place slot → HaveLeaves leaves stash → HaveLeaves leaves (swap_remove stash place slot)
  stash_taken stash place slot within read have =
      let rest = swap_remove stash place slot in
      let all : HaveLeaves leaves (slot ∷ rest) =
      All-permutation (λ (s : Placed). s.leaf ≡ get_or leaves s.block 0) stash (slot ∷ rest)
      (IsPermutation-swap_remove stash place slot within read) have in
      λ k d less. all (suc k) d (omega (arith, less))

  -- a slot that was read
  pub slot_has : (stash : List Placed) (place : ℕ) (slot : Placed) → place < length stash
      → slot ≡ get_or stash place slot → HaveLeaves leaves stash → slot.leaf ≡ get_or leaves slot.block 0
  slot_has stash place slot within read have =
      subst (λ (s : Placed). s.leaf ≡ get_or leaves s.block 0) (sym read) (have place slot within)

  module _ (block leaf : ℕ) where
    -- the blocks of slots without the block keep their leaves
    pub others_have : (slots : List Placed) → HaveLeaves leaves slots → All (λ b. b ≢ block) (blocks_in slots)
        → HaveLeaves (set leaves block leaf) slots
    others_have slots have other k d less =
        let slot = get_or slots k d in
        let same : get_or (blocks_in slots) k d.block ≡ slot.block = get_or-map (λ (s : Placed). s.block) slots k d in
        let differs : slot.block ≢ block =
        subst (λ b. b ≢ block) same (other k d.block (omega (arith, less, count_blocks slots))) in
        have k d less ∙ sym (get_or-set_other leaves block slot.block leaf 0 differs)

    -- the block gets the leaf in its slot
    pub given_have : (slots : List Placed) → block < length leaves → HaveLeaves leaves slots
        → HaveLeaves (set leaves block leaf) (map (with_leaf block leaf) slots)
    given_have slots exists have =
        All-map (λ (s : Placed). s.leaf ≡ get_or (set leaves block leaf) s.block 0) (with_leaf block leaf) slots
        (λ k d less.
        let slot = get_or slots k d in
        ⊎_elim
        (λ same.
        ap (λ t. cond t leaf slot.leaf) (eq-eqb slot.block block same)
        ∙ sym (get_or-set_same leaves block leaf 0 exists)
        ∙ ap (λ b. get_or (set leaves block leaf) b 0) (sym same))
        (λ other.
        ap (λ t. cond t leaf slot.leaf) (ne_eqb slot.block block other)
        ∙ have k d less ∙ sym (get_or-set_other leaves block slot.block leaf 0 other))
        (cases_eq slot.block block))

-- ---- one slot after another

module _ {X : Type 0} (f : X → X) where
  -- a list whose items before a place were changed
  abbrev pub changed_before : List X → ℕ → List X
  changed_before [] place = []
  changed_before (x ∷ xs) zero = x ∷ xs
  changed_before (x ∷ xs) (suc place) = f x ∷ changed_before xs place

  pub changed_none : (xs : List X) → changed_before xs 0 ≡ xs
  changed_none [] = refl
  changed_none (x ∷ xs) = refl

  pub changed_all : (xs : List X) → changed_before xs (length xs) ≡ map f xs
  changed_all [] = refl
  changed_all (x ∷ xs) = ap (λ l. f x ∷ l) (changed_all xs)

  pub changed_length : (xs : List X) (place : ℕ) → length (changed_before xs place) ≡ length xs
  changed_length [] place = refl
  changed_length (x ∷ xs) zero = refl
  changed_length (x ∷ xs) (suc place) = ap suc (changed_length xs place)

  -- the item at the place is changed
  pub changed_one : (xs : List X) (place : ℕ) (x : X) → place < length xs → x ≡ get_or (changed_before xs place) place x
      → set (changed_before xs place) place (f x) ≡ changed_before xs (suc place)
  changed_one [] place x within read = absurd (omega (arith, within))
  changed_one (y ∷ []) zero x within read = ap (λ z. f z ∷ []) read
  changed_one (y ∷ z ∷ xs) zero x within read = ap (λ w. f w ∷ z ∷ xs) read
  changed_one (y ∷ xs) (suc place) x within read =
      ap (λ l. f y ∷ l) (changed_one xs place x (omega (arith, within)) read)
