-- When a plan of memory is sound for a program, so that code made by it accesses the right words: where each variable
-- is stored, which slot serves it, and which block each slot holds for the whole run. (This project's profile.)
use Rattle.std.specs.Prelude.{◌≡◌, ◌≢◌, ℕ, ◌+◌, ◌*◌, ◌^◌, ◌<◌, ◌≤◌, ◌⊎◌, List, [], ◌∷◌, length, slice_index_or, Option, Some, None}
use Rattle.gr_base.specs.Lists.{Within}
use Rattle.gr_word.specs.declared.variables.Label.TheVariants.{Secret}
use Rattle.lt_isa.specs.Limits.{most_blocks}
use Rattle.src_tree.specs.declared.trees.Decl.{Decl}
use Rattle.src_tree.specs.Limits.{IsWithinLimits, words_of}
use Rattle.src_tree.specs.Trees.{Source}
use Rattle.bank_alloc.specs.declared.classes.Class.TheVariants.{ObliviousArray}
use Rattle.bank_alloc.specs.declared.places.Place.{Place}
use Rattle.bank_alloc.specs.declared.places.Places.{Places}
use Rattle.bank_alloc.specs.Classes.{class_of}
use Rattle.bank_alloc.specs.Places.{places_of, blocks_of_banks}
use Rattle.bank_alloc.specs.Apart.{IsBankOf, AreApart, scalar_bank, end_of_place}
use Rattle.scratch_alloc.specs.declared.plans.PinnedPlan.{PinnedPlan}
use Rattle.scratch_alloc.specs.declared.plans.SlotPlan.{SlotPlan}
use Rattle.scratch_alloc.specs.Slots.{slots_of}
pub use Rattle.bank_alloc.specs.Layout.{no_decl, no_place}
pub use Rattle.scratch_alloc.specs.declared.plans.Pin.{Pin}

-- places and slots of the variables, in order of declaration; the number of blocks of each bank; and the block that each
-- slot holds for the whole run, none if it holds several in turn
pub record Plan : Type 0 where
  pub places : List Place
  pub slots : List ℕ
  pub blocks : List ℕ
  pub pins : List (Option Pin)

abbrev pub plan_with : Places → SlotPlan → List (Option Pin) → Plan
plan_with places slots pins = record {
  places = places.of_var.items;
  slots = slots.of_var.items;
  blocks = places.blocks.items;
  pins = pins;
}

abbrev pub plan_from : Places → PinnedPlan → Plan
plan_from places slots = plan_with places slots.plan slots.pins

-- Without `--fast`, slots 0 and 1 hold the blocks of the scalars for the whole run, and no other slot holds one.
abbrev pub scalar_pins : List (Option Pin)
scalar_pins =
    Some (record { bank = 0; block = 0 })
    ∷ Some (record { bank = 1; block = 0 })
    ∷ None ∷ None ∷ None ∷ None ∷ None ∷ None ∷ []

abbrev pub standard_plan : Source → ℕ → Plan
standard_plan p w = record {
  places = places_of p w;
  slots = slots_of (places_of p w);
  blocks = blocks_of_banks p w;
  pins = scalar_pins;
}

abbrev pub pin_of_slot : Plan → ℕ → Option Pin
pin_of_slot plan slot = slice_index_or plan.pins slot None

-- a pinned block is one of plain or encrypted memory; slot 6 is never pinned
pub record IsSoundPin (plan : Plan) (slot : ℕ) (p : Pin) : Type 0 where
  pub few : slot < 8
  pub apart : slot ≢ 6
  pub bank : p.bank < 2
  pub block : p.block < slice_index_or plan.blocks p.bank 0

-- slots 2 and 3 serve arrays of plain memory, 4 and 5 those of encrypted memory, and 6 those of oblivious banks
pub data Serves : (bank slot : ℕ) → Type 0 where
  PlainSlot : (slot : ℕ) → Within 2 3 slot → Serves 0 slot
  EncryptedSlot : (slot : ℕ) → Within 4 5 slot → Serves 1 slot
  ObliviousSlot : (bank : ℕ) → 2 ≤ bank → Serves bank 6

-- a variable is within its bank, and a public one is in plain memory, a secret one anywhere else
pub record IsSoundPlace (w : ℕ) (plan : Plan) (d : Decl) (q : Place) : Type 0 where
  pub label : IsBankOf d.label q.bank
  pub bank : q.bank < length plan.blocks
  pub words : q.length ≡ words_of d
  pub word : q.word < 2 ^ w
  pub inside : end_of_place (2 ^ w) q ≤ slice_index_or plan.blocks q.bank 0 * 2 ^ w

-- a block of a bank, as a pin
abbrev pub pin_to : (bank block : ℕ) → Pin
pin_to bank block = record { bank = bank; block = block }

-- A secret array of up to five blocks, from the first word of its first block on: a slot holds each of its blocks for the
-- whole run.
pub record IsSpread (w : ℕ) (plan : Plan) (d : Decl) (q : Place) : Type 0 where
  pub secret : d.label ≡ Secret
  pub word : q.word ≡ 0
  pub few : q.length ≤ 5 * 2 ^ w
  pub pinned : (j : ℕ) → j * 2 ^ w < q.length
      → (k : ℕ) × (pin_of_slot plan k ≡ Some (pin_to q.bank (q.block + j)))

-- A resident variable: its slot holds its first block for the whole run, and it is within that block, or spread.
pub record IsSoundResident (w : ℕ) (plan : Plan) (d : Decl) (q : Place) (p : Pin) : Type 0 where
  pub bank : q.bank ≡ scalar_bank d.label
  pub pinned_bank : p.bank ≡ q.bank
  pub pinned_block : p.block ≡ q.block
  pub inside : (q.word + q.length ≤ 2 ^ w) ⊎ IsSpread w plan d q

-- any other variable is an array with whole blocks of its own, of which no slot holds one for the whole run
pub record IsSoundArray (w : ℕ) (plan : Plan) (d : Decl) (q : Place) (slot : ℕ) : Type 0 where
  pub array : (n : ℕ) × (d.length ≡ Some n)
  pub served : Serves q.bank slot
  pub word : q.word ≡ 0
  pub apart : (k : ℕ) (p : Pin) → pin_of_slot plan k ≡ Some p → p.bank ≡ q.bank
      → (p.block < q.block) ⊎ (end_of_place (2 ^ w) q ≤ p.block * 2 ^ w)

abbrev pub IsSoundByPin : ℕ → Plan → Decl → Place → ℕ → Option Pin → Type 0
IsSoundByPin w plan d q slot None = IsSoundArray w plan d q slot
IsSoundByPin w plan d q slot (Some p) = IsSoundResident w plan d q p

abbrev pub decl_at : Source → ℕ → Decl
decl_at p k = slice_index_or p.decls k no_decl

abbrev pub place_at : Plan → ℕ → Place
place_at plan k = slice_index_or plan.places k no_place

abbrev pub slot_at : Plan → ℕ → ℕ
slot_at plan k = slice_index_or plan.slots k 0

-- A plan for a program, where a block has 2^w words. A secret array with a secret index is resident or in an oblivious
-- bank, so that no access of it shows which block it is.
pub record IsSoundPlan (p : Source) (w : ℕ) (plan : Plan) : Type 0 where
  pub places : length plan.places ≡ length p.decls
  pub slots : length plan.slots ≡ length p.decls
  pub banks : Within 2 10 (length plan.blocks)
  pub blocks : (b : ℕ) → b < length plan.blocks → Within 1 (most_blocks b) (slice_index_or plan.blocks b 0)
  pub place : (k : ℕ) → k < length p.decls → IsSoundPlace w plan (decl_at p k) (place_at plan k)
  pub served : (k : ℕ) → k < length p.decls
      → IsSoundByPin w plan (decl_at p k) (place_at plan k) (slot_at plan k) (pin_of_slot plan (slot_at plan k))
  pub hidden : (k : ℕ) → k < length p.decls → class_of p (decl_at p k) ≡ ObliviousArray
      → pin_of_slot plan (slot_at plan k) ≡ None → 2 ≤ (place_at plan k).bank
  pub apart : (i j : ℕ) → i < j → j < length p.decls → AreApart (2 ^ w) (place_at plan i) (place_at plan j)
  pub pins : (slot : ℕ) (p : Pin) → pin_of_slot plan slot ≡ Some p → IsSoundPin plan slot p
  pub pins_apart : (j k : ℕ) (p q : Pin) → pin_of_slot plan j ≡ Some p → pin_of_slot plan k ≡ Some q
      → p.bank ≡ q.bank → p.block ≡ q.block → j ≡ k

-- plans are sound for each program whose variables have room
abbrev pub ArePlansSound : (Source → ℕ → Type 0) → (Source → ℕ → Plan) → Type 0
ArePlansSound HasRoom plan =
    (p : Source) (w : ℕ) → IsWithinLimits p → Within 3 9 w → HasRoom p w → IsSoundPlan p w (plan p w)
