-- Where the variables of a program are stored that is compiled with `--fast`, which slot serves each, and which block
-- each slot holds for the whole run. (This project's profile.)
use Rattle.std.specs.Prelude.{ℕ, zero, suc, ◌+◌, ◌-◌, ◌%◌, ◌^◌, ◌==◌, ◌&&◌, min, Bool, true, false, if◌then◌else◌, List, [], ◌∷◌, ◌++◌, length, map, count_by, find, Option, Some, None}
use Rattle.std.specs.Option.{option_map}
use Rattle.std.specs.List.{range_with_len}
use Rattle.src_tree.specs.Trees.{Source}
use Rattle.bank_alloc.specs.declared.classes.Class.{Class}
use Rattle.bank_alloc.specs.declared.classes.Class.TheVariants.{PublicScalar, SecretScalar, PublicArray, EncryptedArray, ObliviousArray}
use Rattle.bank_alloc.specs.declared.places.Place.{Place}
use Rattle.bank_alloc.specs.Places.{blocks_for}
use Rattle.scratch_alloc.specs.declared.plans.Pin.{Pin}
use Rattle.scratch_alloc.specs.Plans.{Plan}
use Rattle.scratch_alloc.specs.Slots.{alternate_slot}
use Rattle.resident_alloc.specs.declared.wants.Want.{Want}
use Rattle.resident_alloc.specs.declared.storages.Storage.{Storage}
use Rattle.resident_alloc.specs.declared.storages.Storage.TheVariants.{Shared, Own}
use Rattle.resident_alloc.specs.Residents.{is_of, room_after, room_beside, room_for, unshared, is_short, short_among, blocks_of_all, own_most, storage_of, wants_of}
pub use Rattle.resident_alloc.specs.declared.storages.Planned.{Planned}

-- how many secret arrays with a secret index have a slot of their own, and a block of encrypted memory
abbrev pub own_secret : ℕ → List Want → ℕ
own_secret size all = min (own_most size all ObliviousArray) (short_among size (unshared size all ObliviousArray all))

-- some arrays without the first n short ones
abbrev pub without_short : ℕ → ℕ → List Want → List Want
without_short size zero vs = vs
without_short size n [] = []
without_short size (suc n) (v ∷ vs) =
    if is_short size v then without_short size n vs else v ∷ without_short size (suc n) vs

-- the arrays of the oblivious banks, among some variables
abbrev pub in_oblivious_banks : ℕ → List Want → List Want → List Want
in_oblivious_banks size all vs = without_short size (own_most size all ObliviousArray) (unshared size all ObliviousArray vs)

-- the blocks of those among some arrays, from number j on, whose number has this rest by 8
abbrev pub blocks_in_turn : ℕ → ℕ → ℕ → List Want → ℕ
blocks_in_turn size turn j [] = 0
blocks_in_turn size turn j (v ∷ vs) =
    (if j % 8 == turn then blocks_for size v.words else 0) + blocks_in_turn size turn (j + 1) vs

-- the first words of a block belong to the arrays that share it, and its last ones to the scalars
abbrev pub scalar_place : ℕ → List Want → List Want → (bank : ℕ) → Want → Place
scalar_place size all before bank v = record {
  bank = bank;
  block = 0;
  word = room_beside size all v.class + count_by (is_of v.class) before;
  length = v.words;
}

abbrev pub shared_place : ℕ → List Want → List Want → (bank room : ℕ) → Want → Place
shared_place size all before bank room v = record {
  bank = bank;
  block = 0;
  word = room - room_after v.class (room_for size all v.class) before;
  length = v.words;
}

-- an array on whole blocks
abbrev pub block_place : (bank block : ℕ) → Want → Place
block_place bank block v = record { bank = bank; block = block; word = 0; length = v.words }

-- the place in an oblivious bank, where others are in these banks already
abbrev pub oblivious_place : ℕ → List Want → Want → Place
oblivious_place size before v =
    let turn = length before % 8 in block_place (2 + turn) (blocks_in_turn size turn 0 before) v

-- where a variable is stored, by its class and its storage
abbrev pub place_by : ℕ → List Want → List Want → Want → Class → Storage → Place
place_by size all before v PublicScalar storage = scalar_place size all before 0 v
place_by size all before v SecretScalar storage = scalar_place size all before 1 v
place_by size all before v PublicArray Shared = shared_place size all before 0 (room_beside size all PublicScalar) v
place_by size all before v PublicArray storage =
    block_place 0 (1 + blocks_of_all size (unshared size all PublicArray before)) v
place_by size all before v EncryptedArray Shared = shared_place size all before 1 (room_beside size all SecretScalar) v
place_by size all before v EncryptedArray storage =
    block_place 1 (1 + (own_secret size all + blocks_of_all size (unshared size all EncryptedArray before))) v
place_by size all before v ObliviousArray Shared = shared_place size all before 1 (room_beside size all SecretScalar) v
place_by size all before v ObliviousArray Own =
    block_place 1 (1 + short_among size (unshared size all ObliviousArray before)) v
place_by size all before v ObliviousArray storage = oblivious_place size (in_oblivious_banks size all before) v

-- the slots for secret arrays with a secret index that have their own: 7, 5 and 4
abbrev pub spare_slot : ℕ → ℕ
spare_slot zero = 7
spare_slot (suc zero) = 5
spare_slot n = 4

-- the slot that serves a variable
abbrev pub slot_by : ℕ → List Want → List Want → Class → Storage → ℕ
slot_by size all before PublicScalar storage = 0
slot_by size all before SecretScalar storage = 1
slot_by size all before PublicArray Shared = 0
slot_by size all before PublicArray storage = alternate_slot 2 (length (unshared size all PublicArray before))
slot_by size all before EncryptedArray Shared = 1
slot_by size all before EncryptedArray storage = alternate_slot 4 (length (unshared size all EncryptedArray before))
slot_by size all before ObliviousArray Shared = 1
slot_by size all before ObliviousArray Own = spare_slot (short_among size (unshared size all ObliviousArray before))
slot_by size all before ObliviousArray storage = 6

-- what is planned for a variable
abbrev pub planned : ℕ → List Want → List Want → Want → Planned
planned size all before v =
    let storage = storage_of size all before v in
    record {
      storage = storage;
      place = place_by size all before v v.class storage;
      slot = slot_by size all before v.class storage;
    }

-- the same for some variables after others, in order of declaration
unfoldable pub planned_behind : ℕ → List Want → List Want → List Want → List Planned
planned_behind size all before [] = []
planned_behind size all before (v ∷ vs) =
    planned size all before v ∷ planned_behind size all (before ++ v ∷ []) vs

abbrev pub planned_for : Source → ℕ → List Planned
planned_for p w = planned_behind (2 ^ w) (wants_of p) [] (wants_of p)

-- A slot of a single array holds its block for the whole run.
abbrev pub is_own_storage : Storage → Bool
is_own_storage Own = true
is_own_storage storage = false

abbrev pub own_pin : List Planned → ℕ → Option Pin
own_pin all slot =
    option_map (λ v. record { bank = v.place.bank; block = v.place.block })
    (find (λ v. is_own_storage v.storage && (v.slot == slot)) all)

-- Slots 0 and 1 hold the blocks of the scalars, and of the arrays that share these.
abbrev pub pins_of : List Planned → List (Option Pin)
pins_of all =
    Some (record { bank = 0; block = 0 })
    ∷ Some (record { bank = 1; block = 0 })
    ∷ own_pin all 2 ∷ own_pin all 3 ∷ own_pin all 4 ∷ own_pin all 5 ∷ None ∷ own_pin all 7 ∷ []

-- the blocks of a bank
abbrev pub resident_blocks : ℕ → List Want → ℕ → ℕ
resident_blocks size all zero = 1 + blocks_of_all size (unshared size all PublicArray all)
resident_blocks size all (suc zero) = 1 + (own_secret size all + blocks_of_all size (unshared size all EncryptedArray all))
resident_blocks size all bank = blocks_in_turn size (bank - 2) 0 (in_oblivious_banks size all all)

-- plain and encrypted memory, and as many oblivious banks as are used
abbrev pub resident_banks : ℕ → List Want → ℕ
resident_banks size all = 2 + min 8 (length (in_oblivious_banks size all all))

-- the plan for a program, where a block has 2^w words
abbrev pub resident_plan : Source → ℕ → Plan
resident_plan p w = record {
  places = map (λ v. v.place) (planned_for p w);
  slots = map (λ v. v.slot) (planned_for p w);
  blocks = map (resident_blocks (2 ^ w) (wants_of p)) (range_with_len 0 (resident_banks (2 ^ w) (wants_of p)));
  pins = pins_of (planned_for p w);
}
