-- Which arrays of several blocks `compile --fast` keeps in the scratchpad for the whole run, and in which slots. (This
-- project's profile.)
--
-- A secret array of two to five blocks that isn't resident by a plan is spread if there are as many free slots: of slots
-- 2, 3, 4, 5 and 7 those that hold no block for the whole run and that serve no other variable. Each of these then
-- holds a block of the array for the whole run. Arrays of oblivious banks come first, in order of declaration, and each
-- moves to the end of encrypted memory; then come arrays of encrypted memory, which stay where they are.
use Rattle.std.specs.Prelude.{ℕ, ◌+◌, ◌*◌, ◌^◌, ◌==◌, nat_le, nat_lt, max, not, ◌&&◌, ◌||◌, Bool, true, false, is_none, if◌then◌else◌, List, [], ◌∷◌, length, take, drop, slice_index_or, slice_set, Option, Some, None}
use Rattle.std.specs.List.{list_any, range_with_len}
use Rattle.lt_isa.specs.Limits.{most_blocks}
use Rattle.bank_alloc.specs.declared.places.Place.{Place}
use Rattle.bank_alloc.specs.Places.{blocks_for, is_oblivious}
use Rattle.scratch_alloc.specs.declared.plans.Pin.{Pin}
use Rattle.scratch_alloc.specs.Plans.{Plan, pin_to, pin_of_slot, place_at, slot_at}

-- the slots that may hold blocks of spread arrays
abbrev pub spread_slots : List ℕ
spread_slots = 2 ∷ 3 ∷ 4 ∷ 5 ∷ 7 ∷ []

-- whether a slot serves a variable other than number k
abbrev pub serves_other : List ℕ → ℕ → ℕ → Bool
serves_other slots k slot =
    list_any (λ s. s == slot) (take k slots) || list_any (λ s. s == slot) (drop (k + 1) slots)

abbrev pub is_free : List (Option Pin) → List ℕ → ℕ → ℕ → Bool
is_free pins slots k slot = is_none (slice_index_or pins slot None) && not (serves_other slots k slot)

-- the free ones among some slots
abbrev pub free_among : List (Option Pin) → List ℕ → ℕ → List ℕ → List ℕ
free_among pins slots k [] = []
free_among pins slots k (slot ∷ rest) =
    if is_free pins slots k slot then slot ∷ free_among pins slots k rest else free_among pins slots k rest

abbrev pub free_slots : List (Option Pin) → List ℕ → ℕ → List ℕ
free_slots pins slots k = free_among pins slots k spread_slots

abbrev pub blocks_in : Plan → ℕ → ℕ
blocks_in plan bank = slice_index_or plan.blocks bank 0

-- a place of two to five blocks, in an oblivious bank or in encrypted memory
abbrev pub may_move : (oblivious : Bool) → Place → Bool
may_move true q = is_oblivious q
may_move false q = q.bank == 1

abbrev pub is_long : ℕ → Place → Bool
is_long size q = nat_lt size q.length && nat_le q.length (5 * size)

-- whether there are slots for some blocks, and room in encrypted memory, which has `encrypted` blocks
abbrev pub has_room : (blocks free encrypted : ℕ) → Bool
has_room blocks free encrypted = nat_le blocks free && nat_le (encrypted + blocks) (most_blocks 1)

-- whether variable number k is spread
abbrev pub may_spread : ℕ → (oblivious : Bool) → Plan → ℕ → Bool
may_spread size oblivious plan k =
    let q = place_at plan k in
    let blocks = blocks_for size q.length in
    may_move oblivious q
    && (is_long size q
    && (is_none (pin_of_slot plan (slot_at plan k))
    && has_room blocks (length (free_slots plan.pins plan.slots k)) (blocks_in plan 1)))

-- consecutive blocks of a bank are pinned to some slots, in order
abbrev pub pinned_from : List (Option Pin) → List ℕ → (bank block : ℕ) → List (Option Pin)
pinned_from pins [] bank block = pins
pinned_from pins (slot ∷ slots) bank block =
    pinned_from (slice_set pins slot (Some (pin_to bank block))) slots bank (block + 1)

-- the place after others of encrypted memory, which has the given number of blocks
abbrev pub place_behind : (blocks : ℕ) → Place → Place
place_behind blocks q = record { bank = 1; block = blocks; word = 0; length = q.length }

-- where a spread array is stored, and the blocks of the banks then
abbrev pub spread_place : (oblivious : Bool) → Plan → Place → Place
spread_place true plan q = place_behind (blocks_in plan 1) q
spread_place false plan q = q

abbrev pub spread_blocks : (oblivious : Bool) → Plan → ℕ → List ℕ
spread_blocks true plan more = slice_set plan.blocks 1 (blocks_in plan 1 + more)
spread_blocks false plan more = plan.blocks

-- the plan in which variable number k is spread over some slots
abbrev pub spread_over : ℕ → (oblivious : Bool) → Plan → ℕ → List ℕ → Plan
spread_over size oblivious plan k slots =
    let q = place_at plan k in
    record {
      places = slice_set plan.places k (spread_place oblivious plan q);
      slots = slice_set plan.slots k (slice_index_or slots 0 0);
      blocks = spread_blocks oblivious plan (blocks_for size q.length);
      pins = pinned_from plan.pins slots 1 (spread_place oblivious plan q).block;
    }

abbrev pub spread_one : ℕ → (oblivious : Bool) → Plan → ℕ → Plan
spread_one size oblivious plan k =
    if may_spread size oblivious plan k
    then spread_over size oblivious plan k (take (blocks_for size (place_at plan k).length) (free_slots plan.pins plan.slots k))
    else plan

-- the same for one variable after another
abbrev pub spread_each : ℕ → (oblivious : Bool) → Plan → List ℕ → Plan
spread_each size oblivious plan [] = plan
spread_each size oblivious plan (k ∷ ks) = spread_each size oblivious (spread_one size oblivious plan k) ks

abbrev pub spread_turn : ℕ → (oblivious : Bool) → Plan → Plan
spread_turn size oblivious plan = spread_each size oblivious plan (range_with_len 0 (length plan.places))

-- oblivious banks after the last one that has a variable are left out
abbrev pub last_bank : List Place → ℕ
last_bank [] = 1
last_bank (q ∷ places) = max q.bank (last_bank places)

abbrev pub without_empty_banks : Plan → Plan
without_empty_banks plan = record plan { blocks = take (last_bank plan.places + 1) plan.blocks }

-- a plan with its spread arrays, where a block has 2^w words
abbrev pub spread_plan : ℕ → Plan → Plan
spread_plan w plan = without_empty_banks (spread_turn (2 ^ w) false (spread_turn (2 ^ w) true plan))
