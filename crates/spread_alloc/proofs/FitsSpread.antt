-- A plan whose arrays can be spread, and what stays of that while they are spread.
use Rattle.std.proofs.Common.{◌≡◌, ℕ, zero, suc, ◌+◌, ◌^◌, ◌<◌, ◌≤◌, Bool, true, false, List, length, take, get_or, nat_lt, refl, sym, ◌∙◌, arith}
use Rattle.std.specs.Prelude.{is_none, nat_le}
use Rattle.std.specs.List.{range_with_len}
use Rattle.std.proofs.lemmas.Bool.{and_parts, cond_both, leb-true}
use Rattle.std.proofs.lemmas.List.{length-set}
use Rattle.std.proofs.lemmas.List.Elements.{All-from_get_or, All-get_or, All-set}
use Rattle.std.proofs.lemmas.Nat.{pow_pos}
use Rattle.lt_isa.specs.Prelude.{most_blocks}
use Rattle.src_tree.specs.Prelude.{Source}
use Rattle.bank_alloc.specs.Prelude.{blocks_for}
use Rattle.bank_alloc.specs.declared.places.Place.{Place}
use Rattle.scratch_alloc.specs.Prelude.{Plan, IsSoundPlan, pin_of_slot, place_at, slot_at, no_place}
use Rattle.spread_alloc.specs.Prelude.{blocks_in, free_slots, is_long, may_move, may_spread, spread_blocks, spread_each, spread_one, spread_over, spread_place, spread_turn, PlanFits}
use Rattle.spread_alloc.proofs.SpreadArrays.{fewer_blocks}

-- a place begins at a block that its bank may have
abbrev BeginsWithin : Place → Type 0
BeginsWithin q = q.block ≤ most_blocks 1

-- no bank may have more blocks than encrypted memory
most_of_all : (b : ℕ) → most_blocks b ≤ most_blocks 1
most_of_all b = cond_both (nat_lt b 2) 65536 4096 (λ n. n ≤ most_blocks 1) (λ low. omega arith) (λ high. omega arith)

-- the arrays of a sound plan can be spread
pub sound_fits : (p : Source) (w : ℕ) (plan : Plan) → IsSoundPlan p w plan → PlanFits plan
sound_fits p w plan sound = record {
  slots = sound.slots ∙ sym sound.places;
  banks = sound.banks.0;
  blocks = All-from_get_or BeginsWithin plan.places no_place begins;
}
  where
    begins : (k : ℕ) → k < length plan.places → BeginsWithin (place_at plan k)
    begins k within =
        let place = sound.place k (let e = sound.places in omega (arith, within, e)) in
        let q = place_at plan k in
        let inside = place.inside in
        let some = pow_pos w in
        let least : q.block < blocks_in plan q.bank + 1 =
        fewer_blocks (2 ^ w) q.block (blocks_in plan q.bank + 1) (omega (arith, inside, some)) in
        let most = (sound.blocks q.bank place.bank).1 in
        let all = most_of_all q.bank in
        omega (arith, least, most, all)

-- encrypted memory has room for the blocks of an array that is spread
room_for : (size : ℕ) (oblivious : Bool) (plan : Plan) (k : ℕ) → may_spread size oblivious plan k ≡ true
    → blocks_in plan 1 + blocks_for size (place_at plan k).length ≤ most_blocks 1
room_for size oblivious plan k is =
    let q = place_at plan k in
    let first = and_parts (may_move oblivious q) _ is in
    let second = and_parts (is_long size q) _ first.1 in
    let third = and_parts (is_none (pin_of_slot plan (slot_at plan k))) _ second.1 in
    let last = and_parts (nat_le (blocks_for size q.length) (length (free_slots plan.pins plan.slots k)))
    (nat_le (blocks_in plan 1 + blocks_for size q.length) (most_blocks 1)) third.1 in
    leb-true (blocks_in plan 1 + blocks_for size q.length) (most_blocks 1) last.1

spread_begins : (oblivious : Bool) (plan : Plan) (k : ℕ) → PlanFits plan → k < length plan.places
    → blocks_in plan 1 ≤ most_blocks 1 → BeginsWithin (spread_place oblivious plan (place_at plan k))
spread_begins true plan k fits within room = room
spread_begins false plan k fits within room = All-get_or BeginsWithin plan.places k no_place within fits.blocks

banks_stay : (oblivious : Bool) (plan : Plan) (more : ℕ) → length (spread_blocks oblivious plan more) ≡ length plan.blocks
banks_stay true plan more = length-set plan.blocks 1 (blocks_in plan 1 + more)
banks_stay false plan more = refl

over_fits : (size : ℕ) (oblivious : Bool) (plan : Plan) (k : ℕ) (slots : List ℕ) → PlanFits plan
    → k < length plan.places → blocks_in plan 1 ≤ most_blocks 1 → PlanFits (spread_over size oblivious plan k slots)
over_fits size oblivious plan k slots fits within room =
    let q = spread_place oblivious plan (place_at plan k) in
    record {
      slots = length-set plan.slots k (get_or slots 0 0) ∙ fits.slots ∙ sym (length-set plan.places k q);
      banks =
          let same = banks_stay oblivious plan (blocks_for size (place_at plan k).length) in
          let two = fits.banks in
          omega (arith, same, two);
      blocks = All-set BeginsWithin plan.places k q (spread_begins oblivious plan k fits within room) fits.blocks;
    }

-- it stays so when an array is spread, or isn't
pub one_fits : (size : ℕ) (oblivious : Bool) (plan : Plan) (k : ℕ) → PlanFits plan → k < length plan.places
    → PlanFits (spread_one size oblivious plan k)
one_fits size oblivious plan k fits within =
    let slots = take (blocks_for size (place_at plan k).length) (free_slots plan.pins plan.slots k) in
    cond_both (may_spread size oblivious plan k) (spread_over size oblivious plan k slots) plan PlanFits
    (λ yes. over_fits size oblivious plan k slots fits within
    (let room = room_for size oblivious plan k yes in omega (arith, room)))
    (λ no. fits)

-- the number of variables stays
pub one_places : (size : ℕ) (oblivious : Bool) (plan : Plan) (k : ℕ)
    → length (spread_one size oblivious plan k).places ≡ length plan.places
one_places size oblivious plan k =
    let slots = take (blocks_for size (place_at plan k).length) (free_slots plan.pins plan.slots k) in
    cond_both (may_spread size oblivious plan k) (spread_over size oblivious plan k slots) plan
    (λ (made : Plan). length made.places ≡ length plan.places)
    (λ yes. length-set plan.places k (spread_place oblivious plan (place_at plan k)))
    (λ no. refl)

-- and when several are, one after another
each_fits : (size : ℕ) (oblivious : Bool) (plan : Plan) (k n : ℕ) → k + n ≤ length plan.places → PlanFits plan
    → PlanFits (spread_each size oblivious plan (range_with_len k n))
each_fits size oblivious plan k zero within fits = fits
each_fits size oblivious plan k (suc n) within fits =
    let same = one_places size oblivious plan k in
    each_fits size oblivious (spread_one size oblivious plan k) (k + 1) n (omega (arith, within, same))
    (one_fits size oblivious plan k fits (omega (arith, within)))

pub turn_fits : (size : ℕ) (oblivious : Bool) (plan : Plan) → PlanFits plan → PlanFits (spread_turn size oblivious plan)
turn_fits size oblivious plan fits = each_fits size oblivious plan 0 (length plan.places) (omega arith) fits
