-- Of which bank a slot holds blocks: what is known of a variable by its slot.
use Rattle.std.proofs.Common.{◌≡◌, ℕ, ◌+◌, ◌%◌, ◌<◌, Bool, true, false, cond, List, length, take, get_or, refl, sym, subst, arith}
use Rattle.std.specs.Prelude.{nat_le, ◌==◌, ◌||◌}
use Rattle.std.proofs.lemmas.Bool.{leb-true, leb-false, eqb-true, eqb-false}
use Rattle.bank_alloc.specs.declared.places.Place.{Place}
use Rattle.bank_alloc.specs.Prelude.{arrays_in}
use Rattle.scratch_alloc.specs.Prelude.{HasSlot, PlainScalar, EncryptedScalar, PlainArray, EncryptedArray, ObliviousArray, slot_behind, slots_of}
use Rattle.scratch_alloc.proofs.EachSlot.{get_or-slots}

reached_by : (before : List Place) (q : Place) (oblivious behind plain : Bool)
    → nat_le 2 q.bank ≡ oblivious → nat_le 1 q.block ≡ behind → (q.bank == 0) ≡ plain
    → HasSlot before q (cond (oblivious || behind)
    (cond oblivious 6 (cond plain (2 + arrays_in 0 before % 2) (4 + arrays_in 1 before % 2))) (cond plain 0 1))
reached_by before q true behind plain o b p = ObliviousArray (leb-true 2 q.bank o)
reached_by before q false true true o b p = PlainArray (eqb-true q.bank 0 p) (leb-true 1 q.block b)
reached_by before q false true false o b p =
    EncryptedArray (omega (arith, leb-false 2 q.bank o, eqb-false q.bank 0 p)) (leb-true 1 q.block b)
reached_by before q false false true o b p = PlainScalar (eqb-true q.bank 0 p) (omega (arith, leb-false 1 q.block b))
reached_by before q false false false o b p =
    EncryptedScalar (omega (arith, leb-false 2 q.bank o, eqb-false q.bank 0 p)) (omega (arith, leb-false 1 q.block b))

-- the slot of a place after others, by cases
pub slot_reached : (before : List Place) (q : Place) → HasSlot before q (slot_behind before q)
slot_reached before q = reached_by before q (nat_le 2 q.bank) (nat_le 1 q.block) (q.bank == 0) refl refl refl

-- a variable's slot, by cases
pub slot_at : (places : List Place) (k d : ℕ) (q : Place) → k < length places
    → HasSlot (take k places) (get_or places k q) (get_or (slots_of places) k d)
slot_at places k d q within =
    subst (HasSlot (take k places) (get_or places k q)) (sym (get_or-slots places k d q within))
    (slot_reached (take k places) (get_or places k q))
