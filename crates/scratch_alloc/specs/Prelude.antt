-- The definitions that clauses and proofs above cite, passed on from one place. Declares nothing.
pub use Rattle.scratch_alloc.specs.Plans.{EncryptedSlot, IsSoundArray, IsSoundPin, IsSoundPlace, IsSoundPlan, IsSoundResident, IsSpread, ObliviousSlot, Pin, PlainSlot, Plan, Serves, no_decl, no_place}
unfoldable pub use Rattle.scratch_alloc.specs.Plans.{ArePlansSound, IsSoundByPin, decl_at, pin_of_slot, pin_to, place_at, plan_from, plan_with, scalar_pins, slot_at, standard_plan}
pub use Rattle.scratch_alloc.specs.Slots.{EncryptedArray, EncryptedScalar, HasSlot, ObliviousArray, PlainArray, PlainScalar}
unfoldable pub use Rattle.scratch_alloc.specs.Slots.{alternate_slot, array_slot, scalar_slot, slot_behind, slots_behind, slots_of}
