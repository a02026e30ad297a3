-- The definitions that clauses and proofs above cite, passed on from one place. Declares nothing.
pub use Rattle.resident_alloc.specs.Ranges.{AreShort}
unfoldable pub use Rattle.resident_alloc.specs.Ranges.{is_left_out, is_skipped, plan_of, room_behind, scalars_lack}
pub use Rattle.resident_alloc.specs.ResidentFits.{ResidentsFit}
unfoldable pub use Rattle.resident_alloc.specs.ResidentFits.{ResidentsRefuse}
pub use Rattle.resident_alloc.specs.ResidentPlan.{Planned}
unfoldable pub use Rattle.resident_alloc.specs.ResidentPlan.{blocks_in_turn, in_oblivious_banks, is_own_storage, own_pin, own_secret, pins_of, place_by, planned, planned_behind, planned_for, resident_banks, resident_blocks, resident_plan, slot_by, spare_slot, without_short}
unfoldable pub use Rattle.resident_alloc.specs.Residents.{blocks_of_all, is_of, is_own, is_short, left_out, own_most, room_after, room_beside, room_for, short_among, storage_of, unshared, wants_of}
