-- The definitions that clauses and proofs above cite, passed on from one place. Declares nothing.
pub use Rattle.region_walk.specs.Arms.{IsWayOn}
unfoldable pub use Rattle.region_walk.specs.Arms.{GoesOnAt, IsCompared}
pub use Rattle.region_walk.specs.Carrying.{HoldsBehind, IsCarriedTo, LeadsOn, LeadsOver, StateIsReady}
unfoldable pub use Rattle.region_walk.specs.Carrying.{IsLedOn, IsLedOver}
pub use Rattle.region_walk.specs.Crossings.{IsCrossed}
pub use Rattle.region_walk.specs.Entries.{BeginsWithEntries, BindsEntry, HasEntries, HoldsEntry, IsAtEntry, IsEntryNumber, IsEntrySlot, Numbers}
pub use Rattle.region_walk.specs.FuelWalk.{Blocked, Crosses, Crossing, Stops, WalkFound, Walked}
unfoldable pub use Rattle.region_walk.specs.FuelWalk.{Walk, after_crossing, after_pattern, after_single, compared_arms, crossing, from_place, same_event, same_part, same_shown, walk, walk_within, walked_arms}
pub use Rattle.region_walk.specs.NextSteps.{BranchStands}
unfoldable pub use Rattle.region_walk.specs.NextSteps.{IsNextStep}
unfoldable pub use Rattle.region_walk.specs.Shows.{if_bound, if_stored, quiet_after, shown_block, shown_load, shown_store}
pub use Rattle.region_walk.specs.Singles.{GoesQuietly, GoesShowing, IsBranch, ShowsSingle}
unfoldable pub use Rattle.region_walk.specs.Singles.{IsSingle}
unfoldable pub use Rattle.region_walk.specs.Slots.{IsCommonOf, NumberFits, NumberedSlotFits, bank_of, known_tree, origin_of, slot_of}
pub use Rattle.region_walk.specs.States.{IsCommon, StateFits}
unfoldable pub use Rattle.region_walk.specs.States.{known_of, number_in, slot_at, sym_of, with_known_slot, with_number}
pub use Rattle.region_walk.specs.Tables.{FindsHeld, FindsNumber, TableGains}
pub use Rattle.region_walk.specs.Ways.{GapsWithin, GoesTo, IsCrossedBy, WayIsReady}
unfoldable pub use Rattle.region_walk.specs.Ways.{IsNext, IsRegionWalk, going}
