-- The definitions that clauses and proofs above cite, passed on from one place. Declares nothing.
pub use Rattle.trace_patterns.specs.Accepts.{Accepts, ByRule, InRegion, IsLowestRefusal, Missed, OffEnd, RefusedAt, Unfit}
unfoldable pub use Rattle.trace_patterns.specs.Accepts.{FirstRefusal, RegionIsCrossed, has_secret_in_ram, is_secret_label}
unfoldable pub use Rattle.trace_patterns.specs.Carried.{eram_loaded, held_behind, known_behind, only_goes_on, ram_loaded, slot_is_ram, slot_loaded, slot_shows}
pub use Rattle.trace_patterns.specs.Carries.{Along, Arrived, ByBoth, CarriesOver, CarriesTo, JoinsIn, Through}
unfoldable pub use Rattle.trace_patterns.specs.Carries.{without_notes}
pub use Rattle.trace_patterns.specs.Events.{EncRead, EncWrite, Oram, RamRead, TreeEvent}
unfoldable pub use Rattle.trace_patterns.specs.Events.{NumberBelow, NumbersBelow, over_trees, part_of, tree_event}
pub use Rattle.trace_patterns.specs.Known.{FitsClaim, Known}
unfoldable pub use Rattle.trace_patterns.specs.Known.{bank_fits, bank_known, claimed_bank, claims, fits, is_marked, is_secret, marks, note_known, register_fits, registers_fit, set_bank, set_secret, slot_fits, slots_fit, start_known}
pub use Rattle.trace_patterns.specs.Patterns.{Shown}
unfoldable pub use Rattle.trace_patterns.specs.Patterns.{first_gap, first_of, joined, joined_parts, no_events, with_event, with_gap}
pub use Rattle.trace_patterns.specs.Rules.{Falls, Leaves, Opens, Refused, Ruling}
unfoldable pub use Rattle.trace_patterns.specs.Rules.{at_bank, at_claim, claimed_at, jumped, note_of_place, refused_if, ruling_at, ruling_if, ruling_of, shows_block}
pub use Rattle.trace_patterns.specs.Shape.{Arms, BadShape, RegionShape}
unfoldable pub use Rattle.trace_patterns.specs.Shape.{first_held, has_note_between, is_jump, is_outside, join_of, jump_offset, leads_back, most_regions, places_on, second_arm, shape, shape_tests}
pub use Rattle.trace_patterns.specs.Single.{Branches, Goes, Refuses, Single}
unfoldable pub use Rattle.trace_patterns.specs.Single.{applied_trees, at_tree, block_held, event, gap, if_bound, if_stored, jump_refused, loads, named_block, named_word, quietly, single, stores, word_held, word_tree}
pub use Rattle.trace_patterns.specs.SymStates.{AnySlot, Entry, EramSlot, IsJoin, Loaded, OramSlot, Origin, RamSlot, SymSlot, SymState}
unfoldable pub use Rattle.trace_patterns.specs.SymStates.{at_entry, common, common_slot, common_tree, entry_slot, entry_slots, entry_tree, entry_trees, hold_slot, hold_tree, known_after, same_origin, slot_bank, slot_held, tree_held}
pub use Rattle.trace_patterns.specs.Visits.{ComesTo, FallsTo, JoinsAt, LiesInside, Noted, Starts, Unnoted, VisitedAt}
unfoldable pub use Rattle.trace_patterns.specs.Visits.{CrossesFrom, FitsNote, IsVisited}
pub use Rattle.trace_patterns.specs.Walk.{Across, AtEnd, AtOnce, Beyond, BlockedAt, BothArms, ByShape, CrossesTo, Differ, InFirst, InSecond, Later, Onward, StopsAt, WalksTo, Within}
unfoldable pub use Rattle.trace_patterns.specs.Walk.{taken_way, untaken_way}
