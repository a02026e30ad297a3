-- The definitions that clauses and proofs above cite, passed on from one place. Declares nothing.
pub use Rattle.stretches.specs.Checked.{ByComing, ByNote, CheckedUpTo, StartsFrom}
pub use Rattle.stretches.specs.Coming.{Comes, Sets}
unfoldable pub use Rattle.stretches.specs.Coming.{RunsThrough, seen, shown_by}
pub use Rattle.stretches.specs.InArms.{StandsInArm}
pub use Rattle.stretches.specs.Passing.{Across, AsClaimed, AsItComes, Away, Done, HoldsAt, Onward, Passes}
unfoldable pub use Rattle.stretches.specs.Passing.{NotesBetween}
pub use Rattle.stretches.specs.Shows.{Gap, Seen, Show}
unfoldable pub use Rattle.stretches.specs.Shows.{pattern_of, pattern_of_one, region_shows}
pub use Rattle.stretches.specs.Standing.{StandsAt}
unfoldable pub use Rattle.stretches.specs.Standing.{greatest_costs}
