-- The definitions that clauses and proofs above cite, passed on from one place. Declares nothing.
pub use Rattle.scalar_ranges.specs.Comes.{Again, AtOnce, Comes, Enters, First, InFirst, InLoop, InSecond, Later, Returns}
pub use Rattle.scalar_ranges.specs.Known.{forgotten_block, forgotten_statement}
unfoldable pub use Rattle.scalar_ranges.specs.Known.{after_block, after_statement, counted, counted_by, inside, inside_by, inside_of, is_below, is_within, keeps_least, learned, learned_as, natural, nothing_known, operated, range_by, range_from, range_of, range_under, with_range}
pub use Rattle.scalar_ranges.specs.Ranges.{AreOfPublic, AreWithin, IsIn}
unfoldable pub use Rattle.scalar_ranges.specs.Ranges.{Ranges, range_at}
