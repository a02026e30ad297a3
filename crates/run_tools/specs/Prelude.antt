-- The definitions that clauses and proofs above cite, passed on from one place. Declares nothing.
unfoldable pub use Rattle.run_tools.specs.Comparing.{Compares, Ends}
pub use Rattle.run_tools.specs.CountedSoFar.{CountedSoFar}
pub use Rattle.run_tools.specs.Counting.{CountsEvents, CountsOneMore}
unfoldable pub use Rattle.run_tools.specs.Counting.{access_counted, is_eram_read, is_eram_write, is_oram, is_ram_read, is_ram_write, orams_counted}
pub use Rattle.run_tools.specs.EventParts.{HaveEqualParts}
unfoldable pub use Rattle.run_tools.specs.EventParts.{kind_of, number_of, words_of}
unfoldable pub use Rattle.run_tools.specs.Judging.{Judges}
unfoldable pub use Rattle.run_tools.specs.Recorded.{observed_in, stamped_of}
pub use Rattle.run_tools.specs.SoFar.{EqualSoFar}
unfoldable pub use Rattle.run_tools.specs.SoFar.{end_after, end_by}
pub use Rattle.run_tools.specs.Statuses.{RunHalted, RunSpent, SaysHalted, SaysOfBoth, SaysOfOne, SaysOther, SaysSpent}
unfoldable pub use Rattle.run_tools.specs.Statuses.{comparison_status, end_status, status_of}
pub use Rattle.run_tools.specs.TraceReading.{MayRead}
unfoldable pub use Rattle.run_tools.specs.TraceReading.{TakesNext, ahead, left_to_read}
