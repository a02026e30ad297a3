-- The definitions that clauses and proofs above cite, passed on from one place. Declares nothing.
pub use Rattle.line_costs.specs.Costs.{AddsUp, Begun, CountsSteps, Taken, Then}
unfoldable pub use Rattle.line_costs.specs.Costs.{accesses_in, accesses_made, accesses_of, end_cycle, in_row, is_access, padding_in, part_of, taken_by, total}
pub use Rattle.line_costs.specs.Counting.{CountedSoFar}
unfoldable pub use Rattle.line_costs.specs.Counting.{added}
pub use Rattle.line_costs.specs.Steps.{EndsThere, StepsOnce, StopsOnce}
unfoldable pub use Rattle.line_costs.specs.Steps.{next_of}
