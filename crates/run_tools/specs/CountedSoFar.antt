-- How far the events of a trace have been counted. (Only private clauses and proofs say so.)
use Rattle.std.specs.Prelude.{◌≡◌, List, ◌++◌}
use Rattle.lt_isa.specs.Trace.{Stamped}
use Rattle.run_tools.specs.Counting.{CountsEvents}
use Rattle.run_tools.specs.declared.counting.Tally.{Tally}

-- the counts are those of a prefix of the trace, after which these events are left
pub record CountedSoFar (events left : List Stamped) (tally : Tally) : Type 0 where
  pub done : List Stamped
  pub is : events ≡ done ++ left
  pub counts : CountsEvents tally done
