-- How far two traces have been compared. (Only private clauses and proofs say so.)
use Rattle.std.specs.Prelude.{◌≡◌, ℕ, List, ◌++◌, length}
use Rattle.lt_isa.specs.Trace.{Stamped}
use Rattle.processor.specs.declared.ends.End.{End}
use Rattle.run_tools.specs.Comparing.{Ends}
use Rattle.run_tools.specs.declared.recorder.OwnedEvent.{OwnedEvent}
use Rattle.run_tools.specs.declared.recorder.Recorded.{Recorded}
use Rattle.processor.specs.declared.ends.End.TheVariants as end
use Rattle.run_tools.specs.declared.recorder.OwnedEvent.TheVariants as owned

-- how a run ends that has shown an event at a cycle, if it ended so before
abbrev pub end_by : End → ℕ → OwnedEvent → End
end_by before at owned.Halt = end.Halted at
end_by before at other = before

abbrev pub end_after : End → Recorded → End
end_after before event = end_by before event.stamp event.event

-- both traces begin with the same events, as many as counted, and these are left of them
pub record EqualSoFar (first second first_left second_left : List Stamped) (count : ℕ) (end : End) : Type 0 where
  pub done : List Stamped
  pub first_is : first ≡ done ++ first_left
  pub second_is : second ≡ done ++ second_left
  pub counted : length done ≡ count
  pub ends : Ends done end
