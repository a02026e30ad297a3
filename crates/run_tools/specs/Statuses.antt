-- What the exit statuses of the tools say of the traces.
use Rattle.std.specs.Prelude.{◌≡◌, ◌≢◌, ℕ, zero, suc, List}
use Rattle.lt_isa.specs.Trace.{Stamped, HaltsAt}
use Rattle.processor.specs.declared.ends.End.{End}
use Rattle.processor.specs.declared.ends.End.TheVariants.{Halted, Spent}
use Rattle.processor.specs.Ends.{NoHalt}
use Rattle.run_tools.specs.declared.comparing.Comparison.{Comparison}
use Rattle.run_tools.specs.declared.comparing.Comparison.TheVariants.{Equal, Differ}

-- 0 where a run halted, and 10 where its cycles were spent
abbrev pub end_status : End → ℕ
end_status (Halted at) = 0
end_status Spent = 10

-- 1 where an event differs
abbrev pub comparison_status : Comparison → ℕ
comparison_status (Equal events end) = end_status end
comparison_status (Differ events one other) = 1

-- a run that shows these events halts
abbrev pub Halts : List Stamped → Type 0
Halts events = (at : ℕ) × HaltsAt events at

-- The meaning of a status for the traces of two runs: 0, they are equal, and the runs halt; 1, they differ; 10, they
-- are equal below the last cycle, and no run halts. There is no other.
-- Rule: call/tool.
pub data SaysOfBoth (first second : List Stamped) : ℕ → Type 0 where
  SaysHalted : first ≡ second → Halts first → SaysOfBoth first second 0
  SaysOther : first ≢ second → SaysOfBoth first second 1
  SaysSpent : first ≡ second → NoHalt first → SaysOfBoth first second 10

-- what a status says of the trace of one run
pub data SaysOfOne (events : List Stamped) : ℕ → Type 0 where
  RunHalted : Halts events → SaysOfOne events 0
  RunSpent : NoHalt events → SaysOfOne events 10

-- the status of cases of which so many failed: 0 if none did
abbrev pub status_of : ℕ → ℕ
status_of zero = 0
status_of (suc failed) = 1
