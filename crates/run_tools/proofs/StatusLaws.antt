-- What the statuses of the tools say follows from what their results say.
use Rattle.std.proofs.Common.{List, ap}
use Rattle.std.specs.List.{slice_get}
use Rattle.lt_isa.specs.Prelude.{Stamped}
use Rattle.processor.specs.Prelude.{EndsAs}
use Rattle.processor.specs.declared.ends.End.{End}
use Rattle.run_tools.specs.Prelude.{Compares, Ends, SaysHalted, SaysOfBoth, SaysOfOne, SaysOther, SaysSpent, RunHalted, RunSpent, comparison_status, end_status}
use Rattle.run_tools.specs.declared.comparing.Comparison.{Comparison}
use Rattle.run_tools.specs.declared.comparing.Comparison.TheVariants.{Equal, Differ}
use Rattle.processor.specs.declared.ends.End.TheVariants as end

pub says-of-both : (first second : List Stamped) (comparison : Comparison) → Compares first second comparison
    → SaysOfBoth first second (comparison_status comparison)
says-of-both first second (Equal events (end.Halted at)) equal = SaysHalted equal.same (at, equal.ends)
says-of-both first second (Equal events end.Spent) equal = SaysSpent equal.same equal.ends
says-of-both first second (Differ events one other) differ =
    SaysOther (λ e. differ.0.differ (ap (λ l. slice_get l events) e))

pub says-of-one : (events : List Stamped) (end : End) → Ends events end → SaysOfOne events (end_status end)
says-of-one events (end.Halted at) ends = RunHalted (at, ends)
says-of-one events end.Spent ends = RunSpent ends

-- the same of how a machine says that its run ended
pub says-as : (events : List Stamped) (end : End) → EndsAs events end → SaysOfOne events (end_status end)
says-as events (end.Halted at) ends = RunHalted (at, ends.0)
says-as events end.Spent ends = RunSpent ends
