-- How a run of an accepted object on inputs ended. For the contracts of private functions, and for proofs.
use Rattle.std.specs.Prelude.{◌≡◌, ℕ, ℤ, List}
use Rattle.lt_isa.specs.Object.{Parts}
use Rattle.lt_isa.specs.Start.{trace}
use Rattle.lt_isa.specs.Trace.{HaltsAt}
use Rattle.processor.specs.Ends.{NoHalt}
use Rattle.call_steps.specs.Runs.{run_outputs}
use Rattle.machine_verbs.specs.declared.run.Ran.{Ran}
use Rattle.machine_verbs.specs.declared.run.Ran.TheVariants.{Halted, Spent}

abbrev pub RanTo : Parts → List (List ℤ) → ℕ → Ran → Type 0
RanTo o inputs cycles (Halted at text) = HaltsAt (trace o inputs cycles) at × (text.items ≡ run_outputs o inputs cycles)
RanTo o inputs cycles Spent = NoHalt (trace o inputs cycles)
