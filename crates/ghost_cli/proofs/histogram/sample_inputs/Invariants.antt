use Rattle.std.proofs.Common.{◌≡◌, take}
use Rattle.call_steps.specs.Prelude.{sample_inputs}
use Rattle.ghost_cli.proofs.histogram.sample_inputs.Given as goal

abbrev pub invariant-loop-want : goal.invariant-loop-want
invariant-loop-want l = l.inputs ≡ sample_inputs (take l.want-index l.wants)
