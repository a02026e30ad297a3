use Rattle.lt_isa.specs.Prelude.{start_state}
use Rattle.lt_isa.proofs.Ends.{final_shaped}
use Rattle.lt_isa.proofs.Shapes.{step-shaped, stop-shaped}
use Rattle.lt_isa.proofs.Starts.{IsShaped-start}
use Rattle.lt_isa.proofs.Stretches.{reaches-shaped}
use Rattle.processor.proofs.laws.shaped_laws.Goals as goal

pub returns : goal.returns
returns c = record {
  starts = IsShaped-start;
  goes_on = step-shaped;
  stops = stop-shaped;
  reached = λ o range s shaped events t reaches. reaches-shaped o range s events t reaches shaped;
  left = final_shaped;
  run = λ o range inputs fits n.
      final_shaped o range (start_state o inputs) (IsShaped-start o inputs fits) n;
}
