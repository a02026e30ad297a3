-- The text that `trace` prints for a run without `--paths`. (This project's target.)
use Rattle.std.specs.Prelude.{◌≡◌, ℕ, ℤ, List, Option, is_some}
use Rattle.lt_isa.specs.Object.{Parts}
use Rattle.lt_isa.specs.Start.{trace}
use Rattle.run_data.specs.TraceText.{trace_text_of}
use Rattle.call_steps.specs.Runs.{HaltOf}

-- it is the text of the run's trace, and its last line says whether the run halted
pub record IsTextOfTrace (o : Parts) (inputs : List (List ℤ)) (cycles : ℕ) (text : List ℕ) : Type 0 where
  pub halt : Option ℕ
  pub ends : HaltOf (trace o inputs cycles) halt
  pub is : text ≡ trace_text_of (trace o inputs cycles) (is_some halt)
