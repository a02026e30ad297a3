-- An accepted object is oblivious.
use Rattle.lt_isa.specs.Prelude.{Parts, IsInRange, start_state, IsOblivious}
use Rattle.lt_isa.proofs.Starts.{IsShaped-start}
use Rattle.trace_patterns.specs.Prelude.{Accepts}
use Rattle.lt_checker.proofs.Lockstep.{traces_alike, never_faults}
use Rattle.lt_checker.proofs.Starting.{starts_alike, agree_first, agree_second}

-- an accepted object is oblivious
pub accepted_is_oblivious : (o : Parts) → IsInRange o → Accepts o → IsOblivious o
accepted_is_oblivious o range accepts = record {
  same_traces = λ d e agree n.
      traces_alike o range accepts (start_state o d) (start_state o e) (starts_alike o d e range accepts agree)
      (IsShaped-start o d agree.first_fits) (IsShaped-start o e agree.second_fits) n;
  never_faults = λ d e agree. (
    never_faults o range accepts (start_state o d) (starts_alike o d d range accepts (agree_first o d e agree))
        (IsShaped-start o d agree.first_fits),
    never_faults o range accepts (start_state o e)
        (starts_alike o e e range accepts (agree_second o d e agree)) (IsShaped-start o e agree.second_fits),
  );
}
