-- What is proved of the trace of a machine that has just begun is proved of the object's run on the inputs.
use Rattle.std.proofs.Common.{◌≡◌, ℕ, ℤ, List, Result, IfOk, refl, ap, ◌∙◌, subst}
use Rattle.lt_isa.specs.Prelude.{State, Parts, start_state, trace, trace_from}
use Rattle.run_tools.specs.Prelude.{Compares}
use Rattle.run_tools.specs.declared.comparing.Comparison.{Comparison}

pub trace-begun : (o : Parts) (inputs : List (List ℤ)) (n : ℕ) (p : Parts) (s : State) → p ≡ o → s ≡ start_state o inputs
    → trace_from p s n ≡ trace o inputs n
trace-begun o inputs n p s same start = ap (λ q. trace_from q s n) same ∙ ap (λ t. trace_from o t n) start

pub compares-begun : {E : Type 0} (o : Parts) (first second : List (List ℤ)) (n : ℕ) (p q : Parts) (s t : State)
    → p ≡ o → s ≡ start_state o first → q ≡ o → t ≡ start_state o second → (result : Result Comparison E)
    → IfOk result (λ comparison. Compares (trace_from p s n) (trace_from q t n) comparison)
    → IfOk result (λ comparison. Compares (trace o first n) (trace o second n) comparison)
compares-begun o first second n p q s t one start other begin result is =
    subst (λ l. IfOk result (λ comparison. Compares l (trace o second n) comparison)) (trace-begun o first n p s one start)
    (subst (λ l. IfOk result (λ comparison. Compares (trace_from p s n) l comparison))
    (trace-begun o second n q t other begin) is)

-- a run begins at the first place and cycle
pub first-place : (o : Parts) (inputs : List (List ℤ)) → (start_state o inputs).place ≡ 0
unfolding start_state
first-place o inputs = refl

pub first-cycle : (o : Parts) (inputs : List (List ℤ)) → (start_state o inputs).cycle ≡ 0
unfolding start_state
first-cycle o inputs = refl
