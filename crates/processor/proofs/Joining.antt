-- Two consecutive runs show what one run shows, end as it ends, and leave the state that it leaves.
use Rattle.std.proofs.Common.{◌≡◌, ℕ, ◌≤◌, List, ◌++◌, sym, subst, ⊎_elim}
use Rattle.std.proofs.lemmas.List.Elements.{Contains-append_cases, Contains-append_right}
use Rattle.lt_isa.specs.Prelude.{Parts, IsInRange, State, Halted, IsShaped, Stamped, seen_at, trace_from, final_from}
use Rattle.lt_isa.proofs.Ends.{trace_resumed, final_resumed}
use Rattle.banks.proofs.ResumedAccesses.{accesses_resumed}
use Rattle.processor.specs.declared.ends.End.{End}
use Rattle.processor.specs.Prelude.{EndsAs, RunsJoin}
use Rattle.processor.specs.declared.ends.End.TheVariants as end

-- some events without a halt, followed by others, end as the others do
ends_behind : (es fs : List Stamped) (how : End) → EndsAs es end.Spent → EndsAs fs how → EndsAs (es ++ fs) how
ends_behind es fs (end.Halted at) quiet ends = (
  Contains-append_right es fs (seen_at at Halted) ends.0,
  λ other halts. ⊎_elim (λ early. absurd (quiet other early)) (ends.1 other)
      (Contains-append_cases es fs (seen_at other Halted) halts),
)
ends_behind es fs end.Spent quiet ends = λ at halts.
    ⊎_elim (quiet at) (ends at) (Contains-append_cases es fs (seen_at at Halted) halts)

-- two consecutive runs report what one run reports
pub runs_join : (o : Parts) → IsInRange o → (s : State) → IsShaped o s → (n m : ℕ) → n ≤ m
    → EndsAs (trace_from o s n) end.Spent → RunsJoin o s n m
runs_join o range s shaped n m le spent =
    let first = trace_from o s n in
    let second = trace_from o (final_from o s n) m in
    let whole : trace_from o s m ≡ first ++ second = trace_resumed o range s shaped n m le spent in
    record {
      events = whole;
      accesses = accesses_resumed o range s shaped n m le spent;
      ends = λ how last. subst (λ events. EndsAs events how) (sym whole) (ends_behind first second how spent last);
      state = final_resumed o range s shaped n m le spent;
    }
