-- A machine that came on without an access has paused before its next event.
use Rattle.std.proofs.Common.{◌≡◌, ℕ, ◌+◌, ◌<◌, ◌≤◌, min, false, ◌⊎◌, inl, inr, [], Option, Some, None, refl, sym, ◌∙◌, subst, ⊎_elim, arith}
use Rattle.std.specs.Prelude.{IfSome, slice_get}
use Rattle.std.proofs.lemmas.Bool.{cases_lt}
use Rattle.lt_isa.specs.declared.instructions.Instr.{Instr}
use Rattle.lt_isa.specs.declared.instructions.Instr.TheVariants.{Nop, Halt, Li, Alu, Ldb, Stb, Idb, Ldw, Stw, Jmp, Br}
use Rattle.lt_isa.specs.Prelude.{Parts, State, set_block, slot, write_event, Faults, Goes, StepResult, executed, passed, step, step_start, final_from, trace_from}
use Rattle.lt_isa.proofs.Steps.{step-at, step-outside, step_start-least}
use Rattle.lt_isa.proofs.Runs.{final_from-past, trace_from-past}
use Rattle.processor.specs.Prelude.{PausesAt, ShowsNext, IsLeft, RunsAlikeOn, StandsForStep}
use Rattle.processor.proofs.QuickRuns.{no_store}

-- a fault leads nowhere
no_fault : (outcome : StepResult) (t : State) → outcome ≡ Faults → outcome ≡ Goes None t → ⊥
no_fault outcome t faults goes = let f : Faults ≡ Goes None t = sym faults ∙ goes in cc

-- an instruction that is left for a step shows an event, halts or is a fault
left-shows : (o : Parts) (s : State) (i : Instr) (t : State) → IsLeft o s i → executed o s i ≡ Goes None t → ⊥
left-shows o s Nop t left goes = no_fault (executed o s Nop) t left goes
left-shows o s Halt t left goes = cc
left-shows o s (Li rd value) t left goes = no_fault (executed o s (Li rd value)) t left goes
left-shows o s (Alu op rd ra rb) t left goes = no_fault (executed o s (Alu op rd ra rb)) t left goes
left-shows o s (Ldb k b r) t left goes = cc
left-shows o s (Stb k) t left goes =
    no_store (slot s k) (λ b a words. write_event b a words)
    (λ b a words. set_block (passed o (Stb k) false b (s.place + 1) s) b a words) t goes
left-shows o s (Idb rd k) t left goes = no_fault (executed o s (Idb rd k)) t left goes
left-shows o s (Ldw rd k ro) t left goes = no_fault (executed o s (Ldw rd k ro)) t left goes
left-shows o s (Stw rs k ro) t left goes = no_fault (executed o s (Stw rs k ro)) t left goes
left-shows o s (Jmp offset) t left goes = no_fault (executed o s (Jmp offset)) t left goes
left-shows o s (Br cmp ra rb offset) t left goes = no_fault (executed o s (Br cmp ra rb offset)) t left goes

shows-next : (o : Parts) (s : State) → StandsForStep o s → ShowsNext o s
shows-next o s stands t goes = by (slice_get o.code s.place) refl
  where
    by : (found : Option Instr) → slice_get o.code s.place ≡ found → ⊥
    by None is = no_fault (step o s) t (step-outside o s is) goes
    by (Some i) is =
        left-shows o s i t (subst (λ found. IfSome found (IsLeft o s)) is stands) (sym (step-at o s i is) ∙ goes)

pub pauses : (o : Parts) (s t : State) (n start : ℕ) → RunsAlikeOn o s t n → (t.cycle < n → StandsForStep o t)
    → start ≡ step_start o t → PausesAt o s n start t
pauses o s t n start alike left is =
    let least : t.cycle ≤ start = omega (arith, step_start-least o t, is) in
    let reached : (m : ℕ) → (m ≡ n) ⊎ (t.cycle ≤ m) → m ≤ start
    → (t ≡ final_from o s m) × (trace_from o s m ≡ []) =
    λ m on past.
    let late : m ≤ step_start o t = omega (arith, past, is) in
    let same = alike m on in
    (sym (same.final ∙ final_from-past o t m late), same.trace ∙ trace_from-past o t m late) in
    let both : (t ≡ final_from o s (min start n)) × (trace_from o s (min start n) ≡ []) =
    ⊎_elim
    (λ less. reached (min start n) (inr (omega (arith, less, least))) (omega arith))
    (λ past. reached (min start n) (inl (omega (arith, past))) (omega arith))
    (cases_lt start n) in
    record {
      starts = is;
      state = both.0;
      quiet = both.1;
      next = λ early. shows-next o t (left (omega (arith, early, least)));
    }
