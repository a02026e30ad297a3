-- One step of a machine, found by a run up to the cycle after its start.
use Rattle.std.proofs.Common.{◌≡◌, ℕ, ◌+◌, ◌-◌, ◌<◌, ◌≤◌, min, true, [], ◌++◌, Option, Some, None, refl, sym, ap, ◌∙◌, subst, arith}
use Rattle.std.proofs.Math.Nat.{min-le_right}
use Rattle.std.proofs.lemmas.Bool.{cond_below, cond_above}
use Rattle.std.proofs.lemmas.List.{append-nil}
use Rattle.std.specs.Prelude.{slice_get}
use Rattle.gr_word.specs.Prelude.{compared}
use Rattle.lt_isa.specs.declared.instructions.Instr.{Instr}
use Rattle.lt_isa.specs.declared.instructions.Instr.TheVariants.{Nop, Halt, Li, Alu, Ldb, Stb, Idb, Ldw, Stw, Jmp, Br}
use Rattle.lt_isa.specs.Prelude.{State, Observed, RamRead, RamWrite, EncRead, EncWrite, Oram, Halted, register, slot, Parts, IsInRange, IsShaped, StepResult, Goes, Stops, Faults, executed, step, step_start, stamped, trace_from, final_from, HaltsAt}
use Rattle.lt_isa.proofs.Ends.{step-no_halt, stamped-halt}
use Rattle.lt_isa.proofs.Runs.{trace_from-past, trace_from-goes, trace_from-stops, trace_from-faults, final_from-past, final_from-goes, final_from-faults}
use Rattle.lt_isa.proofs.Steps.{OnStepResult, on_goes, on_stops, on_step, on_bound, on_choice, step-at, step_start-at, step_start-least, step-later}
use Rattle.processor.specs.declared.ends.End.{End}
use Rattle.processor.specs.Prelude.{EndsAs, PausesAt}
use Rattle.line_costs.specs.Prelude.{accesses_in, accesses_made, is_access, next_of}
use Rattle.processor.specs.declared.ends.End.TheVariants as end

-- ---- what a run up to the cycle after the next step's start says of that step

-- a machine that is run to its next access, but not beyond its own cycle, stays, and its next step's start is found
pub stays-paused : (o : Parts) (s : State) (n start : ℕ) (t : State) → PausesAt o s n start t → n ≤ s.cycle
    → (t ≡ s) × (start ≡ step_start o s)
stays-paused o s n start t paused early =
    let least = min-le_right start n in
    let same : t ≡ s = paused.state ∙ final_from-past o s (min start n) (omega (arith, early, least, step_start-least o s)) in
    (same, paused.starts ∙ ap (step_start o) same)

-- a run of a machine that stayed, up to the cycle after the start of its next step
pub run-left : (o p : Parts) (s t : State) (m : ℕ) (next : State) → next ≡ final_from p t m → p ≡ o → t ≡ s
    → m ≡ step_start o s + 1 → next ≡ final_from o s (step_start o s + 1)
run-left o p s t m next is object state soon =
    is ∙ ap (λ q. final_from q t m) object ∙ ap (λ u. final_from o u m) state ∙ ap (final_from o s) soon

pub run-ends : (o p : Parts) (s t : State) (m : ℕ) (how end : End) → EndsAs (trace_from p t m) how → how ≡ end → p ≡ o
    → t ≡ s → m ≡ step_start o s + 1 → EndsAs (trace_from o s (step_start o s + 1)) end
run-ends o p s t m how end is same object state soon =
    subst (λ k. EndsAs (trace_from o s k) end) soon
    (subst (λ u. EndsAs (trace_from o u m) end) state
    (subst (λ q. EndsAs (trace_from q t m) end) object (subst (EndsAs (trace_from p t m)) same is)))

-- what was found at a place
pub found-at : (o p : Parts) (s : State) (place : ℕ) (found : Option Instr) → found ≡ slice_get p.code place → p ≡ o
    → place ≡ s.place → found ≡ slice_get o.code s.place
found-at o p s place found is object at =
    is ∙ ap (λ (q : Parts). slice_get q.code place) object ∙ ap (slice_get o.code) at

pub none-found : (found : Option Instr) → ((i : Instr) → found ≡ Some i → ⊥) → found ≡ None
none-found None never = refl
none-found (Some i) never = absurd (never i refl)

abbrev RanOnce : State → ℕ → State → End → StepResult → Type 0
RanOnce s start next (end.Halted at) (Goes event t) = ⊥
RanOnce s start next (end.Halted at) (Stops t) = at ≡ start
RanOnce s start next (end.Halted at) Faults = ⊥
RanOnce s start next end.Spent (Goes event t) = t ≡ next
RanOnce s start next end.Spent (Stops t) = ⊥
RanOnce s start next end.Spent Faults = next ≡ s

module _ (o : Parts) (fits : IsInRange o) (s : State) (shaped : IsShaped o s) where
  goes-shown : (event : Option Observed) (t : State) → step o s ≡ Goes event t
      → trace_from o s (step_start o s + 1) ≡ stamped (step_start o s) event
  goes-shown event t is =
      let later = step-later o fits s shaped event t is in
      trace_from-goes o fits s event t (step_start o s + 1) shaped is (omega arith)
      ∙ ap (λ l. stamped (step_start o s) event ++ l)
      (trace_from-past o t (step_start o s + 1) (omega (arith, step_start-least o t)))
      ∙ append-nil (stamped (step_start o s) event)

  goes-left : (event : Option Observed) (t : State) → step o s ≡ Goes event t
      → final_from o s (step_start o s + 1) ≡ t
  goes-left event t is =
      let later = step-later o fits s shaped event t is in
      final_from-goes o fits s event t (step_start o s + 1) shaped is (omega arith)
      ∙ final_from-past o t (step_start o s + 1) (omega (arith, step_start-least o t))

  stops-shown : (t : State) → step o s ≡ Stops t
      → trace_from o s (step_start o s + 1) ≡ stamped (step_start o s) (Some Halted)
  stops-shown t is = trace_from-stops o fits s t (step_start o s + 1) shaped is (omega arith)

  ran-once : (outcome : StepResult) → step o s ≡ outcome → (how : End) (next : State)
      → next ≡ final_from o s (step_start o s + 1) → EndsAs (trace_from o s (step_start o s + 1)) how
      → RanOnce s (step_start o s) next how outcome
  ran-once (Goes event t) is (end.Halted at) next left ends =
      step-no_halt o s event t (step_start o s) at is (subst (λ es. HaltsAt es at) (goes-shown event t is) ends.0)
  ran-once (Stops t) is (end.Halted at) next left ends =
      stamped-halt (step_start o s) at (subst (λ es. HaltsAt es at) (stops-shown t is) ends.0)
  ran-once Faults is (end.Halted at) next left ends =
      let halts : HaltsAt [] at =
      subst (λ es. HaltsAt es at) (trace_from-faults o fits s (step_start o s + 1) shaped is) ends.0 in
      omega (arith, halts.1)
  ran-once (Goes event t) is end.Spent next left ends = sym (left ∙ goes-left event t is)
  ran-once (Stops t) is end.Spent next left ends =
      ends (step_start o s)
      (subst (λ es. HaltsAt es (step_start o s)) (sym (stops-shown t is)) (0, omega arith, refl))
  ran-once Faults is end.Spent next left ends =
      left ∙ final_from-faults o fits s (step_start o s + 1) shaped is

  -- a machine that is later then has made the step
  pub goes-on : (next : State) → next ≡ final_from o s (step_start o s + 1)
      → EndsAs (trace_from o s (step_start o s + 1)) end.Spent → s.cycle < next.cycle
      → (event : Option Observed) × (step o s ≡ Goes event next)
  goes-on next left ends later = by (step o s) refl (ran-once (step o s) refl end.Spent next left ends)
    where
      by : (outcome : StepResult) → step o s ≡ outcome → RanOnce s (step_start o s) next end.Spent outcome
          → (event : Option Observed) × (step o s ≡ Goes event next)
      by (Goes event t) is same = (event, is ∙ ap (Goes event) same)
      by (Stops t) is none = absurd none
      by Faults is same = let cycles = ap (λ (u : State). u.cycle) same in absurd (omega (arith, cycles, later))

  -- one that isn't later is at a fault
  pub rests : (next : State) → next ≡ final_from o s (step_start o s + 1)
      → EndsAs (trace_from o s (step_start o s + 1)) end.Spent → next.cycle ≤ s.cycle → step o s ≡ Faults
  rests next left ends past = by (step o s) refl (ran-once (step o s) refl end.Spent next left ends)
    where
      by : (outcome : StepResult) → step o s ≡ outcome → RanOnce s (step_start o s) next end.Spent outcome
          → step o s ≡ Faults
      by (Goes event t) is same =
          let cycles = ap (λ (u : State). u.cycle) same in
          absurd (omega (arith, cycles, past, step-later o fits s shaped event t is, step_start-least o s))
      by (Stops t) is none = absurd none
      by Faults is same = is

  -- and one that has halted stops
  pub halts : (at : ℕ) → EndsAs (trace_from o s (step_start o s + 1)) (end.Halted at)
      → ((last : State) × (step o s ≡ Stops last)) × (at ≡ step_start o s)
  halts at ends = by (step o s) refl (ran-once (step o s) refl (end.Halted at) _ refl ends)
    where
      by : (outcome : StepResult) → step o s ≡ outcome
          → RanOnce s (step_start o s) (final_from o s (step_start o s + 1)) (end.Halted at) outcome
          → ((last : State) × (step o s ≡ Stops last)) × (at ≡ step_start o s)
      by (Goes event t) is none = absurd none
      by (Stops t) is same = ((t, is), same)
      by Faults is none = absurd none

-- ---- a halt doesn't wait

executed-halts : (o : Parts) (s : State) (i : Instr) → slice_get o.code s.place ≡ Some i
    → OnStepResult (λ event t. Unit {0}) (λ t. step_start o s ≡ s.cycle) (executed o s i)
executed-halts o s Halt at = step_start-at o s Halt at
executed-halts o s (Stb k) at = on_bound _ _ (slot s k) _ (λ b a words bound. tt)
executed-halts o s (Idb rd k) at = on_bound _ _ (slot s k) _ (λ b a words bound. tt)
executed-halts o s (Ldw rd k ro) at = on_bound _ _ (slot s k) _ (λ b a words bound. tt)
executed-halts o s (Stw rs k ro) at = on_bound _ _ (slot s k) _ (λ b a words bound. tt)
executed-halts o s (Br cmp ra rb offset) at =
    on_choice _ _ (compared cmp (register s ra) (register s rb)) _ _ tt tt
executed-halts o s other at = tt

pub halts-at_once : (o : Parts) (s last : State) → step o s ≡ Stops last → step_start o s ≡ s.cycle
halts-at_once o s last stops = on_stops _ _ (step o s) last (on_step _ _ o s (executed-halts o s)) stops

-- ---- the place after a step, and its accesses, by its instruction and its cycles

abbrev MovesSo : Parts → State → Instr → Option Observed → State → Type 0
MovesSo o s i event t =
    (t.place ≡ next_of o s.place i (t.cycle - s.cycle)) × (accesses_in event ≡ accesses_made i)

executed-moves : (o : Parts) → 2 ≤ o.profile.taken → (s : State) (i : Instr)
    → OnStepResult (MovesSo o s i) (λ t. Unit {0}) (executed o s i)
executed-moves o slow s Halt = tt
executed-moves o slow s (Stb k) = on_bound _ _ (slot s k) _ (λ b a words bound. (refl, refl))
executed-moves o slow s (Idb rd k) = on_bound _ _ (slot s k) _ (λ b a words bound. (refl, refl))
executed-moves o slow s (Ldw rd k ro) = on_bound _ _ (slot s k) _ (λ b a words bound. (refl, refl))
executed-moves o slow s (Stw rs k ro) = on_bound _ _ (slot s k) _ (λ b a words bound. (refl, refl))
executed-moves o slow s (Br cmp ra rb offset) =
    on_choice _ _ (compared cmp (register s ra) (register s rb)) _ _
    (cond_below 1 ((s.cycle + o.profile.taken) - s.cycle) _ _ (omega (arith, slow)), refl)
    (cond_above 1 ((s.cycle + 1) - s.cycle) _ _ _ (omega arith) refl, refl)
executed-moves o slow s other = (refl, refl)

pub moves-so : (o : Parts) → 2 ≤ o.profile.taken → (s : State) (i : Instr) → slice_get o.code s.place ≡ Some i
    → (event : Option Observed) (t : State) → step o s ≡ Goes event t
    → (t.place ≡ next_of o s.place i (t.cycle - s.cycle)) × (accesses_in event ≡ accesses_made i)
moves-so o slow s i at event t goes =
    on_goes _ _ (executed o s i) event t (executed-moves o slow s i) (sym (step-at o s i at) ∙ goes)

-- the event of a step after which the run continues is an access
pub goes-accesses : (o : Parts) (s : State) (event : Observed) (t : State) → step o s ≡ Goes (Some event) t
    → is_access event ≡ true
goes-accesses o s Halted t goes = absurd (step-no_halt o s (Some Halted) t 0 0 goes (0, omega arith, refl))
goes-accesses o s other t goes = refl
