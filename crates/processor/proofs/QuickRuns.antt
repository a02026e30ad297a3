-- A step without an access changes nothing of what a run shows, accesses and leaves.
use Rattle.std.proofs.Common.{◌≡◌, ℕ, ◌+◌, ◌<◌, ◌≤◌, ◌⊎◌, inl, inr, ℤ, List, ◌++◌, Some, None, false, get_or, length, refl, sym, ap, ◌∙◌, subst, ⊎_elim, arith}
use Rattle.std.specs.Prelude.{slice_get}
use Rattle.std.proofs.lemmas.Option.{slice_get-get_or}
use Rattle.lt_isa.specs.declared.instructions.Instr.{Instr}
use Rattle.lt_isa.specs.declared.instructions.Instr.TheVariants.{Nop, Halt, Li, Alu, Ldb, Stb, Idb, Ldw, Stw, Jmp, Br}
use Rattle.lt_isa.specs.Prelude.{Parts, IsInRange, Slot, Unbound, Bound, State, Observed, set_block, slot, write_event, IsShaped, Goes, executed, passed, start_of, step, step_start, with_bound, trace_from}
use Rattle.lt_isa.proofs.Steps.{step-at, step_start-at}
use Rattle.lt_isa.proofs.Runs.{trace_from-goes, final_from-goes}
use Rattle.lt_isa.proofs.Shapes.{step-shaped}
use Rattle.banks.specs.Prelude.{accessed, accessed_by, accesses_from, at_most_one}
use Rattle.banks.specs.declared.bank.Leaves.{Leaves}
use Rattle.banks.proofs.AccessRuns.{accessed-at, accesses_from-step}
use Rattle.processor.specs.declared.quick.Point.{Point}
use Rattle.processor.specs.Prelude.{CameAlike, PassesQuickly, RunsAlike, RunsAlikeOn, state_at, Pad, paths_shown, WatcherTold, with_paths}
use Rattle.processor.proofs.Progress.{Progress}

-- an instruction that shows nothing accesses nothing and waits for nothing
record IsSilent (o : Parts) (s : State) (i : Instr) : Type 0 where
  no_access : accessed_by o s i ≡ None
  at_once : start_of o.profile i s.cycle ≡ s.cycle

pub no_store : (found : Slot) (event : ℕ → ℕ → List ℤ → Observed) (next : ℕ → ℕ → List ℤ → State) (t : State)
    → with_bound found (λ b a words. Goes (Some (event b a words)) (next b a words)) ≡ Goes None t → ⊥
no_store Unbound event next t goes = cc
no_store (Bound b a words) event next t goes = cc

silent : (o : Parts) (s : State) (i : Instr) (t : State) → executed o s i ≡ Goes None t → IsSilent o s i
silent o s Halt t goes = absurd cc
silent o s (Ldb k b r) t goes = absurd cc
silent o s (Stb k) t goes =
    absurd (no_store (slot s k) (λ b a words. write_event b a words)
    (λ b a words. set_block (passed o (Stb k) false b (s.place + 1) s) b a words) t goes)
silent o s other t goes = record { no_access = refl; at_once = refl }

pub alike-itself : (o : Parts) (s : State) (n : ℕ) → RunsAlike o s s n
alike-itself o s n = record { trace = refl; final = refl; accesses = refl }

-- one step without an access
alike-step : (o : Parts) → IsInRange o → (s : State) (i : Instr) (t : State) (n : ℕ) → IsShaped o s
    → slice_get o.code s.place ≡ Some i → executed o s i ≡ Goes None t → s.cycle < n → RunsAlike o s t n
alike-step o range s i t n shaped at goes early =
    let quiet = silent o s i t goes in
    let start : step_start o s ≡ s.cycle = step_start-at o s i at ∙ quiet.at_once in
    let less : step_start o s < n = omega arith in
    let went : step o s ≡ Goes None t = step-at o s i at ∙ goes in
    let none : accessed o s ≡ None = accessed-at o s i at ∙ quiet.no_access in
    record {
      trace = trace_from-goes o range s None t n shaped went less;
      final = final_from-goes o range s None t n shaped went less;
      accesses = accesses_from-step o range s (Goes None t) n shaped went less
          ∙ ap (λ found. at_most_one found ++ accesses_from o t n) none;
    }

-- nothing was done yet, and one instruction more
pub came-none : (o : Parts) (n : ℕ) (registers : List ℤ) (slots : List Slot) (at : Point)
    → CameAlike o n registers slots at registers slots at
came-none o n registers slots at banks shaped = (shaped, λ m on. alike-itself o (state_at registers slots banks at) m)

-- a machine that came on twice came on
pub came-on : (o : Parts) → IsInRange o
    → (n : ℕ) (first : List ℤ) (slots : List Slot) (from : Point) (registers : List ℤ) (pad : Pad) (at : Point)
    (d : Instr) (after : List ℤ) (left : Pad) (next : Point)
    → CameAlike o n first slots from registers pad.slots at → at.place < length o.code → at.cycle < n
    → PassesQuickly o (get_or o.code at.place d) registers pad at (Some next) after left
    → CameAlike o n first slots from after left.slots next
came-on o range n first slots from registers pad at d after left next came there early passes banks shaped =
    let so_far = came banks shaped in
    let s : State = state_at registers pad.slots banks at in
    let t : State = state_at after left.slots banks next in
    let i : Instr = get_or o.code at.place d in
    let here : slice_get o.code s.place ≡ Some i = slice_get-get_or o.code at.place d there in
    let goes : executed o s i ≡ Goes None t = passes.3 banks in
    let later : at.cycle < next.cycle = passes.1 in
    let less : (m : ℕ) → (m ≡ n) ⊎ (next.cycle ≤ m) → at.cycle < m =
    λ m on. ⊎_elim (λ is. omega (arith, is, early)) (λ behind. omega (arith, behind, later)) on in
    let before : (m : ℕ) → (m ≡ n) ⊎ (next.cycle ≤ m) → RunsAlike o (state_at first slots banks from) s m =
    λ m on. so_far.1 m (⊎_elim (λ is. inl is) (λ behind. inr (omega (arith, behind, later))) on) in
    let one : (m : ℕ) → (m ≡ n) ⊎ (next.cycle ≤ m) → RunsAlike o s t m =
    λ m on. alike-step o range s i t m so_far.0 here goes (less m on) in (
      step-shaped o range s so_far.0 None t (step-at o s i here ∙ goes),
      λ m on. record {
        trace = (before m on).trace ∙ (one m on).trace;
        final = (before m on).final ∙ (one m on).final;
        accesses = (before m on).accesses ∙ (one m on).accesses;
      },
    )

-- A run has come equally far in the state that a machine reached without an access.
pub progress_on : {B W : Type 0} {shows : B → List ℕ → List Leaves} {comes : B → List ℕ → B → Type 0}
    {hears : W → List WatcherTold → W → Type 0} {o p q : Parts} {first : State} {banks : List B} {now next : State}
    {orams left : List B} {n : ℕ} {before after : W}
    → p ≡ o → q ≡ p → Progress shows comes hears o first banks now orams n before after → RunsAlikeOn p now next n
    → now.cycle ≤ next.cycle
    → left ≡ orams → Progress shows comes hears q first banks next left n before after
progress_on {shows = shows} {comes = comes} {hears = hears} {o = o} {first = first}
    {banks = banks} {now = now} {next = next}
    {orams = orams} {left = left} {n = n} {before = before} {after = after} same moved so_far alike later kept =
    let on : RunsAlikeOn o now next n = subst (λ x. RunsAlikeOn x now next n) same alike in
    let here : RunsAlike o now next n = on n (inl refl) in
    let further : Progress shows comes hears o first banks next orams n before after = record {
      events = so_far.events;
      shown = so_far.shown;
      made = so_far.made;
      heard = so_far.heard;
      trace = so_far.trace ∙ ap (λ l. so_far.events ++ l) here.trace;
      all = so_far.all
          ∙ (ap (λ events. so_far.shown ++ with_paths events (paths_shown shows orams (accesses_from o now n)))
          here.trace
          ∙ ap (λ accesses. so_far.shown ++ with_paths (trace_from o next n) (paths_shown shows orams accesses))
          here.accesses);
      accesses = so_far.accesses ∙ ap (λ l. so_far.made ++ l) here.accesses;
      come = so_far.come;
      show = so_far.show;
      final = so_far.final ∙ here.final;
      quiet = so_far.quiet;
      counted = so_far.counted;
      later = λ m behind.
          let old = so_far.later m (omega (arith, behind, later)) in
          let same = on m (inr behind) in
          record {
            all = old.all
                ∙ (ap (λ events. so_far.shown ++ with_paths events (paths_shown shows orams (accesses_from o now m)))
                same.trace
                ∙ ap (λ accesses. so_far.shown ++ with_paths (trace_from o next m) (paths_shown shows orams accesses))
                same.accesses);
            accesses = old.accesses ∙ ap (λ l. so_far.made ++ l) same.accesses;
            final = old.final ∙ same.final;
          };
    } in
    subst (λ x. Progress shows comes hears x first banks next left n before after) (sym (moved ∙ same))
    (subst (λ b. Progress shows comes hears o first banks next b n before after) (sym kept) further)
