-- How far a run has come: what was reported so far, and the trace of the rest.
use Rattle.std.proofs.Common.{◌≡◌, ℕ, ◌+◌, ◌-◌, ◌<◌, ◌≤◌, List, [], ◌∷◌, ◌++◌, length, Option, Some, None, refl, sym, ap, ◌∙◌, subst, ⊎_elim, arith, append_assoc}
use Rattle.std.proofs.lemmas.List.{append-nil}
use Rattle.std.proofs.lemmas.List.Elements.{Contains-append_cases, Contains-append_right}
use Rattle.lt_isa.specs.Prelude.{Parts, IsInRange, State, Observed, Halted, slot, read_event, write_event, IsShaped, StepResult, Goes, Stops, Faults, step, step_start, Stamped, seen_at, stamped, trace_from, final_from, HaltsAt}
use Rattle.lt_isa.proofs.Steps.{step-later, step_start-least}
use Rattle.lt_isa.proofs.Runs.{trace_from-past, trace_from-goes, trace_from-stops, trace_from-faults, final_from-past, final_from-goes, final_from-stops, final_from-faults}
use Rattle.lt_isa.proofs.Ends.{step-no_halt, stamped-halt}
use Rattle.banks.specs.declared.bank.Leaves.{Leaves}
use Rattle.banks.specs.Prelude.{Access, accessed, accessed_then, accesses_from, at_most_one}
use Rattle.banks.proofs.AccessRuns.{accesses_from-past, accesses_from-step}
use Rattle.banks.proofs.ShownAccesses.{event_of_outcome, step-bank, told_bank}
use Rattle.processor.specs.declared.done.Untold.{Untold}
use Rattle.processor.specs.declared.ends.End.{End}
use Rattle.processor.specs.Prelude.{Broke, BrokeOff, EndsAs, NoHalt, oblivious_count, path_count, ComeBy, MayAccess, OfBoth, ShowsOn, oram_of, paths_shown, LeavesState, on_slot, outcome_of, told_of_step, went_of, CameTo, StaysOnFault, StaysIfFaulted, StepBroke, StepTold, Running, WatcherTold, run_shown, with_paths}
use Rattle.processor.proofs.ComingBy.{access-shows_on, come-on, shows_on-none, shows_on-then}
use Rattle.processor.proofs.CountedPaths.{counts_on, most_one, none_before, oblivious_count-append, path_count-append, step_counted}
use Rattle.processor.proofs.TellingPaths.{left_behind, run_shown-step, step-last_event}
use Rattle.processor.specs.declared.done.Untold.TheVariants as done
use Rattle.processor.specs.declared.ends.End.TheVariants as end
use Rattle.processor.specs.declared.done.Went.TheVariants as went

-- A run up to cycle m shows and accesses these things, and then what a run from a second state on does.
pub record GoneTo {B : Type 0} (shows : B → List ℕ → List Leaves) (o : Parts) (first : State) (banks : List B)
    (shown : List WatcherTold) (made : List Access) (now : State) (orams : List B) (m : ℕ) : Type 0 where
  pub all : run_shown shows o first banks m ≡ shown ++ run_shown shows o now orams m
  pub accesses : accesses_from o first m ≡ made ++ accesses_from o now m
  pub final : final_from o first m ≡ final_from o now m

-- A run up to cycle n has led from one state to another, and its oblivious banks with it: the watcher received a prefix
-- of what the run shows, without a halt, and the rest is what the run shows from there on.
pub record Progress {B W : Type 0} (shows : B → List ℕ → List Leaves) (comes : B → List ℕ → B → Type 0)
    (hears : W → List WatcherTold → W → Type 0) (o : Parts) (first : State) (banks : List B) (now : State)
    (orams : List B) (n : ℕ) (before after : W) : Type 0 where
  pub events : List Stamped
  pub shown : List WatcherTold
  pub made : List Access
  pub heard : hears before shown after
  pub trace : trace_from o first n ≡ events ++ trace_from o now n
  pub all : run_shown shows o first banks n ≡ shown ++ run_shown shows o now orams n
  pub accesses : accesses_from o first n ≡ made ++ accesses_from o now n
  pub come : ComeBy comes banks made orams
  pub show : ComeBy (ShowsOn shows) banks made orams
  pub final : final_from o first n ≡ final_from o now n
  pub quiet : NoHalt events
  pub counted : oblivious_count made ≡ path_count shown
  -- the same holds up to each cycle from the second state's on
  pub later : (m : ℕ) → now.cycle ≤ m → GoneTo shows o first banks shown made now orams m

-- a run up to cycle n is over
pub record Ended {B W : Type 0} (shows : B → List ℕ → List Leaves) (comes : B → List ℕ → B → Type 0)
    (hears : W → List WatcherTold → W → Type 0) (o : Parts) (first : State) (banks : List B) (last : State)
    (orams : List B) (n : ℕ) (before after : W) (end : End) : Type 0 where
  pub heard : hears before (run_shown shows o first banks n) after
  pub state : last ≡ final_from o first n
  pub ends : EndsAs (trace_from o first n) end
  pub come : ComeBy comes banks (accesses_from o first n) orams
  pub show : ComeBy (ShowsOn shows) banks (accesses_from o first n) orams

-- a bank that stays comes from itself
of_both : {B : Type 0} (comes : B → List ℕ → B → Type 0) → ((bank : B) → comes bank [] bank) → (bank : Option B)
    → OfBoth bank bank (λ old new. comes old [] new)
of_both comes none None = tt
of_both comes none (Some bank) = none bank

-- nothing has been told yet
pub starts : {B W : Type 0} (shows : B → List ℕ → List Leaves) (comes : B → List ℕ → B → Type 0)
    (hears : W → List WatcherTold → W → Type 0)
    → ((bank : B) (blocks : List ℕ) → length (shows bank blocks) ≡ length blocks) → ((bank : B) → comes bank [] bank)
    → (o : Parts) (s : State) (orams : List B) (n : ℕ) (watch : W) → hears watch [] watch
    → Progress shows comes hears o s orams s orams n watch watch
starts shows comes hears each none o s orams n watch nothing = record {
  events = [];
  shown = [];
  made = [];
  heard = nothing;
  trace = refl;
  all = refl;
  accesses = refl;
  come = λ b. of_both comes none (oram_of orams b);
  show = λ b. of_both (ShowsOn shows) (shows_on-none shows each) (oram_of orams b);
  final = refl;
  quiet = λ at halts. omega (arith, halts.1);
  counted = refl;
  later = λ m behind. record { all = refl; accesses = refl; final = refl };
}

-- how a step went, by what it left to be told
pub came_to : (left : Untold) (outcome : StepResult) (t : State)
    → outcome ≡ outcome_of left t → CameTo (went_of left) outcome t
came_to (done.Read k leaves) outcome t is = (on_slot (slot t k) read_event, is)
came_to (done.Wrote k leaves) outcome t is = (on_slot (slot t k) write_event, is)
came_to done.Stopped outcome t is = is
came_to done.Fault outcome t is = is

-- what stays at a fault
pub stays_if_faulted : {B : Type 0} (left : Untold) (before now : Running B)
    → StaysOnFault left before now → StaysIfFaulted (went_of left) before.state now.state
stays_if_faulted done.Fault before now stays = ap (λ m. m.state) stays
stays_if_faulted other before now stays = tt

-- the watcher is torn at the first thing, or at another one
pub broke_first : {W : Type 0} (hears : W → List WatcherTold → W → Type 0) (before now : W)
    (torn : WatcherTold → Type 0) (next : WatcherTold) (rest : List WatcherTold)
    → hears before [] now → torn next → Broke hears before now torn (next ∷ rest)
broke_first hears before now torn next rest nothing at = record {
  told = [];
  next = next;
  rest = rest;
  front = refl;
  heard = nothing;
  at = at;
}

-- the second of two reports may break off
pub broke_second : {W : Type 0} (hears : W → List WatcherTold → W → Type 0) (before now : W)
    (torn : WatcherTold → Type 0) (first next : WatcherTold)
    → hears before (first ∷ []) now → torn next → Broke hears before now torn (first ∷ next ∷ [])
broke_second hears before now torn first next one at = record {
  told = first ∷ [];
  next = next;
  rest = [];
  front = refl;
  heard = one;
  at = at;
}

module _ {B W : Type 0} {shows : B → List ℕ → List Leaves} {comes : B → List ℕ → B → Type 0}
    {hears : W → List WatcherTold → W → Type 0}
    (each : (bank : B) (blocks : List ℕ) → length (shows bank blocks) ≡ length blocks)
    (none : (bank : B) → comes bank [] bank)
    (then : (first second third : B) (blocks more : List ℕ) → comes first blocks second → comes second more third
    → comes first (blocks ++ more) third)
    (hears_then : (first second third : W) (told more : List WatcherTold) → hears first told second
    → hears second more third → hears first (told ++ more) third) {o : Parts} (range : IsInRange o) {first : State}
    {banks : List B} {now : State} {orams : List B} (shaped : IsShaped o now) {n : ℕ} {before between : W}
    (so_far : Progress shows comes hears o first banks now orams n before between) where
  -- what a step leaves to be shown
  front : {after : W} (next : List B) (told : StepTold shows comes hears o now orams next between after)
      (outcome : StepResult)
      → step o now ≡ outcome → step_start o now < n
      → run_shown shows o first banks n
      ≡ (so_far.shown ++ told_of_step (step_start o now) outcome told.leaves)
      ++ left_behind shows comes o outcome next n
  front next told outcome is less =
      so_far.all ∙ ap (λ l. so_far.shown ++ l)
      (run_shown-step shows comes o range now shaped n less orams next told.leaves told.orams outcome is)
      ∙ sym (append_assoc so_far.shown (told_of_step (step_start o now) outcome told.leaves)
      (left_behind shows comes o outcome next n))

  made_on : (outcome : StepResult) → step o now ≡ outcome → step_start o now < n
      → accesses_from o first n
      ≡ (so_far.made ++ at_most_one (accessed o now)) ++ accessed_then outcome (λ t. accesses_from o t n)
  made_on outcome is less =
      so_far.accesses ∙ ap (λ l. so_far.made ++ l) (accesses_from-step o range now outcome n shaped is less)
      ∙ sym (append_assoc so_far.made (at_most_one (accessed o now)) (accessed_then outcome (λ t. accesses_from o t n)))

  come_on : (next : List B) (leaves : Leaves) → MayAccess shows comes orams next (accessed o now) leaves
      → ComeBy comes banks (so_far.made ++ at_most_one (accessed o now)) next
  come_on next leaves made =
      come-on shows comes none then banks orams next so_far.made (accessed o now) leaves so_far.come made

  show_on : (next : List B) (leaves : Leaves) → MayAccess shows comes orams next (accessed o now) leaves
      → ComeBy (ShowsOn shows) banks (so_far.made ++ at_most_one (accessed o now)) next
  show_on next leaves made =
      come-on shows (ShowsOn shows) (shows_on-none shows each) (shows_on-then shows each) banks orams next so_far.made
      (accessed o now) leaves so_far.show (access-shows_on shows each comes orams next (accessed o now) leaves made)

  heard_on : {after : W} (next : List B) (told : StepTold shows comes hears o now orams next between after)
      (outcome : StepResult) → step o now ≡ outcome
      → hears before (so_far.shown ++ told_of_step (step_start o now) outcome told.leaves) after
  heard_on {after = after} next told outcome is =
      hears_then before between after so_far.shown (told_of_step (step_start o now) outcome told.leaves) so_far.heard
      (subst (λ came. hears between (told_of_step (step_start o now) came told.leaves) after) is told.heard)

  -- the same up to another cycle
  gone_before : (m : ℕ) → step_start o now < m → GoneTo shows o first banks so_far.shown so_far.made now orams m
  gone_before m less = so_far.later m (omega (arith, step_start-least o now, less))

  gone_shown : (m : ℕ) → step_start o now < m → (next : List B) (leaves : Leaves)
      → MayAccess shows comes orams next (accessed o now) leaves → (outcome : StepResult) → step o now ≡ outcome
      → run_shown shows o first banks m
      ≡ (so_far.shown ++ told_of_step (step_start o now) outcome leaves) ++ left_behind shows comes o outcome next m
  gone_shown m less next leaves made outcome is =
      (gone_before m less).all ∙ ap (λ l. so_far.shown ++ l)
      (run_shown-step shows comes o range now shaped m less orams next leaves made outcome is)
      ∙ sym (append_assoc so_far.shown (told_of_step (step_start o now) outcome leaves)
      (left_behind shows comes o outcome next m))

  gone_made : (m : ℕ) → step_start o now < m → (outcome : StepResult) → step o now ≡ outcome
      → accesses_from o first m
      ≡ (so_far.made ++ at_most_one (accessed o now)) ++ accessed_then outcome (λ t. accesses_from o t m)
  gone_made m less outcome is =
      (gone_before m less).accesses ∙ ap (λ l. so_far.made ++ l)
      (accesses_from-step o range now outcome m shaped is less)
      ∙ sym (append_assoc so_far.made (at_most_one (accessed o now)) (accessed_then outcome (λ t. accesses_from o t m)))

  -- one step further
  pub step_further : {after : W} (next : State) (left : List B)
      → step_start o now < n → CameTo went.On (step o now) next
      → StepTold shows comes hears o now orams left between after
      → Progress shows comes hears o first banks next left n before after
  step_further next left less (event, went) told =
      let seen = stamped (step_start o now) event in
      record {
        events = so_far.events ++ seen;
        shown = so_far.shown ++ told_of_step (step_start o now) (Goes event next) told.leaves;
        made = so_far.made ++ at_most_one (accessed o now);
        heard = heard_on left told (Goes event next) went;
        trace =
            so_far.trace ∙ ap (λ l. so_far.events ++ l) (trace_from-goes o range now event next n shaped went less)
            ∙ sym (append_assoc so_far.events seen (trace_from o next n));
        all = front left told (Goes event next) went less;
        accesses = made_on (Goes event next) went less;
        come = come_on left told.leaves told.orams;
        show = show_on left told.leaves told.orams;
        final = so_far.final ∙ final_from-goes o range now event next n shaped went less;
        quiet = λ at halts.
            ⊎_elim (so_far.quiet at) (step-no_halt o now event next (step_start o now) at went)
            (Contains-append_cases so_far.events seen (seen_at at Halted) halts);
        counted = counts_on (so_far.made) (at_most_one (accessed o now)) (so_far.shown)
            (told_of_step (step_start o now) (Goes event next) told.leaves) so_far.counted
            (step_counted (step_start o now) (Goes event next) told.leaves (accessed o now)
            (ap (λ came. told_bank (event_of_outcome came)) (sym went) ∙ step-bank o now));
        later = λ m behind.
            let least : step_start o now + 1 ≤ next.cycle = step-later o range now shaped event next went in
            let below : step_start o now < m = omega (arith, least, behind) in
            record {
              all = gone_shown m below left told.leaves told.orams (Goes event next) went;
              accesses = gone_made m below (Goes event next) went;
              final =
                  (gone_before m below).final ∙ final_from-goes o range now event next m shaped went below;
            };
      }

  -- the next step is a cycle later at least
  pub step_later : (next : State)
      → step_start o now < n → CameTo went.On (step o now) next → n - next.cycle < n - now.cycle
  step_later next less (event, went) =
      let later = step-later o range now shaped event next went in
      omega (arith, step_start-least o now)

  -- the next step starts too late
  pub ends_late : n ≤ step_start o now → Ended shows comes hears o first banks now orams n before between end.Spent
  ends_late late =
      let nothing : trace_from o now n ≡ [] = trace_from-past o now n late in
      let seen : trace_from o first n ≡ so_far.events =
      so_far.trace ∙ ap (λ l. so_far.events ++ l) nothing ∙ append-nil so_far.events in
      let all : run_shown shows o first banks n ≡ so_far.shown =
      so_far.all
      ∙ ap (λ events. so_far.shown ++ with_paths events (paths_shown shows orams (accesses_from o now n))) nothing
      ∙ append-nil so_far.shown in
      let made : accesses_from o first n ≡ so_far.made =
      so_far.accesses ∙ ap (λ l. so_far.made ++ l) (accesses_from-past o now n late) ∙ append-nil so_far.made in
      record {
        heard = subst (λ shown. hears before shown between) (sym all) so_far.heard;
        state = sym (so_far.final ∙ final_from-past o now n late);
        ends = λ at halts. so_far.quiet at (subst (λ events. HaltsAt events at) seen halts);
        come = subst (λ accesses. ComeBy comes banks accesses orams) (sym made) so_far.come;
        show = subst (λ accesses. ComeBy (ShowsOn shows) banks accesses orams) (sym made) so_far.show;
      }

  -- the next step is a fault
  pub ends_faulty : {after : W} (last : State) (left : List B)
      → last ≡ now → step_start o now < n → step o now ≡ Faults
      → StepTold shows comes hears o now orams left between after
      → Ended shows comes hears o first banks last left n before after end.Spent
  ends_faulty {after = after} last left same less faults told =
      let seen : trace_from o first n ≡ so_far.events =
      so_far.trace ∙ ap (λ l. so_far.events ++ l) (trace_from-faults o range now n shaped faults)
      ∙ append-nil so_far.events in
      let all : run_shown shows o first banks n ≡ so_far.shown ++ [] =
      front left told Faults faults less ∙ append-nil (so_far.shown ++ []) in
      let made = made_on Faults faults less ∙ append-nil (so_far.made ++ at_most_one (accessed o now)) in
      record {
        heard = subst (λ shown. hears before shown after) (sym all) (heard_on left told Faults faults);
        state = same ∙ sym (so_far.final ∙ final_from-faults o range now n shaped faults);
        ends = λ at halts. so_far.quiet at (subst (λ events. HaltsAt events at) seen halts);
        come = subst (λ accesses. ComeBy comes banks accesses left) (sym made) (come_on left told.leaves told.orams);
        show = subst (λ accesses. ComeBy (ShowsOn shows) banks accesses left) (sym made)
            (show_on left told.leaves told.orams);
      }

  -- the next step halts
  pub ends_halted : {after : W} (last : State) (left : List B) (at : ℕ)
      → at ≡ step_start o now → step_start o now < n
      → step o now ≡ Stops last → StepTold shows comes hears o now orams left between after
      → Ended shows comes hears o first banks last left n before after (end.Halted at)
  ends_halted {after = after} last left at is less stops told =
      let halt = stamped (step_start o now) (Some Halted) in
      let seen : trace_from o first n ≡ so_far.events ++ halt =
      so_far.trace ∙ ap (λ l. so_far.events ++ l) (trace_from-stops o range now last n shaped stops less) in
      let all =
      front left told (Stops last) stops less
      ∙ append-nil (so_far.shown ++ told_of_step (step_start o now) (Stops last) told.leaves) in
      let made = made_on (Stops last) stops less ∙ append-nil (so_far.made ++ at_most_one (accessed o now)) in
      record {
        heard = subst (λ shown. hears before shown after) (sym all) (heard_on left told (Stops last) stops);
        state = sym (so_far.final ∙ final_from-stops o range now last n shaped stops less);
        ends = (
          subst (λ events. HaltsAt events at) (sym seen)
              (Contains-append_right so_far.events halt (seen_at at Halted)
              (subst (λ a. HaltsAt halt a) (sym is) (0, omega arith, refl))),
          λ other halts.
              ⊎_elim
              (λ early. absurd (so_far.quiet other early))
              (λ late. stamped-halt (step_start o now) other late ∙ sym is)
              (Contains-append_cases so_far.events halt (seen_at other Halted)
              (subst (λ events. HaltsAt events other) seen halts)),
        );
        come = subst (λ accesses. ComeBy comes banks accesses left) (sym made) (come_on left told.leaves told.orams);
        show = subst (λ accesses. ComeBy (ShowsOn shows) banks accesses left) (sym made)
            (show_on left told.leaves told.orams);
      }

  -- after the next step nothing more is shown or accessed up to the cycle after its start
  abbrev cut : ℕ
  cut = step_start o now + 1

  nothing_starts : (event : Option Observed) (t : State) → step o now ≡ Goes event t → cut ≤ step_start o t
  nothing_starts event t is =
      let least : step_start o now + 1 ≤ t.cycle = step-later o range now shaped event t is in
      omega (arith, least, step_start-least o t)

  nothing_behind : (next : List B) (outcome : StepResult) → step o now ≡ outcome
      → left_behind shows comes o outcome next cut ≡ []
  nothing_behind next (Goes event t) is =
      ap (λ events. with_paths events (paths_shown shows next (accesses_from o t cut)))
      (trace_from-past o t cut (nothing_starts event t is))
  nothing_behind next (Stops t) is = refl
  nothing_behind next Faults is = refl

  nothing_made : (outcome : StepResult) → step o now ≡ outcome → accessed_then outcome (λ t. accesses_from o t cut) ≡ []
  nothing_made (Goes event t) is = accesses_from-past o t cut (nothing_starts event t is)
  nothing_made (Stops t) is = refl
  nothing_made Faults is = refl

  left_at_cut : (last : State) (outcome : StepResult) → step o now ≡ outcome → LeavesState outcome last
      → last ≡ final_from o now cut
  left_at_cut last (Goes event t) is left =
      left ∙ sym (final_from-goes o range now event t cut shaped is (omega arith)
      ∙ final_from-past o t cut (nothing_starts event t is))
  left_at_cut last (Stops t) is left = left ∙ sym (final_from-stops o range now t cut shaped is (omega arith))
  left_at_cut last Faults is left = absurd left

  -- the watcher fails in the next step
  pub breaks : {after : W} (left : List B) (last : State) (torn : WatcherTold → Type 0) → step_start o now < n
      → StepBroke shows comes hears o now orams left last between after torn
      → BrokeOff shows comes hears o first n banks left last before after torn
  breaks {after = after} left last torn less failed =
      let behind = left_behind shows comes o (step o now) left n in
      let broke = failed.broke in
      let none : path_count broke.told ≡ 0 =
      none_before (step_start o now) (step o now) failed.leaves broke.told broke.next broke.rest broke.front in
      let told = path_count-append so_far.shown broke.told in
      let made = oblivious_count-append so_far.made (at_most_one (accessed o now)) in
      let one = most_one (accessed o now) in
      record {
        broke = record {
          told = so_far.shown ++ broke.told;
          next = broke.next;
          rest = broke.rest ++ behind;
          front =
              so_far.all
              ∙ ap (λ l. so_far.shown ++ l)
              (run_shown-step shows comes o range now shaped n less orams left failed.leaves failed.orams
              (step o now) refl
              ∙ ap (λ l. l ++ behind) broke.front ∙ append_assoc broke.told (broke.next ∷ broke.rest) behind)
              ∙ sym (append_assoc so_far.shown broke.told (broke.next ∷ broke.rest ++ behind));
          heard = hears_then before between after so_far.shown broke.told so_far.heard broke.heard;
          at = broke.at;
        };
        made = so_far.made ++ at_most_one (accessed o now);
        left = accessed_then (step o now) (λ t. accesses_from o t n);
        front = made_on (step o now) refl less;
        come = come_on left failed.leaves failed.orams;
        least = omega (arith, none, told, made, so_far.counted);
        most = omega (arith, none, told, made, one, so_far.counted);
        cut = cut;
        within = omega (arith, less);
        state =
            left_at_cut last (step o now) refl failed.left ∙ sym (gone_before cut (omega arith)).final;
        accesses =
            sym (gone_made cut (omega arith) (step o now) refl
            ∙ ap (λ l. (so_far.made ++ at_most_one (accessed o now)) ++ l) (nothing_made (step o now) refl)
            ∙ append-nil (so_far.made ++ at_most_one (accessed o now)));
        behind = broke.rest;
        shown =
            gone_shown cut (omega arith) left failed.leaves failed.orams (step o now) refl
            ∙ ap (λ l. (so_far.shown ++ told_of_step (step_start o now) (step o now) failed.leaves) ++ l)
            (nothing_behind left (step o now) refl)
            ∙ append-nil (so_far.shown ++ told_of_step (step_start o now) (step o now) failed.leaves)
            ∙ ap (λ l. so_far.shown ++ l) broke.front
            ∙ sym (append_assoc so_far.shown broke.told (broke.next ∷ broke.rest));
        no_event =
            step-last_event (step_start o now) (step o now) failed.leaves broke.told broke.next broke.rest
            broke.front;
      }
