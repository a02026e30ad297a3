-- Two traces, compared event by event.
use Rattle.std.proofs.Common.{◌≡◌, ℕ, zero, suc, ◌+◌, ◌<◌, ◌≤◌, ◌-◌, get_or, List, [], ◌∷◌, ◌++◌, length, take, Option, Some, None, refl, sym, ap, ◌∙◌, subst, ⊎_elim, arith, append_assoc}
use Rattle.std.specs.List.{slice_get}
use Rattle.std.specs.Option.{option_map}
use Rattle.std.proofs.Math.Seq.{take-append_seam}
use Rattle.std.proofs.lemmas.List.{append-nil, length-append, get_or-append_right}
use Rattle.std.proofs.lemmas.List.Elements.{Contains-append_cases, Contains-append_left, Contains-append_right}
use Rattle.std.proofs.lemmas.Option.{none-some, slice_get-get_or, slice_get_past}
use Rattle.lt_isa.specs.Prelude.{Observed, Halted, Stamped, HaltsAt, seen_at}
use Rattle.processor.specs.declared.ends.End.{End}
use Rattle.run_tools.specs.Prelude.{Compares, Ends, Judges, observed_in, stamped_of, EqualSoFar, end_after, end_by, TakesNext}
use Rattle.run_tools.specs.declared.comparing.Comparison.TheVariants.{Equal, Differ}
use Rattle.run_tools.specs.declared.comparing.Judgement.TheVariants.{Over, Same, Other}
use Rattle.run_tools.specs.declared.recorder.OwnedEvent.{OwnedEvent}
use Rattle.run_tools.specs.declared.recorder.Recorded.{Recorded}
use Rattle.processor.specs.declared.ends.End.TheVariants as end
use Rattle.run_tools.specs.declared.recorder.OwnedEvent.TheVariants as owned

-- ---- how a run ends that shows one event more

only-halt : (at other : ℕ) (event : Observed) → HaltsAt (seen_at at event ∷ []) other → event ≡ Halted
only-halt at other event halts = here halts.0 halts.1 halts.2
  where
    here : (k : ℕ) → k < 1 → get_or (seen_at at event ∷ []) k (seen_at other Halted) ≡ seen_at other Halted
        → event ≡ Halted
    here zero within is = ap (λ (e : Stamped). e.event) is
    here (suc k) within is = absurd (omega arith)

-- an event that isn't a halt changes nothing
quiet-next : (done : List Stamped) (before : End) (at : ℕ) (event : Observed) → (event ≡ Halted → ⊥) → Ends done before
    → Ends (done ++ seen_at at event ∷ []) before
quiet-next done (end.Halted halt) at event quiet ends =
    Contains-append_left done (seen_at at event ∷ []) (seen_at halt Halted) ends
quiet-next done end.Spent at event quiet ends = λ other halts.
    ⊎_elim (ends other) (λ last. quiet (only-halt at other event last))
    (Contains-append_cases done (seen_at at event ∷ []) (seen_at other Halted) halts)

ends-by : (done : List Stamped) (before : End) (at : ℕ) (event : OwnedEvent) → Ends done before
    → Ends (done ++ seen_at at (observed_in event) ∷ []) (end_by before at event)
ends-by done before at owned.Halt ends =
    Contains-append_right done (seen_at at Halted ∷ []) (seen_at at Halted) (0, omega arith, refl)
ends-by done before at other ends = quiet-next done before at _ (λ e. cc) ends

pub ends-next : (done : List Stamped) (before : End) (event : Recorded) → Ends done before
    → Ends (done ++ stamped_of event ∷ []) (end_after before event)
ends-next done before event ends = ends-by done before event.stamp event.event ends

-- ---- the events after those that are equal

behind-done : (done left : List Stamped) (event : Option Recorded) (after : List Stamped) → TakesNext left event after
    → slice_get (done ++ left) (length done) ≡ option_map stamped_of event
behind-done done left None after takes =
    slice_get_past (done ++ left) (length done)
    (let all = ap length (ap (λ l. done ++ l) takes.0 ∙ append-nil done) in omega (arith, all))
behind-done done left (Some event) after takes =
    ap (λ l. slice_get (done ++ l) (length done)) takes
    ∙ slice_get-get_or (done ++ stamped_of event ∷ after) (length done) (stamped_of event)
    (let all = length-append done (stamped_of event ∷ after) in omega (arith, all))
    ∙ ap Some (get_or-append_right done (stamped_of event ∷ after) (length done) (length done) (stamped_of event) refl
    (omega arith) ∙ ap (λ k. get_or (stamped_of event ∷ after) k (stamped_of event)) (none (length done)))
  where
    none : (n : ℕ) → n - n ≡ 0
    none n = omega arith

pub compared-begin : (first second left more : List Stamped) → left ≡ first → more ≡ second
    → EqualSoFar first second left more 0 end.Spent
compared-begin first second left more one two = record {
  done = [];
  first_is = sym one;
  second_is = sym two;
  counted = refl;
  ends = λ at halts. omega (arith, halts.1);
}

event_or : Stamped → Option Stamped → Stamped
event_or other None = other
event_or other (Some event) = event

same-event : (one other : Stamped) → Some one ≡ Some other → one ≡ other
unfolding event_or
same-event one other same = ap (event_or one) same

-- the next event, where it is taken
taken : (left : List Stamped) (event : Option Recorded) (after : List Stamped) (is : Recorded)
    → TakesNext left event after → option_map stamped_of event ≡ Some (stamped_of is) → left ≡ stamped_of is ∷ after
taken left None after is takes same = absurd (none-some (stamped_of is) same)
taken left (Some event) after is takes same = takes ∙ ap (λ s. s ∷ after) (same-event (stamped_of event) (stamped_of is) same)

-- ---- the three judgements

pub compared-same : (first second left more left' more' : List Stamped) (count : ℕ) (before : End)
    (one other : Option Recorded) (event : Recorded)
    → EqualSoFar first second left more count before → TakesNext left one left' → TakesNext more other more'
    → Judges one other (Same event)
    → EqualSoFar first second left' more' (count + 1) (end_after before event)
compared-same first second left more left' more' count before one other event so_far takes takes' judges = record {
  done = so_far.done ++ stamped_of event ∷ [];
  first_is = so_far.first_is ∙ ap (λ l. so_far.done ++ l) (taken left one left' event takes judges.0)
      ∙ sym (append_assoc so_far.done (stamped_of event ∷ []) left');
  second_is = so_far.second_is ∙ ap (λ l. so_far.done ++ l) (taken more other more' event takes' judges.1)
      ∙ sym (append_assoc so_far.done (stamped_of event ∷ []) more');
  counted = length-append so_far.done (stamped_of event ∷ []) ∙ ap (λ n. n + 1) so_far.counted;
  ends = ends-next so_far.done before event so_far.ends;
}

-- fewer events are left
pub compared-less : (left left' : List Stamped) (one other : Option Recorded) (event : Recorded)
    → TakesNext left one left' → Judges one other (Same event) → length left' < length left
compared-less left left' one other event takes judges =
    let is = ap length (taken left one left' event takes judges.0) in omega (arith, is)

-- there is room for one event more in a count
pub compared-room : (first second left left' more : List Stamped) (count most : ℕ) (before : End)
    (one other : Option Recorded) (event : Recorded)
    → EqualSoFar first second left more count before → TakesNext left one left' → Judges one other (Same event)
    → length first ≤ most → count + 1 ≤ most
compared-room first second left left' more count most before one other event so_far takes judges short =
    let is = ap length (so_far.first_is ∙ ap (λ l. so_far.done ++ l) (taken left one left' event takes judges.0)) in
    let parts = length-append so_far.done (stamped_of event ∷ left') in
    omega (arith, is, parts, short, so_far.counted)

pub compared-over : (first second left more left' more' : List Stamped) (count : ℕ) (before : End)
    (one other : Option Recorded)
    → EqualSoFar first second left more count before → TakesNext left one left' → TakesNext more other more'
    → Judges one other Over
    → Compares first second (Equal count before)
compared-over first second left more left' more' count before one other so_far takes takes' judges =
    let first_done : first ≡ so_far.done =
    so_far.first_is ∙ ap (λ l. so_far.done ++ l) (over left one left' takes judges.0) ∙ append-nil so_far.done in
    let second_done : second ≡ so_far.done =
    so_far.second_is ∙ ap (λ l. so_far.done ++ l) (over more other more' takes' judges.1) ∙ append-nil so_far.done in
    record {
      same = first_done ∙ sym second_done;
      counted = ap length first_done ∙ so_far.counted;
      ends = subst (λ events. Ends events before) (sym first_done) so_far.ends;
    }
  where
    over : (l : List Stamped) (event : Option Recorded) (after : List Stamped) → TakesNext l event after → event ≡ None
        → l ≡ []
    over l None after t e = t.0
    over l (Some event) after t e = absurd (none-some event (sym e))

pub compared-other : (first second left more left' more' : List Stamped) (count : ℕ) (before : End)
    (one other one' other' : Option Recorded)
    → EqualSoFar first second left more count before → TakesNext left one left' → TakesNext more other more'
    → Judges one other (Other one' other')
    → Compares first second (Differ count one' other')
compared-other first second left more left' more' count before one other one' other' so_far takes takes' judges =
    let here : slice_get first count ≡ option_map stamped_of one =
    subst (λ n. slice_get first n ≡ option_map stamped_of one) so_far.counted
    (ap (λ l. slice_get l (length so_far.done)) so_far.first_is ∙ behind-done so_far.done left one left' takes) in
    let there : slice_get second count ≡ option_map stamped_of other =
    subst (λ n. slice_get second n ≡ option_map stamped_of other) so_far.counted
    (ap (λ l. slice_get l (length so_far.done)) so_far.second_is ∙ behind-done so_far.done more other more' takes') in
    let first_taken : take count first ≡ so_far.done =
    subst (λ n. take n first ≡ so_far.done) so_far.counted
    (ap (take (length so_far.done)) so_far.first_is ∙ take-append_seam so_far.done left) in
    let second_taken : take count second ≡ so_far.done =
    subst (λ n. take n second ≡ so_far.done) so_far.counted
    (ap (take (length so_far.done)) so_far.second_is ∙ take-append_seam so_far.done more) in (
      record {
        same = first_taken ∙ sym second_taken;
        counted = ap length first_taken ∙ so_far.counted;
        differ = λ e. judges.2 (sym here ∙ e ∙ there);
      },
      here ∙ ap (option_map stamped_of) (sym judges.0),
      there ∙ ap (option_map stamped_of) (sym judges.1),
    )
