-- A run is counted step by step.
use Rattle.std.proofs.Common.{◌≡◌, ℕ, ◌+◌, ◌-◌, ◌<◌, ◌≤◌, ◌^◌, get_or, replicate, Bool, true, false, cond, List, [], ◌∷◌, ◌++◌, length, Option, Some, None, refl, sym, ap, ◌∙◌, subst, ⊎_elim, arith}
use Rattle.std.proofs.lemmas.List.Elements.{Contains-append_cases, Contains-append_right}
use Rattle.std.proofs.lemmas.List.Sums.{sum_by-cons}
use Rattle.std.proofs.lemmas.Option.{slice_get_within}
use Rattle.lt_isa.specs.declared.instructions.Instr.{Instr}
use Rattle.lt_isa.specs.Prelude.{State, Observed, Halted, Parts, IsShaped, Goes, step, step_start, Stamped, seen_at, stamped, trace_from, final_from}
use Rattle.lt_isa.proofs.Ends.{step-no_halt, stamped-halt}
use Rattle.lt_isa.proofs.Runs.{trace_from-past, trace_from-goes, trace_from-stops, trace_from-faults, final_from-past, final_from-goes, final_from-faults}
use Rattle.lt_isa.proofs.Shapes.{step-shaped}
use Rattle.lt_isa.proofs.Steps.{step_start-least, step-later}
use Rattle.processor.specs.declared.ends.End.{End}
use Rattle.processor.specs.Prelude.{EndsAs}
use Rattle.line_costs.specs.Prelude.{Begun, Taken, Then, accesses_in, accesses_made, accesses_of, end_cycle, is_access, padding_in, part_of, taken_by, total, CountedSoFar, added, EndsThere, StepsOnce, StopsOnce, next_of}
use Rattle.line_costs.specs.declared.costs.Costs.{Costs}
use Rattle.line_costs.specs.declared.costs.Part.{Part}
use Rattle.line_costs.proofs.OneStep.{goes-accesses, halts-at_once, moves-so}
use Rattle.line_costs.proofs.Rows.{adds-next, adds-none, count-most}
use Rattle.processor.specs.declared.ends.End.TheVariants as end

-- some events without a halt, followed by others, end as the others do
ends-behind : (es fs : List Stamped) (how : End) → EndsAs es end.Spent → EndsAs fs how → EndsAs (es ++ fs) how
ends-behind es fs (end.Halted at) quiet ends = (
  Contains-append_right es fs (seen_at at Halted) ends.0,
  λ other halts. ⊎_elim (λ early. absurd (quiet other early)) (ends.1 other)
      (Contains-append_cases es fs (seen_at other Halted) halts),
)
ends-behind es fs end.Spent quiet ends = λ at halts.
    ⊎_elim (quiet at) (ends at) (Contains-append_cases es fs (seen_at at Halted) halts)

-- the accesses of a step, and of what follows it
accesses-next : (o : Parts) (s : State) (event : Option Observed) (t : State) (at : ℕ) (rest : List Stamped)
    → step o s ≡ Goes event t → accesses_of (stamped at event ++ rest) ≡ accesses_in event + accesses_of rest
accesses-next o s None t at rest goes = omega arith
accesses-next o s (Some event) t at rest goes =
    sum_by-cons (λ (e : Stamped). cond (is_access e.event) 1 0) (seen_at at event) rest
    ∙ ap (λ b. cond b 1 0 + accesses_of rest) (goes-accesses o s event t goes)

few-accesses : (event : Option Observed) → accesses_in event ≤ 1
few-accesses None = omega arith
few-accesses (Some event) = omega arith

few-padding : (parts : List Part) (rows : ℕ) (x : Taken) → padding_in parts rows x ≤ x.cycles
few-padding parts rows x = by (part_of parts rows x.place).pads
  where
    by : (b : Bool) → cond b x.cycles 0 ≤ x.cycles
    by true = omega arith
    by false = omega arith

-- nothing is counted yet
pub counted-none : (o : Parts) (s : State) (n : ℕ) (parts : List Part) (rows : ℕ) (costs : Costs) → IsShaped o s
    → s.cycle ≡ 0 → costs.cycles.items ≡ replicate rows 0 → costs.accesses.items ≡ replicate rows 0
    → costs.padding.items ≡ replicate rows 0 → CountedSoFar o s n parts rows s costs
counted-none o s n parts rows costs shaped start cycles accesses padding = record {
  taken = [];
  run = Begun;
  shaped = shaped;
  cycles = adds-none parts rows (λ x. x.cycles) costs.cycles.items cycles;
  accesses = adds-none parts rows (λ x. x.accesses) costs.accesses.items accesses;
  padding = adds-none parts rows (padding_in parts rows) costs.padding.items padding;
  elapsed = sym start;
  few = omega arith;
  padded = omega arith;
  shown = omega arith;
  ends = λ how is. is;
  final = refl;
}

-- one step more is counted
module _ (o : Parts) (s : State) (n : ℕ) (parts : List Part) (rows : ℕ) (now : State) (before : Costs)
    (so_far : CountedSoFar o s n parts rows now before) (next : State) (i : Instr) (took : ℕ)
    (once : StepsOnce o now n next i took) (part : Part) (after : Costs)
    (part_is : part ≡ part_of parts rows now.place) (within : part.row < rows) (slow : 2 ≤ o.profile.taken) where
  abbrev x : Taken
  x = taken_by now once.event next

  took-is : took ≡ next.cycle - now.cycle
  took-is = omega (arith, once.took_is)

  shown-next : trace_from o now n ≡ stamped (step_start o now) once.event ++ trace_from o next n
  shown-next = trace_from-goes o once.in_range now once.event next n once.shaped once.goes once.in_time

  pub counted-next : after.cycles.items ≡ added before.cycles.items part.row took
      → after.accesses.items ≡ added before.accesses.items part.row (accesses_made i)
      → after.padding.items ≡ added before.padding.items part.row (cond part.pads took 0)
      → CountedSoFar o s n parts rows next after
  counted-next cycles accesses padding =
      let row_is : (part_of parts rows now.place).row ≡ part.row = ap (λ (p : Part). p.row) (sym part_is) in
      let pads_is : part.pads ≡ (part_of parts rows now.place).pads = ap (λ (p : Part). p.pads) part_is in
      let moved = moves-so o slow now i once.here once.event next once.goes in
      let later = step-later o once.in_range now once.shaped once.event next once.goes in
      let begins = step_start-least o now in
      record {
        taken = x ∷ so_far.taken;
        run = Then so_far.taken now once.event next so_far.run once.goes;
        shaped = step-shaped o once.in_range now once.shaped once.event next once.goes;
        cycles = adds-next parts rows (λ x. x.cycles) so_far.taken before.cycles.items so_far.cycles x part.row within
            row_is took after.cycles.items took-is cycles;
        accesses = adds-next parts rows (λ x. x.accesses) so_far.taken before.accesses.items so_far.accesses x part.row
            within row_is (accesses_made i) after.accesses.items (sym moved.1) accesses;
        padding = adds-next parts rows (padding_in parts rows) so_far.taken before.padding.items so_far.padding x part.row
            within row_is (cond part.pads took 0) after.padding.items
            (ap (λ b. cond b took 0) pads_is ∙ ap (λ k. cond (part_of parts rows now.place).pads k 0) took-is) padding;
        elapsed =
            let cons = sum_by-cons (λ (y : Taken). y.cycles) x so_far.taken in
            omega (arith, cons, so_far.elapsed, later, begins);
        few =
            let cons = sum_by-cons (λ (y : Taken). y.accesses) x so_far.taken in
            omega (arith, cons, so_far.few, few-accesses once.event, later, begins);
        padded =
            let cons = sum_by-cons (padding_in parts rows) x so_far.taken in
            omega (arith, cons, so_far.padded, few-padding parts rows x, later, begins);
        shown =
            let cons = sum_by-cons (λ (y : Taken). y.accesses) x so_far.taken in
            let more : accesses_of (trace_from o now n) ≡ accesses_in once.event + accesses_of (trace_from o next n) =
            ap accesses_of shown-next
            ∙ accesses-next o now once.event next (step_start o now) (trace_from o next n) once.goes in
            omega (arith, cons, more, so_far.shown);
        ends = λ how is.
            so_far.ends how
            (subst (λ es. EndsAs es how) (sym shown-next)
            (ends-behind (stamped (step_start o now) once.event) (trace_from o next n) how
            (λ at. step-no_halt o now once.event next (step_start o now) at once.goes) is));
        final = so_far.final
            ∙ final_from-goes o once.in_range now once.event next n once.shaped once.goes once.in_time;
      }

  in-length : (counts : List ℕ) → length counts ≡ rows → part.row < length counts
  in-length counts count = omega (arith, count, within)

  one-access : accesses_made i ≤ 1
  one-access =
      let moved = moves-so o slow now i once.here once.event next once.goes in
      omega (arith, moved.1, few-accesses once.event)

  -- no count exceeds 64 bits
  pub cycles-fit : get_or before.cycles.items (part.row) 0 + took < 2 ^ 64
  cycles-fit =
      let most = count-most before.cycles.items part.row (in-length before.cycles.items so_far.cycles.count) in
      omega (arith, most, so_far.cycles.all, so_far.elapsed, once.took_is, once.fits)

  pub accesses-fit : (made : ℕ) → made ≡ accesses_made i → get_or before.accesses.items (part.row) 0 + made < 2 ^ 64
  accesses-fit made is =
      let most = count-most before.accesses.items part.row (in-length before.accesses.items so_far.accesses.count) in
      omega (arith, is, most, one-access, so_far.accesses.all, so_far.few, once.took_is, once.some, once.fits)

  pub padding-fits : get_or before.padding.items (part.row) 0 + took < 2 ^ 64
  padding-fits =
      let most = count-most before.padding.items part.row (in-length before.padding.items so_far.padding.count) in
      omega (arith, most, so_far.padding.all, so_far.padded, once.took_is, once.fits)

  pub place-next : (place place' : ℕ) → place ≡ now.place → place' ≡ next_of o place i took → place' ≡ next.place
  place-next place place' here is =
      let moved = moves-so o slow now i once.here once.event next once.goes in
      is ∙ ap (λ k. next_of o k i took) here ∙ ap (next_of o now.place i) took-is ∙ sym moved.0

  pub place-within : (place : ℕ) → place ≡ now.place → place < length o.code
  place-within place here =
      let inside = slice_get_within o.code now.place i once.here in
      omega (arith, here, inside)

-- the object is the same
pub once-in : (p o : Parts) → p ≡ o → (s : State) (n : ℕ) (next : State) (i : Instr) (took : ℕ)
    → StepsOnce p s n next i took → StepsOnce o s n next i took
once-in p o same s n next i took = subst (λ q. StepsOnce q s n next i took) same

pub stops-in : (p o : Parts) → p ≡ o → (s : State) (n at : ℕ) → StopsOnce p s n at → StopsOnce o s n at
stops-in p o same s n at = subst (λ q. StopsOnce q s n at) same

pub over-in : (p o : Parts) → p ≡ o → (s : State) (n : ℕ) → EndsThere p s n → EndsThere o s n
over-in p o same s n = subst (λ q. EndsThere q s n) same

-- ---- the run ends

module _ (o : Parts) (s : State) (n : ℕ) (parts : List Part) (rows : ℕ) (now : State) (costs : Costs)
    (so_far : CountedSoFar o s n parts rows now costs) where
  -- a run that is at its end shows nothing more, and stays
  over-shown : EndsThere o now n → trace_from o now n ≡ []
  over-shown there =
      ⊎_elim (λ past. trace_from-past o now n past)
      (λ fault. trace_from-faults o there.in_range now n there.shaped fault) there.over

  over-left : EndsThere o now n → final_from o now n ≡ now
  over-left there =
      ⊎_elim (λ past. final_from-past o now n past)
      (λ fault. final_from-faults o there.in_range now n there.shaped fault) there.over

  pub spent-ends : EndsThere o now n → EndsAs (trace_from o s n) end.Spent
  spent-ends there =
      so_far.ends end.Spent
      (subst (λ es. EndsAs es end.Spent) (sym (over-shown there)) (λ at halts. omega (arith, halts.1)))

  pub spent-cycles : EndsThere o now n → total costs.cycles.items ≡ end_cycle end.Spent (final_from o s n)
  spent-cycles there =
      so_far.cycles.all ∙ so_far.elapsed ∙ ap (λ (u : State). u.cycle) (sym (so_far.final ∙ over-left there))

  pub spent-accesses : EndsThere o now n → total costs.accesses.items ≡ accesses_of (trace_from o s n)
  spent-accesses there =
      let none : accesses_of (trace_from o now n) ≡ 0 = ap accesses_of (over-shown there) in
      so_far.accesses.all ∙ omega (arith, so_far.shown, none)

  halt-shown : (at : ℕ) → StopsOnce o now n at → trace_from o now n ≡ stamped at (Some Halted)
  halt-shown at stops =
      trace_from-stops o stops.in_range now stops.last n stops.shaped stops.stops stops.in_time
      ∙ ap (λ k. stamped k (Some Halted)) (halts-at_once o now stops.last stops.stops ∙ stops.at_is)

  pub halt-ends : (at : ℕ) → StopsOnce o now n at → EndsAs (trace_from o s n) (end.Halted at)
  halt-ends at stops =
      so_far.ends (end.Halted at)
      (subst (λ es. EndsAs es (end.Halted at)) (sym (halt-shown at stops))
      ((0, omega arith, refl), λ other. stamped-halt at other))

  pub halt-accesses : (at : ℕ) → StopsOnce o now n at
      → total costs.accesses.items ≡ accesses_of (trace_from o s n)
  halt-accesses at stops =
      let none : accesses_of (trace_from o now n) ≡ 0 = ap accesses_of (halt-shown at stops) in
      so_far.accesses.all ∙ omega (arith, so_far.shown, none)
