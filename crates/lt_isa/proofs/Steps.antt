-- One step by the instruction at the state's place, what is true after every step, and when a step starts and ends.
use Rattle.std.proofs.Common.{◌≡◌, ℕ, ◌+◌, ◌≤◌, Bool, true, false, cond, ℤ, List, length, Option, Some, None, refl, sym, ap, ◌∙◌, subst, ⊎_elim, arith}
use Rattle.std.proofs.lemmas.Bool.{cases_lt}
use Rattle.std.proofs.lemmas.List.{get_or_past}
use Rattle.std.specs.Prelude.{slice_get}
use Rattle.std.proofs.lemmas.Option.{slice_get_within, get_or_from_slice_get}
use Rattle.gr_word.specs.Prelude.{compared}
use Rattle.lt_isa.specs.declared.profiles.Profile.{Profile}
use Rattle.lt_isa.specs.declared.instructions.Instr.{Instr}
use Rattle.lt_isa.specs.declared.instructions.Instr.TheVariants.{Nop, Halt, Li, Alu, Ldb, Stb, Idb, Ldw, Stw, Jmp, Br}
use Rattle.lt_isa.specs.Prelude.{Parts, IsInRange, InstrFits, ProfileFits, State, Observed, Slot, Unbound, Bound, slot, register, greatest_cost, StepResult, Goes, Stops, Faults, start_of, with_bound, executed, executed_if, step, start_if, step_start, IsShaped, SlotFits, IsBound, most_wait}
use Rattle.lt_isa.proofs.Windows.{access_start-least, access_start-most}
use Rattle.lt_isa.proofs.Cycles.{cost-least, latency-greatest}

-- a step at a place of the code executes the instruction there
pub step-at : (o : Parts) (s : State) (i : Instr) → slice_get o.code s.place ≡ Some i → step o s ≡ executed o s i
unfolding step
step-at o s i at = ap (executed_if o s) at

-- a step outside the code is a fault
pub step-outside : (o : Parts) (s : State) → slice_get o.code s.place ≡ None → step o s ≡ Faults
unfolding step
step-outside o s at = ap (executed_if o s) at

-- a step at a place of the code starts when its instruction does
pub step_start-at : (o : Parts) (s : State) (i : Instr) → slice_get o.code s.place ≡ Some i
    → step_start o s ≡ start_of o.profile i s.cycle
unfolding step_start
step_start-at o s i at = ap (start_if o s.cycle) at

-- a step outside the code starts at once
pub step_start-outside : (o : Parts) (s : State) → slice_get o.code s.place ≡ None → step_start o s ≡ s.cycle
unfolding step_start
step_start-outside o s at = ap (start_if o s.cycle) at

-- the start depends only on the place and the cycle
pub step_start-same : (o : Parts) (s t : State) → s.place ≡ t.place → s.cycle ≡ t.cycle
    → step_start o s ≡ step_start o t
unfolding step_start
step_start-same o s t place cycle =
    ap (λ c. start_if o c (slice_get o.code s.place)) cycle ∙ ap (λ p. start_if o t.cycle (slice_get o.code p)) place

-- no instruction starts before the machine reaches it, nor after the longest wait of an access
pub start_of-least : (profile : Profile) (i : Instr) (cycle : ℕ) → cycle ≤ start_of profile i cycle
start_of-least profile (Ldb k b r) cycle = access_start-least profile cycle
start_of-least profile (Stb k) cycle = access_start-least profile cycle
start_of-least profile i cycle = omega arith

pub start_of-most : (profile : Profile) → ProfileFits profile → (i : Instr) (cycle : ℕ)
    → start_of profile i cycle ≤ cycle + most_wait profile
start_of-most profile fits (Ldb k b r) cycle = access_start-most profile fits cycle
start_of-most profile fits (Stb k) cycle = access_start-most profile fits cycle
start_of-most profile fits i cycle = omega arith

-- a step never begins before its cycle
pub step_start-least : (o : Parts) (s : State) → s.cycle ≤ step_start o s
unfolding step_start
step_start-least o s =
    elim (slice_get o.code s.place) as (λ found. s.cycle ≤ start_if o s.cycle found) [
      | None ↦ omega arith
      | Some i ↦ start_of-least o.profile i s.cycle
    ]

-- a step waits no longer than the profile allows
pub step_start-most : (o : Parts) → ProfileFits o.profile → (s : State) → step_start o s ≤ s.cycle + most_wait o.profile
unfolding step_start
step_start-most o fits s =
    elim (slice_get o.code s.place) as (λ found. start_if o s.cycle found ≤ s.cycle + most_wait o.profile) [
      | None ↦ omega arith
      | Some i ↦ start_of-most o.profile fits i s.cycle
    ]

-- a property of the event and the next state if a step leads to one, and of the last state if the step stops
abbrev pub OnStepResult : (Option Observed → State → Type 0) → (State → Type 0) → StepResult → Type 0
OnStepResult Going Stopping (Goes event next) = Going event next
OnStepResult Going Stopping (Stops last) = Stopping last
OnStepResult Going Stopping Faults = Unit {0}

-- what holds of all outcomes holds of the event and the next state
pub on_goes : (Going : Option Observed → State → Type 0) (Stopping : State → Type 0) (outcome : StepResult)
    (event : Option Observed) (next : State)
    → OnStepResult Going Stopping outcome → outcome ≡ Goes event next → Going event next
on_goes Going Stopping outcome event next holds is = subst (OnStepResult Going Stopping) is holds

-- what holds of all outcomes holds of the last state
pub on_stops : (Going : Option Observed → State → Type 0) (Stopping : State → Type 0) (outcome : StepResult)
    (last : State)
    → OnStepResult Going Stopping outcome → outcome ≡ Stops last → Stopping last
on_stops Going Stopping outcome last holds is = subst (OnStepResult Going Stopping) is holds

-- a property holds of a step if it holds of the instruction at the place
pub on_step : (Going : Option Observed → State → Type 0) (Stopping : State → Type 0) (o : Parts) (s : State)
    → ((i : Instr) → slice_get o.code s.place ≡ Some i → OnStepResult Going Stopping (executed o s i))
    → OnStepResult Going Stopping (step o s)
unfolding step
on_step Going Stopping o s each = on_found (slice_get o.code s.place) each
  where
    on_found : (found : Option Instr) → ((i : Instr) → found ≡ Some i → OnStepResult Going Stopping (executed o s i))
        → OnStepResult Going Stopping (executed_if o s found)
    on_found None each = tt
    on_found (Some i) each = each i refl

-- a property holds of an action on a slot if it holds for each block to which the slot may be bound
pub on_bound : (Going : Option Observed → State → Type 0) (Stopping : State → Type 0) (found : Slot)
    (act : ℕ → ℕ → List ℤ → StepResult)
    → ((b a : ℕ) (words : List ℤ) → found ≡ Bound b a words → OnStepResult Going Stopping (act b a words))
    → OnStepResult Going Stopping (with_bound found act)
on_bound Going Stopping Unbound act each = tt
on_bound Going Stopping (Bound b a words) act each = each b a words refl

-- a property holds of a choice if it holds of both outcomes
pub on_choice : (Going : Option Observed → State → Type 0) (Stopping : State → Type 0) (b : Bool)
    (first second : StepResult) → OnStepResult Going Stopping first → OnStepResult Going Stopping second
    → OnStepResult Going Stopping (cond b first second)
on_choice Going Stopping true first second one two = one
on_choice Going Stopping false first second one two = two

-- the instruction at a place is in its ranges
pub instruction-fits : (o : Parts) → IsInRange o → (p : ℕ) (i : Instr) → slice_get o.code p ≡ Some i
    → InstrFits (length o.banks) i
instruction-fits o fits p i at =
    subst (InstrFits (length o.banks)) (get_or_from_slice_get o.code p i i at)
    (fits.code p i (slice_get_within o.code p i at))

-- the slot of a state fits the object
pub slot-fits : (o : Parts) (s : State) → IsShaped o s → (k : ℕ) → SlotFits o (slot s k)
slot-fits o s shaped k =
    ⊎_elim
    (λ within. shaped.slots k Unbound within)
    (λ past. subst (SlotFits o) (sym (get_or_past s.slots k Unbound past)) tt)
    (cases_lt k (length s.slots))

-- the block that a slot holds is a block of its bank
pub bound-fits : (o : Parts) (s : State) → IsShaped o s → (k b a : ℕ) (words : List ℤ) → slot s k ≡ Bound b a words
    → IsBound o b a words
bound-fits o s shaped k b a words bound = subst (SlotFits o) bound (slot-fits o s shaped k)

-- the cycle of a state is after the start of a step
abbrev pub IsLater : ℕ → State → Type 0
IsLater start t = start + 1 ≤ t.cycle

-- every instruction ends at least one cycle after its start
pub executed-later : (o : Parts) → IsInRange o → (s : State) → IsShaped o s → (i : Instr) → InstrFits (length o.banks) i
    → OnStepResult (λ event t. IsLater (start_of o.profile i s.cycle) t)
    (IsLater (start_of o.profile i s.cycle)) (executed o s i)
executed-later o fits s shaped (Alu op rd ra rb) operands =
    omega (arith, cost-least o fits (Alu op rd ra rb) false 0 (omega (arith, fits.bank_count)))
executed-later o fits s shaped (Ldb k b r) operands =
    omega (arith, cost-least o fits (Ldb k b r) false b operands.1)
executed-later o fits s shaped (Stb k) operands =
    on_bound _ _ (slot s k) _ (λ b a words bound.
    omega (arith, cost-least o fits (Stb k) false b (bound-fits o s shaped k b a words bound).bank_exists))
executed-later o fits s shaped (Idb rd k) operands = on_bound _ _ (slot s k) _ (λ b a words bound. omega arith)
executed-later o fits s shaped (Ldw rd k ro) operands =
    on_bound _ _ (slot s k) _ (λ b a words bound. omega (arith, fits.profile.word))
executed-later o fits s shaped (Stw rs k ro) operands =
    on_bound _ _ (slot s k) _ (λ b a words bound. omega (arith, fits.profile.word))
executed-later o fits s shaped (Jmp offset) operands = omega (arith, fits.profile.taken)
executed-later o fits s shaped (Br cmp ra rb offset) operands =
    on_choice _ _ (compared cmp (register s ra) (register s rb)) _ _ (omega (arith, fits.profile.taken)) (omega arith)
executed-later o fits s shaped other operands = omega arith

step-later_both : (o : Parts) → IsInRange o → (s : State) → IsShaped o s
    → OnStepResult (λ event t. IsLater (step_start o s) t) (IsLater (step_start o s)) (step o s)
step-later_both o fits s shaped =
    on_step _ _ o s (λ i at.
    subst
    (λ n. OnStepResult (λ event t. IsLater n t) (IsLater n) (executed o s i))
    (sym (step_start-at o s i at))
    (executed-later o fits s shaped i (instruction-fits o fits s.place i at)))

-- a step ends at least one cycle after its start
pub step-later : (o : Parts) → IsInRange o → (s : State) → IsShaped o s → (event : Option Observed) (t : State)
    → step o s ≡ Goes event t → step_start o s + 1 ≤ t.cycle
step-later o fits s shaped event t goes = on_goes _ _ (step o s) event t (step-later_both o fits s shaped) goes

-- the cycle of a state is at most `end`
abbrev IsBy : ℕ → State → Type 0
IsBy end t = t.cycle ≤ end

executed-by : (o : Parts) → IsInRange o → (s : State) → IsShaped o s → (i : Instr)
    → OnStepResult (λ event t. IsBy (s.cycle + greatest_cost o i) t) (IsBy (s.cycle + greatest_cost o i))
    (executed o s i)
executed-by o fits s shaped (Ldb k b r) = omega (arith, access_start-most o.profile fits.profile s.cycle)
executed-by o fits s shaped (Stb k) =
    on_bound _ _ (slot s k) _ (λ b a words bound.
    omega (
      arith,
      access_start-most o.profile fits.profile s.cycle,
      latency-greatest o b (bound-fits o s shaped k b a words bound).bank_exists,
    ))
executed-by o fits s shaped (Idb rd k) = on_bound _ _ (slot s k) _ (λ b a words bound. omega arith)
executed-by o fits s shaped (Ldw rd k ro) = on_bound _ _ (slot s k) _ (λ b a words bound. omega arith)
executed-by o fits s shaped (Stw rs k ro) = on_bound _ _ (slot s k) _ (λ b a words bound. omega arith)
executed-by o fits s shaped (Br cmp ra rb offset) =
    on_choice _ _ (compared cmp (register s ra) (register s rb)) _ _ (omega arith) (omega (arith, fits.profile.taken))
executed-by o fits s shaped other = omega arith

-- a step takes no more cycles than its instruction's greatest cost, which includes the wait
pub step-by : (o : Parts) → IsInRange o → (s : State) → IsShaped o s → (i : Instr) → slice_get o.code s.place ≡ Some i
    → (event : Option Observed) (t : State) → step o s ≡ Goes event t → t.cycle ≤ s.cycle + greatest_cost o i
step-by o fits s shaped i at event t goes =
    on_goes _ _ (executed o s i) event t (executed-by o fits s shaped i) (sym (step-at o s i at) ∙ goes)
