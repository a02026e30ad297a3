-- The event of a step shows the access that the step makes.
use Rattle.std.proofs.Common.{◌≡◌, ℕ, ◌≤◌, zero, suc, Bool, true, false, cond, ℤ, List, Option, Some, None, refl, sym, ap, ◌∙◌, subst, arith}
use Rattle.std.proofs.lemmas.Bool.{ne_eqb}
use Rattle.std.specs.Prelude.{slice_get}
use Rattle.gr_word.specs.Prelude.{compared}
use Rattle.lt_isa.specs.declared.instructions.Instr.{Instr}
use Rattle.lt_isa.specs.declared.instructions.Instr.TheVariants.{Nop, Halt, Li, Alu, Ldb, Stb, Idb, Ldw, Stw, Jmp, Br}
use Rattle.lt_isa.specs.Prelude.{Parts, is_eram, is_ram, State, Slot, Unbound, Bound, Observed, RamRead, RamWrite, EncRead, EncWrite, Oram, Halted, slot, register, write_event, StepResult, Goes, Stops, Faults, executed, executed_if, step, with_bound}
use Rattle.banks.specs.Prelude.{Access, ShowsAccess, ShowsItsAccess, access_on, accessed, accessed_by, accessed_if, oblivious}

-- the event of an access to a block of a bank, by the kind of the bank
shows_access : (plain sealed : Observed) (b a : ℕ)
    → ((access : Access) → access.bank ≡ 0 → access.block ≡ a → ShowsAccess plain access)
    → ((access : Access) → access.bank ≡ 1 → access.block ≡ a → ShowsAccess sealed access)
    → ShowsAccess (cond (is_ram b) plain (cond (is_eram b) sealed (Oram b))) (record { bank = b; block = a })
shows_access plain sealed zero a ram eram = ram (record { bank = 0; block = a }) refl refl
shows_access plain sealed (suc zero) a ram eram = eram (record { bank = 1; block = a }) refl refl
shows_access plain sealed (suc (suc i)) a ram eram =
    subst (λ event. ShowsAccess event (record { bank = suc (suc i); block = a }))
    (sym (ap (λ c. cond c plain (cond (is_eram (suc (suc i))) sealed (Oram (suc (suc i)))))
    (ne_eqb (suc (suc i)) 0 (λ is. omega arith))
    ∙ ap (λ c. cond c sealed (Oram (suc (suc i)))) (ne_eqb (suc (suc i)) 1 (λ is. omega arith))))
    (refl, omega arith)

-- an instruction that only uses the slot's block makes no access
quiet : (held : Slot) (next : ℕ → ℕ → List ℤ → State)
    → ShowsItsAccess (with_bound held (λ b a words. Goes None (next b a words))) None
quiet Unbound next = refl
quiet (Bound b a words) next = refl

stored : (held : Slot) (next : ℕ → ℕ → List ℤ → State)
    → ShowsItsAccess (with_bound held (λ b a words. Goes (Some (write_event b a words)) (next b a words)))
    (access_on held)
stored Unbound next = refl
stored (Bound b a words) next = (
  record { bank = b; block = a },
  refl,
  shows_access (RamWrite a words) (EncWrite a) b a (λ access bank block. (bank, block))
      (λ access bank block. (bank, block)),
)

either : (holds : Bool) (one two : State) → ShowsItsAccess (cond holds (Goes None one) (Goes None two)) None
either true one two = refl
either false one two = refl

executed_shows : (o : Parts) (s : State) (i : Instr) → ShowsItsAccess (executed o s i) (accessed_by o s i)
executed_shows o s (Ldb k b r) = (
  _,
  refl,
  shows_access (RamRead _ _) (EncRead _) b _ (λ access bank block. (bank, block))
      (λ access bank block. (bank, block)),
)
executed_shows o s (Stb k) = stored (slot s k) _
executed_shows o s (Idb rd k) = quiet (slot s k) _
executed_shows o s (Ldw rd k ro) = quiet (slot s k) _
executed_shows o s (Stw rs k ro) = quiet (slot s k) _
executed_shows o s (Br cmp ra rb offset) = either (compared cmp (register s ra) (register s rb)) _ _
executed_shows o s other = refl

-- the event of a step shows the step's access
pub shows_its_access : (o : Parts) (s : State) → ShowsItsAccess (step o s) (accessed o s)
unfolding step accessed
shows_its_access o s = found (slice_get o.code s.place)
  where
    found : (i : Option Instr) → ShowsItsAccess (executed_if o s i) (accessed_if o s i)
    found None = refl
    found (Some i) = executed_shows o s i

-- the oblivious bank that an event accesses, if there is an event and it accesses one
abbrev pub told_bank : Option Observed → Option ℕ
told_bank None = None
told_bank (Some event) = oblivious event

-- a bank, if it is oblivious
abbrev pub if_oblivious : ℕ → Option ℕ
if_oblivious zero = None
if_oblivious (suc zero) = None
if_oblivious (suc (suc i)) = Some (suc (suc i))

-- the oblivious bank of an access
abbrev pub made_bank : Option Access → Option ℕ
made_bank None = None
made_bank (Some access) = if_oblivious access.bank

-- the event of an outcome
abbrev pub event_of_outcome : StepResult → Option Observed
event_of_outcome (Goes event t) = event
event_of_outcome (Stops t) = Some Halted
event_of_outcome Faults = None

-- if an event shows an access to an oblivious bank, it names the bank
bank_shown : (event : Observed) (access : Access)
    → ShowsAccess event access → oblivious event ≡ if_oblivious access.bank
bank_shown (Oram bank) access shows = sym (ap if_oblivious shows.0 ∙ itself bank shows.1)
  where
    itself : (b : ℕ) → 2 ≤ b → if_oblivious b ≡ Some b
    itself zero two = absurd (omega arith)
    itself (suc zero) two = absurd (omega arith)
    itself (suc (suc i)) two = refl
bank_shown Halted access shows = absurd shows
bank_shown other access shows = sym (ap if_oblivious shows.0)

outcome_bank : (outcome : StepResult) (made : Option Access)
    → ShowsItsAccess outcome made → told_bank (event_of_outcome outcome) ≡ made_bank made
outcome_bank (Goes None t) made shows = sym (ap made_bank shows)
outcome_bank (Goes (Some event) t) made shows =
    bank_shown event shows.0 shows.2 ∙ sym (ap made_bank shows.1)
outcome_bank (Stops t) made shows = sym (ap made_bank shows)
outcome_bank Faults made shows = sym (ap made_bank shows)

-- the oblivious bank that a step's event names is the one that the step accesses
pub step-bank : (o : Parts) (s : State) → told_bank (event_of_outcome (step o s)) ≡ made_bank (accessed o s)
step-bank o s = outcome_bank (step o s) (accessed o s) (shows_its_access o s)
