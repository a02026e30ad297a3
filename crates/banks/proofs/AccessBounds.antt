-- The accesses of a run: only to existing blocks, and as many to an oblivious bank as its trace shows.
use Rattle.std.proofs.Common.{◌≡◌, ◌≢◌, ℕ, zero, suc, ◌+◌, ◌<◌, ◌≤◌, Bool, true, false, cond, ltb, List, [], ◌∷◌, ◌++◌, length, All, Option, Some, None, refl, sym, ap, ◌∙◌, subst, ⊎_elim, arith}
use Rattle.std.proofs.lemmas.Bool.{cases_eq, eq-eqb, ne_eqb}
use Rattle.std.proofs.lemmas.List.{length-append}
use Rattle.std.proofs.lemmas.List.Elements.{All-append, All-cons, All-nil}
use Rattle.std.specs.Prelude.{◌==◌, slice_get}
use Rattle.lt_isa.specs.declared.instructions.Instr.{Instr}
use Rattle.lt_isa.specs.declared.instructions.Instr.TheVariants.{Nop, Halt, Li, Alu, Ldb, Stb, Idb, Ldw, Stw, Jmp, Br}
use Rattle.lt_isa.specs.Prelude.{Parts, blocks_of, IsInRange, InstrFits, State, Slot, Unbound, Bound, Observed, slot, register, IsShaped, StepResult, Goes, Stops, Faults, step, step_start, Stamped, stamped, shown_then, trace_from, trace_within}
use Rattle.lt_isa.proofs.Shapes.{block_named-below, step-shaped}
use Rattle.lt_isa.proofs.Steps.{bound-fits, instruction-fits}
use Rattle.banks.specs.Prelude.{Access, access_on, accessed, accessed_by, accessed_if, accessed_then, accesses_from, accesses_within, in_bank, at_most_one, if_it_is, accesses_shown}
use Rattle.banks.proofs.InBank.{in_bank-append}
use Rattle.banks.proofs.ShownAccesses.{event_of_outcome, if_oblivious, made_bank, step-bank, told_bank}

accesses_shown-append : (b : ℕ) (xs ys : List Stamped)
    → accesses_shown b (xs ++ ys) ≡ accesses_shown b xs + accesses_shown b ys
accesses_shown-append b [] ys = omega arith
accesses_shown-append b (x ∷ xs) ys = let more = accesses_shown-append b xs ys in omega (arith, more)

-- a step makes one access to oblivious bank b if that is the bank that it accesses, and otherwise none
one_made : (b : ℕ) → 2 ≤ b → (made : Option Access) → length (in_bank b (at_most_one made))
    ≡ if_it_is b (made_bank made)
one_made b two None = refl
one_made b two (Some access) =
    ⊎_elim
    (λ is.
    let this : length (cond (b == access.bank) (access.block ∷ []) []) ≡ 1 =
    ap (λ same. length (cond same (access.block ∷ []) [])) (eq-eqb b access.bank is) in
    this ∙ sym (it_is access.bank is))
    (λ other.
    let none : length (cond (b == access.bank) (access.block ∷ []) []) ≡ 0 =
    ap (λ same. length (cond same (access.block ∷ []) [])) (ne_eqb b access.bank other) in
    none ∙ sym (it_is_not access.bank other))
    (cases_eq b access.bank)
  where
    it_is : (bank : ℕ) → b ≡ bank → if_it_is b (if_oblivious bank) ≡ 1
    it_is zero is = absurd (omega arith)
    it_is (suc zero) is = absurd (omega arith)
    it_is (suc (suc i)) is = ap (λ same. cond same 1 0) (eq-eqb b (suc (suc i)) is)

    it_is_not : (bank : ℕ) → b ≢ bank → if_it_is b (if_oblivious bank) ≡ 0
    it_is_not zero other = refl
    it_is_not (suc zero) other = refl
    it_is_not (suc (suc i)) other = ap (λ same. cond same 1 0) (ne_eqb b (suc (suc i)) other)

one_shown : (b start : ℕ) (event : Option Observed)
    → accesses_shown b (stamped start event) ≡ if_it_is b (told_bank event)
one_shown b start None = refl
one_shown b start (Some event) = omega arith

step_counts : (b : ℕ) → 2 ≤ b
    → (start : ℕ) (made : Option Access) (outcome : StepResult) (shown : State → List Stamped)
    (rest : State → List Access)
    → told_bank (event_of_outcome outcome) ≡ made_bank made
    → ((t : State) → accesses_shown b (shown t) ≡ length (in_bank b (rest t)))
    → accesses_shown b (shown_then start outcome shown)
    ≡ length (in_bank b (at_most_one made ++ accessed_then outcome rest))
step_counts b two start made (Goes event t) shown rest same later =
    let here : if_it_is b (told_bank event) ≡ if_it_is b (made_bank made) = ap (if_it_is b) same in
    let parts = accesses_shown-append b (stamped start event) (shown t) in
    let blocks = ap length (in_bank-append b (at_most_one made) (rest t)) in
    omega (
      arith,
      here,
      parts,
      blocks,
      one_shown b start event,
      one_made b two made,
      later t,
      length-append (in_bank b (at_most_one made)) (in_bank b (rest t)),
    )
step_counts b two start made (Stops t) shown rest same later =
    let here : 0 ≡ if_it_is b (made_bank made) = ap (if_it_is b) same in
    let blocks = ap length (in_bank-append b (at_most_one made) []) in
    omega (arith, here, blocks, one_made b two made, length-append (in_bank b (at_most_one made)) [])
step_counts b two start made Faults shown rest same later =
    let here : 0 ≡ if_it_is b (made_bank made) = ap (if_it_is b) same in
    let blocks = ap length (in_bank-append b (at_most_one made) []) in
    omega (arith, here, blocks, one_made b two made, length-append (in_bank b (at_most_one made)) [])

if_counts : (b : ℕ) (less : Bool) (events : List Stamped) (accesses : List Access)
    → accesses_shown b events ≡ length (in_bank b accesses)
    → accesses_shown b (cond less events []) ≡ length (in_bank b (cond less accesses []))
if_counts b true events accesses same = same
if_counts b false events accesses same = refl

within_counts : (b : ℕ) → 2 ≤ b → (k : ℕ) (o : Parts) (s : State) (n : ℕ)
    → accesses_shown b (trace_within k o s n) ≡ length (in_bank b (accesses_within k o s n))
unfolding trace_within accesses_within
within_counts b two zero o s n = refl
within_counts b two (suc k) o s n =
    if_counts b (ltb (step_start o s) n) _ _
    (step_counts b two (step_start o s) (accessed o s) (step o s) (λ t. trace_within k o t n)
    (λ t. accesses_within k o t n) (step-bank o s) (λ t. within_counts b two k o t n))

-- a trace shows as many accesses to an oblivious bank as are made to it
pub accesses-counted : (b : ℕ) → 2 ≤ b → (o : Parts) (s : State) (n : ℕ)
    → accesses_shown b (trace_from o s n) ≡ length (in_bank b (accesses_from o s n))
unfolding trace_from accesses_from
accesses-counted b two o s n = within_counts b two n o s n

-- an access to an existing block of the object
abbrev pub AccessFits : Parts → Access → Type 0
AccessFits o access = (access.bank < length o.banks) × (access.block < blocks_of o access.bank)

abbrev pub OptionFits : Parts → Option Access → Type 0
OptionFits o None = Unit {0}
OptionFits o (Some access) = AccessFits o access

on_slot_fits : (o : Parts) (s : State)
    → IsShaped o s → (k : ℕ) (held : Slot) → slot s k ≡ held → OptionFits o (access_on held)
on_slot_fits o s shaped k Unbound is = tt
on_slot_fits o s shaped k (Bound b a words) is =
    let was = bound-fits o s shaped k b a words is in (was.bank_exists, was.block_exists)

accessed_by-fits : (o : Parts) → IsInRange o → (s : State) → IsShaped o s → (i : Instr) → InstrFits (length o.banks) i
    → OptionFits o (accessed_by o s i)
accessed_by-fits o range s shaped (Ldb k b r) fits = (fits.1, block_named-below o range b fits.1 (register s r))
accessed_by-fits o range s shaped (Stb k) fits = on_slot_fits o s shaped k (slot s k) refl
accessed_by-fits o range s shaped other fits = tt

accessed-fits : (o : Parts) → IsInRange o → (s : State) → IsShaped o s → OptionFits o (accessed o s)
unfolding accessed
accessed-fits o range s shaped = found (slice_get o.code s.place) refl
  where
    found : (i : Option Instr) → slice_get o.code s.place ≡ i → OptionFits o (accessed_if o s i)
    found None is = tt
    found (Some i) is = accessed_by-fits o range s shaped i (instruction-fits o range s.place i is)

listed_fits : (o : Parts) (made : Option Access) → OptionFits o made → All (AccessFits o) (at_most_one made)
listed_fits o None fits = All-nil (AccessFits o)
listed_fits o (Some access) fits = All-cons (AccessFits o) access [] fits (All-nil (AccessFits o))

then_fits : (o : Parts) (outcome : StepResult) (rest : State → List Access)
    → ((event : Option Observed) (t : State) → outcome ≡ Goes event t → All (AccessFits o) (rest t))
    → All (AccessFits o) (accessed_then outcome rest)
then_fits o (Goes event t) rest later = later event t refl
then_fits o (Stops t) rest later = All-nil (AccessFits o)
then_fits o Faults rest later = All-nil (AccessFits o)

if_fits : (o : Parts) (less : Bool) (accesses : List Access)
    → All (AccessFits o) accesses → All (AccessFits o) (cond less accesses [])
if_fits o true accesses fits = fits
if_fits o false accesses fits = All-nil (AccessFits o)

within_fits : (o : Parts)
    → IsInRange o → (k : ℕ) (s : State) (n : ℕ) → IsShaped o s → All (AccessFits o) (accesses_within k o s n)
unfolding accesses_within
within_fits o range zero s n shaped = All-nil (AccessFits o)
within_fits o range (suc k) s n shaped =
    if_fits o (ltb (step_start o s) n) _
    (All-append (AccessFits o) (at_most_one (accessed o s)) (accessed_then (step o s) (λ t. accesses_within k o t n))
    (listed_fits o (accessed o s) (accessed-fits o range s shaped))
    (then_fits o (step o s) (λ t. accesses_within k o t n)
    (λ event t goes. within_fits o range k t n (step-shaped o range s shaped event t goes))))

-- a run accesses only existing blocks
pub accesses-fit : (o : Parts)
    → IsInRange o → (s : State) (n : ℕ) → IsShaped o s → All (AccessFits o) (accesses_from o s n)
unfolding accesses_from
accesses-fit o range s n shaped = within_fits o range n s n shaped

in_bank-fits : (o : Parts) (b : ℕ) (accesses : List Access)
    → All (AccessFits o) accesses → All (λ a. a < blocks_of o b) (in_bank b accesses)
in_bank-fits o b [] fits = All-nil (λ a. a < blocks_of o b)
in_bank-fits o b (access ∷ accesses) fits =
    let here : AccessFits o access = fits 0 access (omega arith) in
    let later : All (λ a. a < blocks_of o b) (in_bank b accesses) =
    in_bank-fits o b accesses (λ k d within. fits (suc k) d (omega (arith, within))) in
    ⊎_elim
    (λ is.
    let below : access.block < blocks_of o b = subst (λ n. access.block < blocks_of o n) (sym is) here.1 in
    subst (λ same. All (λ a. a < blocks_of o b) (cond same (access.block ∷ in_bank b accesses) (in_bank b accesses)))
    (sym (eq-eqb b access.bank is))
    (All-cons (λ a. a < blocks_of o b) access.block (in_bank b accesses) below later))
    (λ other.
    subst (λ same. All (λ a. a < blocks_of o b) (cond same (access.block ∷ in_bank b accesses) (in_bank b accesses)))
    (sym (ne_eqb b access.bank other)) later)
    (cases_eq b access.bank)

-- a run accesses only existing blocks of bank b
pub blocks-exist : (o : Parts) → IsInRange o → (s : State) (n : ℕ) → IsShaped o s → (b : ℕ)
    → All (λ a. a < blocks_of o b) (in_bank b (accesses_from o s n))
blocks-exist o range s n shaped b = in_bank-fits o b (accesses_from o s n) (accesses-fit o range s n shaped)
