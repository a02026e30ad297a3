-- From pair to pair of a bus.
use Rattle.std.proofs.Common.{◌≡◌, ℕ, zero, suc, ◌+◌, ◌<◌, ◌≤◌, ℤ, List, [], ◌∷◌, ◌++◌, drop, get_or, length, map, Option, Some, None, refl, sym, ap, ◌∙◌, subst, ◌⊎◌, inl, inr, ⊎_elim, arith}
use Rattle.std.proofs.lemmas.List.{drop_all}
use Rattle.lt_isa.specs.Prelude.{Parts, IsInRange, FitsObject}
use Rattle.bus_arbiter.specs.Prelude.{AllFit, refusal, IsPlan, PlanRefuses, PlanTakes, share_of}
use Rattle.bus_arbiter.specs.declared.errors.BusError.{BusError}
use Rattle.bus_arbiter.specs.declared.shares.Share.{Share}
use Rattle.bus_arbiter.proofs.Refusals.{refuses, takes}
use Rattle.bus_arbiter.proofs.ShareRanges.{share-fits}
use Rattle.call_replies.specs.declared.replies.Verdict.TheVariants.{OffBus}
use Rattle.command_words.specs.Prelude.{Pair}
use Rattle.machine_verbs.specs.Prelude.{Read, bus_said, bus_work, none_read, on_plan, one_read, shares_bus, with_core, with_cores, AreRead}
use Rattle.call_steps.specs.Prelude.{Finds, FindsNone, HasReached, HasStopped, Stage, with_accepted, with_inputs, Work}
use Rattle.call_replies.specs.Prelude.{Said, comes_to, no_memory}
use Rattle.call_steps.proofs.Reaching.{out-of-memory, then-reached, then-stopped, with-verdict}
use Rattle.bus_arbiter.specs.declared.errors.BusError.TheVariants as bus

-- ---- the plan's result is the computed one

pub refused-worked : (plan : List Share) (o : Parts) (cause : BusError) → IsPlan plan → IsInRange o
    → (cause ≡ bus.Memory) ⊎ PlanRefuses plan (share_of o) cause
    → (cause ≡ bus.Memory) ⊎ (refusal plan (share_of o) ≡ Some cause)
refused-worked plan o cause fits range why = elim why [
  | inl memory ↦ inl memory
  | inr is ↦ inr ((refuses plan (share_of o) fits.fits (share-fits o range) cause).1 is)
]

pub taken-worked : (plan : List Share) (o : Parts) → IsPlan plan → IsInRange o → PlanTakes plan (share_of o)
    → refusal plan (share_of o) ≡ None
taken-worked plan o fits range is = (takes plan (share_of o) fits.fits (share-fits o range)).1 is

-- ---- one pair

abbrev pub pair_of : List ℕ → List ℕ → Pair
pair_of object input = record { object = object; input = input }

module _ {object input : List ℕ} {pair : Pair} (named : pair_of object input ≡ pair) (read : Read) where
  -- the work on the pair's object
  abbrev on_object : (Read → Work) → Parts → Work
  on_object next o =
      on_plan (length read.plan) (refusal read.plan (share_of o))
      (with_inputs o input (λ d. next (one_read read o d)))

  -- its object isn't found
  pub core-unfound : {before after : Stage} {what : Said} → FindsNone before after (with_accepted object) what
      → FindsNone before after (with_core pair (length read.plan) read) what
  core-unfound {before} {after} {what} none next =
      subst (λ (p : Pair). HasStopped before after (with_core p (length read.plan) read next) what) named
      (none (on_object next))

  module _ {before between : Stage} {plan : List Share} (o : Parts)
      (found : Finds before between (with_accepted object) o) (same : plan ≡ read.plan) (is_plan : IsPlan plan)
      (range : IsInRange o) where
    -- what the plan says of it
    at-plan : (next : Read → Work) (refused : Option BusError) → refusal plan (share_of o) ≡ refused
        → HasReached before between (with_core pair (length read.plan) read next)
        (on_plan (length read.plan) refused (with_inputs o input (λ d. next (one_read read o d))))
    at-plan next refused is =
        subst (λ (e : Option BusError). HasReached before between (with_core pair (length read.plan) read next)
        (on_plan (length read.plan) e (with_inputs o input (λ d. next (one_read read o d)))))
        (ap (λ l. refusal l (share_of o)) (sym same) ∙ is)
        (subst (λ (p : Pair). HasReached before between (with_core p (length read.plan) read next) (on_object next o))
        named (found (on_object next)))

    refused-as : (cause : BusError) → (cause ≡ bus.Memory → ⊥)
        → (cause ≡ bus.Memory) ⊎ (refusal plan (share_of o) ≡ Some cause)
        → FindsNone before between (with_core pair (length read.plan) read) (comes_to (OffBus (length read.plan) cause))
    refused-as cause other why next =
        with-verdict (OffBus (length read.plan) cause)
        (at-plan next (Some cause) (⊎_elim (λ memory. absurd (other memory)) (λ is. is) why))

    starved : FindsNone before between (with_core pair (length read.plan) read) no_memory
    starved next = out-of-memory (at-plan next (refusal plan (share_of o)) refl) refl

    off : (cause : BusError) → (cause ≡ bus.Memory) ⊎ (refusal plan (share_of o) ≡ Some cause)
        → FindsNone before between (with_core pair (length read.plan) read) (bus_said (length read.plan) cause)
    off bus.NoWindow why = refused-as bus.NoWindow (λ e. cc) why
    off (bus.OtherPeriod period) why = refused-as (bus.OtherPeriod period) (λ e. cc) why
    off (bus.TooLong end) why = refused-as (bus.TooLong end) (λ e. cc) why
    off (bus.Overlap other) why = refused-as (bus.Overlap other) (λ e. cc) why
    off bus.Memory why = starved

    -- the plan refuses it, so this is printed
    pub core-off : {what : Said} (cause : BusError) {core : ℕ} → core ≡ length plan → what ≡ bus_said core cause
        → (cause ≡ bus.Memory) ⊎ PlanRefuses plan (share_of o) cause
        → FindsNone before between (with_core pair (length read.plan) read) what
    core-off {what} cause {core} at is why =
        subst (λ (s : Said). FindsNone before between (with_core pair (length read.plan) read) s)
        (sym (is ∙ ap (λ k. bus_said k cause) (at ∙ ap length same)))
        (off cause (refused-worked plan o cause is_plan range why))

    module _ (fits : PlanTakes plan (share_of o)) where
      core-taken : (next : Read → Work) → HasReached before between (with_core pair (length read.plan) read next)
          (with_inputs o input (λ d. next (one_read read o d)))
      core-taken next = at-plan next None (taken-worked plan o is_plan range fits)

      -- its inputs aren't found
      pub core-unread : {after : Stage} {what : Said} → FindsNone between after (with_inputs o input) what
          → FindsNone before after (with_core pair (length read.plan) read) what
      core-unread none next = then-stopped (core-taken next) (none (λ d. next (one_read read o d)))

      -- both were found
      pub core-found : {after : Stage} (d : List (List ℤ)) → Finds between after (with_inputs o input) d
          → {more : Read} → one_read read o d ≡ more
          → Finds before after (with_core pair (length read.plan) read) more
      core-found {after} d given {more} is next =
          subst (λ (r : Read). HasReached before after (with_core pair (length read.plan) read next) (next r)) is
          (then-reached (core-taken next) (given (λ d. next (one_read read o d))))

      -- memory runs out before they are kept
      pub core-unkept : {after : Stage} (d : List (List ℤ)) → Finds between after (with_inputs o input) d
          → FindsNone before after (with_core pair (length read.plan) read) no_memory
      core-unkept d given next = out-of-memory (core-found d given refl next) refl

-- ---- all pairs

pub next-pair : (pairs : List Pair) (i : ℕ) (d : Pair) → i < length pairs
    → drop i pairs ≡ get_or pairs i d ∷ drop (suc i) pairs
next-pair [] i d within = absurd (omega arith)
next-pair (p ∷ pairs) zero d within = refl
next-pair (p ∷ pairs) (suc i) d within = next-pair pairs i d (omega arith)

-- the work on some pairs has reached the remaining ones
abbrev pub HasRead : Stage → Stage → List Pair → ℕ → Read → Type 0
HasRead before now pairs i read = (next : Read → Work)
    → HasReached before now (with_cores pairs 0 none_read next) (with_cores (drop i pairs) i read next)

module _ {before now : Stage} (pairs : List Pair) (i : ℕ) (item : Pair) (within : i < length pairs)
    (read : Read) (has : HasRead before now pairs i read) (at : item ≡ get_or pairs i item)
    (count : length read.plan ≡ i) where
  at-pair : (next : Read → Work) → HasReached before now (with_cores pairs 0 none_read next)
      (with_core item (length read.plan) read (λ more. with_cores (drop (i + 1) pairs) (i + 1) more next))
  at-pair next =
      let one : suc i ≡ i + 1 = omega arith in
      subst (λ (p : Pair). HasReached before now (with_cores pairs 0 none_read next)
      (with_core p (length read.plan) read (λ more. with_cores (drop (i + 1) pairs) (i + 1) more next))) (sym at)
      (subst (λ k. HasReached before now (with_cores pairs 0 none_read next)
      (with_core (get_or pairs i item) k read (λ more. with_cores (drop (i + 1) pairs) (i + 1) more next))) (sym count)
      (subst (λ left. HasReached before now (with_cores pairs 0 none_read next) (with_cores left i read next))
      (next-pair pairs i item within ∙ ap (λ j. get_or pairs i item ∷ drop j pairs) one) (has next)))

  pub reads-next : {later : Stage} (more : Read) → Finds now later (with_core item (length read.plan) read) more
      → HasRead before later pairs (i + 1) more
  reads-next more found next =
      then-reached (at-pair next) (found (λ more. with_cores (drop (i + 1) pairs) (i + 1) more next))

  pub reads-stop : {later : Stage} {what : Said} → FindsNone now later (with_core item (length read.plan) read) what
      → FindsNone before later (with_cores pairs 0 none_read) what
  reads-stop none next = then-stopped (at-pair next) (none (λ more. with_cores (drop (i + 1) pairs) (i + 1) more next))

-- no pair is left
pub reads-last : {before now : Stage} (pairs : List Pair) (i : ℕ) (read : Read) → HasRead before now pairs i read
    → length pairs ≤ i → Finds before now (with_cores pairs 0 none_read) read
reads-last {before} {now} pairs i read has past next =
    subst (λ left. HasReached before now (with_cores pairs 0 none_read next) (with_cores left i read next))
    (drop_all i pairs past) (has next)

-- the pairs that words name were read, or weren't
module _ {before after : Stage} {slice pairs : List Pair} (cycles : ℕ) (is : slice ≡ pairs) where
  pub bus-reached : {read : Read} → Finds before after (with_cores slice 0 none_read) read
      → HasReached before after (bus_work pairs cycles) (shares_bus cycles read)
  bus-reached {read} found =
      subst (λ (l : List Pair). HasReached before after (bus_work l cycles) (shares_bus cycles read)) is
      (found (shares_bus cycles))

  pub bus-stopped : {what : Said} → FindsNone before after (with_cores slice 0 none_read) what
      → HasStopped before after (bus_work pairs cycles) what
  bus-stopped {what} none =
      subst (λ (l : List Pair). HasStopped before after (bus_work l cycles) what) is (none (shares_bus cycles))

-- ---- what is read

pub none-read : AreRead none_read
none-read = record { planned = refl; fit = tt }

fit-more : (os : List Parts) (ds : List (List (List ℤ))) (o : Parts) (d : List (List ℤ)) → AllFit os ds → IsInRange o
    → FitsObject o d → AllFit (os ++ o ∷ []) (ds ++ d ∷ [])
fit-more [] [] o d all range fits = (range, fits, tt)
fit-more [] (e ∷ ds) o d all range fits = absurd all
fit-more (p ∷ os) [] o d all range fits = absurd all
fit-more (p ∷ os) (e ∷ ds) o d all range fits = (all.0, all.1, fit-more os ds o d all.2 range fits)

plan-more : (os : List Parts) (o : Parts) → map share_of os ++ share_of o ∷ [] ≡ map share_of (os ++ o ∷ [])
plan-more [] o = refl
plan-more (p ∷ os) o = ap (λ (l : List Share). share_of p ∷ l) (plan-more os o)

pub one-read : (read : Read) (o : Parts) (d : List (List ℤ)) → AreRead read → IsInRange o → FitsObject o d
    → AreRead (one_read read o d)
one-read read o d are range fits = record {
  planned = ap (λ l. l ++ share_of o ∷ []) are.planned ∙ plan-more read.objects o;
  fit = fit-more read.objects read.inputs o d are.fit range fits;
}

-- what was read of one more pair, part by part
abbrev pub read_of : List Share → List Parts → List (List (List ℤ)) → Read
read_of plan objects inputs = record { plan = plan; objects = objects; inputs = inputs }

pub read-is : {read : Read} {plan more : List Share} {objects accepted : List Parts}
    {inputs given : List (List (List ℤ))} (o : Parts) (d : List (List ℤ)) → read_of plan objects inputs ≡ read
    → more ≡ plan ++ share_of o ∷ [] → accepted ≡ objects ++ o ∷ [] → given ≡ inputs ++ d ∷ []
    → one_read read o d ≡ read_of more accepted given
read-is {read} {plan} {more} {objects} {accepted} {inputs} {given} o d view planned pushed put =
    ap (λ (r : Read). one_read r o d) (sym view)
    ∙ ap (λ (l : List Share). read_of l (objects ++ o ∷ []) (inputs ++ d ∷ [])) (sym planned)
    ∙ ap (λ (l : List Parts). read_of more l (inputs ++ d ∷ [])) (sym pushed)
    ∙ ap (λ (l : List (List (List ℤ))). read_of more accepted l) (sym put)
