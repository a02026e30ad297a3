-- What `bus` says is the same for inputs that agree.
use Rattle.std.proofs.Common.{◌≡◌, ℕ, ℤ, List, [], ◌∷◌, Option, Some, None, refl, sym, ap, ap₂, ◌∙◌, subst, ⊎_elim}
use Rattle.std.proofs.lemmas.List.Elements.{Contains-append_cases}
use Rattle.lt_isa.specs.Prelude.{Halted, Parts, IsInRange, FitsObject, start_state, trace, step_start, HaltsAt, seen_at, stamped}
use Rattle.lt_isa.proofs.Ends.{HasHalted, halted-from_halt, reaches-no_halt, stamped-halt}
use Rattle.lt_isa.proofs.Starts.{IsShaped-start}
use Rattle.bus_arbiter.specs.Prelude.{AllFit, traces_on, IsJoined, Transfer}
use Rattle.bus_arbiter.proofs.JoinedLaws.{agreeing, one-list}
use Rattle.call_replies.specs.declared.replies.Verdict.TheVariants.{Shared}
use Rattle.machine_verbs.specs.Prelude.{all_halted, with_halts, AreHalts}
use Rattle.call_steps.specs.Prelude.{WhatIsJoined, HaltOf, bus_seen, Asks, Ending, Ends, Holds, IsVerdict, MayEnd, Work, said_at}
use Rattle.call_laws.specs.Prelude.{BusAgrees}
use Rattle.call_laws.proofs.Behind.{behind-it}

-- ---- a run has one halt at most

module _ (o : Parts) (range : IsInRange o) (d : List (List ℤ)) (fits : FitsObject o d) (n : ℕ) where
  halt-at : (at : ℕ) (halted : HasHalted o (start_state o d) n) → HaltsAt (trace o d n) at
      → at ≡ step_start o halted.last
  halt-at at halted halts =
      ⊎_elim
      (λ before. absurd (reaches-no_halt o (start_state o d) halted.before halted.last halted.reached at before))
      (λ last. stamped-halt (step_start o halted.last) at last)
      (Contains-append_cases halted.before (stamped (step_start o halted.last) (Some Halted)) (seen_at at Halted)
      (subst (λ es. HaltsAt es at) halted.shown halts))

  pub one-halt : (halt other : Option ℕ) → HaltOf (trace o d n) halt → HaltOf (trace o d n) other → halt ≡ other
  one-halt None None first second = refl
  one-halt None (Some at) first second = absurd (first at second)
  one-halt (Some at) None first second = absurd (second at first)
  one-halt (Some at) (Some other) first second =
      let halted = halted-from_halt o range (start_state o d) (IsShaped-start o d fits) n at first in
      ap Some (halt-at at halted first ∙ sym (halt-at other halted second))

same-halts : (os : List Parts) (ds : List (List (List ℤ))) (n : ℕ) → AllFit os ds → (halts others : List (Option ℕ))
    → AreHalts (traces_on os ds n) halts → AreHalts (traces_on os ds n) others → halts ≡ others
same-halts [] [] n all [] [] first second = refl
same-halts [] [] n all [] (g ∷ others) first second = absurd second
same-halts [] [] n all (h ∷ halts) others first second = absurd first
same-halts [] (d ∷ ds) n all halts others first second = absurd all
same-halts (o ∷ os) [] n all halts others first second = absurd all
same-halts (o ∷ os) (d ∷ ds) n all [] others first second = absurd first
same-halts (o ∷ os) (d ∷ ds) n all (h ∷ halts) [] first second = absurd second
same-halts (o ∷ os) (d ∷ ds) n all (h ∷ halts) (g ∷ others) first second =
    ap₂ (λ (x : Option ℕ) (l : List (Option ℕ)). x ∷ l) (one-halt o all.0 d all.1 n h g first.0 second.0)
    (same-halts os ds n all.2 halts others first.1 second.1)

-- ---- the work after the halts

record Halting (G : List ℕ → Option (List ℕ) → Type 0) (n : ℕ) (os : List Parts) (ds : List (List (List ℤ)))
    (next : List (Option ℕ) → Work) (ending : Ending) : Type 0 where
  halts : List (Option ℕ)
  are : AreHalts (traces_on os ds n) halts
  comes : MayEnd G (next halts) ending

halting : (G : List ℕ → Option (List ℕ) → Type 0) (n : ℕ) (os : List Parts) (ds : List (List (List ℤ)))
    (next : List (Option ℕ) → Work) (ending : Ending) → MayEnd G (with_halts n os ds next) ending
    → Halting G n os ds next ending
halting G n [] ds next ending comes = record { halts = []; are = tt; comes = comes }
halting G n (o ∷ os) [] next ending comes = record { halts = []; are = tt; comes = comes }
halting G n (o ∷ os) (d ∷ ds) next ending comes =
    let first = behind-it G (with_halts n (o ∷ os) (d ∷ ds) next) ending comes in
    let rest = halting G n os ds (λ more. next (first.0 ∷ more)) ending first.2 in
    record { halts = first.0 ∷ rest.halts; are = (first.1, rest.are); comes = rest.comes }

-- the work that is left once it is known when each run halts, and its ending
abbrev pub joins-on : ℕ → List Parts → List (List (List ℤ)) → List (Option ℕ) → Work
joins-on n os ds halts =
    Asks (WhatIsJoined os ds n) (λ joined. Ends (bus_seen joined halts) (Shared (all_halted halts)))

pub record Joining (n : ℕ) (os : List Parts) (ds : List (List (List ℤ))) (ending : Ending) : Type 0 where
  pub halts : List (Option ℕ)
  pub are : AreHalts (traces_on os ds n) halts
  pub joined : List Transfer
  pub joins : IsJoined (traces_on os ds n) joined
  pub is : ending ≡ IsVerdict (bus_seen joined halts) (Shared (all_halted halts))

pub joining : (G : List ℕ → Option (List ℕ) → Type 0) (n : ℕ) (os : List Parts) (ds : List (List (List ℤ)))
    (ending : Ending) → MayEnd G (with_halts n os ds (joins-on n os ds)) ending → Joining n os ds ending
joining G n os ds ending comes =
    let left = halting G n os ds (joins-on n os ds) ending comes in
    let asked = behind-it G (joins-on n os ds left.halts) ending left.comes in
    record {
      halts = left.halts;
      are = left.are;
      joined = asked.0;
      joins = asked.1;
      is = behind-it G (Ends (bus_seen asked.0 left.halts) (Shared (all_halted left.halts))) ending asked.2;
    }

pub bus-agrees : BusAgrees
bus-agrees plan os ds es cycles fit oblivious agree files others one other first second =
    let left = joining (Holds files) cycles os ds one first in
    let right = joining (Holds others) cycles os es other second in
    let traces = sym (agreeing os ds es oblivious agree cycles) in
    let joined : left.joined ≡ right.joined =
    one-list (traces_on os ds cycles) left.joined right.joined left.joins
    (subst (λ ts. IsJoined ts right.joined) traces right.joins) in
    let halts : left.halts ≡ right.halts =
    same-halts os ds cycles fit left.halts right.halts left.are
    (subst (λ ts. AreHalts ts right.halts) traces right.are) in
    ap said_at left.is
    ∙ ap₂ (λ (ts : List Transfer) (hs : List (Option ℕ)).
    said_at (IsVerdict (bus_seen ts hs) (Shared (all_halted hs)))) joined halts
    ∙ sym (ap said_at right.is)
