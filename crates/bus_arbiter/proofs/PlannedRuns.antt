-- Objects that a plan takes one after another, each with inputs that fit it, are runs on a bus.
use Rattle.std.proofs.Common.{◌≡◌, ℕ, zero, suc, ◌<◌, ℤ, List, [], ◌∷◌, ◌++◌, length, map, Option, Some, None, refl, sym, ap, subst, arith}
use Rattle.std.specs.Prelude.{slice_get}
use Rattle.std.proofs.lemmas.Option.{same_Some}
use Rattle.lt_isa.specs.Prelude.{Parts, IsInRange, IsShaped, start_state, Stamped}
use Rattle.lt_isa.proofs.Starts.{IsShaped-start}
use Rattle.bus_arbiter.specs.declared.shares.Share.{Share}
use Rattle.bus_arbiter.specs.Prelude.{AllFit, AreOnBus, NoneOverlap, Run, runs_of, shown_to, traces_on, refusal, IsPlan, share_of, IsJoined, Transfer}
use Rattle.bus_arbiter.proofs.JoinedLaws.{none-overlap}
use Rattle.bus_arbiter.proofs.PlanShares.{plan-more}
use Rattle.bus_arbiter.proofs.Refusals.{takes}
use Rattle.bus_arbiter.proofs.ShareRanges.{share-fits}

-- no share is a plan
pub plan-none : IsPlan []
plan-none = record {
  count = omega arith;
  fits = λ k within. absurd (omega (arith, within));
  period = λ k within. absurd (omega (arith, within));
  short = λ k within. absurd (omega (arith, within));
  apart = λ j k within. absurd (omega (arith, within));
}

-- a plan that doesn't refuse an object's share is a plan with that share too
pub plan-takes : (plan : List Share) (o : Parts) → IsPlan plan → length plan < 8 → IsInRange o
    → refusal plan (share_of o) ≡ None → IsPlan (plan ++ share_of o ∷ [])
plan-takes plan o fits room range is =
    let own = share-fits o range in
    plan-more plan (share_of o) fits room own ((takes plan (share_of o) fits.fits own).0 is)

shares-same : (os : List Parts) (ds : List (List (List ℤ))) → AllFit os ds
    → map (λ (r : Run). share_of r.object) (runs_of os ds) ≡ map share_of os
shares-same [] [] all = refl
shares-same [] (d ∷ ds) all = absurd all
shares-same (o ∷ os) [] all = absurd all
shares-same (o ∷ os) (d ∷ ds) all = ap (λ (l : List Share). share_of o ∷ l) (shares-same os ds all.2)

pub traces-same : (os : List Parts) (ds : List (List (List ℤ))) (n : ℕ)
    → map (shown_to n) (runs_of os ds) ≡ traces_on os ds n
traces-same [] ds n = refl
traces-same (o ∷ os) [] n = refl
traces-same (o ∷ os) (d ∷ ds) n =
    ap (λ (l : List (List Stamped)). shown_to n (record { object = o; state = start_state o d }) ∷ l)
    (traces-same os ds n)

-- what holds of the start of each run
record Starts (r : Run) : Type 0 where
  range : IsInRange r.object
  shaped : IsShaped r.object r.state

each-starts : (os : List Parts) (ds : List (List (List ℤ))) → AllFit os ds → (k : ℕ) (r : Run)
    → slice_get (runs_of os ds) k ≡ Some r → Starts r
each-starts [] ds all k r is = absurd (none-there k r is)
  where
    none-there : (k : ℕ) (r : Run) → slice_get (runs_of [] []) k ≡ Some r → ⊥
    none-there k r is = let f : ◌≡◌ {A = Option Run} None (Some r) = is in cc
each-starts (o ∷ os) [] all k r is = absurd all
each-starts (o ∷ os) (d ∷ ds) all zero r is =
    subst Starts (same_Some (record { object = o; state = start_state o d }) r is)
    (record { range = all.0; shaped = IsShaped-start o d all.1 })
each-starts (o ∷ os) (d ∷ ds) all (suc k) r is = each-starts os ds all.2 k r is

pub on-bus : (os : List Parts) (ds : List (List (List ℤ))) → AllFit os ds → IsPlan (map share_of os)
    → AreOnBus (runs_of os ds)
on-bus os ds all plan = record {
  plan = subst IsPlan (sym (shares-same os ds all)) plan;
  in_range = λ k r there. (each-starts os ds all k r there).range;
  shaped = λ k r there. (each-starts os ds all k r there).shaped;
}

-- no two transfers of such objects overlap
pub none-overlaps : (os : List Parts) (ds : List (List (List ℤ))) (n : ℕ) → AllFit os ds → IsPlan (map share_of os)
    → (joined : List Transfer) → IsJoined (traces_on os ds n) joined → NoneOverlap (runs_of os ds) joined
none-overlaps os ds n all plan joined joins =
    none-overlap (runs_of os ds) (on-bus os ds all plan) n joined
    (subst (λ (l : List (List Stamped)). IsJoined l joined) (sym (traces-same os ds n)) joins)
