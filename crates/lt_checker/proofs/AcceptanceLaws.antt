-- An object has at most one first refusal, and it has one exactly if it isn't accepted; and what is known is unique.
use Rattle.std.proofs.Common.{◌≡◌, ℕ, zero, suc, ◌<◌, ◌≤◌, Bool, true, false, MatchBool, length, ◌⊎◌, inl, inr, Option, Some, None, refl, sym, ap, ◌∙◌, subst, ⊎_elim, arith}
use Rattle.std.proofs.lemmas.Bool.{cases_lt, true≢false}
use Rattle.lt_isa.specs.Prelude.{Parts}
use Rattle.trace_patterns.specs.declared.reasons.Reason.{Reason}
use Rattle.trace_patterns.specs.declared.reasons.Reason.TheVariants.{SecretSymbolInRam}
use Rattle.trace_patterns.specs.Prelude.{Known, claimed_at, VisitedAt, Noted, Unnoted, Accepts, IsLowestRefusal, FirstRefusal, has_secret_in_ram}
use Rattle.lt_checker.specs.Prelude.{Arrival, Here, refusal_at, NoneBelow, IsFirstFound}
use Rattle.lt_checker.proofs.PlaceRelations.{comes-here}
use Rattle.lt_checker.proofs.Refusals.{accepted-not_refused, accepts-none, none_is_accepted, lowest-found, found_is_first}

-- an object with a refusal isn't accepted
refused_by : (o : Parts) (place : ℕ) (reason : Reason) (found : Bool) → has_secret_in_ram o ≡ found
    → MatchBool found ((place ≡ 0) × (reason ≡ SecretSymbolInRam)) (IsLowestRefusal o place reason) → Accepts o → ⊥
refused_by o place reason true is refusal accepts = true≢false (sym is ∙ accepts.symbols)
refused_by o place reason false is refusal accepts =
    accepted-not_refused o accepts refusal.at place reason refusal.inside refusal.refused

-- an object with a first refusal isn't accepted
pub refused_is_not_accepted : (o : Parts) (place : ℕ) (reason : Reason) → FirstRefusal o place reason → ¬ Accepts o
refused_is_not_accepted o place reason refusal = refused_by o place reason (has_secret_in_ram o) refl refusal

-- none of some places is refused, or there is a lowest one that is
search_below : (o : Parts) (n : ℕ) → n ≤ length o.code
    → NoneBelow o n ⊎ ((place : ℕ) × (reason : Reason) × IsFirstFound o place reason)
search_below o zero le = inl (λ q lt. absurd (omega arith))
search_below o (suc n) le = at (search_below o n (omega arith)) (refusal_at o n) refl
  where
    at : NoneBelow o n ⊎ ((place : ℕ) × (reason : Reason) × IsFirstFound o place reason) → (r : Option (ℕ × Reason))
        → refusal_at o n ≡ r → NoneBelow o (suc n) ⊎ ((place : ℕ) × (reason : Reason) × IsFirstFound o place reason)
    at (inr found) r is = inr found
    at (inl none) None is = inl (λ q lt.
        ⊎_elim (λ (low : q < n). none q low)
        (λ (high : n ≤ q). let same : n ≡ q = omega arith in subst (λ (m : ℕ). refusal_at o m ≡ None) same is)
        (cases_lt q n))
    at (inl none) (Some r) is = inr (r.0, r.1, record { at = n; inside = omega arith; refused = is; none_below = none })

refused_in_ram : (o : Parts) → has_secret_in_ram o ≡ true → FirstRefusal o 0 SecretSymbolInRam
refused_in_ram o is = first 0 refl
  where
    first : (p : ℕ) → p ≡ 0 → FirstRefusal o p SecretSymbolInRam
    first p at =
        subst (λ (b : Bool). MatchBool b ((p ≡ 0) × (SecretSymbolInRam ≡ SecretSymbolInRam))
        (IsLowestRefusal o p SecretSymbolInRam)) (sym is) (at, refl)

-- each object is accepted or has a first refusal
pub accepted-or-refused : (o : Parts) → Accepts o ⊎ ((place : ℕ) × (reason : Reason) × FirstRefusal o place reason)
accepted-or-refused o = by (has_secret_in_ram o) refl
  where
    by : (found : Bool) → has_secret_in_ram o ≡ found
        → Accepts o ⊎ ((place : ℕ) × (reason : Reason) × FirstRefusal o place reason)
    by true is = inr (0, SecretSymbolInRam, refused_in_ram o is)
    by false is =
        ⊎_elim
        (λ (none : NoneBelow o (length o.code)). inl (none_is_accepted o none is))
        (λ (found : (place : ℕ) × (reason : Reason) × IsFirstFound o place reason). inr
        (found.0, found.1, found_is_first o found.0 found.1 is found.2))
        (search_below o (length o.code) (omega arith))

-- at most one refusal is found first
found_once : (o : Parts) (p q : ℕ) (r u : Reason) → IsFirstFound o p r → IsFirstFound o q u → (p ≡ q) × (r ≡ u)
found_once o p q r u one two =
    ⊎_elim
    (λ (lt : one.at < two.at). absurd
    (let e : ◌≡◌ {A = Option (ℕ × Reason)} (Some (p, r)) None = sym one.refused ∙ two.none_below one.at lt in cc))
    (λ (le : two.at ≤ one.at).
    ⊎_elim
    (λ (lt : two.at < one.at). absurd
    (let e : ◌≡◌ {A = Option (ℕ × Reason)} (Some (q, u)) None = sym two.refused ∙ one.none_below two.at lt in cc))
    (λ (ge : one.at ≤ two.at).
    let same : one.at ≡ two.at = omega arith in
    let e : ◌≡◌ {A = Option (ℕ × Reason)} (Some (p, r)) (Some (q, u)) = sym one.refused ∙ ap (refusal_at o) same
    ∙ two.refused in
    let pairs : ◌≡◌ {A = ℕ × Reason} (p, r) (q, u) = cc in
    (ap (λ (x : ℕ × Reason). x.0) pairs, ap (λ (x : ℕ × Reason). x.1) pairs))
    (cases_lt two.at one.at))
    (cases_lt one.at two.at)

once_by : (o : Parts) (p q : ℕ) (r u : Reason) (found : Bool)
    → MatchBool found ((p ≡ 0) × (r ≡ SecretSymbolInRam)) (IsLowestRefusal o p r)
    → MatchBool found ((q ≡ 0) × (u ≡ SecretSymbolInRam)) (IsLowestRefusal o q u) → (p ≡ q) × (r ≡ u)
once_by o p q r u true one two = (one.0 ∙ sym two.0, one.1 ∙ sym two.1)
once_by o p q r u false one two = found_once o p q r u (lowest-found o p r one) (lowest-found o q u two)

-- an object has at most one first refusal
pub first_refusal-once : (o : Parts) (p q : ℕ) (r u : Reason) → FirstRefusal o p r → FirstRefusal o q u
    → (p ≡ q) × (r ≡ u)
first_refusal-once o p q r u one two = once_by o p q r u (has_secret_in_ram o) one two

-- a place has at most one claim
claimed_once : (o : Parts) (p : ℕ) (j k : Known) → claimed_at o p ≡ Some j → claimed_at o p ≡ Some k → j ≡ k
claimed_once o p j k first second = let e : ◌≡◌ {A = Option Known} (Some j) (Some k) = sym first ∙ second in cc

claimed_or_not : {A : Type 0} (o : Parts) (p : ℕ) (k : Known) → claimed_at o p ≡ None → claimed_at o p ≡ Some k → A
claimed_or_not o p k none some = absurd (let e : ◌≡◌ {A = Option Known} None (Some k) = sym none ∙ some in cc)

-- what is known at a visited place of an accepted object is unique
pub known-once : (o : Parts) → Accepts o → (p : ℕ) (j k : Known) → p < length o.code → VisitedAt o p j → VisitedAt o p k
    → j ≡ k
known-once o accepts p j k inside (Noted q claimed at) (Noted q' claimed' at') = claimed_once o p j k at at'
known-once o accepts p j k inside (Noted q claimed at) (Unnoted q' known at' comes) = claimed_or_not o p j at' at
known-once o accepts p j k inside (Unnoted q known at comes) (Noted q' claimed at') = claimed_or_not o p k at at'
known-once o accepts p j k inside (Unnoted q known at comes) (Unnoted q' known' at' comes') =
    let none : NoneBelow o p = λ r lt. accepts-none o accepts r (omega arith) in
    let e : ◌≡◌ {A = Arrival} (Here j) (Here k) = sym (comes-here o p j comes none inside)
    ∙ comes-here o p k comes' none inside in
    cc
