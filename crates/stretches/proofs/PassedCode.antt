-- The check's state is carried over a stretch that is passed. An object whose code is passed from its start up to its
-- last place, whose instruction leaves, is accepted.
use Rattle.std.proofs.Common.{◌≡◌, ℕ, ◌+◌, ◌-◌, ◌<◌, ◌≤◌, true, false, ℤ, length, Option, Some, None, refl, sym, ap, ◌∙◌, subst, ⊎_elim, arith}
use Rattle.std.proofs.lemmas.Bool.{cases_lt}
use Rattle.lt_isa.specs.Prelude.{Parts}
use Rattle.trace_patterns.specs.declared.reasons.Reason.{Reason}
use Rattle.trace_patterns.specs.Prelude.{Shown, TreeEvent, Known, start_known, fits, SymState, at_entry, known_after, claimed_at, ruling_at, VisitedAt, Noted, Unnoted, Starts, FallsTo, JoinsAt, FitsNote, CrossesFrom, Accepts, RefusedAt, has_secret_in_ram}
use Rattle.stretches.specs.Prelude.{HoldsAt, AsItComes, AsClaimed, Passes, Done, Onward, Away, Across, StartsFrom, ByComing, ByNote, CheckedUpTo}
use Rattle.trace_patterns.proofs.Notes.{fits-claim}
use Rattle.trace_patterns.proofs.Walks.{crosses-region}
use Rattle.region_walk.proofs.WalkRelations.{crosses-crossing}
use Rattle.lt_checker.specs.Prelude.{Effect, Falls, Leaves, Joins, joined_at, effect_at, Arrival, Unreached, Here, effect_from, arrival_at, reached_at, refusal_in, refusal_at, NoneBelow}
use Rattle.lt_checker.proofs.Reached.{reached_at-next, effect_from-inside, reached-inside}
use Rattle.lt_checker.proofs.PlaceRelations.{FitsHere, comes-here, visited-known, no_refusal, effect-ruled, falls_on}
use Rattle.lt_checker.proofs.Refusals.{fits_tested, none_up_to, refused-found, none_is_accepted}
use Rattle.trace_patterns.specs.Rules as rule

module _ (o : Parts) where
  unclaimed : {A : Type 0} (p : ℕ) (k : Known) → claimed_at o p ≡ None → claimed_at o p ≡ Some k → A
  unclaimed p k none noted = absurd (let e : ◌≡◌ {A = Option Known} None (Some k) = sym none ∙ noted in cc)

  -- what is known at a place when the check gets there is known as at a visited place
  starts-visited : (p : ℕ) (k holds : Known) → StartsFrom o p k → HoldsAt o p k holds → VisitedAt o p holds
  starts-visited p k holds (ByComing k' comes) (AsItComes j none) = Unnoted p k none comes
  starts-visited p k holds (ByComing k' comes) (AsClaimed j claimed noted fit) = Noted p claimed noted
  starts-visited p k holds (ByNote k' at fitting) (AsItComes j none) = unclaimed p k none at
  starts-visited p k holds (ByNote k' at fitting) (AsClaimed j claimed noted fit) = Noted p claimed noted

  -- what reaches the place fits its note
  starts-fits : (p : ℕ) (k holds : Known) → StartsFrom o p k → HoldsAt o p k holds → NoneBelow o p → p < length o.code
      → FitsHere o p
  starts-fits p k holds (ByNote k' noted fitting) there none inside other claim here at =
      fits_tested o p fitting other claim here at
  starts-fits p k holds (ByComing k' comes) (AsItComes j unnoted) none inside other claim here at =
      unclaimed p claim unnoted at
  starts-fits p k holds (ByComing k' comes) (AsClaimed j claimed noted fit) none inside other claim here at =
      let reached : ◌≡◌ {A = Arrival} (Here k) (Here other) = sym (comes-here o p k comes none inside) ∙ here in
      let claims : ◌≡◌ {A = Option Known} (Some claimed) (Some claim) = sym noted ∙ at in
      let known : k ≡ other = cc in
      let same : claimed ≡ claim = cc in
      subst (λ (x : Known). fits x claim ≡ true) known
      (subst (λ (x : Known). fits k x ≡ true) same ((fits-claim o p k claimed noted).1 fit))

  -- the check's result for the place is that for a visited place at which this is known
  starts-effect : (p : ℕ) (k holds : Known) → StartsFrom o p k → HoldsAt o p k holds → NoneBelow o p
      → p < length o.code → effect_from o p (reached_at o p) ≡ effect_at o p holds
  starts-effect p k holds starts here none inside =
      visited-known o p holds (starts-visited p k holds starts here) none
      (starts-fits p k holds starts here none inside) inside

  -- one more place isn't refused
  none_more : (p : ℕ) (e : Effect) → effect_from o p (reached_at o p) ≡ e → refusal_in p e ≡ None → NoneBelow o p
      → NoneBelow o (p + 1)
  none_more p e is allowed none q lt =
      ⊎_elim
      (λ (low : q < p). none q low)
      (λ (high : p ≤ q).
      let same : p ≡ q = omega arith in
      subst (λ (r : ℕ). refusal_at o r ≡ None) same (ap (refusal_in p) is ∙ allowed))
      (cases_lt q p)

  -- no place of a region that is crossed is refused
  none_inside : (p join : ℕ) (k : Known) → effect_from o p (reached_at o p) ≡ Joins join k → NoneBelow o p
      → NoneBelow o join
  none_inside p join k is none q lt =
      ⊎_elim
      (λ (low : q < p + 1). none_more p (Joins join k) is refl none q low)
      (λ (high : p + 1 ≤ q).
      ap (λ (a : Arrival). refusal_in q (effect_from o q a)) (reached-inside o p join k is q (omega arith) lt)
      ∙ ap (refusal_in q) (effect_from-inside o q join k))
      (cases_lt q (p + 1))

  -- nothing reaches a place after an instruction that only leads elsewhere
  fits_left : (p : ℕ) → effect_from o p (reached_at o p) ≡ Leaves → NoneBelow o (p + 1) → p + 1 < length o.code
      → FitsNote o (p + 1)
  fits_left p is none inside k claimed comes at =
      let e : ◌≡◌ {A = Arrival} Unreached (Here k) = sym (reached_at-next o p ∙ ap (arrival_at (p + 1)) is)
      ∙ comes-here o (p + 1) k comes none inside in
      absurd cc

  joins_behind : (p : ℕ) (holds : Known) (offset : ℤ) (pattern : Shown TreeEvent) (join : ℕ) (state : SymState)
      → CrossesFrom o p offset holds pattern join state → p < join
  joins_behind p holds offset pattern join state crosses =
      let region = crosses-region o 0 (length o.code - 1) p offset (at_entry holds) pattern join state crosses in
      omega (arith, region.1.first, region.1.second)

  -- a stretch ends no earlier than it begins
  passes-on : (p : ℕ) (k : Known) (q : ℕ) (l : Known) → Passes o p k q l → p ≤ q
  passes-on p k q l (Done p' k') = omega arith
  passes-on p k q l (Onward p' k' holds next q' l' here rules inside rest) =
      omega (arith, passes-on (p + 1) next q l rest)
  passes-on p k q l (Away p' k' holds claimed q' l' here rules noted rest) =
      omega (arith, passes-on (p + 1) claimed q l rest)
  passes-on p k q l (Across p' k' holds offset pattern join state q' l' here rules crosses rest) =
      omega (arith, joins_behind p holds offset pattern join state crosses, passes-on join (known_after state) q l rest)

  -- no place of a stretch that is passed is refused, and what it ends with reaches the place after it
  passes-none : (p : ℕ) (k : Known) (q : ℕ) (l : Known) → Passes o p k q l → q < length o.code → StartsFrom o p k
      → NoneBelow o p → StartsFrom o q l × NoneBelow o q
  passes-none p k q l (Done p' k') last starts none = (starts, none)
  passes-none p k q l (Onward p' k' holds next q' l' here rules inside rest) last starts none =
      let is : effect_from o p (reached_at o p) ≡ Falls next =
      starts-effect p k holds starts here none (omega arith)
      ∙ effect-ruled o p holds (rule.Falls next) rules ∙ falls_on o p next inside in
      passes-none (p + 1) next q l rest last
      (ByComing next (FallsTo p holds next (starts-visited p k holds starts here) rules))
      (none_more p (Falls next) is refl none)
  passes-none p k q l (Away p' k' holds claimed q' l' here rules noted rest) last starts none =
      let on = passes-on (p + 1) claimed q l rest in
      let is : effect_from o p (reached_at o p) ≡ Leaves =
      starts-effect p k holds starts here none (omega (arith, on)) ∙ effect-ruled o p holds rule.Leaves rules in
      let more = none_more p Leaves is refl none in
      passes-none (p + 1) claimed q l rest last (ByNote claimed noted (fits_left p is more (omega (arith, on)))) more
  passes-none p k q l (Across p' k' holds offset pattern join state q' l' here rules crosses rest) last starts none =
      let behind = joins_behind p holds offset pattern join state crosses in
      let on = passes-on join (known_after state) q l rest in
      let is : effect_from o p (reached_at o p) ≡ Joins join (known_after state) =
      starts-effect p k holds starts here none (omega (arith, behind, on))
      ∙ effect-ruled o p holds (rule.Opens offset) rules
      ∙ ap joined_at
      (crosses-crossing o 0 (length o.code - 1) p offset (at_entry holds) pattern join state crosses) in
      passes-none join (known_after state) q l rest last
      (ByComing (known_after state)
      (JoinsAt p holds offset pattern join state (starts-visited p k holds starts here) rules crosses))
      (none_inside p join (known_after state) is none)

  none-refused : (p : ℕ) → p ≤ length o.code → NoneBelow o p → (q place : ℕ) (reason : Reason) → q < p
      → ¬ RefusedAt o q place reason
  none-refused p le none q place reason lt refused =
      no_refusal o q (place, reason)
      (sym (refused-found o q (λ r less. none r (omega arith)) (omega arith) place reason refused) ∙ none q lt)

  -- the check begins at the first place
  pub checked-start : CheckedUpTo o 0 start_known
  checked-start = record {
    none_refused = λ q place reason lt. absurd (omega arith);
    starts = ByComing start_known Starts;
  }

  -- the check gets to the end of a stretch that is passed
  pub checked-on : (p q : ℕ) (comes last : Known) → CheckedUpTo o p comes → Passes o p comes q last
      → q < length o.code → CheckedUpTo o q last
  checked-on p q comes last checked passes inside =
      let on = passes-on p comes q last passes in
      let passed = passes-none p comes q last passes inside checked.starts
      (none_up_to o p (omega (arith, on)) checked.none_refused) in
      record { none_refused = none-refused q (omega arith) passed.1; starts = passed.0 }

  -- an object is accepted if it is checked up to its last place, the instruction there leaves, and no secret variable
  -- is in plain memory
  pub checked-accepted : (q : ℕ) (k holds : Known) → CheckedUpTo o q k → HoldsAt o q k holds
      → ruling_at o q holds ≡ rule.Leaves → q + 1 ≡ length o.code → has_secret_in_ram o ≡ false → Accepts o
  checked-accepted q k holds checked here leaves last symbols =
      let none = none_up_to o q (omega arith) checked.none_refused in
      let is : effect_from o q (reached_at o q) ≡ Leaves =
      starts-effect q k holds checked.starts here none (omega arith) ∙ effect-ruled o q holds rule.Leaves leaves in
      none_is_accepted o (subst (NoneBelow o) last (none_more q Leaves is refl none)) symbols

  -- an object is accepted if the check passes it up to its last place, the instruction there leaves, and no secret
  -- variable is in plain memory
  pub passes-accepted : (q : ℕ) (k holds : Known) → Passes o 0 start_known q k → HoldsAt o q k holds
      → ruling_at o q holds ≡ rule.Leaves → q + 1 ≡ length o.code → has_secret_in_ram o ≡ false → Accepts o
  passes-accepted q k holds passes here leaves last symbols =
      checked-accepted q k holds (checked-on 0 q start_known k checked-start passes (omega arith)) here leaves last
      symbols
