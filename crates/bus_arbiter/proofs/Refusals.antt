-- What is worked out of a plan and a share is whether the plan takes it, and why it doesn't.
use Rattle.std.proofs.Common.{◌≡◌, ◌≢◌, ℕ, zero, suc, ◌+◌, ◌<◌, Bool, true, false, cond, ltb, ◌==◌, ◌&&◌, List, [], ◌∷◌, length, Option, Some, None, refl, sym, ap, ◌∙◌, subst, ⊎_elim, arith, lt-ltb}
use Rattle.std.specs.Prelude.{◌↔◌, IfNone, IfSome}
use Rattle.std.proofs.lemmas.Bool.{and_parts, cases_lt, eq-eqb, eqb-true, ltb-true, ltb-false, false≢true}
use Rattle.bus_arbiter.specs.declared.shares.Share.{Share}
use Rattle.bus_arbiter.specs.declared.errors.BusError.{BusError}
use Rattle.bus_arbiter.specs.declared.errors.BusError.TheVariants.{NoWindow, OtherPeriod, TooLong, Overlap, Memory}
use Rattle.bus_arbiter.specs.Prelude.{meets, of_overlap, of_period, or_then, refusal, EndsInPeriod, HasPeriodOf, HasWindow, IsApartFrom, Meet, PlanRefuses, PlanTakes, ShareFits, end_of, share_at}

-- ---- two reaches

pub meets-true : (s t : Share) → Meet s t → meets s t ≡ true
meets-true s t meet =
    ap (λ b. b && ltb t.opens (end_of s)) (lt-ltb s.opens (end_of t) (omega (arith, meet.1.opened, meet.2.unended)))
    ∙ lt-ltb t.opens (end_of s) (omega (arith, meet.2.opened, meet.1.unended))

pub true-meets : (s t : Share) → ShareFits s → ShareFits t → meets s t ≡ true → Meet s t
true-meets s t one other is =
    let parts = and_parts (ltb s.opens (end_of t)) (ltb t.opens (end_of s)) is in
    let first = ltb-true s.opens (end_of t) parts.0 in
    let second = ltb-true t.opens (end_of s) parts.1 in
    ⊎_elim
    (λ less. (
      t.opens,
      record { opened = omega (arith, less); unended = second },
      record { opened = omega arith; unended = omega (arith, other.window, other.some) },
    ))
    (λ past. (
      s.opens,
      record { opened = omega arith; unended = omega (arith, one.window, one.some) },
      record { opened = past; unended = first },
    ))
    (cases_lt s.opens t.opens)

pub false-apart : (s t : Share) → meets s t ≡ false → Meet s t → ⊥
false-apart s t is meet = false≢true (sym is ∙ meets-true s t meet)

pub apart-false : (s t : Share) → ShareFits s → ShareFits t → (Meet s t → ⊥) → meets s t ≡ false
apart-false s t one other apart = by (meets s t) refl
  where
    by : (b : Bool) → meets s t ≡ b → b ≡ false
    by true is = absurd (apart (true-meets s t one other is))
    by false is = refl

-- ---- what is worked out

-- the meaning of a result
abbrev pub Judged : List Share → Share → Option BusError → Type 0
Judged plan s None = PlanTakes plan s
Judged plan s (Some cause) = PlanRefuses plan s cause

pub none-takes : (plan : List Share) (s : Share) (found : Option BusError) → Judged plan s found
    → IfNone found (PlanTakes plan s)
none-takes plan s None is = is
none-takes plan s (Some cause) is = tt

pub some-refuses : (plan : List Share) (s : Share) (found : Option BusError) → Judged plan s found
    → IfSome found (PlanRefuses plan s)
some-refuses plan s None is = tt
some-refuses plan s (Some cause) is = is

abbrev EachFits : List Share → Type 0
EachFits plan = (k : ℕ) → k < length plan → ShareFits (share_at plan k)

-- the lowest core from number c on that a share meets
abbrev OverlapsFrom : ℕ → List Share → Share → Option BusError → Type 0
OverlapsFrom c plan s None = IsApartFrom plan (length plan) s
OverlapsFrom c plan s (Some cause) =
    (k : ℕ) × (k < length plan) × (cause ≡ Overlap (c + k)) × Meet (share_at plan k) s × IsApartFrom plan k s

overlaps-next : (c : ℕ) (t : Share) (ts : List Share) (s : Share) → (Meet t s → ⊥) → (found : Option BusError)
    → OverlapsFrom (c + 1) ts s found → OverlapsFrom c (t ∷ ts) s found
overlaps-next c t ts s apart None is = all
  where
    all : (k : ℕ) → k < length (t ∷ ts) → Meet (share_at (t ∷ ts) k) s → ⊥
    all zero within = apart
    all (suc k) within = is k (omega (arith, within))
overlaps-next c t ts s apart (Some cause) is = (
  suc is.0,
  omega (arith, is.1),
  is.2 ∙ ap Overlap (omega arith),
  is.3,
  all,
)
  where
    all : (k : ℕ) → k < suc is.0 → Meet (share_at (t ∷ ts) k) s → ⊥
    all zero within = apart
    all (suc k) within = is.4 k (omega (arith, within))

overlaps : (c : ℕ) (plan : List Share) (s : Share) → EachFits plan → ShareFits s
    → OverlapsFrom c plan s (of_overlap c plan s)
overlaps c [] s all fits = λ k within. absurd (omega (arith, within))
overlaps c (t ∷ ts) s all fits =
    by (meets t s) refl (overlaps (c + 1) ts s (λ k within. all (suc k) (omega (arith, within))) fits)
  where
    by : (b : Bool) → meets t s ≡ b → OverlapsFrom (c + 1) ts s (of_overlap (c + 1) ts s)
        → OverlapsFrom c (t ∷ ts) s (cond b (Some (Overlap c)) (of_overlap (c + 1) ts s))
    by true is later = (
      0,
      omega arith,
      ap Overlap (omega arith),
      true-meets t s (all 0 (omega arith)) fits is,
      λ k within. absurd (omega (arith, within)),
    )
    by false is later = overlaps-next c t ts s (false-apart t s is) (of_overlap (c + 1) ts s) later

-- another period than that of core 0
abbrev PeriodJudged : List Share → Share → Option BusError → Type 0
PeriodJudged plan s None = HasPeriodOf plan s
PeriodJudged plan s (Some cause) =
    (0 < length plan) × (cause ≡ OtherPeriod (share_at plan 0).period) × (s.period ≢ (share_at plan 0).period)

periods-judged : (plan : List Share) (s : Share) → PeriodJudged plan s (of_period plan s)
periods-judged [] s = λ some. absurd (omega (arith, some))
periods-judged (first ∷ rest) s = by (first.period == s.period) refl
  where
    by : (b : Bool) → (first.period == s.period) ≡ b
        → PeriodJudged (first ∷ rest) s (cond b None (Some (OtherPeriod first.period)))
    by true is = λ some. sym (eqb-true first.period s.period is)
    by false is = (omega arith, refl, λ same. false≢true (sym is ∙ eq-eqb first.period s.period (sym same)))

module _ (plan : List Share) (s : Share) (all : EachFits plan) (fits : ShareFits s) where
  after-short : HasWindow s → HasPeriodOf plan s → EndsInPeriod s → (found : Option BusError)
      → OverlapsFrom 0 plan s found → Judged plan s found
  after-short windowed period short None is =
      record { windowed = windowed; period = period; short = short; apart = is }
  after-short windowed period short (Some cause) is =
      let zero : 0 + is.0 ≡ is.0 = omega arith in
      subst (PlanRefuses plan s) (sym (is.2 ∙ ap Overlap zero)) (windowed, period, short, is.1, is.3, is.4)

  after-period : HasWindow s → HasPeriodOf plan s → (b : Bool) → ltb s.period (end_of s) ≡ b
      → Judged plan s (cond b (Some (TooLong (end_of s))) (of_overlap 0 plan s))
  after-period windowed period true is = (windowed, period, refl, ltb-true s.period (end_of s) is)
  after-period windowed period false is =
      after-short windowed period (ltb-false s.period (end_of s) is) (of_overlap 0 plan s) (overlaps 0 plan s all fits)

  after-window : HasWindow s → (found : Option BusError) → PeriodJudged plan s found
      → Judged plan s
      (or_then found (cond (ltb s.period (end_of s)) (Some (TooLong (end_of s))) (of_overlap 0 plan s)))
  after-window windowed None is = after-period windowed is (ltb s.period (end_of s)) refl
  after-window windowed (Some cause) is =
      subst (PlanRefuses plan s) (sym is.1) (windowed, is.0, refl, is.2)

  pub judged : Judged plan s (refusal plan s)
  judged = by (s.period == 1) refl
    where
      by : (b : Bool) → (s.period == 1) ≡ b
          → Judged plan s (cond b (Some NoWindow)
          (or_then (of_period plan s)
          (cond (ltb s.period (end_of s)) (Some (TooLong (end_of s))) (of_overlap 0 plan s))))
      by true is = eqb-true s.period 1 is
      by false is =
          after-window (λ one. false≢true (sym is ∙ eq-eqb s.period 1 one)) (of_period plan s) (periods-judged plan s)

  -- ---- only one result

  never-both-judged : PlanTakes plan s → (cause : BusError) → PlanRefuses plan s cause → ⊥
  never-both-judged takes NoWindow is = takes.windowed is
  never-both-judged takes (OtherPeriod period) is = is.3 (takes.period is.1 ∙ sym is.2)
  never-both-judged takes (TooLong end) is = omega (arith, takes.short, is.2, is.3)
  never-both-judged takes (Overlap core) is = takes.apart core is.3 is.4
  never-both-judged takes Memory is = is

  -- the two periods, ends or cores of one cause
  one-cause : (one other : BusError) → PlanRefuses plan s one → PlanRefuses plan s other → one ≡ other
  one-cause NoWindow NoWindow is so = refl
  one-cause NoWindow (OtherPeriod p) is so = absurd (so.0 is)
  one-cause NoWindow (TooLong e) is so = absurd (so.0 is)
  one-cause NoWindow (Overlap c) is so = absurd (so.0 is)
  one-cause (OtherPeriod p) NoWindow is so = absurd (is.0 so)
  one-cause (OtherPeriod p) (OtherPeriod q) is so = ap OtherPeriod (is.2 ∙ sym so.2)
  one-cause (OtherPeriod p) (TooLong e) is so = absurd (is.3 (so.1 is.1 ∙ sym is.2))
  one-cause (OtherPeriod p) (Overlap c) is so = absurd (is.3 (so.1 is.1 ∙ sym is.2))
  one-cause (TooLong e) NoWindow is so = absurd (is.0 so)
  one-cause (TooLong e) (OtherPeriod p) is so = absurd (so.3 (is.1 so.1 ∙ sym so.2))
  one-cause (TooLong e) (TooLong f) is so = ap TooLong (is.2 ∙ sym so.2)
  one-cause (TooLong e) (Overlap c) is so = absurd (omega (arith, is.2, is.3, so.2))
  one-cause (Overlap c) NoWindow is so = absurd (is.0 so)
  one-cause (Overlap c) (OtherPeriod p) is so = absurd (so.3 (is.1 so.1 ∙ sym so.2))
  one-cause (Overlap c) (TooLong e) is so = absurd (omega (arith, so.2, so.3, is.2))
  one-cause (Overlap c) (Overlap d) is so =
      ap Overlap
      (⊎_elim
      (λ (less : c < d). absurd (so.5 c less is.4))
      (λ past.
      ⊎_elim
      (λ (more : d < c). absurd (is.5 d more so.4))
      (λ back. omega (arith, past, back))
      (cases_lt d c))
      (cases_lt c d))
  one-cause Memory other is so = absurd is
  one-cause other Memory is so = absurd so

  takes-by : (found : Option BusError) → Judged plan s found → PlanTakes plan s → found ≡ None
  takes-by None is takes = refl
  takes-by (Some cause) is takes = absurd (never-both-judged takes cause is)

  refuses-by : (found : Option BusError) → Judged plan s found → (cause : BusError) → PlanRefuses plan s cause
      → found ≡ Some cause
  refuses-by None takes cause is = absurd (never-both-judged takes cause is)
  refuses-by (Some other) so cause is = ap Some (one-cause other cause so is)

  pub takes : (refusal plan s ≡ None) ↔ PlanTakes plan s
  takes = (λ is. subst (Judged plan s) is judged, λ is. takes-by (refusal plan s) judged is)

  pub refuses : (cause : BusError) → (refusal plan s ≡ Some cause) ↔ PlanRefuses plan s cause
  refuses cause = (λ is. subst (Judged plan s) is judged, λ is. refuses-by (refusal plan s) judged cause is)
