-- Windows of one plan: in no cycle are two of them open, nor two transfers on the bus.
use Rattle.std.proofs.Common.{◌≡◌, ◌≢◌, ℕ, ◌+◌, ◌-◌, ◌*◌, ◌/◌, ◌%◌, ◌<◌, ◌≤◌, List, length, sym, ap, ◌∙◌, subst, ⊎_elim, arith}
use Rattle.std.proofs.lemmas.Bool.{cases_lt, cases_eq}
use Rattle.std.proofs.lemmas.Option.{slice_get_within}
use Rattle.std.proofs.lemmas.Nat.{mod-mul-add, mod_below, div-add-mod'}
use Rattle.lt_isa.specs.Prelude.{Parts, latency_of, IsOpen}
use Rattle.lt_isa.proofs.Cycles.{latency-greatest}
use Rattle.lt_isa.proofs.Windows.{periods}
use Rattle.bus_arbiter.specs.declared.shares.Share.{Share}
use Rattle.bus_arbiter.specs.Prelude.{Core, InReach, IsPlan, share_at, share_of, Between, IsLive, IsNext, IsDuring, Transfer, bank_used}
use Rattle.bus_arbiter.proofs.CoreTransfers.{Moves}

-- where a cycle is in the period that it is of
pub part-of : (width q into : ℕ) → into < width → (q * width + into) % width ≡ into
part-of width q into less = mod-mul-add q width into less

-- where an object's window is open in a period
pub open-at : (o : Parts) (s : Share) → share_of o ≡ s → (q cycle : ℕ) → q * s.period ≤ cycle
    → cycle < q * s.period + s.period → IsOpen o.profile cycle
    → (s.opens ≤ cycle - q * s.period) × (cycle - q * s.period < s.closes)
open-at o s is q cycle from till inside =
    let into = cycle - q * s.period in
    let whole : q * s.period + into ≡ cycle = omega (arith, from) in
    let part : cycle % s.period ≡ into =
    ap (λ c. c % s.period) (sym whole) ∙ part-of s.period q into (omega (arith, from, till)) in
    let width : o.profile.period ≡ s.period = ap (λ (x : Share). x.period) is in
    let found : cycle % o.profile.period ≡ into = ap (λ w. cycle % w) width ∙ part in (
      omega (arith, inside.opened, found, ap (λ (x : Share). x.opens) is),
      omega (arith, inside.unclosed, found, ap (λ (x : Share). x.closes) is),
    )

module _ (plan : List Share) (fits : IsPlan plan) where
  abbrev width : ℕ
  width = (share_at plan 0).period

  pub in-period : (k : ℕ) → k < length plan → (o : Parts) → share_of o ≡ share_at plan k → (q cycle : ℕ)
      → q * width ≤ cycle → cycle < q * width + width → IsOpen o.profile cycle
      → ((share_at plan k).opens ≤ cycle - q * width) × (cycle - q * width < (share_at plan k).closes)
  in-period k within o is q cycle from till inside =
      subst (λ w. q * w ≤ cycle → cycle < q * w + w
      → ((share_at plan k).opens ≤ cycle - q * w) × (cycle - q * w < (share_at plan k).closes))
      (fits.period k within)
      (λ f t. open-at o (share_at plan k) is q cycle f t inside) from till

  -- ---- slots, period by period

  pub closed-till : {B : Type 0} (cores : List (Core B)) (from k : ℕ) → length cores ≤ length plan
      → Between plan cores from → IsNext plan cores from k → (j into : ℕ) → IsLive cores j → j ≢ k
      → from ≤ into → into < (share_at plan k).closes → (share_at plan j).opens ≤ into → into < (share_at plan j).closes
      → ⊥
  closed-till cores from k all between next j into live other low high opened unclosed =
      let exists : j < length plan = omega (arith, slice_get_within cores j live.core live.there, all) in
      let own : k < length plan = omega (arith, next.exists, all) in
      ⊎_elim
      (λ before. omega (arith, between j live before, low, unclosed))
      (λ after. fits.apart j k exists own other (
        (share_at plan j).opens,
        record {
          opened = omega arith;
          unended = omega (arith, opened, unclosed, (fits.fits j exists).some);
        },
        record {
          opened = next.least j live after;
          unended = omega (arith, opened, high, (fits.fits k own).some);
        },
      ))
      (cases_lt (share_at plan j).opens from)

  pub between-next : {B : Type 0} (cores : List (Core B)) (from k : ℕ) → length cores ≤ length plan
      → Between plan cores from → IsNext plan cores from k → Between plan cores (share_at plan k).closes
  between-next cores from k all between next j live opens =
      let exists : j < length plan = omega (arith, slice_get_within cores j live.core live.there, all) in
      let own : k < length plan = omega (arith, next.exists, all) in
      ⊎_elim
      (λ (is : j ≡ k). omega (arith, ap (λ i. (share_at plan i).closes) is))
      (λ other.
      ⊎_elim
      (λ before. omega (arith, between j live before, next.opens, (fits.fits k own).window))
      (λ after. absurd (fits.apart j k exists own other (
        (share_at plan j).opens,
        record {
          opened = omega arith;
          unended = omega (arith, (fits.fits j exists).window, (fits.fits j exists).some);
        },
        record {
          opened = next.least j live after;
          unended = omega (arith, opens, (fits.fits k own).some);
        },
      )))
      (cases_lt (share_at plan j).opens from))
      (cases_eq j k)

  -- ---- transfers of two cores

  -- a transfer is on the bus within the reach of its core, in the period in which it starts
  during-reach : (k : ℕ) → k < length plan → (o : Parts) → share_of o ≡ share_at plan k → (from : ℕ) (t : Transfer)
      → Moves o k from t → (cycle : ℕ) → IsDuring o t cycle
      → (q : ℕ) × (q * width ≤ cycle) × (cycle < q * width + width) × InReach (share_at plan k) (cycle - q * width)
  during-reach k within o is from t moves cycle during =
      let s = share_at plan k in
      let q = t.stamp / width in
      let some : 1 ≤ width = omega (arith, (fits.fits k within).window, (fits.fits k within).within, fits.period k within) in
      let parts = div-add-mod' t.stamp width in
      let below = mod_below t.stamp width (omega (arith, some)) in
      let inside = in-period k within o is q t.stamp (omega (arith, parts)) (omega (arith, parts, below)) moves.opened in
      let lasts : latency_of o (bank_used t.event) ≤ s.longest =
      omega (arith, latency-greatest o (bank_used t.event) moves.bank, ap (λ (x : Share). x.longest) is) in
      let short = fits.short k within in (
        q,
        omega (arith, parts, during.begun),
        omega (arith, parts, inside.1, lasts, during.unended, short, fits.period k within),
        record {
          opened = omega (arith, parts, inside.0, during.begun);
          unended = omega (arith, parts, inside.1, lasts, during.unended);
        },
      )

  -- so transfers of two cores are never on the bus in one cycle
  pub never-both : (j k : ℕ) → j < length plan → k < length plan → j ≢ k → (o p : Parts)
      → share_of o ≡ share_at plan j → share_of p ≡ share_at plan k → (from till : ℕ) (t u : Transfer)
      → Moves o j from t → Moves p k till u → (cycle : ℕ) → IsDuring o t cycle → IsDuring p u cycle → ⊥
  never-both j k first second other o p is si from till t u mt mu cycle dt du =
      let one = during-reach j first o is from t mt cycle dt in
      let two = during-reach k second p si till u mu cycle du in
      ⊎_elim
      (λ less. omega (arith, periods width one.0 two.0 less, one.2, two.1))
      (λ no_less.
      ⊎_elim
      (λ less. omega (arith, periods width two.0 one.0 less, two.2, one.1))
      (λ no_more.
      let same : one.0 ≡ two.0 = omega (arith, no_less, no_more) in
      fits.apart j k first second other
      (cycle - one.0 * width, one.3, subst (λ q. InReach (share_at plan k) (cycle - q * width)) (sym same) two.3))
      (cases_lt two.0 one.0))
      (cases_lt one.0 two.0)
