-- Lists of transfers: in parts, of one core, and with rising stamps.
use Rattle.std.proofs.Common.{◌≡◌, ◌≢◌, ℕ, zero, suc, ◌<◌, Bool, true, false, cond, ◌==◌, List, [], ◌∷◌, ◌++◌, get_or, Contains, ◌⊎◌, inl, inr, refl, sym, ap, ◌∙◌, subst, ⊎_elim, arith, append_assoc}
use Rattle.std.proofs.lemmas.List.{append-nil}
use Rattle.std.proofs.lemmas.List.Elements.{Contains-append_cases, Contains-append_left, Contains-append_right}
use Rattle.std.proofs.lemmas.Bool.{eq-eqb, ne_eqb, cases_eq}
use Rattle.lt_isa.specs.Prelude.{Observed, RamRead, RamWrite, EncRead, EncWrite, Oram, Halted, Stamped, seen_at}
use Rattle.bus_arbiter.specs.Prelude.{Transfer, moved_by, transfer_of, transfers_of, of_core, Rise}

-- ---- members

pub in-none : {X : Type 0} (x : X) → Contains [] x → ⊥
in-none x c = omega (arith, c.1)

pub in-one : {X : Type 0} (x y : X) → Contains (x ∷ []) y → x ≡ y
in-one {X = X} x y c = first c.0 c.1 c.2
  where
    first : (k : ℕ) → k < 1 → get_or (x ∷ []) k y ≡ y → x ≡ y
    first zero within is = is
    first (suc k) within is = absurd (omega arith)

pub in-cases : {X : Type 0} (x : X) (xs : List X) (y : X) → Contains (x ∷ xs) y → (x ≡ y) ⊎ Contains xs y
in-cases x xs y c = ⊎_elim (λ one. inl (in-one x y one)) (λ rest. inr rest) (Contains-append_cases (x ∷ []) xs y c)

pub in-here : {X : Type 0} (x : X) (xs : List X) → Contains (x ∷ xs) x
in-here x xs = Contains-append_left (x ∷ []) xs x (0, omega arith, refl)

pub in-there : {X : Type 0} (x : X) (xs : List X) (y : X) → Contains xs y → Contains (x ∷ xs) y
in-there x xs y c = Contains-append_right (x ∷ []) xs y c

-- ---- transfers of a core

pub transfers_of-append : (k : ℕ) (es fs : List Stamped) → transfers_of k (es ++ fs) ≡ transfers_of k es
    ++ transfers_of k fs
transfers_of-append k [] fs = refl
transfers_of-append k (e ∷ es) fs =
    ap (λ rest. transfer_of k e.stamp e.event ++ rest) (transfers_of-append k es fs)
    ∙ sym (append_assoc (transfer_of k e.stamp e.event) (transfers_of k es) (transfers_of k fs))

-- the transfer that an event is
pub is-transfer : (k at : ℕ) (event : Observed) (t : Transfer) → Contains (transfer_of k at event) t
    → (moved_by k at event ≡ t) × (event ≢ Halted)
is-transfer k at Halted t c = absurd (in-none t c)
is-transfer k at other t c = (in-one _ t c, λ e. cc)

pub has-transfer : (k at : ℕ) (event : Observed) → event ≢ Halted → Contains (transfer_of k at event) (moved_by k at event)
has-transfer k at Halted other = absurd (other refl)
has-transfer k at rest other = in-here _ []

-- a core's transfers are its events that aren't a halt
pub record IsShownAs (k : ℕ) (es : List Stamped) (t : Transfer) : Type 0 where
  pub core : t.core ≡ k
  pub shown : Contains es (seen_at t.stamp t.event)
  pub no_halt : t.event ≢ Halted

shown-here : (k : ℕ) (e : Stamped) (es : List Stamped) (t : Transfer) → moved_by k e.stamp e.event ≡ t
    → e.event ≢ Halted → IsShownAs k (e ∷ es) t
shown-here k e es t is other =
    subst (IsShownAs k (e ∷ es)) is (record { core = refl; shown = in-here e es; no_halt = other })

pub shown-as : (k : ℕ) (es : List Stamped) (t : Transfer) → Contains (transfers_of k es) t → IsShownAs k es t
shown-as k [] t c = absurd (in-none t c)
shown-as k (e ∷ es) t c =
    ⊎_elim
    (λ here. let is = is-transfer k e.stamp e.event t here in shown-here k e es t is.0 is.1)
    (λ rest. let is = shown-as k es t rest in
    record { core = is.core; shown = in-there e es _ is.shown; no_halt = is.no_halt })
    (Contains-append_cases (transfer_of k e.stamp e.event) (transfers_of k es) t c)

pub has-shown : (k : ℕ) (es : List Stamped) (at : ℕ) (event : Observed) → Contains es (seen_at at event)
    → event ≢ Halted → Contains (transfers_of k es) (moved_by k at event)
has-shown k [] at event c other = absurd (in-none _ c)
has-shown k (e ∷ es) at event c other =
    ⊎_elim
    (λ (is : e ≡ seen_at at event). Contains-append_left (transfer_of k e.stamp e.event) (transfers_of k es) _
    (subst (λ (s : Stamped). Contains (transfer_of k s.stamp s.event) (moved_by k at event)) (sym is)
    (has-transfer k at event other)))
    (λ rest. Contains-append_right (transfer_of k e.stamp e.event) (transfers_of k es) _
    (has-shown k es at event rest other))
    (in-cases e es (seen_at at event) c)

-- ---- those of one core among others

pub of_core-append : (k : ℕ) (ts us : List Transfer) → of_core k (ts ++ us) ≡ of_core k ts ++ of_core k us
of_core-append k [] us = refl
of_core-append k (t ∷ ts) us = by (t.core == k) (of_core-append k ts us)
  where
    by : (b : Bool) → of_core k (ts ++ us) ≡ of_core k ts ++ of_core k us
        → cond b (t ∷ of_core k (ts ++ us)) (of_core k (ts ++ us))
        ≡ cond b (t ∷ of_core k ts) (of_core k ts) ++ of_core k us
    by true rest = ap (λ l. t ∷ l) rest
    by false rest = rest

-- all are of that core, or none is
pub of_core-all : (k : ℕ) (ts : List Transfer) → ((t : Transfer) → Contains ts t → t.core ≡ k) → of_core k ts ≡ ts
of_core-all k [] all = refl
of_core-all k (t ∷ ts) all =
    ap (λ b. cond b (t ∷ of_core k ts) (of_core k ts)) (eq-eqb t.core k (all t (in-here t ts)))
    ∙ ap (λ l. t ∷ l) (of_core-all k ts (λ u c. all u (in-there t ts u c)))

pub of_core-none : (k : ℕ) (ts : List Transfer) → ((t : Transfer) → Contains ts t → t.core ≢ k) → of_core k ts ≡ []
of_core-none k [] none = refl
of_core-none k (t ∷ ts) none =
    ap (λ b. cond b (t ∷ of_core k ts) (of_core k ts)) (ne_eqb t.core k (none t (in-here t ts)))
    ∙ of_core-none k ts (λ u c. none u (in-there t ts u c))

pub of_core-in : (k : ℕ) (ts : List Transfer) (t : Transfer) → Contains (of_core k ts) t → Contains ts t × (t.core ≡ k)
of_core-in k [] t c = absurd (in-none t c)
of_core-in k (u ∷ us) t c =
    ⊎_elim
    (λ (is : u.core ≡ k).
    let both : Contains (u ∷ of_core k us) t =
    subst (λ b. Contains (cond b (u ∷ of_core k us) (of_core k us)) t) (eq-eqb u.core k is) c in
    ⊎_elim
    (λ (same : u ≡ t). (subst (Contains (u ∷ us)) same (in-here u us), ap (λ (x : Transfer). x.core) (sym same) ∙ is))
    (λ rest. let found = of_core-in k us t rest in (in-there u us t found.0, found.1))
    (in-cases u (of_core k us) t both))
    (λ (other : u.core ≢ k).
    let found = of_core-in k us t
    (subst (λ b. Contains (cond b (u ∷ of_core k us) (of_core k us)) t) (ne_eqb u.core k other) c) in
    (in-there u us t found.0, found.1))
    (cases_eq u.core k)

pub of_core-has : (ts : List Transfer) (t : Transfer) → Contains ts t → Contains (of_core t.core ts) t
of_core-has [] t c = absurd (in-none t c)
of_core-has (u ∷ us) t c =
    ⊎_elim
    (λ (same : u ≡ t).
    subst (λ b. Contains (cond b (u ∷ of_core t.core us) (of_core t.core us)) t)
    (sym (eq-eqb u.core t.core (ap (λ (x : Transfer). x.core) same)))
    (subst (Contains (u ∷ of_core t.core us)) same (in-here u (of_core t.core us))))
    (λ rest. later (u.core == t.core) (of_core-has us t rest))
    (in-cases u us t c)
  where
    later : (b : Bool) → Contains (of_core t.core us) t
        → Contains (cond b (u ∷ of_core t.core us) (of_core t.core us)) t
    later true found = in-there u (of_core t.core us) t found
    later false found = found

-- ---- rising stamps

pub rise-append : (ts us : List Transfer) → Rise ts → Rise us
    → ((t u : Transfer) → Contains ts t → Contains us u → t.stamp < u.stamp) → Rise (ts ++ us)
rise-append [] us first second between = second
rise-append (t ∷ ts) us first second between = (
  λ later c. ⊎_elim (first.0 later) (between t later (in-here t ts)) (Contains-append_cases ts us later c),
  rise-append ts us first.1 second (λ x y cx cy. between x y (in-there t ts x cx) cy),
)

pub rise-front : (ts us : List Transfer) → Rise (ts ++ us) → Rise ts
rise-front [] us rises = tt
rise-front (t ∷ ts) us rises = (
  λ later c. rises.0 later (Contains-append_left ts us later c),
  rise-front ts us rises.1,
)

pub rise-between : (ts us : List Transfer) → Rise (ts ++ us) → (t u : Transfer) → Contains ts t → Contains us u
    → t.stamp < u.stamp
rise-between [] us rises t u ct cu = absurd (in-none t ct)
rise-between (x ∷ ts) us rises t u ct cu =
    ⊎_elim
    (λ (same : x ≡ t). subst (λ (y : Transfer). y.stamp < u.stamp) same
    (rises.0 u (Contains-append_right ts us u cu)))
    (λ rest. rise-between ts us rises.1 t u rest cu)
    (in-cases x ts t ct)

-- If others are a prefix of a list with rising stamps, their stamps rise too, they are all in it, and anything else in
-- it comes after them all.
pub rise-begins : (ts us : List Transfer) → Rise ts → Rise us → ((u : Transfer) → Contains us u → Contains ts u)
    → ((t : Transfer) → Contains ts t → Contains us t ⊎ ((u : Transfer) → Contains us u → u.stamp < t.stamp))
    → (rest : List Transfer) × (ts ≡ us ++ rest)
rise-begins ts [] rises others all else = (ts, refl)
rise-begins [] (u ∷ us) rises others all else = absurd (in-none u (all u (in-here u us)))
rise-begins (t ∷ ts) (u ∷ us) rises others all else =
    let same : t ≡ u = first in
    let rest = rise-begins ts us rises.1 others.1 (λ x c. inner x c) (λ x c. outer x c) in
    (rest.0, ap (λ l. t ∷ l) rest.1 ∙ ap (λ (x : Transfer). x ∷ (us ++ rest.0)) same)
  where
    first : t ≡ u
    first =
        ⊎_elim
        (λ among.
        ⊎_elim
        (λ (is : u ≡ t). sym is)
        (λ later.
        ⊎_elim
        (λ (is : t ≡ u). is)
        (λ behind. absurd (omega (arith, others.0 t later, rises.0 u behind)))
        (in-cases t ts u (all u (in-here u us))))
        (in-cases u us t among))
        (λ (behind : (x : Transfer) → Contains (u ∷ us) x → x.stamp < t.stamp).
        let less = behind u (in-here u us) in
        ⊎_elim
        (λ (is : t ≡ u). is)
        (λ after. absurd (omega (arith, less, rises.0 u after)))
        (in-cases t ts u (all u (in-here u us))))
        (else t (in-here t ts))

    inner : (x : Transfer) → Contains us x → Contains ts x
    inner x c =
        ⊎_elim
        (λ (is : t ≡ x). absurd (omega (
          arith,
          others.0 x c,
          ap (λ (y : Transfer). y.stamp) is,
          ap (λ (y : Transfer).
              y.stamp) first,
        )))
        (λ rest. rest)
        (in-cases t ts x (all x (in-there u us x c)))

    outer : (x : Transfer) → Contains ts x → Contains us x ⊎ ((y : Transfer) → Contains us y → y.stamp < x.stamp)
    outer x c =
        ⊎_elim
        (λ among.
        ⊎_elim
        (λ (is : u ≡ x). absurd (omega (
          arith,
          rises.0 x c,
          ap (λ (y : Transfer). y.stamp) is,
          ap (λ (y : Transfer).
              y.stamp) first,
        )))
        (λ later. inl later)
        (in-cases u us x among))
        (λ (behind : (y : Transfer) → Contains (u ∷ us) y → y.stamp < x.stamp).
        inr (λ y cy. behind y (in-there u us y cy)))
        (else x (in-there t ts x c))

-- the same members, rising: the same list
pub rise-same : (ts us : List Transfer) → Rise ts → Rise us → ((u : Transfer) → Contains us u → Contains ts u)
    → ((t : Transfer) → Contains ts t → Contains us t) → ts ≡ us
rise-same ts us rises others all back =
    let begins = rise-begins ts us rises others all (λ t c. inl (back t c)) in
    begins.1 ∙ ap (λ l. us ++ l) (nothing begins.0 begins.1) ∙ append-nil us
  where
    nothing : (rest : List Transfer) → ts ≡ us ++ rest → rest ≡ []
    nothing [] is = refl
    nothing (x ∷ rest) is =
        let there : Contains ts x =
        subst (λ l. Contains l x) (sym is) (Contains-append_right us (x ∷ rest) x (in-here x rest)) in
        absurd (omega (
          arith,
          rise-between us (x ∷ rest) (subst Rise is rises) x x (back x there) (in-here x rest),
        ))

pub rise-core : (k : ℕ) (ts : List Transfer) → Rise ts → Rise (of_core k ts)
rise-core k [] rises = tt
rise-core k (t ∷ ts) rises = by (t.core == k) (rise-core k ts rises.1)
  where
    by : (b : Bool) → Rise (of_core k ts) → Rise (cond b (t ∷ of_core k ts) (of_core k ts))
    by true rest = (λ later c. rises.0 later (of_core-in k ts later c).0, rest)
    by false rest = rest
