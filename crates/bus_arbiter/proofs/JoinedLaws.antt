-- The joined list of runs on one bus: there is one, and none of its transfers overlap.
use Rattle.std.proofs.Common.{◌≡◌, ◌≢◌, ℕ, zero, suc, ◌+◌, ◌<◌, ltb, cond, Bool, true, false, ℤ, List, [], ◌∷◌, ◌++◌, length, map, get_or, Contains, Some, ◌⊎◌, inl, inr, refl, sym, ap, ◌∙◌, subst, ⊎_elim, arith, lt-ltb, le-ltb}
use Rattle.std.specs.Prelude.{slice_get}
use Rattle.std.proofs.lemmas.List.{length-map, get_or-map}
use Rattle.std.proofs.lemmas.List.Elements.{Contains-append_cases, Contains-append_left, Contains-append_right}
use Rattle.std.proofs.lemmas.Option.{same_Some, slice_get_within, get_or_from_slice_get}
use Rattle.std.proofs.lemmas.Bool.{cases_eq, cases_lt}
use Rattle.lt_isa.specs.Prelude.{Parts, trace, Stamped, seen_at}
use Rattle.lt_isa.proofs.Cycles.{latency-least}
use Rattle.bus_arbiter.specs.declared.shares.Share.{Share}
use Rattle.bus_arbiter.specs.Prelude.{AllAgree, AllOblivious, AreOnBus, NoneOverlap, Run, shown_to, traces_on, no_share, share_at, share_of, IsDuring, IsJoined, IsTransferIn, Rise, Transfer, all_transfers, bank_used, ordered_transfers, inserted, joined_of, moved_by, of_core, transfers_of}
use Rattle.bus_arbiter.proofs.CoreTransfers.{run-apart, run-moves, run-rises}
use Rattle.bus_arbiter.proofs.Joining.{core-of}
use Rattle.bus_arbiter.proofs.TransferLists.{has-shown, in-cases, in-here, in-none, in-there, of_core-has, of_core-in, rise-core, rise-same, shown-as}
use Rattle.bus_arbiter.proofs.Windows.{never-both}

-- ---- putting in order

in-inserted : (t : Transfer) (us : List Transfer) (x : Transfer) → Contains (inserted t us) x
    → (t ≡ x) ⊎ Contains us x
in-inserted t [] x c = in-cases t [] x c
in-inserted t (u ∷ us) x c = by (ltb t.stamp u.stamp) c (in-inserted t us x)
  where
    by : (b : Bool) → Contains (cond b (t ∷ u ∷ us) (u ∷ inserted t us)) x
        → (Contains (inserted t us) x → (t ≡ x) ⊎ Contains us x) → (t ≡ x) ⊎ Contains (u ∷ us) x
    by true found rest = in-cases t (u ∷ us) x found
    by false found rest =
        ⊎_elim
        (λ (is : u ≡ x). inr (subst (Contains (u ∷ us)) is (in-here u us)))
        (λ later. ⊎_elim (λ is. inl is) (λ old. inr (in-there u us x old)) (rest later))
        (in-cases u (inserted t us) x found)

has-inserted : (t : Transfer) (us : List Transfer) (x : Transfer) → (t ≡ x) ⊎ Contains us x
    → Contains (inserted t us) x
has-inserted t [] x (inl is) = subst (Contains (t ∷ [])) is (in-here t [])
has-inserted t [] x (inr old) = absurd (in-none x old)
has-inserted t (u ∷ us) x which = by (ltb t.stamp u.stamp) (has-inserted t us x)
  where
    by : (b : Bool) → ((t ≡ x) ⊎ Contains us x → Contains (inserted t us) x)
        → Contains (cond b (t ∷ u ∷ us) (u ∷ inserted t us)) x
    by true rest =
        ⊎_elim
        (λ (is : t ≡ x). subst (Contains (t ∷ u ∷ us)) is (in-here t (u ∷ us)))
        (λ old. in-there t (u ∷ us) x old) which
    by false rest =
        ⊎_elim
        (λ is. in-there u (inserted t us) x (rest (inl is)))
        (λ old.
        ⊎_elim
        (λ (is : u ≡ x). subst (Contains (u ∷ inserted t us)) is (in-here u (inserted t us)))
        (λ later. in-there u (inserted t us) x (rest (inr later)))
        (in-cases u us x old))
        which

pub in-ordered : (ts : List Transfer) (x : Transfer) → Contains (ordered_transfers ts) x → Contains ts x
in-ordered [] x c = c
in-ordered (t ∷ ts) x c =
    ⊎_elim
    (λ (is : t ≡ x). subst (Contains (t ∷ ts)) is (in-here t ts))
    (λ old. in-there t ts x (in-ordered ts x old))
    (in-inserted t (ordered_transfers ts) x c)

pub has-order : (ts : List Transfer) (x : Transfer) → Contains ts x → Contains (ordered_transfers ts) x
has-order [] x c = c
has-order (t ∷ ts) x c =
    has-inserted t (ordered_transfers ts) x
    (⊎_elim (λ is. inl is) (λ old. inr (has-order ts x old)) (in-cases t ts x c))

-- no two have one stamp
abbrev pub Differ : List Transfer → Type 0
Differ [] = Unit {0}
Differ (t ∷ ts) = ((u : Transfer) → Contains ts u → t.stamp ≢ u.stamp) × Differ ts

rise-inserted : (t : Transfer) (us : List Transfer) → Rise us → ((u : Transfer) → Contains us u → t.stamp ≢ u.stamp)
    → Rise (inserted t us)
rise-inserted t [] rises other = (λ later c. absurd (in-none later c), tt)
rise-inserted t (u ∷ us) rises other =
    ⊎_elim
    (λ less.
    subst Rise (ap (λ b. cond b (t ∷ u ∷ us) (u ∷ inserted t us)) (sym (lt-ltb t.stamp u.stamp less))) (
      (λ later c.
          ⊎_elim
          (λ (is : u ≡ later). subst (λ (x : Transfer). t.stamp < x.stamp) is less)
          (λ behind. omega (arith, less, rises.0 later behind))
          (in-cases u us later c)),
      rises,
    ))
    (λ past.
    let more : u.stamp < t.stamp = omega (arith, past, other u (in-here u us)) in
    subst Rise (ap (λ b. cond b (t ∷ u ∷ us) (u ∷ inserted t us)) (sym (le-ltb t.stamp u.stamp past))) (
      (λ later c.
          ⊎_elim
          (λ (is : t ≡ later). subst (λ (x : Transfer). u.stamp < x.stamp) is more)
          (rises.0 later)
          (in-inserted t us later c)),
      rise-inserted t us rises.1 (λ x c. other x (in-there u us x c)),
    ))
    (cases_lt t.stamp u.stamp)

pub rise-order : (ts : List Transfer) → Differ ts → Rise (ordered_transfers ts)
rise-order [] differ = tt
rise-order (t ∷ ts) differ =
    rise-inserted t (ordered_transfers ts) (rise-order ts differ.1) (λ u c. differ.0 u (in-ordered ts u c))

differ-rise : (ts : List Transfer) → Rise ts → Differ ts
differ-rise [] rises = tt
differ-rise (t ∷ ts) rises = (λ u c is. omega (arith, rises.0 u c, is), differ-rise ts rises.1)

differ-append : (ts us : List Transfer) → Differ ts → Differ us
    → ((t u : Transfer) → Contains ts t → Contains us u → t.stamp ≢ u.stamp) → Differ (ts ++ us)
differ-append [] us one two between = two
differ-append (t ∷ ts) us one two between = (
  λ u c. ⊎_elim (one.0 u) (between t u (in-here t ts)) (Contains-append_cases ts us u c),
  differ-append ts us one.1 two (λ x y cx cy. between x y (in-there t ts x cx) cy),
)

-- ---- the transfers of all traces

pub record AmongAll (k : ℕ) (traces : List (List Stamped)) (t : Transfer) : Type 0 where
  pub number : ℕ
  pub within : number < length traces
  pub core : t.core ≡ k + number
  pub found : Contains (transfers_of t.core (get_or traces number [])) t

among-all : (k : ℕ) (traces : List (List Stamped)) (t : Transfer) → Contains (all_transfers k traces) t
    → AmongAll k traces t
among-all k [] t c = absurd (in-none t c)
among-all k (es ∷ traces) t c =
    ⊎_elim
    (λ here.
    let is = shown-as k es t here in
    record {
      number = 0;
      within = omega arith;
      core = omega (arith, is.core);
      found = subst (λ j. Contains (transfers_of j es) t) (sym is.core) here;
    })
    (λ later.
    let is = among-all (k + 1) traces t later in
    record {
      number = suc is.number;
      within = omega (arith, is.within);
      core = omega (arith, is.core);
      found = is.found;
    })
    (Contains-append_cases (transfers_of k es) (all_transfers (k + 1) traces) t c)

has-all : (k : ℕ) (traces : List (List Stamped)) (number : ℕ) (t : Transfer) → number < length traces
    → t.core ≡ k + number → Contains (transfers_of t.core (get_or traces number [])) t
    → Contains (all_transfers k traces) t
has-all k [] number t within is found = absurd (omega (arith, within))
has-all k (es ∷ traces) zero t within is found =
    let same : t.core ≡ k = omega (arith, is) in
    Contains-append_left (transfers_of k es) (all_transfers (k + 1) traces) t
    (subst (λ j. Contains (transfers_of j es) t) same found)
has-all k (es ∷ traces) (suc number) t within is found =
    Contains-append_right (transfers_of k es) (all_transfers (k + 1) traces) t
    (has-all (k + 1) traces number t (omega (arith, within)) (omega (arith, is)) found)

module _ (runs : List Run) (bus : AreOnBus runs) (n : ℕ) where
  abbrev plan : List Share
  plan = map (λ (r : Run). share_of r.object) runs

  plan-length : length plan ≡ length runs
  plan-length = length-map runs (λ (r : Run). share_of r.object)

  share-is : (k : ℕ) (r : Run) → slice_get runs k ≡ Some r → share_of r.object ≡ share_at plan k
  share-is k r there =
      sym (get_or-map (λ (x : Run). share_of x.object) runs k r no_share (slice_get_within runs k r there)
      ∙ ap (λ (x : Run). share_of x.object) (get_or_from_slice_get runs k r r there))

  -- two transfers that are on the bus in one cycle are the same
  pub same-during : (j k : ℕ) (r s : Run) → slice_get runs j ≡ Some r → slice_get runs k ≡ Some s → (t u : Transfer)
      → Contains (transfers_of j (shown_to n r)) t → Contains (transfers_of k (shown_to n s)) u → (cycle : ℕ)
      → IsDuring r.object t cycle → IsDuring s.object u cycle → t ≡ u
  same-during j k r s first second t u ct cu cycle dt du =
      ⊎_elim
      (λ (is : j ≡ k).
      let same : s ≡ r = same_Some s r (sym second ∙ ap (slice_get runs) (sym is) ∙ first) in
      let own : Contains (transfers_of j (shown_to n r)) u =
      subst (λ (x : Run). Contains (transfers_of j (shown_to n x)) u) same
      (subst (λ i. Contains (transfers_of i (shown_to n s)) u) (sym is) cu) in
      run-apart r.object (bus.in_range j r first) r.state (bus.shaped j r first) n j t u ct own cycle dt
      (subst (λ (x : Run). IsDuring x.object u cycle) same du))
      (λ other.
      absurd (never-both plan bus.plan j k (omega (arith, plan-length, slice_get_within runs j r first))
      (omega (arith, plan-length, slice_get_within runs k s second)) other r.object s.object
      (share-is j r first) (share-is k s second) _ _ t u
      (run-moves r.object (bus.in_range j r first) r.state (bus.shaped j r first) n j t ct)
      (run-moves s.object (bus.in_range k s second) s.state (bus.shaped k s second) n k u cu)
      cycle dt du))
      (cases_eq j k)

  -- a transfer is on the bus when it starts
  starts-during : (k : ℕ) (r : Run) → slice_get runs k ≡ Some r → (t : Transfer)
      → Contains (transfers_of k (shown_to n r)) t → IsDuring r.object t t.stamp
  starts-during k r there t c =
      let moves = run-moves r.object (bus.in_range k r there) r.state (bus.shaped k r there) n k t c in
      record {
        begun = omega arith;
        unended = omega (arith, latency-least r.object (bus.in_range k r there) (bank_used t.event) moves.bank);
      }

  trace-at : (k : ℕ) (r : Run) → slice_get runs k ≡ Some r → get_or (map (shown_to n) runs) k [] ≡ shown_to n r
  trace-at k r there =
      get_or-map (shown_to n) runs k r [] (slice_get_within runs k r there)
      ∙ ap (shown_to n) (get_or_from_slice_get runs k r r there)

  pub none-overlap : (joined : List Transfer) → IsJoined (map (shown_to n) runs) joined → NoneOverlap runs joined
  none-overlap joined is t u ct cu r s first second cycle dt du =
      let one = (is.each t).0 ct in
      let two = (is.each u).0 cu in
      same-during t.core u.core r s first second t u
      (has-shown t.core (shown_to n r) t.stamp t.event
      (subst (λ l. Contains l (seen_at t.stamp t.event)) (trace-at t.core r first) one.shown) one.no_halt)
      (has-shown u.core (shown_to n s) u.stamp u.event
      (subst (λ l. Contains l (seen_at u.stamp u.event)) (trace-at u.core s second) two.shown) two.no_halt)
      cycle dt du

  -- a core's part of the joined list is what its run shows
  pub own-part : (joined : List Transfer) → IsJoined (map (shown_to n) runs) joined → (k : ℕ) (r : Run)
      → slice_get runs k ≡ Some r → of_core k joined ≡ transfers_of k (shown_to n r)
  own-part joined is k r there =
      rise-same (of_core k joined) (transfers_of k (shown_to n r)) (rise-core k joined is.rises)
      (run-rises r.object (bus.in_range k r there) r.state (bus.shaped k r there) n k) whole alone
    where
      alone : (t : Transfer) → Contains (of_core k joined) t → Contains (transfers_of k (shown_to n r)) t
      alone t c =
          let found = of_core-in k joined t c in
          let one = (is.each t).0 found.0 in
          subst (λ i. Contains (transfers_of k (shown_to n r)) (moved_by i t.stamp t.event)) (sym found.1)
          (has-shown k (shown_to n r) t.stamp t.event
          (subst (λ l. Contains l (seen_at t.stamp t.event))
          (ap (λ i. get_or (map (shown_to n) runs) i []) found.1 ∙ trace-at k r there) one.shown) one.no_halt)

      whole : (u : Transfer) → Contains (transfers_of k (shown_to n r)) u → Contains (of_core k joined) u
      whole u c =
          let seen = shown-as k (shown_to n r) u c in
          subst (λ i. Contains (of_core i joined) u) seen.core
          (of_core-has joined u ((is.each u).1 (record {
            core = omega (arith, seen.core, length-map runs (shown_to n), slice_get_within runs k r there);
            shown =
                subst (λ l. Contains l (seen_at u.stamp u.event))
                (sym (ap (λ i. get_or (map (shown_to n) runs) i []) seen.core ∙ trace-at k r there)) seen.shown;
            no_halt = seen.no_halt;
          })))

  -- all transfers of the runs from number k on have their own stamps
  all-differ : (k : ℕ) (rest : List Run)
      → ((i : ℕ) (r : Run) → slice_get rest i ≡ Some r → slice_get runs (k + i) ≡ Some r)
      → Differ (all_transfers k (map (shown_to n) rest))
  all-differ k [] there = tt
  all-differ k (r ∷ rest) there =
      let here : slice_get runs k ≡ Some r =
      subst (λ j. slice_get runs j ≡ Some r) (omega arith) (there 0 r refl) in
      differ-append (transfers_of k (shown_to n r)) (all_transfers (k + 1) (map (shown_to n) rest))
      (differ-rise (transfers_of k (shown_to n r))
      (run-rises r.object (bus.in_range k r here) r.state (bus.shaped k r here) n k))
      (all-differ (k + 1) rest (λ i x at.
      subst (λ j. slice_get runs j ≡ Some x) (omega arith) (there (suc i) x at)))
      (λ t u ct cu is. apart t u ct (among-all (k + 1) (map (shown_to n) rest) u cu) here is)
    where
      apart : (t u : Transfer) → Contains (transfers_of k (shown_to n r)) t
          → AmongAll (k + 1) (map (shown_to n) rest) u → slice_get runs k ≡ Some r → t.stamp ≡ u.stamp → ⊥
      apart t u ct among here is =
          let count = length-map rest (shown_to n) in
          let at = core-of rest among.number (omega (arith, among.within, count)) in
          let place : slice_get runs u.core ≡ Some at.0 =
          subst (λ j. slice_get runs j ≡ Some at.0) (omega (arith, among.core)) (there (suc among.number) at.0 at.1) in
          let shown : Contains (transfers_of u.core (shown_to n at.0)) u =
          subst (λ l. Contains (transfers_of u.core l) u)
          (get_or-map (shown_to n) rest among.number at.0 [] (slice_get_within rest among.number at.0 at.1)
          ∙ ap (shown_to n) (get_or_from_slice_get rest among.number at.0 at.0 at.1)) among.found in
          let same = same-during k u.core r at.0 here place t u ct shown t.stamp (starts-during k r here t ct)
          (subst (λ c. IsDuring at.0.object u c) (sym is) (starts-during u.core at.0 place u shown)) in
          let core : t.core ≡ k = (shown-as k (shown_to n r) t ct).core in
          omega (arith, core, among.core, ap (λ (x : Transfer). x.core) same)

  pub worked-out : IsJoined (map (shown_to n) runs) (joined_of (map (shown_to n) runs))
  worked-out = record {
    rises =
        rise-order (all_transfers 0 (map (shown_to n) runs))
        (all-differ 0 runs (λ i r at. subst (λ j. slice_get runs j ≡ Some r) (omega arith) at));
    each = λ t. (to t, from t);
  }
    where
      to : (t : Transfer) → Contains (joined_of (map (shown_to n) runs)) t → IsTransferIn (map (shown_to n) runs) t
      to t c =
          let among =
          among-all 0 (map (shown_to n) runs) t (in-ordered (all_transfers 0 (map (shown_to n) runs)) t c) in
          let same : among.number ≡ t.core = omega (arith, among.core) in
          let is = shown-as t.core (get_or (map (shown_to n) runs) among.number []) t among.found in
          record {
            core = omega (arith, same, among.within);
            shown =
                subst (λ j. Contains (get_or (map (shown_to n) runs) j []) (seen_at t.stamp t.event)) same is.shown;
            no_halt = is.no_halt;
          }

      from : (t : Transfer) → IsTransferIn (map (shown_to n) runs) t → Contains (joined_of (map (shown_to n) runs)) t
      from t is =
          has-order (all_transfers 0 (map (shown_to n) runs)) t
          (has-all 0 (map (shown_to n) runs) t.core t is.core (omega arith)
          (has-shown t.core (get_or (map (shown_to n) runs) t.core []) t.stamp t.event is.shown is.no_halt))

-- ---- other laws

pub one-list : (traces : List (List Stamped)) (one other : List Transfer) → IsJoined traces one
    → IsJoined traces other → one ≡ other
one-list traces one other first second =
    rise-same one other first.rises second.rises
    (λ u c. (first.each u).1 ((second.each u).0 c)) (λ t c. (second.each t).1 ((first.each t).0 c))

pub agreeing : (os : List Parts) (ds es : List (List (List ℤ))) → AllOblivious os → AllAgree os ds es → (n : ℕ)
    → traces_on os ds n ≡ traces_on os es n
agreeing [] ds es oblivious agree n = refl
agreeing (o ∷ os) [] [] oblivious agree n = refl
agreeing (o ∷ os) [] (e ∷ es) oblivious agree n = absurd agree
agreeing (o ∷ os) (d ∷ ds) [] oblivious agree n = absurd agree
agreeing (o ∷ os) (d ∷ ds) (e ∷ es) oblivious agree n =
    ap (λ t. t ∷ traces_on os ds n) (oblivious.0.same_traces d e agree.0 n)
    ∙ ap (λ l. trace o e n ∷ l) (agreeing os ds es oblivious.1 agree.1 n)
