-- From the runs on a bus to the printed lines, and how its work ends.
use Rattle.std.proofs.Common.{◌≡◌, inl, inr, ℕ, zero, suc, ◌+◌, ◌<◌, ◌≤◌, ℤ, Bool, true, false, ◌&&◌, List, [], ◌∷◌, ◌++◌, length, drop, get_or, take, take-append-drop, Option, Some, None, is_some, refl, sym, ap, ap₂, ◌∙◌, subst, arith, append_assoc, length-append}
use Rattle.std.specs.Prelude.{codes, decimal, slice_get}
use Rattle.std.proofs.lemmas.List.{append-nil, length-map, length-take-le}
use Rattle.gr_base.specs.Prelude.{Adds, AddsLess, Rose}
use Rattle.gr_base.proofs.Added.{Adds-then, AddsLess-then, AddsLess-more}
use Rattle.gr_outside.specs.Prelude.{SinkSeen}
use Rattle.lt_isa.specs.Prelude.{State, Parts, IsInRange, FitsObject, start_state, Stamped, trace_from}
use Rattle.processor.specs.Prelude.{EndsAs}
use Rattle.bus_arbiter.specs.Prelude.{Core, LeftIf, RanTo, end_as, trace_to, traces_to, AllFit, traces_on, AllLeft, Transfer}
use Rattle.path_oram.specs.Prelude.{Oram}
use Rattle.rand_chacha.specs.ChaCha.{ChaCha}
use Rattle.call_replies.specs.declared.replies.Verdict.TheVariants.{Shared}
use Rattle.call_steps.specs.Prelude.{BankBegins, HasBegun, Explains, outside_at, Stage, HasReached, WhatIsJoined, WhenItHalts, HaltOf, bus_seen, core_line, core_lines, halt_text, transfer_lines, Asks, Ends, Work}
use Rattle.command_words.specs.Prelude.{Pair}
use Rattle.machine_verbs.specs.Prelude.{Read, all_halted, bus_work, shares_bus, with_halts, AllBegin, AreHalts, PutsHalts, PutsJoined, PutsShared, halts_of}
use Rattle.call_steps.proofs.Answering.{judged-said}
use Rattle.machine_verbs.proofs.BusWatches.{halt-some}
use Rattle.call_steps.proofs.Reaching.{with-answer}
use Rattle.call_steps.proofs.Saying.{halts-or-not}

-- ---- cores at the start of their runs

pub begin-more : (seed k : ℕ) (os : List Parts) (ds : List (List (List ℤ))) (cores : List (Core (Oram ChaCha)))
    (o : Parts) (d : List (List ℤ)) (c : Core (Oram ChaCha)) → AllBegin seed k os ds cores
    → HasBegun (BankBegins o d seed (k + length os)) o d c.machine
    → AllBegin seed k (os ++ o ∷ []) (ds ++ d ∷ []) (cores ++ c ∷ [])
begin-more seed k [] [] [] o d c all one =
    let none : k + 0 ≡ k = omega arith in
    (subst (λ n. HasBegun (BankBegins o d seed n) o d c.machine) none one, tt)
begin-more seed k [] [] (b ∷ cores) o d c all one = absurd all
begin-more seed k [] (e ∷ ds) cores o d c all one = absurd all
begin-more seed k (p ∷ os) [] cores o d c all one = absurd all
begin-more seed k (p ∷ os) (e ∷ ds) [] o d c all one = absurd all
begin-more seed k (p ∷ os) (e ∷ ds) (b ∷ cores) o d c all one =
    let next : k + suc (length os) ≡ k + 1 + length os = omega arith in (
      all.0,
      begin-more seed (k + 1) os ds cores o d c all.1
          (subst (λ n. HasBegun (BankBegins o d seed n) o d c.machine) next one),
    )

pub begin-traces : (seed k n : ℕ) (os : List Parts) (ds : List (List (List ℤ))) (cores : List (Core (Oram ChaCha)))
    → AllBegin seed k os ds cores → traces_to cores n ≡ traces_on os ds n
begin-traces seed k n [] [] [] all = refl
begin-traces seed k n [] [] (b ∷ cores) all = absurd all
begin-traces seed k n [] (e ∷ ds) cores all = absurd all
begin-traces seed k n (p ∷ os) [] cores all = absurd all
begin-traces seed k n (p ∷ os) (e ∷ ds) [] all = absurd all
begin-traces seed k n (p ∷ os) (e ∷ ds) (b ∷ cores) all =
    ap₂ (λ (es : List Stamped) (l : List (List Stamped)). es ∷ l)
    (ap₂ (λ (o : Parts) (s : State). trace_from o s n) all.0.object all.0.state)
    (begin-traces seed (k + 1) n os ds cores all.1)

pub begin-count : (seed k : ℕ) (os : List Parts) (ds : List (List (List ℤ))) (cores : List (Core (Oram ChaCha)))
    → AllBegin seed k os ds cores → length cores ≡ length os
begin-count seed k [] [] [] all = refl
begin-count seed k [] [] (b ∷ cores) all = absurd all
begin-count seed k [] (e ∷ ds) cores all = absurd all
begin-count seed k (p ∷ os) [] cores all = absurd all
begin-count seed k (p ∷ os) (e ∷ ds) [] all = absurd all
begin-count seed k (p ∷ os) (e ∷ ds) (b ∷ cores) all = ap suc (begin-count seed (k + 1) os ds cores all.1)

take-one : {X : Type 0} (x : X) (xs : List X) (k : ℕ) → k < length xs
    → take (suc k) xs ≡ take k xs ++ get_or xs k x ∷ []
take-one x [] k within = absurd (omega (arith, within))
take-one x (y ∷ xs) zero within = refl
take-one x (y ∷ xs) (suc k) within = ap (λ l. y ∷ l) (take-one x xs k (omega (arith, within)))

-- what is known of the objects and inputs one by one
pub fit-at : (os : List Parts) (ds : List (List (List ℤ))) → AllFit os ds → (k : ℕ) (p : Parts) (e : List (List ℤ))
    → k < length os → IsInRange (get_or os k p) × FitsObject (get_or os k p) (get_or ds k e)
fit-at [] ds all k p e within = absurd (omega (arith, within))
fit-at (o ∷ os) [] all k p e within = absurd all
fit-at (o ∷ os) (d ∷ ds) all zero p e within = (all.0, all.1)
fit-at (o ∷ os) (d ∷ ds) all (suc k) p e within = fit-at os ds all.2 k p e (omega (arith, within))

pub fit-count : (os : List Parts) (ds : List (List (List ℤ))) → AllFit os ds → length ds ≡ length os
fit-count [] [] all = refl
fit-count [] (d ∷ ds) all = absurd all
fit-count (o ∷ os) [] all = absurd all
fit-count (o ∷ os) (d ∷ ds) all = ap suc (fit-count os ds all.2)

pub start-place : (o : Parts) (d : List (List ℤ)) → (start_state o d).place ≡ 0
unfolding start_state
start-place o d = refl

pub start-cycle : (o : Parts) (d : List (List ℤ)) → (start_state o d).cycle ≡ 0
unfolding start_state
start-cycle o d = refl

pub take-more : {X : Type 0} (xs : List X) (k : ℕ) (x : X) → k < length xs
    → take (k + 1) xs ≡ take k xs ++ get_or xs k x ∷ []
take-more xs k x within = let one : k + 1 ≡ suc k = omega arith in ap (λ n. take n xs) one ∙ take-one x xs k within

-- ---- halts

some-halts : (traces : List (List Stamped)) → (halts : List (Option ℕ)) × AreHalts traces halts
some-halts [] = ([], tt)
some-halts (es ∷ traces) =
    let rest = some-halts traces in
    elim (halts-or-not es) [
      | inl halt ↦ (Some halt.0 ∷ rest.0, (halt.1, rest.1))
      | inr none ↦ (None ∷ rest.0, (none, rest.1))
    ]

halt-as : (es : List Stamped) (halt : Option ℕ) → EndsAs es (end_as halt) → HaltOf es halt
halt-as es None ends = ends
halt-as es (Some at) ends = ends.0

pub left-halts : (n : ℕ) (before after : List (Core (Oram ChaCha))) → AllLeft before n after
    → ((k : ℕ) (c : Core (Oram ChaCha)) → slice_get before k ≡ Some c → c.halted ≡ None)
    → AreHalts (traces_to before n) (halts_of after)
left-halts n [] [] left none = tt
left-halts n [] (d ∷ after) left none = absurd (let e = left.count in omega (arith, e))
left-halts n (c ∷ before) [] left none = absurd (let e = left.count in omega (arith, e))
left-halts n (c ∷ before) (d ∷ after) left none =
    let ran : RanTo c n d = subst (λ h. LeftIf h c n d) (none 0 c refl) (left.each 0 c d refl refl) in (
      halt-as (trace_to c n) d.halted ran.ends,
      left-halts n before after
          (record {
            count = let e = left.count in omega (arith, e);
            each = λ k x y first second. left.each (suc k) x y first second;
          })
          (λ k x there. none (suc k) x there),
    )

-- one core more
pub lines-more : (k : ℕ) (halts : List (Option ℕ)) (halt : Option ℕ)
    → core_lines k (halts ++ halt ∷ []) ≡ core_lines k halts ++ core_line (k + length halts) halt
lines-more k [] halt =
    append-nil (core_line k halt) ∙ ap (λ n. core_line n halt) (let e : k ≡ k + 0 = omega arith in e)
lines-more k (h ∷ halts) halt =
    ap (λ l. core_line k h ++ l)
    (lines-more (k + 1) halts halt
    ∙ ap (λ n. core_lines (k + 1) halts ++ core_line n halt)
    (let e : k + 1 + length halts ≡ k + length (h ∷ halts) = omega arith in e))
    ∙ sym (append_assoc (core_line k h) (core_lines (k + 1) halts) (core_line (k + length (h ∷ halts)) halt))

pub halted-more : (halts : List (Option ℕ)) (halt : Option ℕ)
    → all_halted (halts ++ halt ∷ []) ≡ (all_halted halts && is_some halt)
halted-more [] None = refl
halted-more [] (Some at) = refl
halted-more (None ∷ halts) halt = refl
halted-more (Some at ∷ halts) halt = halted-more halts halt

pub line-some : (core : ℕ) (halt : Option ℕ) → 0 < length (core_line core halt)
line-some core halt =
    omega (arith, length-append (codes "core " ++ decimal core) (halt_text halt), halt-some halt)

lines-some : (k : ℕ) (halts : List (Option ℕ)) → 1 ≤ length halts → 0 < length (core_lines k halts)
lines-some k [] some = absurd (omega (arith, some))
lines-some k (h ∷ halts) some =
    omega (arith, length-append (core_line k h) (core_lines (k + 1) halts), line-some k h)

-- two lists of halts, concatenated
lines-both : (k : ℕ) (halts others : List (Option ℕ))
    → core_lines k (halts ++ others) ≡ core_lines k halts ++ core_lines (k + length halts) others
lines-both k [] others = ap (λ n. core_lines n others) (let e : k ≡ k + 0 = omega arith in e)
lines-both k (h ∷ halts) others =
    ap (λ l. core_line k h ++ l)
    (lines-both (k + 1) halts others
    ∙ ap (λ n. core_lines (k + 1) halts ++ core_lines n others)
    (let e : k + 1 + length halts ≡ k + length (h ∷ halts) = omega arith in e))
    ∙ sym (append_assoc (core_line k h) (core_lines (k + 1) halts) (core_lines (k + length (h ∷ halts)) others))

-- ---- halts that are read core by core

-- what is known of the halt of core k
abbrev pub IsHaltAt : List (Core (Oram ChaCha)) → ℕ → Option ℕ → Type 0
IsHaltAt cores k halt = (c : Core (Oram ChaCha)) → slice_get cores k ≡ Some c → halt ≡ c.halted

halt-get : (cores : List (Core (Oram ChaCha))) (k : ℕ) (halt : Option ℕ) → k < length cores → IsHaltAt cores k halt
    → get_or (halts_of cores) k halt ≡ halt
halt-get [] k halt within known = absurd (omega (arith, within))
halt-get (c ∷ cores) zero halt within known = sym (known c refl)
halt-get (c ∷ cores) (suc k) halt within known =
    halt-get cores k halt (omega (arith, within)) (λ d there. known d there)

module _ (cores : List (Core (Oram ChaCha))) (k : ℕ) (halt : Option ℕ) (within : k < length cores)
    (known : IsHaltAt cores k halt) where
  halts-within : k < length (halts_of cores)
  halts-within = omega (arith, within, length-map cores (λ (c : Core (Oram ChaCha)). c.halted))

  pub halts-more : take (k + 1) (halts_of cores) ≡ take k (halts_of cores) ++ halt ∷ []
  halts-more =
      take-more (halts_of cores) k halt halts-within
      ∙ ap (λ (h : Option ℕ). take k (halts_of cores) ++ h ∷ []) (halt-get cores k halt within known)

  halts-number : 0 + length (take k (halts_of cores)) ≡ k
  halts-number = omega (arith, length-take-le k (halts_of cores) (omega (arith, halts-within)))

  pub halts-text : core_lines 0 (take (k + 1) (halts_of cores))
      ≡ core_lines 0 (take k (halts_of cores)) ++ core_line k halt
  halts-text =
      ap (λ l. core_lines 0 l) halts-more ∙ lines-more 0 (take k (halts_of cores)) halt
      ∙ ap (λ n. core_lines 0 (take k (halts_of cores)) ++ core_line n halt) halts-number

  pub halts-put : (before middle now : Option (List ℕ)) → Adds before middle (core_lines 0 (take k (halts_of cores)))
      → Adds middle now (core_line k halt) → Adds before now (core_lines 0 (take (k + 1) (halts_of cores)))
  halts-put before middle now first second =
      subst (Adds before now) (sym halts-text)
      (Adds-then before middle now (core_lines 0 (take k (halts_of cores))) (core_line k halt) first second)

  pub halts-all : (all more : Bool) → all ≡ all_halted (take k (halts_of cores)) → more ≡ (all && is_some halt)
      → more ≡ all_halted (take (k + 1) (halts_of cores))
  halts-all all more are is =
      is ∙ ap (λ b. b && is_some halt) are ∙ sym (halted-more (take k (halts_of cores)) halt)
      ∙ sym (ap all_halted halts-more)

  -- the whole text, if a prefix of this line was printed
  halts-whole : core_lines 0 (halts_of cores)
      ≡ (core_lines 0 (take k (halts_of cores)) ++ core_line k halt)
      ++ core_lines (0 + length (take (k + 1) (halts_of cores))) (drop (k + 1) (halts_of cores))
  halts-whole =
      ap (λ l. core_lines 0 l) (sym (take-append-drop (k + 1) (halts_of cores)))
      ∙ lines-both 0 (take (k + 1) (halts_of cores)) (drop (k + 1) (halts_of cores))
      ∙ ap (λ l. l ++ core_lines (0 + length (take (k + 1) (halts_of cores))) (drop (k + 1) (halts_of cores)))
      halts-text

  pub halts-cut : (before middle now : SinkSeen) → Adds before.held middle.held (core_lines 0 (take k (halts_of cores)))
      → middle.faults ≡ before.faults → AddsLess middle.held now.held (core_line k halt)
      → Rose middle.faults now.faults → PutsHalts before now (halts_of cores) 4
  halts-cut before middle now first calm cut rose = record {
    put = inr (
      refl,
      subst (λ n. Rose n now.faults) calm rose,
      subst (AddsLess before.held now.held) (sym halts-whole)
          (AddsLess-more before.held now.held (core_lines 0 (take k (halts_of cores)) ++ core_line k halt)
          (core_lines (0 + length (take (k + 1) (halts_of cores))) (drop (k + 1) (halts_of cores)))
          (AddsLess-then before.held middle.held now.held (core_lines 0 (take k (halts_of cores))) (core_line k halt)
          first (line-some k halt) cut)),
    );
    some = λ e. omega (arith, halts-within);
  }

-- ---- the printed text

tail-text : (joined : List Transfer) (halts : List (Option ℕ))
    → transfer_lines joined ++ core_lines 0 halts ≡ transfer_lines joined ++ (core_lines 0 halts ++ [])
tail-text joined halts = ap (λ l. transfer_lines joined ++ l) (sym (append-nil (core_lines 0 halts)))

pub shared-put : (before middle after : SinkSeen) (traces : List (List Stamped)) (halts : List (Option ℕ)) (status : ℕ)
    → PutsJoined before middle traces true → AreHalts traces halts → PutsHalts middle after halts status
    → PutsShared before after traces status
shared-put before middle after traces halts status put are ended = record {
  joined = put.joined;
  joins = put.joins;
  halts = halts;
  are = are;
  put = elim ended.put [
    | inl done ↦ inl (
      done.0,
      subst (Adds before.held after.held) (tail-text put.joined halts)
          (Adds-then before.held middle.held after.held (transfer_lines put.joined) (core_lines 0 halts)
          put.put.0 done.1),
      done.2 ∙ put.put.1,
    )
    | inr cut ↦ inr (
      cut.0,
      subst (λ n. Rose n after.faults) put.put.1 cut.1,
      subst (AddsLess before.held after.held) (tail-text put.joined halts)
          (AddsLess-then before.held middle.held after.held (transfer_lines put.joined) (core_lines 0 halts)
          put.put.0 (lines-some 0 halts (ended.some cut.0)) cut.2),
    )
  ];
}

pub shared-cut : (before after : SinkSeen) (traces : List (List Stamped)) → PutsJoined before after traces false
    → PutsShared before after traces 4
shared-cut before after traces cut =
    let found = some-halts traces in
    record {
      joined = cut.joined;
      joins = cut.joins;
      halts = found.0;
      are = found.1;
      put = inr (
        refl,
        cut.put.0,
        AddsLess-more before.held after.held (transfer_lines cut.joined) (core_lines 0 found.0 ++ []) cut.put.1,
      );
    }

-- ---- the work

reached-halts : {before after : Stage} {work : Work} (n : ℕ) (os : List Parts) (ds : List (List (List ℤ)))
    (halts : List (Option ℕ)) (next : List (Option ℕ) → Work) → HasReached before after work (with_halts n os ds next)
    → AreHalts (traces_on os ds n) halts → HasReached before after work (next halts)
reached-halts n [] ds [] next reached are = reached
reached-halts n [] ds (h ∷ halts) next reached are = absurd are
reached-halts n (o ∷ os) [] [] next reached are = reached
reached-halts n (o ∷ os) [] (h ∷ halts) next reached are = absurd are
reached-halts n (o ∷ os) (d ∷ ds) [] next reached are = absurd are
reached-halts n (o ∷ os) (d ∷ ds) (h ∷ halts) next reached are =
    reached-halts n os ds halts (λ more. next (h ∷ more))
    (with-answer (WhenItHalts o d n) (λ halt. with_halts n os ds (λ more. next (halt ∷ more))) h reached are.0)
    are.1

-- the lines for what was read were printed
pub shared-said : (shelf now : Stage) (before after : SinkSeen) (status : ℕ) (pairs : List Pair) (cycles : ℕ)
    (read : Read) → HasReached shelf now (bus_work pairs cycles) (shares_bus cycles read)
    → PutsShared before after (traces_on read.objects read.inputs cycles) status
    → Explains (outside_at shelf before) (outside_at now after) status (Some (bus_work pairs cycles))
shared-said shelf now before after status pairs cycles read reached shared =
    judged-said shelf now before after status (bus_work pairs cycles)
    (bus_seen shared.joined shared.halts) (Shared (all_halted shared.halts))
    (with-answer (WhatIsJoined read.objects read.inputs cycles)
    (λ joined. Ends (bus_seen joined shared.halts) (Shared (all_halted shared.halts))) shared.joined
    (reached-halts cycles read.objects read.inputs shared.halts
    (λ halts. Asks (WhatIsJoined read.objects read.inputs cycles)
    (λ joined. Ends (bus_seen joined halts) (Shared (all_halted halts))))
    reached shared.are) shared.joins) shared.put
