-- Cores that are run in turns, and what is reported of each.
use Rattle.std.proofs.Common.{◌≡◌, ◌≢◌, ℕ, zero, suc, ◌+◌, ◌<◌, ◌≤◌, max, cond, ◌==◌, List, [], ◌∷◌, ◌++◌, length, get_or, drop, Contains, Option, Some, None, ◌⊎◌, inl, inr, refl, sym, ap, ◌∙◌, subst, ⊎_elim, arith, append_assoc}
use Rattle.std.specs.Prelude.{slice_get, slice_set}
use Rattle.std.proofs.lemmas.List.{append-nil}
use Rattle.std.proofs.lemmas.Option.{same_Some, slice_get_within, slice_get-get_or}
use Rattle.std.proofs.lemmas.Bool.{cases_eq, eq-eqb, ne_eqb}
use Rattle.lt_isa.specs.Prelude.{IsInRange, IsShaped}
use Rattle.bus_arbiter.specs.declared.turns.Turn.{Turn}
use Rattle.bus_arbiter.specs.Prelude.{Core, LeftAt, OnItsWay, shown_if, shows_to, trace_to, FailedAt, HearsThen, Transfer, of_core, transfers_of, AllOnTheirWay, Played, PlayFailed, TurnStopped, Turned, until}
use Rattle.std.proofs.lemmas.List.Elements.{Contains-append_left}
use Rattle.lt_isa.proofs.Ends.{trace_front}
use Rattle.bus_arbiter.proofs.TransferLists.{in-none, of_core-all, of_core-append, of_core-none, shown-as, transfers_of-append}
use Rattle.bus_arbiter.proofs.CoreRuns.{both-leave, both-show, both-way, left-way, nothing-shown, stays-at}

-- ---- a list with another item

pub get-set_same : {X : Type 0} (xs : List X) (k : ℕ) (x : X) → k < length xs → slice_get (slice_set xs k x) k ≡ Some x
get-set_same [] k x within = absurd (omega arith)
get-set_same (y ∷ ys) zero x within = refl
get-set_same (y ∷ ys) (suc k) x within = get-set_same ys k x (omega arith)

pub get-set_other : {X : Type 0} (xs : List X) (k j : ℕ) (x : X) → j ≢ k
    → slice_get (slice_set xs k x) j ≡ slice_get xs j
get-set_other [] k j x other = refl
get-set_other (y ∷ ys) zero zero x other = absurd (other refl)
get-set_other (y ∷ ys) zero (suc j) x other = refl
get-set_other (y ∷ ys) (suc k) zero x other = refl
get-set_other (y ∷ ys) (suc k) (suc j) x other = get-set_other ys k j x (λ is. other (ap suc is))

pub length-put : {X : Type 0} (xs : List X) (k : ℕ) (x : X) → length (slice_set xs k x) ≡ length xs
length-put [] k x = refl
length-put (y ∷ ys) zero x = refl
length-put (y ∷ ys) (suc k) x = ap suc (length-put ys k x)

-- ---- what is reported of a core

shows-core : {B : Type 0} (k : ℕ) (c : Core B) (n : ℕ) (t : Transfer) → Contains (shows_to k c n) t → t.core ≡ k
shows-core k c n t = by c.halted
  where
    by : (h : Option ℕ) → Contains (shown_if h (transfers_of k (trace_to c n))) t → t.core ≡ k
    by None found = (shown-as k (trace_to c n) t found).core
    by (Some at) found = absurd (in-none t found)

pub own-shows : {B : Type 0} (k : ℕ) (c : Core B) (n : ℕ) → of_core k (shows_to k c n) ≡ shows_to k c n
own-shows k c n = of_core-all k (shows_to k c n) (shows-core k c n)

pub other-shows : {B : Type 0} (j k : ℕ) (c : Core B) (n : ℕ) → j ≢ k → of_core j (shows_to k c n) ≡ []
other-shows j k c n other =
    of_core-none j (shows_to k c n) (λ t found is. other (sym is ∙ shows-core k c n t found))

-- ---- turns

-- nothing was played yet
pub not-played : {B : Type 0} (cores : List (Core B)) → Played cores cores (λ k. 0) []
not-played {B = B} cores = record {
  count = refl;
  shown = λ k c there. sym (nothing-shown k c);
  left = λ k c d there here.
      subst (λ (x : Core B). LeftAt c 0 x) (same_Some c d (sym there ∙ here)) (stays-at c);
  others = λ k past. refl;
}

-- one core was run further
abbrev pub further : (ℕ → ℕ) → ℕ → ℕ → ℕ → ℕ
further to core m k = cond (k == core) (max (to k) m) (to k)

further-here : (to : ℕ → ℕ) (core m : ℕ) → further to core m core ≡ max (to core) m
further-here to core m = ap (λ b. cond b (max (to core) m) (to core)) (eq-eqb core core refl)

further-other : (to : ℕ → ℕ) (core m k : ℕ) → k ≢ core → further to core m k ≡ to k
further-other to core m k other = ap (λ b. cond b (max (to k) m) (to k)) (ne_eqb k core other)

module _ {B : Type 0} (before between after : List (Core B)) (to : ℕ → ℕ) (told : List Transfer) (core m : ℕ)
    (stand : (k : ℕ) (c : Core B) → slice_get before k ≡ Some c
    → IsInRange c.machine.object × IsShaped c.machine.object c.machine.state)
    (so_far : Played before between to told) where
  module _ (was now : Core B) (there : slice_get between core ≡ Some was) (put : after ≡ slice_set between core now)
      (left : LeftAt was m now) where
    shows-both : (c : Core B) → slice_get before core ≡ Some c
        → shows_to core c (max (to core) m) ≡ shows_to core c (to core) ++ shows_to core was m
    shows-both c first =
        both-show core c was (to core) m (stand core c first).0 (stand core c first).1
        (max (to core) m) refl (so_far.left core c was first there)

    leaves-both : (c : Core B) → slice_get before core ≡ Some c → LeftAt c (max (to core) m) now
    leaves-both c first =
        both-leave core c was (to core) m (stand core c first).0 (stand core c first).1 now
        (max (to core) m) refl (so_far.left core c was first there) left

    pub played-on : Played before after (further to core m) (told ++ shows_to core was m)
    played-on = record {
      count = ap length put ∙ length-put between core now ∙ so_far.count;
      shown = λ k c first.
          of_core-append k told (shows_to core was m)
          ∙ ⊎_elim
          (λ (is : k ≡ core). shown-here k c first is)
          (λ other.
          ap (λ l. of_core k told ++ l) (other-shows k core was m other) ∙ append-nil (of_core k told)
          ∙ so_far.shown k c first ∙ ap (shows_to k c) (sym (further-other to core m k other)))
          (cases_eq k core);
      left = λ k c d first here.
          ⊎_elim
          (λ (is : k ≡ core). left-here k c d first here is)
          (λ other.
          subst (λ n. LeftAt c n d) (sym (further-other to core m k other))
          (so_far.left k c d first
          (sym (get-set_other between core k now other) ∙ ap (λ l. slice_get l k) (sym put) ∙ here)))
          (cases_eq k core);
      others = λ k past.
          of_core-append k told (shows_to core was m)
          ∙ ap (λ l. l ++ of_core k (shows_to core was m)) (so_far.others k past)
          ∙ other-shows k core was m
          (λ is. omega (arith, slice_get_within between core was there, so_far.count, past, is));
    }
      where
        shown-here : (k : ℕ) (c : Core B) → slice_get before k ≡ Some c → k ≡ core
            → of_core k told ++ of_core k (shows_to core was m) ≡ shows_to k c (further to core m k)
        shown-here k c first is =
            subst (λ j. slice_get before j ≡ Some c → of_core j told ++ of_core j (shows_to core was m)
            ≡ shows_to j c (further to core m j)) (sym is)
            (λ at.
            ap (λ l. l ++ of_core core (shows_to core was m)) (so_far.shown core c at)
            ∙ ap (λ l. shows_to core c (to core) ++ l) (own-shows core was m)
            ∙ sym (shows-both c at) ∙ ap (shows_to core c) (sym (further-here to core m)))
            first

        left-here : (k : ℕ) (c d : Core B) → slice_get before k ≡ Some c → slice_get after k ≡ Some d → k ≡ core
            → LeftAt c (further to core m k) d
        left-here k c d first here is =
            subst (λ j. slice_get before j ≡ Some c → slice_get after j ≡ Some d → LeftAt c (further to core m j) d)
            (sym is)
            (λ at stands.
            let within = slice_get_within between core was there in
            let same : now ≡ d =
            same_Some now d
            (sym (get-set_same between core now within) ∙ ap (λ l. slice_get l core) (sym put) ∙ stands) in
            subst (λ n. LeftAt c n d) (sym (further-here to core m))
            (subst (λ (x : Core B). LeftAt c (max (to core) m) x) same (leaves-both c at)))
            first here

-- ---- a whole play

-- some turns were taken; those that are left lead to where all turns lead
pub record PlayedSoFar {B : Type 0} (before now : List (Core B)) (all left : List Turn) (heard : List Transfer
    → Type 0) : Type 0 where
  pub to : ℕ → ℕ
  pub told : List Transfer
  pub played : Played before now to told
  pub hears : heard told
  pub rest : (k : ℕ) → max (to k) (until left k) ≡ until all k

pub plays-first : {B : Type 0} (cores : List (Core B)) (turns : List Turn) (heard : List Transfer → Type 0)
    → heard [] → PlayedSoFar cores cores turns turns heard
plays-first cores turns heard none = record {
  to = λ k. 0;
  told = [];
  played = not-played cores;
  hears = none;
  rest = λ k. omega arith;
}

max-there : (a m b : ℕ) → max (max a m) b ≡ max a (max m b)
max-there a m b = omega arith

-- one turn more
pub plays-next : {B : Type 0} (before between after : List (Core B)) (all left : List Turn) (turn : Turn)
    {W : Type 0} (hears : W → List Transfer → W → Type 0) (was is later : W) → HearsThen hears was is later
    → ((k : ℕ) (c : Core B) → slice_get before k ≡ Some c
    → IsInRange c.machine.object × IsShaped c.machine.object c.machine.state)
    → PlayedSoFar before between all (turn ∷ left) (λ l. hears was l is)
    → Turned between after turn.core turn.to (λ l. hears is l later)
    → PlayedSoFar before after all left (λ l. hears was l later)
plays-next {B = B} before between after all left turn hears was is later chain stand so_far turned = record {
  to = further so_far.to turn.core turn.to;
  told = so_far.told ++ shows_to turn.core turned.was turn.to;
  played =
      played-on before between after so_far.to so_far.told turn.core turn.to stand so_far.played
      turned.was turned.now turned.there turned.put turned.left;
  hears = chain so_far.told (shows_to turn.core turned.was turn.to) so_far.hears turned.told;
  rest = λ k. sooner k (cases_eq k turn.core);
}
  where
    sooner : (k : ℕ) → (k ≡ turn.core) ⊎ (k ≢ turn.core)
        → max (further so_far.to turn.core turn.to k) (until left k) ≡ until all k
    sooner k (inl is) =
        ap (λ b. max (cond b (max (so_far.to k) turn.to) (so_far.to k)) (until left k)) (eq-eqb k turn.core is)
        ∙ max-there (so_far.to k) turn.to (until left k)
        ∙ sym (ap (λ b. max (so_far.to k) (cond b (max turn.to (until left k)) (until left k)))
        (eq-eqb turn.core k (sym is)))
        ∙ so_far.rest k
    sooner k (inr other) =
        ap (λ b. max (cond b (max (so_far.to k) turn.to) (so_far.to k)) (until left k)) (ne_eqb k turn.core other)
        ∙ sym (ap (λ b. max (so_far.to k) (cond b (max turn.to (until left k)) (until left k)))
        (ne_eqb turn.core k (λ is. other (sym is))))
        ∙ so_far.rest k

-- no turn is left
pub plays-all : {B : Type 0} (before now : List (Core B)) (all : List Turn) (heard : List Transfer → Type 0)
    → PlayedSoFar before now all [] heard → (told : List Transfer) × Played before now (until all) told × heard told
plays-all before now all heard done = (
  done.told,
  record {
    count = done.played.count;
    shown = λ k c there. done.played.shown k c there ∙ ap (shows_to k c) (same k);
    left = λ k c d there here. subst (λ n. LeftAt c n d) (same k) (done.played.left k c d there here);
    others = done.played.others;
  },
  done.hears,
)
  where
    same : (k : ℕ) → done.to k ≡ until all k
    same k = omega (arith, done.rest k)

-- what is shown up to a cycle is a prefix of what is shown up to a later one
pub shows-front : {B : Type 0} (k : ℕ) (c : Core B) (m n : ℕ) → m ≤ n → IsInRange c.machine.object
    → IsShaped c.machine.object c.machine.state
    → (rest : List Transfer) × (shows_to k c n ≡ shows_to k c m ++ rest)
shows-front k c m n le range shaped = by c.halted
  where
    by : (h : Option ℕ) → (rest : List Transfer)
        × (shown_if h (transfers_of k (trace_to c n)) ≡ shown_if h (transfers_of k (trace_to c m)) ++ rest)
    by (Some at) = ([], refl)
    by None =
        let found = trace_front c.machine.object range c.machine.state shaped m n le in (
          transfers_of k found.0,
          ap (transfers_of k) found.1 ∙ transfers_of-append k (trace_to c m) found.0,
        )

-- the watcher fails in a turn
pub plays-fail : {B : Type 0} (before between : List (Core B)) (all left : List Turn) (turn : Turn)
    {W : Type 0} (hears : W → List Transfer → W → Type 0) (was is later : W) → HearsThen hears was is later
    → (torn : Transfer → Type 0)
    → ((k : ℕ) (c : Core B) → slice_get before k ≡ Some c
    → IsInRange c.machine.object × IsShaped c.machine.object c.machine.state)
    → PlayedSoFar before between all (turn ∷ left) (λ l. hears was l is)
    → (stopped : Core B) → slice_get between turn.core ≡ Some stopped
    → FailedAt hears is later torn (shows_to turn.core stopped turn.to)
    → PlayFailed hears was later torn before (until all)
plays-fail {B = B} before between all left turn hears was is later chain torn stand so_far stopped there failed = record {
  told = so_far.told ++ failed.told;
  heard = chain so_far.told failed.told so_far.hears failed.heard;
  fronts = λ k c first. fronts k c first (cases_eq k turn.core);
  core = turn.core;
  stopped = get_or before turn.core stopped;
  there = at-first;
  next = failed.next;
  rest = failed.rest ++ behind.0;
  front = whole;
  at = failed.at;
}
  where
    at-first : slice_get before turn.core ≡ Some (get_or before turn.core stopped)
    at-first =
        slice_get-get_or before turn.core stopped
        (omega (arith, slice_get_within between turn.core stopped there, so_far.played.count))

    origin : Core B
    origin = get_or before turn.core stopped

    to : ℕ
    to = max (so_far.to turn.core) turn.to

    reach : to ≤ until all turn.core
    reach =
        let here = so_far.rest turn.core in
        let now : max (so_far.to turn.core) (max turn.to (until left turn.core)) ≡ until all turn.core =
        ap (λ b. max (so_far.to turn.core) (cond b (max turn.to (until left turn.core)) (until left turn.core)))
        (sym (eq-eqb turn.core turn.core refl)) ∙ here in
        omega (arith, now)

    behind : (rest : List Transfer)
        × (shows_to turn.core origin (until all turn.core) ≡ shows_to turn.core origin to ++ rest)
    behind =
        shows-front turn.core origin to (until all turn.core) reach
        (stand turn.core origin at-first).0 (stand turn.core origin at-first).1

    own-part : of_core turn.core failed.told ≡ failed.told
    own-part = of_core-all turn.core failed.told (λ t found.
        shows-core turn.core stopped turn.to t
        (subst (λ l. Contains l t) (sym failed.front)
        (Contains-append_left failed.told (failed.next ∷ failed.rest) t found)))

    parts : shows_to turn.core origin to
        ≡ of_core turn.core so_far.told ++ (failed.told ++ failed.next ∷ failed.rest)
    parts =
        both-show turn.core origin stopped (so_far.to turn.core) turn.to
        (stand turn.core origin at-first).0 (stand turn.core origin at-first).1 to refl
        (so_far.played.left turn.core origin stopped at-first there)
        ∙ ap (λ l. l ++ shows_to turn.core stopped turn.to) (sym (so_far.played.shown turn.core origin at-first))
        ∙ ap (λ l. of_core turn.core so_far.told ++ l) failed.front

    told-core : of_core turn.core (so_far.told ++ failed.told) ≡ of_core turn.core so_far.told ++ failed.told
    told-core =
        of_core-append turn.core so_far.told failed.told
        ∙ ap (λ l. of_core turn.core so_far.told ++ l) own-part

    whole : shows_to turn.core origin (until all turn.core)
        ≡ of_core turn.core (so_far.told ++ failed.told) ++ failed.next ∷ (failed.rest ++ behind.0)
    whole =
        behind.1 ∙ ap (λ l. l ++ behind.0) parts
        ∙ ap (λ l. l ++ behind.0)
        (sym (append_assoc (of_core turn.core so_far.told) failed.told (failed.next ∷ failed.rest)))
        ∙ append_assoc (of_core turn.core so_far.told ++ failed.told) (failed.next ∷ failed.rest) behind.0
        ∙ ap (λ l. l ++ failed.next ∷ (failed.rest ++ behind.0)) (sym told-core)

    fronts : (k : ℕ) (c : Core B) → slice_get before k ≡ Some c → (k ≡ turn.core) ⊎ (k ≢ turn.core)
        → (rest : List Transfer) × (shows_to k c (until all k) ≡ of_core k (so_far.told ++ failed.told) ++ rest)
    fronts k c first (inl is) =
        let same : origin ≡ c =
        same_Some origin c (sym at-first ∙ ap (slice_get before) (sym is) ∙ first) in (
          failed.next ∷ (failed.rest ++ behind.0),
          subst (λ (x : Core B). shows_to k x (until all k)
              ≡ of_core k (so_far.told ++ failed.told) ++ failed.next ∷ (failed.rest ++ behind.0)) same
              (subst (λ j. shows_to j origin (until all j)
              ≡ of_core j (so_far.told ++ failed.told) ++ failed.next ∷ (failed.rest ++ behind.0)) (sym is) whole),
        )
    fronts k c first (inr other) =
        let more =
        shows-front k c (so_far.to k) (until all k) (omega (arith, so_far.rest k))
        (stand k c first).0 (stand k c first).1 in
        let none : of_core k failed.told ≡ [] =
        of_core-none k failed.told (λ t found is. other (sym is ∙ shows-core turn.core stopped turn.to t
        (subst (λ l. Contains l t) (sym failed.front)
        (Contains-append_left failed.told (failed.next ∷ failed.rest) t found)))) in (
          more.0,
          more.1
              ∙ ap (λ l. l ++ more.0)
              (sym (of_core-append k so_far.told failed.told ∙ ap (λ l. of_core k so_far.told ++ l) none
              ∙ append-nil (of_core k so_far.told) ∙ so_far.played.shown k c first)),
        )

-- the watcher fails in a turn, and each core is on its way
pub plays-stop : {B : Type 0} (before between after : List (Core B)) (all left : List Turn) (turn : Turn)
    (heard : List Transfer → Type 0)
    → ((k : ℕ) (c : Core B) → slice_get before k ≡ Some c
    → IsInRange c.machine.object × IsShaped c.machine.object c.machine.state)
    → PlayedSoFar before between all (turn ∷ left) heard → TurnStopped between after turn.core turn.to
    → AllOnTheirWay before (until all) after
plays-stop {B = B} before between after all left turn heard stand so_far stopped = record {
  count = ap length stopped.put ∙ length-put between turn.core stopped.now ∙ so_far.played.count;
  each = λ k c d first here.
      ⊎_elim
      (λ (is : k ≡ turn.core).
      subst (λ j. slice_get before j ≡ Some c → slice_get after j ≡ Some d → OnItsWay c (until all j) d) (sym is)
      (own c d) first here)
      (λ other.
      left-way c d (so_far.to k) (until all k) (omega (arith, so_far.rest k))
      (so_far.played.left k c d first
      (sym (get-set_other between turn.core k stopped.now other) ∙ ap (λ l. slice_get l k) (sym stopped.put) ∙ here)))
      (cases_eq k turn.core);
}
  where
    reach : turn.to ≤ until all turn.core
    reach =
        let now : max (so_far.to turn.core) (max turn.to (until left turn.core)) ≡ until all turn.core =
        ap (λ b. max (so_far.to turn.core) (cond b (max turn.to (until left turn.core)) (until left turn.core)))
        (sym (eq-eqb turn.core turn.core refl)) ∙ so_far.rest turn.core in
        omega (arith, now)

    own : (c d : Core B) → slice_get before turn.core ≡ Some c → slice_get after turn.core ≡ Some d
        → OnItsWay c (until all turn.core) d
    own c d first here =
        let within = slice_get_within between turn.core stopped.was stopped.there in
        let same : stopped.now ≡ d =
        same_Some stopped.now d
        (sym (get-set_same between turn.core stopped.now within) ∙ ap (λ l. slice_get l turn.core) (sym stopped.put)
        ∙ here) in
        subst (λ (x : Core B). OnItsWay c (until all turn.core) x) same
        (both-way c stopped.was stopped.now (so_far.to turn.core) turn.to (until all turn.core)
        (stand turn.core c first).0 (stand turn.core c first).1 (omega (arith, so_far.rest turn.core)) reach
        (so_far.played.left turn.core c stopped.was first stopped.there) stopped.way)

-- ---- turns by their number

drop-at : {X : Type 0} (xs : List X) (i : ℕ) (d : X) → i < length xs → drop i xs ≡ get_or xs i d ∷ drop (suc i) xs
drop-at [] i d within = absurd (omega arith)
drop-at (x ∷ xs) zero d within = refl
drop-at (x ∷ xs) (suc i) d within = drop-at xs i d (omega arith)

next-left : {X : Type 0} (xs : List X) (i : ℕ) (d : X) → i < length xs → drop i xs ≡ get_or xs i d ∷ drop (i + 1) xs
next-left xs i d within =
    let one : suc i ≡ i + 1 = omega arith in
    drop-at xs i d within ∙ ap (λ j. get_or xs i d ∷ drop j xs) one

pub plays-next_at : {B : Type 0} (before between after : List (Core B)) (turns : List Turn) (i : ℕ) (d : Turn)
    {W : Type 0} (hears : W → List Transfer → W → Type 0) (was is later : W) → HearsThen hears was is later
    → ((k : ℕ) (c : Core B) → slice_get before k ≡ Some c
    → IsInRange c.machine.object × IsShaped c.machine.object c.machine.state) → i < length turns
    → PlayedSoFar before between turns (drop i turns) (λ l. hears was l is)
    → Turned between after (get_or turns i d).core (get_or turns i d).to (λ l. hears is l later)
    → PlayedSoFar before after turns (drop (i + 1) turns) (λ l. hears was l later)
plays-next_at before between after turns i d hears was is later chain stand within so_far turned =
    plays-next before between after turns (drop (i + 1) turns) (get_or turns i d) hears was is later chain stand
    (subst (λ left. PlayedSoFar before between turns left (λ l. hears was l is)) (next-left turns i d within) so_far)
    turned

pub plays-fail_at : {B : Type 0} (before between : List (Core B)) (turns : List Turn) (i : ℕ) (d : Turn)
    {W : Type 0} (hears : W → List Transfer → W → Type 0) (was is later : W) → HearsThen hears was is later
    → (torn : Transfer → Type 0)
    → ((k : ℕ) (c : Core B) → slice_get before k ≡ Some c
    → IsInRange c.machine.object × IsShaped c.machine.object c.machine.state) → i < length turns
    → PlayedSoFar before between turns (drop i turns) (λ l. hears was l is)
    → (c : Core B) × (slice_get between (get_or turns i d).core ≡ Some c)
    × FailedAt hears is later torn (shows_to (get_or turns i d).core c (get_or turns i d).to)
    → PlayFailed hears was later torn before (until turns)
plays-fail_at before between turns i d hears was is later chain torn stand within so_far failed =
    plays-fail before between turns (drop (i + 1) turns) (get_or turns i d) hears was is later chain torn stand
    (subst (λ left. PlayedSoFar before between turns left (λ l. hears was l is)) (next-left turns i d within) so_far)
    failed.0 failed.1 failed.2

pub plays-stop_at : {B : Type 0} (before between after : List (Core B)) (turns : List Turn) (i : ℕ) (d : Turn)
    (heard : List Transfer → Type 0)
    → ((k : ℕ) (c : Core B) → slice_get before k ≡ Some c
    → IsInRange c.machine.object × IsShaped c.machine.object c.machine.state) → i < length turns
    → PlayedSoFar before between turns (drop i turns) heard
    → TurnStopped between after (get_or turns i d).core (get_or turns i d).to
    → AllOnTheirWay before (until turns) after
plays-stop_at before between after turns i d heard stand within so_far stopped =
    plays-stop before between after turns (drop (i + 1) turns) (get_or turns i d) heard stand
    (subst (λ left. PlayedSoFar before between turns left heard) (next-left turns i d within) so_far) stopped
