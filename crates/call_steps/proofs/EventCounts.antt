-- What a watcher that counts events has counted.
use Rattle.std.proofs.Common.{◌≡◌, ℕ, zero, suc, ◌+◌, ◌^◌, ◌<◌, ◌≤◌, Bool, true, false, cond, List, [], ◌∷◌, ◌++◌, length, Option, Some, None, sym, ap, ◌∙◌, subst, arith}
use Rattle.std.proofs.Math.Nat.{min-eq_left}
use Rattle.std.proofs.lemmas.List.{append-nil}
use Rattle.std.proofs.lemmas.List.Sums.{count_by-le-length, sum_by_push}
use Rattle.lt_isa.specs.Prelude.{Observed, State, Parts, StepResult, Goes, Stops, Faults, step, step_start, Stamped, seen_at, stamped, shown_then, trace_within, trace_from}
use Rattle.banks.specs.declared.bank.Leaves.{Leaves}
use Rattle.processor.specs.Prelude.{AnEvent, APath, TellsMore, events_in, with_paths, events_in-append}
use Rattle.processor.proofs.TellingPaths.{events_in-with_paths}
use Rattle.call_steps.specs.Prelude.{CountsEvents, Counts, IsCountOf, counted, counted_all, how_many, is_plain, is_encrypted, is_second}
use Rattle.call_steps.specs.declared.count_watch.CountWatch.{CountWatch}

-- ---- one event, and a path

count-step : (b : Bool) (count number : ℕ) → IsCountOf count number → IsCountOf (counted b count) (number + cond b 1 0)
count-step true count number is small =
    let same : count ≡ number = is (omega (arith, small)) in
    min-eq_left (omega (arith, same, small)) ∙ ap (λ n. n + 1) same
count-step false count number is small = is (omega (arith, small)) ∙ omega arith

count-more : (kind : Observed → Bool) (count : ℕ) (events : List Stamped) (s : Stamped)
    → IsCountOf count (how_many kind events)
    → IsCountOf (counted (kind s.event) count) (how_many kind (events ++ s ∷ []))
count-more kind count events s is =
    subst (IsCountOf (counted (kind s.event) count)) (sym (sum_by_push (λ t. cond (kind t.event) 1 0) events s))
    (count-step (kind s.event) count (how_many kind events) is)

-- an event is counted
pub event-counted : (w v : CountWatch) (stamp : ℕ) (event : Observed) → v ≡ counted_all event w
    → TellsMore (Counts w) (Counts v) (AnEvent (seen_at stamp event) ∷ [])
event-counted w v stamp event is told counts =
    subst (λ u. CountsEvents u (events_in (told ++ AnEvent (seen_at stamp event) ∷ []))) (sym is)
    (subst (CountsEvents (counted_all event w)) (sym (events_in-append told (AnEvent (seen_at stamp event) ∷ [])))
    (record {
      plain = count-more is_plain w.ram (events_in told) (seen_at stamp event) counts.plain;
      encrypted = count-more is_encrypted w.eram (events_in told) (seen_at stamp event) counts.encrypted;
      second = count-more is_second w.oram2 (events_in told) (seen_at stamp event) counts.second;
    }))

-- a path is not
pub path-uncounted : (w : CountWatch) (stamp bank : ℕ) (leaves : Leaves)
    → TellsMore (Counts w) (Counts w) (APath stamp bank leaves ∷ [])
path-uncounted w stamp bank leaves told counts =
    subst (CountsEvents w)
    (sym (events_in-append told (APath stamp bank leaves ∷ []) ∙ append-nil (events_in told))) counts

-- ---- a run has no more events than cycles

shown-short : (at : ℕ) (outcome : StepResult) (rest : State → List Stamped) (n : ℕ)
    → ((t : State) → length (rest t) ≤ n)
    → length (shown_then at outcome rest) ≤ suc n
shown-short at (Goes event next) rest n short = one event
  where
    one : (e : Option Observed) → length (stamped at e ++ rest next) ≤ suc n
    one None = let few = short next in omega (arith, few)
    one (Some e) = let few = short next in omega (arith, few)
shown-short at (Stops last) rest n short = omega arith
shown-short at Faults rest n short = omega arith

pick-short : (b : Bool) (xs : List Stamped) (n : ℕ) → length xs ≤ n → length (cond b xs []) ≤ n
pick-short true xs n short = short
pick-short false xs n short = omega arith

within-short : (steps : ℕ) (o : Parts) (s : State) (n : ℕ) → length (trace_within steps o s n) ≤ steps
unfolding trace_within
within-short zero o s n = omega arith
within-short (suc steps) o s n =
    pick-short _ (shown_then (step_start o s) (step o s) (λ t. trace_within steps o t n)) (suc steps)
    (shown-short (step_start o s) (step o s) (λ t. trace_within steps o t n) steps (λ t. within-short steps o t n))

pub trace-short : (o : Parts) (s : State) (n : ℕ) → length (trace_from o s n) ≤ n
unfolding trace_from
trace-short o s n = within-short n o s n

-- so the counts of a run are right
count-is : (kind : Observed → Bool) (count : ℕ) (events : List Stamped)
    → length events < 2 ^ 32 → IsCountOf count (how_many kind events) → count ≡ how_many kind events
count-is kind count events short is =
    is (let few = count_by-le-length (λ (s : Stamped). kind s.event) events in omega (arith, few, short))

pub record AreCounts (w : CountWatch) (events : List Stamped) : Type 0 where
  pub plain : w.ram ≡ how_many is_plain events
  pub encrypted : w.eram ≡ how_many is_encrypted events
  pub second : w.oram2 ≡ how_many is_second events

-- the counts of a whole run
pub run-counted : (w : CountWatch) (o : Parts) (s : State) (n : ℕ) (paths : ℕ → List Leaves) → n < 2 ^ 32
    → Counts w ([] ++ with_paths (trace_from o s n) paths) → AreCounts w (trace_from o s n)
run-counted w o s n paths small counts =
    let events = trace_from o s n in
    let short : length events < 2 ^ 32 = let few = trace-short o s n in omega (arith, few, small) in
    let right : CountsEvents w events = subst (CountsEvents w) (events_in-with_paths events paths) counts in
    record {
      plain = count-is is_plain w.ram events short right.plain;
      encrypted = count-is is_encrypted w.eram events short right.encrypted;
      second = count-is is_second w.oram2 events short right.second;
    }
