-- What a recording watcher has heard in no call and in many, and that its events are one list. For the laws of such a
-- watcher, and for proofs.
use Rattle.std.specs.Prelude.{◌≡◌, ℕ, ◌+◌, List, [], ◌∷◌, ◌++◌, length}
use Rattle.std.proofs.Common.{refl, sym, ap, subst, ◌∙◌, add-zero, add_assoc, append_assoc, length-append}
use Rattle.std.proofs.Math.Numerals.{one-add}
use Rattle.std.proofs.lemmas.List.{append-nil, append_cancel_left}
use Rattle.processor.specs.ListWatching.{Heard, KeepsMore, path_at, paths_in}
use Rattle.processor.specs.Watching.{WatcherTold, AnEvent, APath, TellsMore, events_in}

-- the events among the reports are the events
pub events_in-append : (xs ys : List WatcherTold) → events_in (xs ++ ys) ≡ events_in xs ++ events_in ys
events_in-append [] ys = refl
events_in-append (AnEvent event ∷ xs) ys = ap (λ l. event ∷ l) (events_in-append xs ys)
events_in-append (APath stamp bank leaves ∷ xs) ys = events_in-append xs ys

paths_in-append : (place : ℕ) (xs ys : List WatcherTold)
    → paths_in place (xs ++ ys) ≡ paths_in place xs ++ paths_in (place + length (events_in xs)) ys
paths_in-append place [] ys = ap (λ n. paths_in n ys) (sym (add-zero place))
paths_in-append place (AnEvent event ∷ xs) ys =
    let further : place + 1 + length (events_in xs) ≡ place + length (event ∷ events_in xs) =
    add_assoc place 1 (length (events_in xs)) ∙ ap (λ n. place + n) (one-add (length (events_in xs))) in
    paths_in-append (place + 1) xs ys ∙ ap (λ n. paths_in (place + 1) xs ++ paths_in n ys) further
paths_in-append place (APath stamp bank leaves ∷ xs) ys =
    ap (λ l. path_at place stamp bank leaves ∷ l) (paths_in-append place xs ys)

-- reports that continue by nothing, and in two stretches
pub tells-none : {X : Type 0} (tells : List X → Type 0) → TellsMore tells tells []
tells-none tells = λ told holds. subst tells (sym (append-nil told)) holds

pub tells-then : {X : Type 0} (first second third : List X → Type 0) (told more : List X)
    → TellsMore first second told → TellsMore second third more → TellsMore first third (told ++ more)
tells-then first second third told more one two = λ before holds.
    subst third (append_assoc before told more) (two (before ++ told) (one before holds))

-- nothing more
pub keeps-none : (watcher : Heard) → KeepsMore watcher [] watcher
keeps-none watcher = record { events = sym (append-nil watcher.told.events); paths = sym (append-nil watcher.paths) }

-- what was kept in two stretches
pub keeps-then : (first second third : Heard) (told more : List WatcherTold)
    → KeepsMore first told second → KeepsMore second more third → KeepsMore first (told ++ more) third
keeps-then first second third told more one two =
    let place : length second.told.events ≡ length first.told.events + length (events_in told) =
    ap length one.events ∙ length-append first.told.events (events_in told) in
    record {
      events =
          two.events ∙ ap (λ l. l ++ events_in more) one.events
          ∙ append_assoc first.told.events (events_in told) (events_in more)
          ∙ ap (λ l. first.told.events ++ l) (sym (events_in-append told more));
      paths =
          two.paths ∙ ap (λ l. l ++ paths_in (length second.told.events) more) one.paths
          ∙ ap (λ n. (first.paths ++ paths_in (length first.told.events) told) ++ paths_in n more) place
          ∙ append_assoc first.paths (paths_in (length first.told.events) told)
          (paths_in (length first.told.events + length (events_in told)) more)
          ∙ ap (λ l. first.paths ++ l) (sym (paths_in-append (length first.told.events) told more));
    }

-- the events that were heard between two watchers are one list
pub events-once : (before now : Heard) (told other : List WatcherTold)
    → KeepsMore before told now → KeepsMore before other now → events_in told ≡ events_in other
events-once before now told other one two =
    append_cancel_left before.told.events (events_in told) (events_in other) (sym one.events ∙ two.events)
