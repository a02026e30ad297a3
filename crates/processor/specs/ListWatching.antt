-- What is seen of a watcher that records its reports, within rooms made before, and some of whose calls fail.
use Rattle.std.specs.Prelude.{◌≡◌, ℕ, ◌+◌, Bool, ◌||◌, nat_lt, if◌then◌else◌, ℤ, List, [], ◌∷◌, ◌++◌, length, sum_by}
use Rattle.gr_base.specs.Calls.{Calls, next_fails, after_call, one_more}
use Rattle.lt_isa.specs.Machine.{Observed, RamRead, RamWrite, EncRead, EncWrite, Oram, Halted}
use Rattle.lt_isa.specs.Trace.{Stamped, seen_at}
use Rattle.banks.specs.declared.bank.Leaves.{Leaves}
use Rattle.processor.specs.declared.list_watch.ShownPaths.{ShownPaths}
use Rattle.processor.specs.Watching.{WatcherTold, AnEvent, APath, events_in}

-- the words that an event shows
abbrev pub event_words : Observed → List ℤ
event_words (RamRead block words) = words
event_words (RamWrite block words) = words
event_words other = []

-- how many words some events show together
abbrev pub word_count : List Stamped → ℕ
word_count events = sum_by (λ s. length (event_words s.event)) events

-- events, and the most of them and of their words that there is room for
pub record Told : Type 0 where
  pub events : List Stamped
  pub event_room : ℕ
  pub word_room : ℕ

-- one more event would pass a room
abbrev pub passes_room : Observed → Told → Bool
passes_room event told =
    nat_lt told.event_room (length told.events + 1)
    || nat_lt told.word_room (word_count told.events + length (event_words event))

-- with one more event
abbrev pub told_more : ℕ → Observed → Told → Told
told_more stamp event told = record told { events = told.events ++ seen_at stamp event ∷ [] }

-- What the watcher received, its calls, and how many of them failed. It has room for the paths of as many accesses as
-- for events.
pub record Heard : Type 0 where
  pub told : Told
  pub paths : List ShownPaths
  pub calls : Calls
  pub faults : ℕ

-- after the next call, where it fails
abbrev pub after_failing : Heard → Heard
after_failing watcher = record watcher { calls = after_call watcher.calls; faults = one_more watcher.faults }

-- an event is reported: the call fails if its number is among those, or if the event would exceed a room
abbrev pub seen_fails : Observed → Heard → Bool
seen_fails event watcher = next_fails watcher.calls || passes_room event watcher.told

abbrev pub after_seen : ℕ → Observed → Heard → Heard
after_seen stamp event watcher =
    if seen_fails event watcher
    then after_failing watcher
    else record watcher { calls = after_call watcher.calls; told = told_more stamp event watcher.told }

-- paths are reported
abbrev pub path_fails : Heard → Bool
path_fails watcher = next_fails watcher.calls || nat_lt watcher.told.event_room (length watcher.paths + 1)

-- the paths of an access that was reported as the last of this many events
abbrev pub path_at : ℕ → ℕ → ℕ → Leaves → ShownPaths
path_at place stamp bank leaves = record { place = place; stamp = stamp; bank = bank; leaves = leaves }

abbrev pub after_path : ℕ → ℕ → Leaves → Heard → Heard
after_path stamp bank leaves watcher =
    if path_fails watcher
    then after_failing watcher
    else record watcher {
      calls = after_call watcher.calls;
      paths = watcher.paths ++ path_at (length watcher.told.events) stamp bank leaves ∷ [];
    }

-- the paths among the reports, each with the number of events before it; this many events came before all of them
abbrev pub paths_in : ℕ → List WatcherTold → List ShownPaths
paths_in place [] = []
paths_in place (AnEvent event ∷ told) = paths_in (place + 1) told
paths_in place (APath stamp bank leaves ∷ told) = path_at place stamp bank leaves ∷ paths_in place told

-- after what it kept before, the watcher keeps the events and the paths of what it heard
pub record KeepsMore (before : Heard) (told : List WatcherTold) (now : Heard) : Type 0 where
  pub events : now.told.events ≡ before.told.events ++ events_in told
  pub paths : now.paths ≡ before.paths ++ paths_in (length before.told.events) told

-- what stays through all calls: the numbers of those that are to fail, and the rooms
pub record SameLimits (before now : Heard) : Type 0 where
  pub failing : now.calls.failing ≡ before.calls.failing
  pub event_room : now.told.event_room ≡ before.told.event_room
  pub word_room : now.told.word_room ≡ before.told.word_room
