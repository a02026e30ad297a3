-- What a watcher of the memory bus receives: events, and after each access to an oblivious bank its paths. (GhostRider,
-- ASPLOS 2015: the events of an execution. Path ORAM, CCS 2013: the paths that its accesses show.)
use Rattle.std.specs.Prelude.{ℕ, ◌==◌, if◌then◌else◌, List, [], ◌∷◌, ◌++◌, Option, Some, None, drop, slice_index_or}
use Rattle.lt_isa.specs.Object.{Parts}
use Rattle.lt_isa.specs.Machine.{State}
use Rattle.lt_isa.specs.Trace.{Stamped, trace_from}
use Rattle.banks.specs.declared.bank.Leaves.{Leaves}
use Rattle.banks.specs.Banks.{no_leaves}
use Rattle.banks.specs.Accesses.{accesses_from}
use Rattle.banks.specs.ObliviousEvents.{oblivious}
use Rattle.processor.specs.ObliviousBanks.{paths_shown}

-- a watcher's report: an event, or the paths that an access to an oblivious bank showed
-- why: one list for both, in the order of the calls, so the events before a path are those that were reported before
-- it.
pub data WatcherTold : Type 0 where
  AnEvent : (event : Stamped) → WatcherTold
  APath : (stamp bank : ℕ) (leaves : Leaves) → WatcherTold

-- What was heard before is heard now, followed by this. A recording watcher hears so.
abbrev pub TellsMore : {X : Type 0} → (List X → Type 0) → (List X → Type 0) → List X → Type 0
TellsMore before now more = (told : List _) → before told → now (told ++ more)

-- the paths after an access to an oblivious bank
abbrev pub path_behind : ℕ → Option ℕ → Leaves → List WatcherTold
path_behind stamp None leaves = []
path_behind stamp (Some bank) leaves = APath stamp bank leaves ∷ []

-- an event and, if it is an access to an oblivious bank, its paths after it, with the same stamp
abbrev pub with_path : Stamped → Leaves → List WatcherTold
with_path event leaves = AnEvent event ∷ path_behind event.stamp (oblivious event.event) leaves

-- the first of the paths that are left for a bank, and what is left for each bank after it
abbrev pub next_of : Option ℕ → (ℕ → List Leaves) → Leaves
next_of None paths = no_leaves
next_of (Some bank) paths = slice_index_or (paths bank) 0 no_leaves

abbrev pub left_paths : Option ℕ → (ℕ → List Leaves) → ℕ → List Leaves
left_paths None paths b = paths b
left_paths (Some bank) paths b = if b == bank then drop 1 (paths b) else paths b

-- some events, each access to an oblivious bank followed by the next of the paths of its bank
abbrev pub with_paths : List Stamped → (ℕ → List Leaves) → List WatcherTold
with_paths [] paths = []
with_paths (event ∷ events) paths =
    with_path event (next_of (oblivious event.event) paths) ++ with_paths events
    (left_paths (oblivious event.event) paths)

-- what the steps of a run show below cycle n, over oblivious banks that show paths so
abbrev pub run_shown : {B : Type 0} → (B → List ℕ → List Leaves) → Parts → State → List B → ℕ → List WatcherTold
run_shown shows o s orams n = with_paths (trace_from o s n) (paths_shown shows orams (accesses_from o s n))

-- the events among the reports
abbrev pub events_in : List WatcherTold → List Stamped
events_in [] = []
events_in (AnEvent event ∷ told) = event ∷ events_in told
events_in (APath stamp bank leaves ∷ told) = events_in told
