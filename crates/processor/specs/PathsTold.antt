-- The paths that a run reports for one oblivious bank. (Path ORAM, CCS 2013: an access shows a path.)
use Rattle.std.specs.Prelude.{◌≡◌, ℕ, ◌+◌, ◌==◌, if◌then◌else◌, Bool, false, List, [], ◌∷◌, map, Option, Some, None}
use Rattle.lt_isa.specs.Trace.{Stamped}
use Rattle.banks.specs.declared.bank.Leaves.{Leaves}
use Rattle.banks.specs.ObliviousEvents.{oblivious}
use Rattle.processor.specs.declared.list_watch.ShownPaths.{ShownPaths}

-- the paths of bank b among some paths, in their order
abbrev pub paths_of : ℕ → List ShownPaths → List ShownPaths
paths_of b [] = []
paths_of b (path ∷ paths) = if b == path.bank then path ∷ paths_of b paths else paths_of b paths

-- an event is an access to bank b, an oblivious one
abbrev pub is_bank : ℕ → Option ℕ → Bool
is_bank b None = false
is_bank b (Some bank) = b == bank

-- the stamps of the accesses to bank b among some events
abbrev pub stamps_of : ℕ → List Stamped → List ℕ
stamps_of b [] = []
stamps_of b (event ∷ events) =
    if is_bank b (oblivious event.event) then event.stamp ∷ stamps_of b events else stamps_of b events

-- the number of events up to and including each of these accesses, if this many come before all of them
abbrev pub places_of : ℕ → ℕ → List Stamped → List ℕ
places_of b before [] = []
places_of b before (event ∷ events) =
    if is_bank b (oblivious event.event)
    then (before + 1) ∷ places_of b (before + 1) events
    else places_of b (before + 1) events

-- These paths are those that bank b shows in some events: just what it shows, in order, each with the stamp of its
-- access and the number of events up to that.
pub record ArePathsOf (b : ℕ) (events : List Stamped) (shows : List Leaves) (paths : List ShownPaths) : Type 0 where
  pub leaves : map (λ path. path.leaves) paths ≡ shows
  pub stamps : map (λ path. path.stamp) paths ≡ stamps_of b events
  pub places : map (λ path. path.place) paths ≡ places_of b 0 events
