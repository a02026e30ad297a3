-- What a run shows with the paths of its oblivious banks. (GhostRider, ASPLOS 2015: the events of an execution. Path
-- ORAM, CCS 2013: the paths that its accesses show.)
use Rattle.std.specs.Prelude.{◌≢◌, ℕ, ◌==◌, if◌then◌else◌, List, [], ◌∷◌}
use Rattle.lt_isa.specs.Machine.{Oram}
use Rattle.lt_isa.specs.Trace.{Stamped, seen_at}
use Rattle.banks.specs.declared.bank.Leaves.{Leaves}
use Rattle.processor.specs.Watching.{WatcherTold, AnEvent, APath}

-- Events, and what is shown of them: each event, in their order, and directly after an access to an oblivious bank the
-- paths of that access, with its stamp.
pub data ShowsPaths : List Stamped → List WatcherTold → Type 0 where
  NoMore : ShowsPaths [] []
  AnAccess : (stamp bank : ℕ) (leaves : Leaves) (events : List Stamped) (shown : List WatcherTold)
      → ShowsPaths events shown
      → ShowsPaths (seen_at stamp (Oram bank) ∷ events)
      (AnEvent (seen_at stamp (Oram bank)) ∷ APath stamp bank leaves ∷ shown)
  NoAccess : (event : Stamped) (events : List Stamped) (shown : List WatcherTold)
      → ((bank : ℕ) → event.event ≢ Oram bank) → ShowsPaths events shown
      → ShowsPaths (event ∷ events) (AnEvent event ∷ shown)

-- the paths of bank b among these, in their order
abbrev pub paths_of_bank : ℕ → List WatcherTold → List Leaves
paths_of_bank b [] = []
paths_of_bank b (AnEvent event ∷ shown) = paths_of_bank b shown
paths_of_bank b (APath stamp bank leaves ∷ shown) =
    if b == bank then leaves ∷ paths_of_bank b shown else paths_of_bank b shown
