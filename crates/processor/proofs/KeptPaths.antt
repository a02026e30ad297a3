-- What a recording watcher keeps of one call.
use Rattle.std.proofs.Common.{◌≡◌, ℕ, [], ◌∷◌, ◌++◌, length, sym, ◌∙◌}
use Rattle.std.proofs.lemmas.List.{append-nil}
use Rattle.lt_isa.specs.Prelude.{Stamped}
use Rattle.banks.specs.declared.bank.Leaves.{Leaves}
use Rattle.processor.specs.Prelude.{Heard, KeepsMore, path_at, AnEvent, APath}

-- an event more
pub keeps-event : (before now : Heard) (event : Stamped) → now.told.events ≡ before.told.events ++ event ∷ []
    → now.paths ≡ before.paths → KeepsMore before (AnEvent event ∷ []) now
keeps-event before now event events paths =
    record { events = events; paths = paths ∙ sym (append-nil before.paths) }

-- paths more
pub keeps-path : (before now : Heard) (stamp bank : ℕ) (leaves : Leaves) → now.told.events ≡ before.told.events
    → now.paths ≡ before.paths ++ path_at (length before.told.events) stamp bank leaves ∷ []
    → KeepsMore before (APath stamp bank leaves ∷ []) now
keeps-path before now stamp bank leaves events paths =
    record { events = events ∙ sym (append-nil before.told.events); paths = paths }
