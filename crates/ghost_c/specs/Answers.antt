-- What each result of the check means to a loader. (This project's profile.)
use Rattle.std.specs.Prelude.{◌≡◌, ◌⊎◌, ℕ, List}
use Rattle.lt_isa.specs.Object.{Parts}
use Rattle.lt_isa.specs.Oblivious.{IsOblivious}
use Rattle.lt_isa.specs.Ranges.{IsInRange}
use Rattle.object_file.specs.Spelling.{spelling}
use Rattle.trace_patterns.specs.Accepts.{Accepts, FirstRefusal}
use Rattle.trace_patterns.specs.Reasons.{reason_number}
use Rattle.trace_patterns.specs.declared.reasons.Reason.{Reason}

-- the bytes encode this object, each field of which is in its range
pub record Spells (bytes : List ℕ) (o : Parts) : Type 0 where
  pub in_range : IsInRange o
  pub spelled : bytes ≡ spelling o

-- the bytes encode an object that is accepted, and so oblivious
pub record IsSafe (bytes : List ℕ) : Type 0 where
  pub o : Parts
  pub spells : Spells bytes o
  pub accepted : Accepts o
  pub oblivious : IsOblivious o

-- the bytes don't encode an object
abbrev pub SpellsNothing : List ℕ → Type 0
SpellsNothing bytes = (o : Parts) → Spells bytes o → ⊥

-- the bytes encode an object that is refused, first at this place for the reason with this number
pub record IsRefused (bytes : List ℕ) (place reason : ℕ) : Type 0 where
  pub o : Parts
  pub why : Reason
  pub spells : Spells bytes o
  pub first : FirstRefusal o place why
  pub told : reason ≡ reason_number why

-- the possible results
abbrev pub IsAnswer : ℕ → Type 0
IsAnswer n = (n ≡ 0) ⊎ (n ≡ 5) ⊎ (n ≡ 6) ⊎ (n ≡ 7) ⊎ (n ≡ 11)
