-- The check passes a stretch of public code without a refusal, from what reaches its first place to what reaches the
-- place after it. So code that is generated in parts is accepted part by part. (GhostRider, ASPLOS 2015: the type
-- system of L_T; that notes claim what is known is this project's profile.)
use Rattle.std.specs.Prelude.{◌≡◌, ℕ, ◌+◌, ◌<◌, ℤ, List, length, Some, None}
use Rattle.std.specs.Option.{option_map}
use Rattle.lt_isa.specs.declared.symbols.Note.{Note}
use Rattle.lt_isa.specs.Object.{Parts}
use Rattle.trace_patterns.specs.Patterns.{Shown}
use Rattle.trace_patterns.specs.Events.{TreeEvent}
use Rattle.trace_patterns.specs.Known.{Known, FitsClaim, note_known}
use Rattle.trace_patterns.specs.SymStates.{SymState, known_after}
use Rattle.trace_patterns.specs.Rules.{Falls, Leaves, Opens, note_of_place, claimed_at, ruling_at}
use Rattle.trace_patterns.specs.Visits.{CrossesFrom}

-- What is known at a place, from what reaches it: the same, if the place has no note; or what its note claims, and what
-- reaches it must fit that.
pub data HoldsAt (o : Parts) (p : ℕ) : (comes holds : Known) → Type 0 where
  AsItComes : (k : Known) → claimed_at o p ≡ None → HoldsAt o p k k
  AsClaimed : (k claimed : Known) → claimed_at o p ≡ Some claimed → FitsClaim k claimed → HoldsAt o p k claimed

-- The check passes the code from place p up to place q; the two `Known` are what reaches p and what reaches q. Either
-- nothing is left; or an instruction continues to the next place, which is in the code; or it only leads elsewhere, and
-- what is known at the next place is what that place's note claims; or a branch opens a region, which is crossed to its
-- join.
pub data Passes (o : Parts) : (p : ℕ) → Known → (q : ℕ) → Known → Type 0 where
  Done : (p : ℕ) (k : Known) → Passes o p k p k
  Onward : (p : ℕ) (k holds next : Known) (q : ℕ) (last : Known)
      → HoldsAt o p k holds → ruling_at o p holds ≡ Falls next → p + 1 < length o.code → Passes o (p + 1) next q last
      → Passes o p k q last
  Away : (p : ℕ) (k holds claimed : Known) (q : ℕ) (last : Known)
      → HoldsAt o p k holds → ruling_at o p holds ≡ Leaves → claimed_at o (p + 1) ≡ Some claimed
      → Passes o (p + 1) claimed q last → Passes o p k q last
  Across : (p : ℕ) (k holds : Known) (offset : ℤ) (pattern : Shown TreeEvent) (join : ℕ) (state : SymState) (q : ℕ)
      (last : Known)
      → HoldsAt o p k holds → ruling_at o p holds ≡ Opens offset → CrossesFrom o p offset holds pattern join state
      → Passes o join (known_after state) q last → Passes o p k q last

-- the places after p and before q have the claims of these notes, and no others
abbrev pub NotesBetween : Parts → ℕ → ℕ → List Note → Type 0
NotesBetween o p q notes = (r : ℕ) → p < r → r < q → claimed_at o r ≡ option_map note_known (note_of_place notes r)
