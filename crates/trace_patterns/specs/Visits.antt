-- Which places of public code are visited, and what is known there.
-- (GhostRider, ASPLOS 2015: the type system of L_T; that notes claim what is known is this project's profile.)
use Rattle.std.specs.Prelude.{◌≡◌, ℕ, ◌+◌, ◌-◌, ◌<◌, ℤ, length, Some, None}
use Rattle.lt_isa.specs.Object.{Parts}
use Rattle.trace_patterns.specs.Patterns.{Shown}
use Rattle.trace_patterns.specs.Events.{TreeEvent}
use Rattle.trace_patterns.specs.Known.{Known, start_known, FitsClaim}
use Rattle.trace_patterns.specs.SymStates.{SymState, at_entry, known_after}
use Rattle.trace_patterns.specs.Walk.{CrossesTo}
use Rattle.trace_patterns.specs.Rules.{Falls, Opens, claimed_at, ruling_at}

-- the region of a branch at p in public code is crossed, if k is known there: its join is at the last place at the
-- latest
abbrev pub CrossesFrom : Parts → (p : ℕ) → ℤ → Known → Shown TreeEvent → (join : ℕ) → SymState → Type 0
CrossesFrom o p offset k pattern join state =
    CrossesTo o 0 (length o.code - 1) p offset (at_entry k) pattern join state

mutual
  -- a place is visited, and this is known there: what its note claims or, if it has no note, what reaches it
  pub data VisitedAt (o : Parts) : ℕ → Known → Type 0 where
    Noted : (p : ℕ) (claimed : Known) → claimed_at o p ≡ Some claimed → VisitedAt o p claimed
    Unnoted : (p : ℕ) (known : Known) → claimed_at o p ≡ None → ComesTo o p known → VisitedAt o p known

  -- what is known reaches a place: at the start; or the place before it falls through; or a region joins there
  pub data ComesTo (o : Parts) : ℕ → Known → Type 0 where
    Starts : ComesTo o 0 start_known
    FallsTo : (p : ℕ) (known next : Known)
        → VisitedAt o p known → ruling_at o p known ≡ Falls next → ComesTo o (p + 1) next
    JoinsAt : (p : ℕ) (known : Known) (offset : ℤ) (pattern : Shown TreeEvent) (join : ℕ) (state : SymState)
        → VisitedAt o p known → ruling_at o p known ≡ Opens offset → CrossesFrom o p offset known pattern join state
        → ComesTo o join (known_after state)

abbrev pub IsVisited : Parts → ℕ → Type 0
IsVisited o p = (known : Known) × VisitedAt o p known

-- a place is inside a region that is crossed: after the branch that opens it, and before its join
pub record LiesInside (o : Parts) (p : ℕ) : Type 0 where
  pub branch : ℕ
  pub known : Known
  pub offset : ℤ
  pub pattern : Shown TreeEvent
  pub join : ℕ
  pub state : SymState
  pub visited : VisitedAt o branch known
  pub opens : ruling_at o branch known ≡ Opens offset
  pub crosses : CrossesFrom o branch offset known pattern join state
  pub behind : branch < p
  pub before : p < join

-- all that reaches a place fits the place's note
abbrev pub FitsNote : Parts → ℕ → Type 0
FitsNote o p = (known claimed : Known) → ComesTo o p known → claimed_at o p ≡ Some claimed → FitsClaim known claimed
