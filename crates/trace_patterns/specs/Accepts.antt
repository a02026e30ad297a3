-- Which objects are accepted, and which refusal is the first.
-- (GhostRider, ASPLOS 2015: the type system of L_T; the order of refusals is this project's profile.)
use Rattle.std.specs.Prelude.{◌≡◌, ℕ, ◌+◌, ◌-◌, ◌<◌, ◌⊎◌, Bool, true, false, ◌&&◌, ℤ, MatchBool, length, Some}
use Rattle.std.specs.List.{list_any}
use Rattle.gr_word.specs.declared.variables.Label.{Label}
use Rattle.gr_word.specs.declared.variables.Label.TheVariants.{Public, Secret}
use Rattle.lt_isa.specs.Object.{Parts, is_ram}
use Rattle.trace_patterns.specs.declared.reasons.Reason.{Reason}
use Rattle.trace_patterns.specs.declared.reasons.Reason.TheVariants.{NoNote, NoteTooLow, RunsOffEnd, SecretSymbolInRam}
use Rattle.trace_patterns.specs.Patterns.{Shown}
use Rattle.trace_patterns.specs.Events.{TreeEvent}
use Rattle.trace_patterns.specs.Known.{Known, FitsClaim}
use Rattle.trace_patterns.specs.SymStates.{SymState, at_entry}
use Rattle.trace_patterns.specs.Walk.{BlockedAt}
use Rattle.trace_patterns.specs.Rules.{Refused, Falls, Opens, claimed_at, ruling_at}
use Rattle.trace_patterns.specs.Visits.{VisitedAt, ComesTo, IsVisited, LiesInside, FitsNote, CrossesFrom}

-- a secret variable is in plain memory
abbrev pub is_secret_label : Label → Bool
is_secret_label Public = false
is_secret_label Secret = true

-- Rule: check/secret-variable.
abbrev pub has_secret_in_ram : Parts → Bool
has_secret_in_ram o = list_any (λ s. is_ram s.bank && is_secret_label s.label) o.symbols

-- the region of a branch is crossed
-- Rule: known/secret-branch.
abbrev pub RegionIsCrossed : Parts → ℕ → ℤ → Known → Type 0
RegionIsCrossed o p offset known =
    (pattern : Shown TreeEvent) × (join : ℕ) × (state : SymState) × CrossesFrom o p offset known pattern join state

-- No secret variable is in plain memory. Each place of the code is visited, or is inside a region that is crossed. What
-- reaches a place fits its note. No visited place is refused, the last place doesn't fall through, and each region that
-- opens at a visited place is crossed.
-- Rule: known/end.
pub record Accepts (o : Parts) : Type 0 where
  pub symbols : has_secret_in_ram o ≡ false
  pub covered : (p : ℕ) → p < length o.code → IsVisited o p ⊎ LiesInside o p
  pub fitting : (p : ℕ) → p < length o.code → FitsNote o p
  pub allowed : (p : ℕ) (known : Known) (reason : Reason) → VisitedAt o p known
      → ¬ (ruling_at o p known ≡ Refused reason)
  pub followed : (p : ℕ) (known next : Known)
      → VisitedAt o p known → ruling_at o p known ≡ Falls next → p + 1 < length o.code
  pub crossed : (p : ℕ) (known : Known) (offset : ℤ)
      → VisitedAt o p known → ruling_at o p known ≡ Opens offset → RegionIsCrossed o p offset known

-- The refusal that place p of public code causes: p is neither visited nor inside a region; or what reaches it doesn't
-- fit its note; or its instruction is refused; or it is the last and falls through; or a place of the region that it
-- opens is refused. A note that doesn't fit comes before the instruction.
-- Rule: check/code-end.
pub data RefusedAt (o : Parts) : (p place : ℕ) → Reason → Type 0 where
  Missed : (p : ℕ) → ¬ IsVisited o p → ¬ LiesInside o p → RefusedAt o p p NoNote
  Unfit : (p : ℕ) (known claimed : Known)
      → ComesTo o p known → claimed_at o p ≡ Some claimed → ¬ FitsClaim known claimed → RefusedAt o p p NoteTooLow
  ByRule : (p : ℕ) (known : Known) (reason : Reason)
      → FitsNote o p → VisitedAt o p known → ruling_at o p known ≡ Refused reason → RefusedAt o p p reason
  OffEnd : (p : ℕ) (known next : Known)
      → FitsNote o p → VisitedAt o p known → ruling_at o p known ≡ Falls next → p + 1 ≡ length o.code
      → RefusedAt o p p RunsOffEnd
  InRegion : (p : ℕ) (known : Known) (offset : ℤ) (place : ℕ) (reason : Reason)
      → FitsNote o p → VisitedAt o p known → ruling_at o p known ≡ Opens offset
      → BlockedAt o 0 (length o.code - 1) p offset (at_entry known) place reason
      → RefusedAt o p place reason

-- the refusal that the lowest place with one causes
pub record IsLowestRefusal (o : Parts) (place : ℕ) (reason : Reason) : Type 0 where
  pub at : ℕ
  pub inside : at < length o.code
  pub refused : RefusedAt o at place reason
  pub none_below : (q other : ℕ) (why : Reason) → q < at → ¬ RefusedAt o q other why

-- a secret variable in plain memory is refused before any code, at place 0
abbrev pub FirstRefusal : Parts → ℕ → Reason → Type 0
FirstRefusal o place reason =
    MatchBool (has_secret_in_ram o) ((place ≡ 0) × (reason ≡ SecretSymbolInRam)) (IsLowestRefusal o place reason)
