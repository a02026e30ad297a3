-- The outcome of the walk of a region. (GhostRider, ASPLOS 2015: the rule for secret conditionals of L_T; the order of
-- refusals is this project's profile.)
use Rattle.std.specs.Prelude.{◌≡◌, ℕ, ℤ, ◌+◌, ◌-◌, ◌<◌, length}
use Rattle.lt_isa.specs.Object.{Parts}
use Rattle.trace_patterns.specs.Patterns.{Shown}
use Rattle.trace_patterns.specs.Events.{TreeEvent}
use Rattle.trace_patterns.specs.Known.{Known}
use Rattle.trace_patterns.specs.SymStates.{SymState, at_entry, known_after}
use Rattle.trace_patterns.specs.Walk.{BlockedAt}
use Rattle.trace_patterns.specs.Visits.{CrossesFrom}
use Rattle.region_walk.specs.declared.regions.Crossing.{Crossing}
use Rattle.region_walk.specs.declared.regions.Crossing.TheVariants.{Crosses, Blocked, Memory}

-- the region of a branch at p is crossed, if k is known there: its join is after the branch in the code, and this is
-- known there
pub record IsCrossed (o : Parts) (p : ℕ) (offset : ℤ) (k : Known) (join : ℕ) (known : Known) : Type 0 where
  pub pattern : Shown TreeEvent
  pub state : SymState
  pub crosses : CrossesFrom o p offset k pattern join state
  pub known_is : known ≡ known_after state
  pub behind : p + 1 < join
  pub inside : join < length o.code

-- a region is crossed, or blocked at a place; out of memory says nothing
abbrev pub IsCrossing : Parts → ℕ → ℤ → Known → Crossing → Type 0
IsCrossing o p offset k (Crosses join known) = IsCrossed o p offset k join known
IsCrossing o p offset k (Blocked place reason) = BlockedAt o 0 (length o.code - 1) p offset (at_entry k) place reason
IsCrossing o p offset k Memory = Unit {0}
