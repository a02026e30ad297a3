-- How far the check has gone through an object's code: it refuses no place so far, and this is what it knows at the
-- next one. (GhostRider, ASPLOS 2015: the type system of L_T; the order of refusals is this project's profile.)
use Rattle.std.specs.Prelude.{◌≡◌, ℕ, ◌<◌, Some}
use Rattle.lt_isa.specs.Object.{Parts}
use Rattle.trace_patterns.specs.declared.reasons.Reason.{Reason}
use Rattle.trace_patterns.specs.Known.{Known}
use Rattle.trace_patterns.specs.Rules.{claimed_at}
use Rattle.trace_patterns.specs.Visits.{ComesTo, FitsNote}
use Rattle.trace_patterns.specs.Accepts.{RefusedAt}

-- What is known at place p when the check gets there: what reaches p from before; or what p's note claims, and all that
-- reaches p fits the note.
pub data StartsFrom (o : Parts) (p : ℕ) : Known → Type 0 where
  ByComing : (k : Known) → ComesTo o p k → StartsFrom o p k
  ByNote : (k : Known) → claimed_at o p ≡ Some k → FitsNote o p → StartsFrom o p k

pub record CheckedUpTo (o : Parts) (p : ℕ) (comes : Known) : Type 0 where
  pub none_refused : (q place : ℕ) (reason : Reason) → q < p → ¬ RefusedAt o q place reason
  pub starts : StartsFrom o p comes
