-- For the proofs and for private clauses only: the two ways through a region, and the way up to it. (GhostRider, ASPLOS
-- 2015: the rule for secret conditionals of L_T; the order of refusals is this project's profile.)
use Rattle.std.specs.Prelude.{◌≡◌, ℕ}
use Rattle.trace_patterns.specs.declared.reasons.Reason.TheVariants.{UnequalArms}
use Rattle.trace_patterns.specs.Patterns.{with_gap, joined}
use Rattle.region_walk.specs.declared.walks.Way.{Way}
use Rattle.region_walk.specs.declared.walks.Found.{Found}
use Rattle.region_walk.specs.declared.walks.Found.TheVariants.{Reaches, Stops, Memory}
use Rattle.region_walk.specs.declared.walks.Region.{Region}
use Rattle.region_walk.specs.States.{IsCommon}
use Rattle.region_walk.specs.declared.walks.Region.TheVariants as region

-- two paths that show the same events become one, with what is equal after both
pub record IsOneWay (jump : ℕ) (untaken taken way : Way) : Type 0 where
  pub first : way.pattern ≡ with_gap untaken.pattern jump
  pub second : way.pattern ≡ taken.pattern
  pub state : IsCommon untaken.state taken.state way.state

-- two ways are compared, of which the first ends with a jump of some cycles; if they differ, the branch is refused
abbrev pub IsCompared : ℕ → ℕ → ℕ → Way → Way → Region → Type 0
IsCompared place join jump untaken taken (region.Crosses at way) = (at ≡ join) × IsOneWay jump untaken taken way
IsCompared place join jump untaken taken (region.Blocked at reason) =
    (at ≡ place) × (reason ≡ UnequalArms) × (with_gap untaken.pattern jump ≡ taken.pattern → ⊥)
IsCompared place join jump untaken taken region.Memory = ⊥

-- a way, followed by the way through a region
pub record IsWayOn (before crossed after : Way) : Type 0 where
  pub pattern : after.pattern ≡ joined before.pattern crossed.pattern
  pub state : after.state ≡ crossed.state

abbrev pub GoesOnAt : Way → Way → ℕ → Found → Way → Type 0
GoesOnAt before crossed join (Reaches next) after = (next ≡ join) × IsWayOn before crossed after
GoesOnAt before crossed join (Stops at reason) after = ⊥
GoesOnAt before crossed join Memory after = Unit {0}
