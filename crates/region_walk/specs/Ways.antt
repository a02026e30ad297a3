-- For the proofs and for private clauses only: what a walk has shown and what is known after it, over the numbers of a
-- table of values. (GhostRider, ASPLOS 2015: the rule for secret conditionals of L_T; the order of refusals is this
-- project's profile.)
use Rattle.std.specs.Prelude.{◌≡◌, ℕ, ◌+◌, ◌-◌, ◌*◌, ◌<◌, ◌≤◌, ℤ, List, length, All}
use Rattle.lt_isa.specs.Object.{Parts}
use Rattle.lt_isa.specs.Ranges.{IsInRange}
use Rattle.symbolic_values.specs.declared.nodes.Node.{Node}
use Rattle.symbolic_values.specs.Tables.{IsTable, KeepsTrees}
use Rattle.trace_patterns.specs.declared.events.SymEvent.{SymEvent}
use Rattle.trace_patterns.specs.Patterns.{Shown}
use Rattle.trace_patterns.specs.Events.{over_trees, NumbersBelow}
use Rattle.region_walk.specs.declared.arms.Arm.{Arm}
use Rattle.region_walk.specs.declared.walks.Way.{Way}
use Rattle.region_walk.specs.declared.walks.Found.{Found}
use Rattle.region_walk.specs.declared.walks.Found.TheVariants.{Reaches, Stops, Memory}
use Rattle.region_walk.specs.declared.walks.Region.{Region}
use Rattle.region_walk.specs.declared.states.RegionState.{RegionState}
use Rattle.region_walk.specs.States.{sym_of, StateFits}
use Rattle.region_walk.specs.FuelWalk as whole
use Rattle.region_walk.specs.declared.walks.Region.TheVariants as region

-- an arm of an object in range, which ends inside the code, and has at most 64 regions around it
pub record IsArm (arm : Arm) : Type 0 where
  pub range : IsInRange arm.object.now
  pub inside : arm.end < length arm.object.now.code
  pub around : arm.depth ≤ 64

-- each gap of a pattern has at most `most` cycles
pub record GapsWithin (most : ℕ) (p : Shown SymEvent) : Type 0 where
  pub parts : All (λ part. part.0 ≤ most) p.parts
  pub last : p.last ≤ most

-- each gap of a pattern gains at most `more` cycles
abbrev pub Widens : ℕ → Shown SymEvent → Shown SymEvent → Type 0
Widens more p q = (most : ℕ) → GapsWithin most p → GapsWithin (most + more) q

-- A way is in order at a place: its numbers are in the table. The table has at most 40 values for the entry and 4 more
-- for each place, and gaps have at most 128 cycles for each place.
pub record WayIsReady (place : ℕ) (nodes : List Node) (way : Way) : Type 0 where
  pub table : IsTable nodes
  pub few : length nodes ≤ 40 + 4 * place
  pub state : StateFits (length nodes) way.state
  pub numbers : NumbersBelow (length nodes) way.pattern
  pub gaps : GapsWithin (128 * place) way.pattern

-- what was shown, and then what the walk from a place shows
unfoldable pub going : Parts → ℕ → ℕ → ℕ → List Node → Way → whole.WalkFound
going o depth end place nodes way =
    whole.after_pattern (over_trees nodes way.pattern) (whole.walk o depth end place (sym_of nodes way.state))

-- a walk continues at a later place exactly as it would have continued before
pub record GoesTo (o : Parts) (depth end place : ℕ) (nodes : List Node) (way : Way) (next : ℕ) (nodes' : List Node)
    (way' : Way) : Type 0 where
  pub onward : place ≤ next
  pub within : next ≤ end
  pub ready : WayIsReady next nodes' way'
  pub keeps : KeepsTrees nodes nodes'
  pub widens : Widens (128 * (next - place)) way.pattern way'.pattern
  pub same : going o depth end place nodes way ≡ going o depth end next nodes' way'

-- the result of a walk up to its end, and of one place of it; out of memory says nothing
abbrev pub IsWalk : Parts → ℕ → ℕ → ℕ → List Node → Way → Found → List Node → Way → Type 0
IsWalk o depth end place nodes way (Reaches next) nodes' way' =
    GoesTo o depth end place nodes way next nodes' way' × (next ≡ end)
IsWalk o depth end place nodes way (Stops at reason) nodes' way' =
    going o depth end place nodes way ≡ whole.Stops at reason
IsWalk o depth end place nodes way Memory nodes' way' = Unit {0}

abbrev pub IsNext : Parts → ℕ → ℕ → ℕ → List Node → Way → Found → List Node → Way → Type 0
IsNext o depth end place nodes way (Reaches next) nodes' way' =
    GoesTo o depth end place nodes way next nodes' way' × (place < next)
IsNext o depth end place nodes way (Stops at reason) nodes' way' =
    going o depth end place nodes way ≡ whole.Stops at reason
IsNext o depth end place nodes way Memory nodes' way' = Unit {0}

-- the region of a branch is crossed, its join is after the branch, and this is shown up to there and known there
pub record IsCrossedBy (o : Parts) (depth end place : ℕ) (offset : ℤ) (nodes : List Node) (s : RegionState) (join : ℕ)
    (way : Way) (nodes' : List Node) : Type 0 where
  pub crosses : whole.crossing o (whole.walk o) depth end place offset (sym_of nodes s) ≡ whole.Crosses
      (over_trees nodes' way.pattern) join (sym_of nodes' way.state)
  pub behind : place + 1 < join
  pub within : join ≤ end
  pub ready : WayIsReady join nodes' way
  pub keeps : KeepsTrees nodes nodes'
  pub gaps : GapsWithin (128 * (join - place)) way.pattern

abbrev pub IsRegionWalk : Parts → ℕ → ℕ → ℕ → ℤ → List Node → RegionState → Region → List Node → Type 0
IsRegionWalk o depth end place offset nodes s (region.Crosses join way) nodes' =
    IsCrossedBy o depth end place offset nodes s join way nodes'
IsRegionWalk o depth end place offset nodes s (region.Blocked at reason) nodes' =
    whole.crossing o (whole.walk o) depth end place offset (sym_of nodes s) ≡ whole.Blocked at reason
IsRegionWalk o depth end place offset nodes s region.Memory nodes' = Unit {0}
