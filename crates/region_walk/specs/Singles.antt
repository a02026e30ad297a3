-- For the proofs and for private clauses only: what one instruction of an arm does to a state over numbers, and to the
-- table of values. (GhostRider, ASPLOS 2015: the type system of L_T; the order of refusals is this project's profile.)
use Rattle.std.specs.Prelude.{◌≡◌, ℕ, ◌<◌, ℤ, List, length, slice_get, Some}
use Rattle.lt_isa.specs.declared.instructions.Instr.{Instr}
use Rattle.lt_isa.specs.Object.{Parts}
use Rattle.lt_isa.specs.Ranges.{IsOffset}
use Rattle.symbolic_values.specs.declared.nodes.Node.{Node}
use Rattle.trace_patterns.specs.declared.events.SymEvent.{SymEvent}
use Rattle.trace_patterns.specs.Patterns.{Shown}
use Rattle.trace_patterns.specs.Events.{TreeEvent, tree_event, NumberBelow}
use Rattle.region_walk.specs.declared.states.RegionState.{RegionState}
use Rattle.region_walk.specs.declared.singles.Single.{Single}
use Rattle.region_walk.specs.declared.singles.Single.TheVariants.{Refuses, Quiet, Shows, Branches, Memory}
use Rattle.region_walk.specs.Tables.{TableGains}
use Rattle.region_walk.specs.States.{sym_of, StateFits}
use Rattle.trace_patterns.specs.Single as whole

-- an instruction shows a pattern, and this is known after it
pub record ShowsSingle (o : Parts) (old : List Node) (s : RegionState) (i : Instr) (shown : Shown TreeEvent)
    (new : List Node)
    (behind : RegionState) : Type 0 where
  pub goes : whole.single o (sym_of old s) i ≡ whole.Goes shown (sym_of new behind)
  pub gains : TableGains 4 old new
  pub fits : StateFits (length new) behind

-- an instruction shows no event, and takes some cycles; or it shows an event
pub record GoesQuietly (o : Parts) (old : List Node) (s : RegionState) (i : Instr) (cycles : ℕ) (new : List Node)
    (behind : RegionState) : Type 0 where
  pub on : ShowsSingle o old s i (whole.gap cycles) new behind
  pub few : cycles < 128

pub record GoesShowing (o : Parts) (old : List Node) (s : RegionState) (i : Instr) (event : SymEvent) (new : List Node)
    (behind : RegionState) : Type 0 where
  pub on : ShowsSingle o old s i (whole.event (tree_event new event)) new behind
  pub number : NumberBelow (length new) event

-- an instruction is a branch, and changes nothing
pub record IsBranch (o : Parts) (old : List Node) (s : RegionState) (i : Instr) (offset : ℤ) (new : List Node)
    (behind : RegionState) : Type 0 where
  pub branches : whole.single o (sym_of old s) i ≡ whole.Branches offset
  pub offset_fits : IsOffset offset
  pub nodes : new ≡ old
  pub state : behind ≡ s

-- a place has a branch
pub record BranchesAt (o : Parts) (place : ℕ) (nodes : List Node) (s : RegionState) (offset : ℤ) : Type 0 where
  pub instr : Instr
  pub at : slice_get o.code place ≡ Some instr
  pub branches : whole.single o (sym_of nodes s) instr ≡ whole.Branches offset

-- the result of one instruction; out of memory says nothing
abbrev pub IsSingle : Parts → List Node → RegionState → Instr → Single → List Node → RegionState → Type 0
IsSingle o old s i (Refuses reason) new behind = whole.single o (sym_of old s) i ≡ whole.Refuses reason
IsSingle o old s i (Quiet cycles) new behind = GoesQuietly o old s i cycles new behind
IsSingle o old s i (Shows event) new behind = GoesShowing o old s i event new behind
IsSingle o old s i (Branches offset) new behind = IsBranch o old s i offset new behind
IsSingle o old s i Memory new behind = Unit {0}
