-- For the proofs and for private clauses only: the results of the walk that only carries a state, over the numbers of a
-- table of values. Callers read `IsCarried`. (GhostRider, ASPLOS 2015: the rule for secret conditionals of L_T; that
-- only a region's shape is refused here is this project's profile.)
use Rattle.std.specs.Prelude.{◌≡◌, ℕ, ◌+◌, ◌*◌, ◌<◌, ◌≤◌, ℤ, List, length}
use Rattle.lt_isa.specs.declared.instructions.Instr.{Instr}
use Rattle.lt_isa.specs.Object.{Parts}
use Rattle.symbolic_values.specs.declared.nodes.Node.{Node}
use Rattle.symbolic_values.specs.Tables.{IsTable, KeepsTrees}
use Rattle.trace_patterns.specs.Known.{Known}
use Rattle.trace_patterns.specs.SymStates.{SymState}
use Rattle.trace_patterns.specs.Carried.{held_behind}
use Rattle.trace_patterns.specs.Carries.{CarriesTo, CarriesOver, JoinsIn}
use Rattle.region_walk.specs.declared.states.RegionState.{RegionState}
use Rattle.region_walk.specs.declared.carries.Led.{Led}
use Rattle.region_walk.specs.declared.carries.Led.TheVariants.{Reaches, Unshaped, Memory}
use Rattle.region_walk.specs.declared.regions.Carried.{Carried}
use Rattle.region_walk.specs.States.{sym_of, StateFits}
use Rattle.region_walk.specs.Tables.{TableGains}
use Rattle.region_walk.specs.declared.regions.Carried.TheVariants as carried

-- this is known after an instruction that only continues to the next place
pub record HoldsBehind (o : Parts) (old : List Node) (s : RegionState) (i : Instr) (new : List Node)
    (behind : RegionState) : Type 0 where
  pub is : sym_of new behind ≡ held_behind o (sym_of old s) i
  pub gains : TableGains 4 old new
  pub fits : StateFits (length new) behind

-- A state is in order at a place: its numbers are in the table, which has at most 40 values for the entry and 4 more
-- for each place.
pub record StateIsReady (place : ℕ) (nodes : List Node) (s : RegionState) : Type 0 where
  pub table : IsTable nodes
  pub few : length nodes ≤ 40 + 4 * place
  pub state : StateFits (length nodes) s

-- a state is carried from a place exactly as it is carried from a later one
pub record LeadsOn (o : Parts) (depth end place : ℕ) (nodes : List Node) (s : RegionState) (next : ℕ)
    (nodes' : List Node) (s' : RegionState) : Type 0 where
  pub onward : place ≤ next
  pub within : next ≤ end
  pub ready : StateIsReady next nodes' s'
  pub keeps : KeepsTrees nodes nodes'
  pub carries : (t : SymState)
      → CarriesTo o depth end next (sym_of nodes' s') t → CarriesTo o depth end place (sym_of nodes s) t
  pub alone : (t : SymState)
      → CarriesTo o depth end place (sym_of nodes s) t → CarriesTo o depth end next (sym_of nodes' s') t

-- no state is carried from a place, and the numbers of the table keep their trees
pub record LeadsNowhere (o : Parts) (depth end place : ℕ) (nodes : List Node) (s : RegionState) (nodes' : List Node)
    : Type 0 where
  pub nothing : (t : SymState) → CarriesTo o depth end place (sym_of nodes s) t → ⊥
  pub keeps : KeepsTrees nodes nodes'

-- up to an end, and over one place; if a region doesn't have the shape of two arms, nothing is carried; out of memory
-- says nothing
abbrev pub IsLed : Parts → ℕ → ℕ → ℕ → List Node → RegionState → Led → List Node → RegionState → Type 0
IsLed o depth end place nodes s (Reaches next) nodes' s' =
    LeadsOn o depth end place nodes s next nodes' s' × (next ≡ end)
IsLed o depth end place nodes s Unshaped nodes' s' = LeadsNowhere o depth end place nodes s nodes'
IsLed o depth end place nodes s Memory nodes' s' = Unit {0}

abbrev pub IsLedOn : Parts → ℕ → ℕ → ℕ → List Node → RegionState → Led → List Node → RegionState → Type 0
IsLedOn o depth end place nodes s (Reaches next) nodes' s' =
    LeadsOn o depth end place nodes s next nodes' s' × (place < next)
IsLedOn o depth end place nodes s Unshaped nodes' s' = LeadsNowhere o depth end place nodes s nodes'
IsLedOn o depth end place nodes s Memory nodes' s' = Unit {0}

-- over the region of a branch
pub record LeadsOver (o : Parts) (depth end place : ℕ) (offset : ℤ) (nodes : List Node) (s : RegionState) (join : ℕ)
    (nodes' : List Node) (s' : RegionState) : Type 0 where
  pub behind : place + 1 < join
  pub within : join ≤ end
  pub inside : join < length o.code
  pub ready : StateIsReady join nodes' s'
  pub keeps : KeepsTrees nodes nodes'
  pub over : CarriesOver o depth end place offset (sym_of nodes s) join (sym_of nodes' s')

-- nothing is carried over that region, and the numbers of the table keep their trees
pub record LeadsOverNone (o : Parts) (depth end place : ℕ) (offset : ℤ) (nodes : List Node) (s : RegionState)
    (nodes' : List Node) : Type 0 where
  pub nothing : (join : ℕ) (t : SymState) → CarriesOver o depth end place offset (sym_of nodes s) join t → ⊥
  pub keeps : KeepsTrees nodes nodes'

abbrev pub IsLedOver : Parts → ℕ → ℕ → ℕ → ℤ → List Node → RegionState → Led → List Node → RegionState → Type 0
IsLedOver o depth end place offset nodes s (Reaches join) nodes' s' =
    LeadsOver o depth end place offset nodes s join nodes' s'
IsLedOver o depth end place offset nodes s Unshaped nodes' s' = LeadsOverNone o depth end place offset nodes s nodes'
IsLedOver o depth end place offset nodes s Memory nodes' s' = Unit {0}

-- What is known, k, is carried over the region of a branch at p in public code to its join, where next is known then;
-- or nothing is carried. Running out of memory says nothing.
pub record IsCarriedTo (o : Parts) (p : ℕ) (offset : ℤ) (k : Known) (join : ℕ) (next : Known) : Type 0 where
  pub joins : JoinsIn o p offset k join next
  pub behind : p + 1 < join
  pub inside : join < length o.code

abbrev pub IsCarried : Parts → ℕ → ℤ → Known → Carried → Type 0
IsCarried o p offset k (carried.Joins join next) = IsCarriedTo o p offset k join next
IsCarried o p offset k carried.Unshaped = (join : ℕ) (next : Known) → JoinsIn o p offset k join next → ⊥
IsCarried o p offset k carried.Memory = Unit {0}
