-- Only for the proofs and for private clauses: what a run of the code of statements does, beside what the statements
-- mean.
use Rattle.std.specs.Prelude.{◌≡◌, ℕ, ◌+◌, ◌*◌, ◌≤◌, List, length, Some, None}
use Rattle.lt_isa.specs.declared.instructions.Instr.{Instr}
use Rattle.lt_isa.specs.Object.{Parts}
use Rattle.lt_isa.specs.Machine.{State}
use Rattle.lt_isa.specs.Shape.{IsShaped}
use Rattle.lt_isa.specs.Trace.{Stamped, Reaches}
use Rattle.stretches.specs.Standing.{greatest_costs}
use Rattle.src_tree.specs.Meaning.{Store, Left, Execution}
use Rattle.scalar_ranges.specs.Ranges.{AreWithin, Ranges}
use Rattle.block_cache_gen.specs.Homes.{Setting}
use Rattle.block_cache_gen.specs.StandsFor.{FitsHomes, StandsFor}

-- Statements that had this many iterations are done: the run reaches a place, in a state that represents the store that
-- they leave. It took at least one cycle for each iteration that they used, and at most `cost` for each of them and
-- once more.
pub record Finishes (o : Parts) (f : Setting) (s : State) (turns : ℕ) (left : Left) (place cost : ℕ) : Type 0 where
  pub end : State
  pub events : List Stamped
  pub reaches : Reaches o s events end
  pub comes : end.place ≡ place
  pub used : ℕ
  pub counts : left.turns + used ≡ turns
  pub since : s.cycle + used ≤ end.cycle
  pub by : end.cycle ≤ s.cycle + cost * (used + 1)
  pub shaped : IsShaped o end
  pub stands : StandsFor f end left.store
  pub fits : FitsHomes f left.store

-- a run that hasn't ended this many cycles later
pub record Lasts (o : Parts) (s : State) (cycles : ℕ) : Type 0 where
  pub end : State
  pub events : List Stamped
  pub reaches : Reaches o s events end
  pub late : s.cycle + cycles ≤ end.cycle

-- Code at a place follows statements: from a state there that represents a store within what is known, the run reaches
-- the end of the code if the statements are done, and lasts at least as many cycles as they had iterations if they are
-- spent.
pub record Follows (o : Parts) (f : Setting) (known : Ranges) (place : ℕ) (code : List Instr)
    (run : Execution) : Type 0 where
  pub done : (s : State) (store : Store) (turns : ℕ) (left : Left) → IsShaped o s → s.place ≡ place
      → StandsFor f s store → FitsHomes f store → AreWithin known store
      → run (record { store = store; turns = turns }) ≡ Some left
      → Finishes o f s turns left (place + length code) (greatest_costs o code)
  pub spent : (s : State) (store : Store) (turns : ℕ) → IsShaped o s → s.place ≡ place → StandsFor f s store
      → FitsHomes f store → AreWithin known store → run (record { store = store; turns = turns }) ≡ None
      → Lasts o s turns
