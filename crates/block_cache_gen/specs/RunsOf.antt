-- What the code of expressions, guards and assignments does when it is run. (GhostRider, ASPLOS 2015: compiled code
-- computes what the source means, with the scratchpad as a cache; the events and the bound on cycles are this project's
-- profile.)
use Rattle.std.specs.Prelude.{ℕ, List}
use Rattle.lt_isa.specs.declared.instructions.Instr.{Instr}
use Rattle.lt_isa.specs.Object.{Parts}
use Rattle.lt_isa.specs.Ranges.{IsInRange}
use Rattle.lt_isa.specs.Machine.{State}
use Rattle.lt_isa.specs.Shape.{IsShaped}
use Rattle.stretches.specs.Standing.{StandsAt}
use Rattle.stretches.specs.Coming.{RunsThrough}
use Rattle.src_tree.specs.Meaning.{Store, evaluated}
use Rattle.src_tree.specs.Trees.{Tree, Test, Statement}
use Rattle.scalar_ranges.specs.Ranges.{AreWithin}
use Rattle.block_cache_gen.specs.declared.frames.Mode.{Mode}
use Rattle.block_cache_gen.specs.Homes.{Setting, HasHomes}
use Rattle.block_cache_gen.specs.StandsFor.{StandsFor, FitsHomes}
use Rattle.block_cache_gen.specs.Accesses.{accesses, test_accesses, seen_of_all}
use Rattle.block_cache_gen.specs.LeavesWord.{LeavesWord, LeavesBoth}
use Rattle.block_cache_gen.specs.Assignments.{Assigns, assigned, by_mode, seen_of_set}

-- a state at the first instruction of code, of an object that has the homes, represents a store that is within what is
-- known there
pub record BeginsCode (o : Parts) (f : Setting) (store : Store) (s : State) (code : List Instr) : Type 0 where
  pub in_range : IsInRange o
  pub homes : HasHomes o f
  pub fits : FitsHomes f store
  pub within : AreWithin f.ranges store
  pub shaped : IsShaped o s
  pub stands : StandsFor f s store
  pub code_stands : StandsAt o s.place code

-- the code of an expression: its value is in register `to` afterwards
pub record Evaluates (f : Setting) (mode : Mode) (to : ℕ) (e : Tree) (code : List Instr) : Type 0 where
  pub runs : (o : Parts) (store : Store) (s : State) → BeginsCode o f store s code
      → RunsThrough o s code (seen_of_all mode s.banks s.slots (accesses f store e))
      (LeavesWord f store (accesses f store e) to (evaluated f.decls store e) s)

-- the code of a guard: its sides are in register `to` and the next one afterwards
pub record EvaluatesTest (f : Setting) (mode : Mode) (to : ℕ) (t : Test) (code : List Instr) : Type 0 where
  pub runs : (o : Parts) (store : Store) (s : State) → BeginsCode o f store s code
      → RunsThrough o s code (seen_of_all mode s.banks s.slots (test_accesses f store t)) (LeavesBoth f store
      (test_accesses f store t) to (evaluated f.decls store t.left) (evaluated f.decls store t.right) s)

-- the code of an assignment: the store becomes what it means, or stays in a mirrored arm
pub record Performs (f : Setting) (mode : Mode) (assignment : Statement) (code : List Instr) : Type 0 where
  pub runs : (o : Parts) (store : Store) (s : State) → BeginsCode o f store s code
      → RunsThrough o s code (seen_of_set f mode s.banks s.slots store assignment)
      (Assigns f (by_mode mode (assigned f.decls assignment store) store))
