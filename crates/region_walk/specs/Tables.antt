-- Additions to a table of values (this project's profile).
use Rattle.std.specs.Prelude.{◌≡◌, ℕ, ◌+◌, ◌≤◌, List, length, Option}
use Rattle.symbolic_values.specs.declared.nodes.Node.{Node}
use Rattle.symbolic_values.specs.Trees.{Value}
use Rattle.symbolic_values.specs.Tables.{IsTable, IsNumber, KeepsTrees}
use Rattle.region_walk.specs.Slots.{known_tree, NumberFits}

-- a table gains at most `most` nodes, and its numbers keep their trees
pub record TableGains (most : ℕ) (old new : List Node) : Type 0 where
  pub table : IsTable new
  pub keeps : KeepsTrees old new
  pub room : length new ≤ length old + most

-- a number is found for a tree
pub record FindsNumber (most : ℕ) (old new : List Node) (t : Value) (i : ℕ) : Type 0 where
  pub gains : TableGains most old new
  pub number : IsNumber new i t

-- a number is found for a tree that is known, and none for one that isn't
pub record FindsHeld (most : ℕ) (old new : List Node) (t : Option Value) (number : Option ℕ) : Type 0 where
  pub gains : TableGains most old new
  pub held_is : known_tree new number ≡ t
  pub fits : NumberFits (length new) number
