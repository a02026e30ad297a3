-- The definitions that clauses and proofs above cite, passed on from one place. Declares nothing.
unfoldable pub use Rattle.symbolic_values.specs.Sameness.{same_op, same_tree}
pub use Rattle.symbolic_values.specs.Tables.{IsNumber, IsTable}
unfoldable pub use Rattle.symbolic_values.specs.Tables.{KeepsTrees, PlacedAt}
unfoldable pub use Rattle.symbolic_values.specs.TreeValues.{as_number, value_of}
pub use Rattle.symbolic_values.specs.Trees.{Apply, Const, MemWord, Reg, SlotAt, SlotWord, Value}
unfoldable pub use Rattle.symbolic_values.specs.Trees.{NamesBelow, built, tree_at, tree_of, trees_of, trees_onto}
