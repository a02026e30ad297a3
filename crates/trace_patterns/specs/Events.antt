-- Events that name blocks by trees, and the patterns over trees that patterns over numbers represent. (GhostRider,
-- ASPLOS 2015: the trace patterns of the type system of L_T; what each kind of bank shows is this project's own
-- choice.)
use Rattle.std.specs.Prelude.{ℕ, ◌<◌, List, map, All}
use Rattle.symbolic_values.specs.declared.nodes.Node.{Node}
use Rattle.symbolic_values.specs.Trees.{Value, tree_of}
use Rattle.trace_patterns.specs.declared.events.SymEvent.{SymEvent}
use Rattle.trace_patterns.specs.Patterns.{Shown}
use Rattle.trace_patterns.specs.declared.events.SymEvent.TheVariants as event

-- a block of plain memory is read, a block of encrypted memory is read or written, an oblivious bank is accessed
pub data TreeEvent : Type 0 where
  RamRead : (block : Value) → TreeEvent
  EncRead : (block : Value) → TreeEvent
  EncWrite : (block : Value) → TreeEvent
  Oram : (bank : ℕ) → TreeEvent

-- the event over trees that an event over numbers represents
abbrev pub tree_event : List Node → SymEvent → TreeEvent
tree_event nodes (event.RamRead block) = RamRead (tree_of nodes block)
tree_event nodes (event.EncRead block) = EncRead (tree_of nodes block)
tree_event nodes (event.EncWrite block) = EncWrite (tree_of nodes block)
tree_event nodes (event.Oram bank) = Oram bank

-- the pattern over trees that a pattern over numbers represents
abbrev pub part_of : List Node → ℕ × SymEvent → ℕ × TreeEvent
part_of nodes part = (part.0, tree_event nodes part.1)

abbrev pub over_trees : List Node → Shown SymEvent → Shown TreeEvent
over_trees nodes p = record { parts = map (part_of nodes) p.parts; last = p.last }

-- the numbers of an event, or of a pattern's events, are below a count
abbrev pub NumberBelow : ℕ → SymEvent → Type 0
NumberBelow count (event.RamRead block) = block < count
NumberBelow count (event.EncRead block) = block < count
NumberBelow count (event.EncWrite block) = block < count
NumberBelow count (event.Oram bank) = Unit {0}

abbrev pub NumbersBelow : ℕ → Shown SymEvent → Type 0
NumbersBelow count p = All (λ part. NumberBelow count part.1) p.parts
