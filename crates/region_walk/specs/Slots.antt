-- What is known about a slot, over the numbers of a table of values. (GhostRider, ASPLOS 2015: the symbolic memory of
-- the type system of L_T; its forms are this project's profile.)
use Rattle.std.specs.Prelude.{◌≡◌, ℕ, ◌<◌, ◌⊎◌, List, Option, Some, None}
use Rattle.std.specs.Option.{option_map}
use Rattle.lt_isa.specs.Ranges.{any_bank}
use Rattle.symbolic_values.specs.declared.nodes.Node.{Node}
use Rattle.symbolic_values.specs.Trees.{Value, tree_of}
use Rattle.region_walk.specs.declared.states.Origin.{Origin}
use Rattle.region_walk.specs.declared.states.Origin.TheVariants.{Entry, Loaded}
use Rattle.region_walk.specs.declared.states.Slot.{Slot}
use Rattle.region_walk.specs.declared.states.Slot.TheVariants.{Any, Ram, Eram, Oram}
use Rattle.trace_patterns.specs.SymStates as trees

-- the tree of a value, if it is known
abbrev pub known_tree : List Node → Option ℕ → Option Value
known_tree nodes number = option_map (tree_of nodes) number

-- what is known of a slot, over trees
abbrev pub origin_of : Origin → trees.Origin
origin_of (Entry slot) = trees.Entry slot
origin_of Loaded = trees.Loaded

abbrev pub slot_of : List Node → Slot → trees.SymSlot
slot_of nodes Any = trees.AnySlot
slot_of nodes (Ram block origin) = trees.RamSlot (tree_of nodes block) (origin_of origin)
slot_of nodes (Eram block) = trees.EramSlot (tree_of nodes block)
slot_of nodes (Oram bank) = trees.OramSlot bank

-- numbers are below a count, and the bank has a number that a note can name
abbrev pub NumberFits : ℕ → Option ℕ → Type 0
NumberFits count None = Unit {0}
NumberFits count (Some i) = i < count

abbrev pub NumberedSlotFits : ℕ → Slot → Type 0
NumberedSlotFits count Any = Unit {0}
NumberedSlotFits count (Ram block origin) = block < count
NumberedSlotFits count (Eram block) = block < count
NumberedSlotFits count (Oram bank) = bank < any_bank

-- the bank to which a slot is bound
abbrev pub bank_of : Slot → Option ℕ
bank_of Any = None
bank_of (Ram block origin) = Some 0
bank_of (Eram block) = Some 1
bank_of (Oram bank) = Some bank

-- what two states know of one item is known in common if it is the same, and otherwise nothing is
abbrev pub IsCommonOf : {X : Type 0} → X → X → X → X → Type 0
IsCommonOf nothing x y z = ((x ≡ y) × (z ≡ x)) ⊎ ((x ≡ y → ⊥) × (z ≡ nothing))
