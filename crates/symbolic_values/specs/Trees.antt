-- Values as trees over the state at the entry of a stretch of code, and the tree that a number has in a list of nodes.
-- (GhostRider, ASPLOS 2015: the symbolic values of the type system of L_T; their forms are this project's profile.)
use Rattle.std.specs.Prelude.{ℕ, ◌<◌, ℤ, pos, List, [], ◌∷◌, ◌++◌, slice_index_or}
use Rattle.gr_word.specs.declared.operations.Op.{Op}
use Rattle.symbolic_values.specs.declared.nodes.Node.{Node}
use Rattle.symbolic_values.specs.declared.nodes.Node.TheVariants as node

-- a constant; at the entry, the contents of a register, the number of the block to which a slot is bound, a word of a
-- slot, or a word of plain memory (its block and its place there); an operation on two values
pub data Value : Type 0 where
  Const : (word : ℤ) → Value
  Reg : (register : ℕ) → Value
  SlotAt : (slot : ℕ) → Value
  SlotWord : (slot : ℕ) (place : Value) → Value
  MemWord : (block place : Value) → Value
  Apply : (op : Op) (left right : Value) → Value

-- tree number i of some trees
abbrev pub tree_at : List Value → ℕ → Value
tree_at trees i = slice_index_or trees i (Const (pos 0))

-- the tree of a node, made of the trees that it names
abbrev pub built : List Value → Node → Value
built trees (node.Const word) = Const word
built trees (node.Reg r) = Reg r
built trees (node.SlotAt k) = SlotAt k
built trees (node.SlotWord k place) = SlotWord k (tree_at trees place)
built trees (node.MemWord block place) = MemWord (tree_at trees block) (tree_at trees place)
built trees (node.Apply op a b) = Apply op (tree_at trees a) (tree_at trees b)

-- the trees of some nodes after given ones, each made of the trees before it
unfoldable pub trees_onto : List Value → List Node → List Value
trees_onto trees [] = trees
trees_onto trees (n ∷ nodes) = trees_onto (trees ++ built trees n ∷ []) nodes

-- the trees of a list of nodes, and the tree of a number
abbrev pub trees_of : List Node → List Value
trees_of nodes = trees_onto [] nodes

abbrev pub tree_of : List Node → ℕ → Value
tree_of nodes i = tree_at (trees_of nodes) i

-- the numbers that a node names are below a count
abbrev pub NamesBelow : ℕ → Node → Type 0
NamesBelow count (node.SlotWord k place) = place < count
NamesBelow count (node.MemWord block place) = (block < count) × (place < count)
NamesBelow count (node.Apply op a b) = (a < count) × (b < count)
NamesBelow count other = Unit {0}
