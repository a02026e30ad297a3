-- Tables of nodes in which each tree has one number (this project's profile).
use Rattle.std.specs.Prelude.{◌≡◌, ℕ, ◌^◌, ◌<◌, List, [], ◌∷◌, ◌++◌, ◌⊎◌, length, slice_get, Some, Contains}
use Rattle.symbolic_values.specs.declared.nodes.Node.{Node}
use Rattle.symbolic_values.specs.Trees.{Value, NamesBelow, tree_of}

-- each node names earlier ones, different numbers have different trees, and each number has 32 bits
pub record IsTable (nodes : List Node) : Type 0 where
  pub earlier : (i : ℕ) (n : Node) → slice_get nodes i ≡ Some n → NamesBelow i n
  pub distinct : (i j : ℕ) → i < length nodes → j < length nodes → tree_of nodes i ≡ tree_of nodes j → i ≡ j
  pub few : length nodes < 2 ^ 32

-- number i has a tree
pub record IsNumber (nodes : List Node) (i : ℕ) (t : Value) : Type 0 where
  pub inside : i < length nodes
  pub tree : tree_of nodes i ≡ t

-- each number keeps its tree
abbrev pub KeepsTrees : List Node → List Node → Type 0
KeepsTrees old new = (i : ℕ) (t : Value) → IsNumber old i t → IsNumber new i t

-- a node is at place i already; or it is at no place, and is added at the end, which is place i
abbrev pub PlacedAt : List Node → Node → ℕ → List Node → Type 0
PlacedAt old n i new =
    ((slice_get old i ≡ Some n) × (new ≡ old)) ⊎ ((¬ Contains old n) × (i ≡ length old) × (new ≡ old ++ n ∷ []))
