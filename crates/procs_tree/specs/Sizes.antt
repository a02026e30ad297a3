-- The number of statements of a file's program, computed without making the program.
use Rattle.std.specs.Prelude.{◌≡◌, ℕ, ◌+◌, ◌≤◌, List, [], ◌∷◌, length, reverse, if◌then◌else◌, bytes_eq}
use Rattle.src_tree.specs.Trees.{Tree}
use Rattle.procs_tree.specs.Trees.{Statement, SetVariable, SetElement, Choice, Loop, Call, Block, Nothing, Then, Procedure, File}
use Rattle.procs_tree.specs.Frames.{new_values}
use Rattle.procs_tree.specs.Inlined.{Inlined}
use Rattle.src_tree.specs.Trees as plain

-- the statements of a program, each one counted
abbrev mutual
  pub statements_in_one : plain.Statement → ℕ
  statements_in_one (plain.SetVariable x e) = 1
  statements_in_one (plain.SetElement x i e) = 1
  statements_in_one (plain.Choice t a b) = 1 + (statements_in a + statements_in b)
  statements_in_one (plain.Loop t a) = 1 + statements_in a

  pub statements_in : plain.Block → ℕ
  statements_in plain.Nothing = 0
  statements_in (plain.Then s rest) = statements_in_one s + statements_in rest

-- how many statements a call of a name is replaced by
abbrev pub CallSizes : Type 0
CallSizes = List ℕ → List Tree → ℕ

abbrev mutual
  pub size_of : CallSizes → Statement → ℕ
  size_of sizes (SetVariable x e) = 1
  size_of sizes (SetElement x i e) = 1
  size_of sizes (Choice t a b) = 1 + (size_of_all sizes a + size_of_all sizes b)
  size_of sizes (Loop t a) = 1 + size_of_all sizes a
  size_of sizes (Call name arguments) = sizes name arguments

  pub size_of_all : CallSizes → Block → ℕ
  size_of_all sizes Nothing = 0
  size_of_all sizes (Then s rest) = size_of sizes s + size_of_all sizes rest

-- calls of these procedures, the last first
abbrev pub sizes_of : List Procedure → CallSizes
sizes_of [] name arguments = 0
sizes_of (p ∷ earlier) name arguments =
    if bytes_eq name p.name then length (new_values p.parameters arguments p.locals)
    + size_of_all (sizes_of earlier) p.body else sizes_of earlier name arguments

abbrev pub file_size : File → ℕ
file_size f = size_of_all (sizes_of (reverse f.procedures)) f.body

-- this many statements, and at most as many new variables
pub record HasSize (size : ℕ) (i : Inlined) : Type 0 where
  pub count : statements_in i.block ≡ size
  pub new : length i.labels ≤ size
