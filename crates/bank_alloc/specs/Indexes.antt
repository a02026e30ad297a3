-- Which arrays a program indexes by a secret (GhostRider, ASPLOS 2015: such an array goes to oblivious memory).
use Rattle.std.specs.Prelude.{ℕ, List, Bool, false, ◌&&◌, ◌||◌, bytes_eq}
use Rattle.src_tree.specs.Trees.{Tree, Number, Variable, Element, Operation, Test, Statement, SetVariable, SetElement, Choice, Loop, Block, Nothing, Then, Source}
use Rattle.src_tree.specs.Contexts.{Context, context_of}
use Rattle.src_tree.specs.Labels.{label_of, secret_label}

-- whether an array has a secret index in an expression
abbrev pub secret_index_in : Context → List ℕ → Tree → Bool
secret_index_in known array (Number z) = false
secret_index_in known array (Variable x) = false
secret_index_in known array (Element x i) =
    (bytes_eq array x && secret_label (label_of known i)) || secret_index_in known array i
secret_index_in known array (Operation op a b) = secret_index_in known array a || secret_index_in known array b

abbrev pub secret_index_in_test : Context → List ℕ → Test → Bool
secret_index_in_test known array t = secret_index_in known array t.left || secret_index_in known array t.right

-- the same in a statement, on either side of an assignment, and in a block
abbrev mutual
  pub secret_index_in_statement : Context → List ℕ → Statement → Bool
  secret_index_in_statement known array (SetVariable x e) = secret_index_in known array e
  secret_index_in_statement known array (SetElement x i e) =
      secret_index_in known array (Element x i) || secret_index_in known array e
  secret_index_in_statement known array (Choice t a b) =
      secret_index_in_test known array t
      || (secret_index_in_block known array a || secret_index_in_block known array b)
  secret_index_in_statement known array (Loop t a) =
      secret_index_in_test known array t || secret_index_in_block known array a

  pub secret_index_in_block : Context → List ℕ → Block → Bool
  secret_index_in_block known array Nothing = false
  secret_index_in_block known array (Then s rest) =
      secret_index_in_statement known array s || secret_index_in_block known array rest

-- whether an array has a secret index anywhere in a program
abbrev pub has_secret_index : Source → List ℕ → Bool
has_secret_index p array = secret_index_in_block (context_of p.decls) array p.body
