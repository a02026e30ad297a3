-- Expressions and guards for which code is made: each array with a secret index is stored in an oblivious bank. The
-- same of assignments, statements and blocks is for proofs. (GhostRider, ASPLOS 2015: the type system of L_T refuses a
-- secret address of plain or encrypted memory.)
use Rattle.std.specs.Prelude.{◌≡◌, ℕ, Bool, true, nat_lt, if◌then◌else◌, List}
use Rattle.gr_word.specs.declared.variables.Label.TheVariants.{Public}
use Rattle.src_tree.specs.Contexts.{context_of}
use Rattle.src_tree.specs.Labels.{label_of}
use Rattle.src_tree.specs.Trees.{Tree, Number, Variable, Element, Operation, Test, Statement, SetVariable, SetElement, Choice, Loop, Block, Nothing, Then}
use Rattle.block_cache_gen.specs.Homes.{Home, Setting, home_of}

-- An access shows where it goes: in plain memory by its word, and in encrypted memory by its block, unless a slot holds
-- that block for the whole run.
abbrev pub shows_index : Home → Bool
shows_index h = nat_lt h.bank (if h.resident then 1 else 2)

-- an index of such an array is public
abbrev pub IndexIsPublic : Setting → List ℕ → Tree → Type 0
IndexIsPublic f x i = shows_index (home_of f x) ≡ true → label_of (context_of f.decls) i ≡ Public

-- so is each index in an expression and in a guard
abbrev pub HasPublicIndexes : Setting → Tree → Type 0
HasPublicIndexes f (Number z) = Unit {0}
HasPublicIndexes f (Variable x) = Unit {0}
HasPublicIndexes f (Element x i) = IndexIsPublic f x i × HasPublicIndexes f i
HasPublicIndexes f (Operation op a b) = HasPublicIndexes f a × HasPublicIndexes f b

abbrev pub TestHasPublicIndexes : Setting → Test → Type 0
TestHasPublicIndexes f t = HasPublicIndexes f t.left × HasPublicIndexes f t.right

-- for proofs: so is each index in an assignment
abbrev pub SetHasPublicIndexes : Setting → Statement → Type 0
SetHasPublicIndexes f (SetVariable x e) = HasPublicIndexes f e
SetHasPublicIndexes f (SetElement x i e) = HasPublicIndexes f (Element x i) × HasPublicIndexes f e
SetHasPublicIndexes f (Choice t a b) = Unit {0}
SetHasPublicIndexes f (Loop t a) = Unit {0}

-- for proofs: so is each index in a statement, and in a block
abbrev mutual
  pub StatementHasPublicIndexes : Setting → Statement → Type 0
  StatementHasPublicIndexes f (SetVariable x e) = SetHasPublicIndexes f (SetVariable x e)
  StatementHasPublicIndexes f (SetElement x i e) = SetHasPublicIndexes f (SetElement x i e)
  StatementHasPublicIndexes f (Choice t a b) =
      TestHasPublicIndexes f t × (BlockHasPublicIndexes f a × BlockHasPublicIndexes f b)
  StatementHasPublicIndexes f (Loop t a) = TestHasPublicIndexes f t × BlockHasPublicIndexes f a

  pub BlockHasPublicIndexes : Setting → Block → Type 0
  BlockHasPublicIndexes f Nothing = Unit {0}
  BlockHasPublicIndexes f (Then s rest) = StatementHasPublicIndexes f s × BlockHasPublicIndexes f rest
