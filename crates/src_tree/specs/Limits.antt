-- The limits of a program that don't depend on a machine, and the weight of statements (this project's profile).
use Rattle.std.specs.Prelude.{ℕ, ◌+◌, ◌≤◌, List, [], ◌∷◌, length, Option, Some, None}
use Rattle.std.specs.List.{AllByRecursion}
use Rattle.gr_base.specs.Lists.{Within}
use Rattle.gr_word.specs.declared.variables.Label.{Label}
use Rattle.gr_word.specs.declared.variables.Label.TheVariants.{Public, Secret}
use Rattle.src_tree.specs.declared.trees.Decl.{Decl}
use Rattle.src_tree.specs.Heights.{height_of}
use Rattle.src_tree.specs.Trees.{Tree, Number, Variable, Element, Operation, Test, Statement, SetVariable, SetElement, Choice, Loop, Block, Nothing, Then, Source}
use Rattle.src_tree.specs.Contexts.{Context, context_of}
use Rattle.src_tree.specs.Labels.{inside}

-- Rule: source/limit-variables.
abbrev pub max_variables : ℕ
max_variables = 256

abbrev pub max_length : ℕ
max_length = 1048576

abbrev pub max_words : ℕ
max_words = 4194304

-- Rule: source/limit-height.
abbrev pub max_height : ℕ
max_height = 16

abbrev pub max_weight : ℕ
max_weight = 8192

-- the words of a variable: a scalar has one
abbrev pub words_of_length : Option ℕ → ℕ
words_of_length None = 1
words_of_length (Some n) = n

abbrev pub words_of : Decl → ℕ
words_of d = words_of_length d.length

abbrev pub total_words : List Decl → ℕ
total_words [] = 0
total_words (d ∷ ds) = words_of d + total_words ds

abbrev pub LengthFits : Option ℕ → Type 0
LengthFits None = Unit {0}
LengthFits (Some n) = Within 1 max_length n

-- the weight of an expression is the number of its nodes
abbrev pub tree_weight : Tree → ℕ
tree_weight (Number z) = 1
tree_weight (Variable x) = 1
tree_weight (Element x i) = 1 + tree_weight i
tree_weight (Operation op a b) = 1 + (tree_weight a + tree_weight b)

abbrev pub test_weight : Test → ℕ
test_weight t = tree_weight t.left + tree_weight t.right

-- the blocks of a choice count twice in secret code
abbrev pub parts_weight : Label → ℕ → ℕ
parts_weight Public parts = parts
parts_weight Secret parts = parts + parts

-- the weight of a statement in code with a label
abbrev mutual
  pub statement_weight : Context → Label → Statement → ℕ
  statement_weight known code (SetVariable x e) = 1 + tree_weight e
  statement_weight known code (SetElement x i e) = 1 + (tree_weight i + tree_weight e)
  statement_weight known code (Choice t a b) =
      1
      + (test_weight t
      + parts_weight (inside known code t)
      (block_weight known (inside known code t) a + block_weight known (inside known code t) b))
  statement_weight known code (Loop t a) = 1 + (test_weight t + block_weight known code a)

  pub block_weight : Context → Label → Block → ℕ
  block_weight known code Nothing = 0
  block_weight known code (Then s rest) = statement_weight known code s + block_weight known code rest

-- Rule: source/limit-weight.
abbrev pub weight_of : Source → ℕ
weight_of p = block_weight (context_of p.decls) Public p.body

-- each expression is within the height limit
abbrev pub Low : Tree → Type 0
Low e = height_of e ≤ max_height

abbrev mutual
  pub LowStatement : Statement → Type 0
  LowStatement (SetVariable x e) = Low e
  LowStatement (SetElement x i e) = Low i × Low e
  LowStatement (Choice t a b) = (Low t.left × Low t.right) × (LowBlock a × LowBlock b)
  LowStatement (Loop t a) = (Low t.left × Low t.right) × LowBlock a

  pub LowBlock : Block → Type 0
  LowBlock Nothing = Unit {0}
  LowBlock (Then s rest) = LowStatement s × LowBlock rest

pub record IsWithinLimits (p : Source) : Type 0 where
  pub variables : length p.decls ≤ max_variables
  pub lengths : AllByRecursion (λ d. LengthFits d.length) p.decls
  pub words : total_words p.decls ≤ max_words
  pub heights : LowBlock p.body
  pub weight : weight_of p ≤ max_weight
