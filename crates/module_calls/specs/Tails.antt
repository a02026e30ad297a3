-- Returns move to the ends of functions: `if (c) { ..; return x; } rest` becomes `if (c) { ..; return x; } else { rest }`.
-- The rest moves to the block that doesn't return on each path. (A pass of this project's compiler of modules.)
use Rattle.std.specs.Prelude.{◌≡◌, ℕ, ℤ, ◌||◌, ◌&&◌, Bool, true, false, List, [], ◌∷◌, Option}
use Rattle.module_tree.specs.Trees.{Expression, Statement, Declare, SetVariable, SetElement, Choice, Loop, Return, Invoke, Nested, Block, Nothing, Then, Function, Module}
use Rattle.module_tree.specs.Meaning.{module_meaning}

-- whether each path through statements ends with a return
abbrev mutual
  pub always : Statement → Bool
  always (Declare label x e) = false
  always (SetVariable x e) = false
  always (SetElement x i e) = false
  always (Choice t a b) = always_in a && always_in b
  always (Loop t body step) = false
  always (Return e) = true
  always (Invoke f es) = false
  always (Nested body) = always_in body

  pub always_in : Block → Bool
  always_in Nothing = false
  always_in (Then first rest) = always first || always_in rest

-- a block and the statements after it
abbrev pub followed : Block → Block → Block
followed a Nothing = a
followed a (Then first rest) = Then (Nested a) (Then first rest)

abbrev pub choice_before : Expression → Block → Block → Bool → Bool → Block → Block
choice_before t a b true other rest = Then (Choice t a (followed b rest)) Nothing
choice_before t a b false true rest = Then (Choice t (followed a rest) b) Nothing
choice_before t a b false false rest = Then (Choice t a b) rest

abbrev pub tails : Block → Block
tails Nothing = Nothing
tails (Then (Choice t a b) rest) = choice_before t (tails a) (tails b) (always_in a) (always_in b) (tails rest)
tails (Then first rest) = Then first (tails rest)

abbrev pub tailed_function : Function → Function
tailed_function f = record f { body = tails f.body }

abbrev pub tailed_all : List Function → List Function
tailed_all [] = []
tailed_all (f ∷ functions) = tailed_function f ∷ tailed_all functions

abbrev pub tailed : Module → Module
tailed m = record m { functions = tailed_all m.functions }

-- a module that means the same after the pass
abbrev pub MeansTheSame : Module → Type 0
MeansTheSame m =
    (main : List ℕ) (inputs : ℕ → Option (List ℤ)) (turns : ℕ)
    → module_meaning (tailed m) main inputs turns ≡ module_meaning m main inputs turns
