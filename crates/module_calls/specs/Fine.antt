-- What the inliner needs: calls in expressions are of pure functions, and nothing follows a statement that may return.
-- These are the rules of `Rules` after `tails`, as propositions. (This project's own.)
use Rattle.std.specs.Prelude.{◌≡◌, ℕ, ◌||◌, Bool, true, false, List, [], ◌∷◌, Some, bytes_eq}
use Rattle.module_tree.specs.Trees.{Expression, Number, Named, Element, LengthOf, Operation, Select, Call, Expressions, NoMore, More, Statement, Declare, SetVariable, SetElement, Choice, Loop, Return, Invoke, Nested, Block, Nothing, Then, Parameter, OfWord, OfArray, Function, Module}
use Rattle.module_tree.specs.Meaning.{function_named}

-- whether statements have a return
abbrev mutual
  pub returns : Statement → Bool
  returns (Choice t a b) = returns_in a || returns_in b
  returns (Loop t body step) = false
  returns (Return e) = true
  returns (Nested body) = returns_in body
  returns (Declare label x e) = false
  returns (SetVariable x e) = false
  returns (SetElement x i e) = false
  returns (Invoke f es) = false

  pub returns_in : Block → Bool
  returns_in Nothing = false
  returns_in (Then first rest) = returns first || returns_in rest

module _ (pure : List ℕ → Bool) where
  abbrev mutual
    pub FineExpression : Expression → Type 0
    FineExpression (Number z) = Unit {0}
    FineExpression (Named x) = Unit {0}
    FineExpression (Element x i) = FineExpression i
    FineExpression (LengthOf x) = Unit {0}
    FineExpression (Operation operator a b) = FineExpression a × FineExpression b
    FineExpression (Select c a b) = FineExpression c × FineExpression a × FineExpression b
    FineExpression (Call f es) = (pure f ≡ true) × FineExpressions es

    pub FineExpressions : Expressions → Type 0
    FineExpressions NoMore = Unit {0}
    FineExpressions (More e es) = FineExpression e × FineExpressions es

  -- a right side may call any function
  abbrev pub FineRightSide : Expression → Type 0
  FineRightSide (Call f es) = FineExpressions es
  FineRightSide e = FineExpression e

  -- only the last statement of a block may return
  abbrev pub IsLast : Statement → Block → Type 0
  IsLast first Nothing = Unit {0}
  IsLast first (Then second rest) = returns first ≡ false

  abbrev mutual
    pub FineStatement : Statement → Type 0
    FineStatement (Declare label x e) = FineRightSide e
    FineStatement (SetVariable x e) = FineRightSide e
    FineStatement (SetElement x i e) = FineRightSide e × FineExpression i
    FineStatement (Choice t a b) = FineExpression t × FineBlock a × FineBlock b
    FineStatement (Loop t body step) =
        FineExpression t × FineBlock body × FineBlock step × (returns_in body ≡ false) × (returns_in step ≡ false)
    FineStatement (Return e) = FineRightSide e
    FineStatement (Invoke f es) = FineExpressions es
    FineStatement (Nested body) = FineBlock body

    pub FineBlock : Block → Type 0
    FineBlock Nothing = Unit {0}
    FineBlock (Then first rest) = FineStatement first × FineBlock rest × IsLast first rest

-- the local variables of a call that parameters declare
abbrev pub word_names : List Parameter → List (List ℕ)
word_names [] = []
word_names (OfWord label x ∷ ps) = x ∷ word_names ps
word_names (OfArray x ∷ ps) = word_names ps

abbrev pub among : List (List ℕ) → List ℕ → Bool
among [] x = false
among (y ∷ own) x = bytes_eq x y || among own x

-- A pure function assigns only to its local variables, and calls only pure functions.
module _ (pure : List ℕ → Bool) where
  abbrev pub PureRightSide : Expression → Type 0
  PureRightSide (Call f es) = pure f ≡ true
  PureRightSide e = Unit {0}

  abbrev mutual
    pub PureStatement : List (List ℕ) → Statement → Type 0
    PureStatement own (Declare label x e) = PureRightSide e
    PureStatement own (SetVariable x e) = (among own x ≡ true) × PureRightSide e
    PureStatement own (SetElement x i e) = ⊥
    PureStatement own (Choice t a b) = PureBlock own a × PureBlock own b
    PureStatement own (Loop t body step) = PureBlock own body × PureBlock own step
    PureStatement own (Return e) = PureRightSide e
    PureStatement own (Invoke f es) = pure f ≡ true
    PureStatement own (Nested body) = PureBlock own body

    pub PureBlock : List (List ℕ) → Block → Type 0
    PureBlock own Nothing = Unit {0}
    PureBlock own (Then (Declare label x e) rest) = PureRightSide e × PureBlock (x ∷ own) rest
    PureBlock own (Then first rest) = PureStatement own first × PureBlock own rest

-- what the inliner needs of a module's functions
pub record FineModule (pure : List ℕ → Bool) (m : Module) : Type 0 where
  pub fine : (name : List ℕ) (f : Function) → function_named m.functions name ≡ Some f → FineBlock pure f.body
  pub pure_body : (name : List ℕ) (f : Function) → function_named m.functions name ≡ Some f → pure name ≡ true
      → PureBlock pure (word_names f.parameters) f.body
