-- The rules that the checks of a module's functions enforce, as a test of the text's trees: a call in an expression is of
-- a pure function; a loop contains no return; and nothing follows a statement that may return, except an `if` of which
-- one block returns on each path and the other on none. A function is pure if neither it nor a function that it calls
-- assigns to a variable of the module or to an element of an array. (The language of modules is this project's own.)
use Rattle.std.specs.Prelude.{◌≡◌, ℕ, suc, zero, ◌&&◌, ◌||◌, not, Bool, true, false, List, [], ◌∷◌, length, Option, Some, None}
use Rattle.module_tree.specs.Trees.{Expression, Number, Named, Element, LengthOf, Operation, Select, Call, Expressions, NoMore, More, Statement, Declare, SetVariable, SetElement, Choice, Loop, Return, Invoke, Nested, Block, Nothing, Then, Function, Module}
use Rattle.module_tree.specs.Meaning.{function_named}
use Rattle.module_calls.specs.Tails.{always_in}
use Rattle.module_calls.specs.Fine.{returns, returns_in, word_names, among}

-- whether other statements may follow a statement
abbrev pub may_precede : Statement → Block → Bool
may_precede first Nothing = true
may_precede (Choice t a b) (Then second rest) =
    not (returns_in a || returns_in b)
    || ((always_in a && not (returns_in b)) || (always_in b && not (returns_in a)))
may_precede first (Then second rest) = not (returns first)

module _ (pure : List ℕ → Bool) where
  abbrev mutual
    pub allowed : Expression → Bool
    allowed (Number z) = true
    allowed (Named x) = true
    allowed (Element x i) = allowed i
    allowed (LengthOf x) = true
    allowed (Operation operator a b) = allowed a && allowed b
    allowed (Select c a b) = allowed c && (allowed a && allowed b)
    allowed (Call f es) = pure f && all_allowed es

    pub all_allowed : Expressions → Bool
    all_allowed NoMore = true
    all_allowed (More e es) = allowed e && all_allowed es

  -- a right side may be a call of any function
  abbrev pub allowed_right_side : Expression → Bool
  allowed_right_side (Call f es) = all_allowed es
  allowed_right_side e = allowed e

  abbrev mutual
    pub statement_obeys : Statement → Bool
    statement_obeys (Declare label x e) = allowed_right_side e
    statement_obeys (SetVariable x e) = allowed_right_side e
    statement_obeys (SetElement x i e) = allowed_right_side e && allowed i
    statement_obeys (Choice t a b) = allowed t && (block_obeys a && block_obeys b)
    statement_obeys (Loop t body step) =
        allowed t && (block_obeys body && (block_obeys step && (not (returns_in body) && not (returns_in step))))
    statement_obeys (Return e) = allowed_right_side e
    statement_obeys (Invoke f es) = all_allowed es
    statement_obeys (Nested body) = block_obeys body && not (returns_in body)

    pub block_obeys : Block → Bool
    block_obeys Nothing = true
    block_obeys (Then first rest) = statement_obeys first && (block_obeys rest && may_precede first rest)

  abbrev pub pure_right_side : Expression → Bool
  pure_right_side (Call f es) = pure f
  pure_right_side e = true

  -- whether statements assign only to some local variables and their own, and call pure functions
  abbrev mutual
    pub pure_statement : List (List ℕ) → Statement → Bool
    pure_statement own (Declare label x e) = pure_right_side e
    pure_statement own (SetVariable x e) = among own x && pure_right_side e
    pure_statement own (SetElement x i e) = false
    pure_statement own (Choice t a b) = pure_block own a && pure_block own b
    pure_statement own (Loop t body step) = pure_block own body && pure_block own step
    pure_statement own (Return e) = pure_right_side e
    pure_statement own (Invoke f es) = pure f
    pure_statement own (Nested body) = pure_block own body

    pub pure_block : List (List ℕ) → Block → Bool
    pure_block own Nothing = true
    pure_block own (Then (Declare label x e) rest) = pure_right_side e && pure_block (x ∷ own) rest
    pure_block own (Then first rest) = pure_statement own first && pure_block own rest

  abbrev pub pure_function : Function → Bool
  pure_function f = pure_block (word_names f.parameters) f.body

  abbrev pub functions_obey : List Function → Bool
  functions_obey [] = true
  functions_obey (f ∷ functions) =
      block_obeys f.body && ((not (pure f.name) || pure_function f) && functions_obey functions)

abbrev pub pure_if_named : (List ℕ → Bool) → Option Function → Bool
pure_if_named pure None = false
pure_if_named pure (Some f) = pure_function pure f

-- whether a function is pure, as far as calls that are nested less than `depth` deep show
unfoldable pub pure_at : List Function → ℕ → List ℕ → Bool
pure_at functions zero name = true
pure_at functions (suc depth) name = pure_if_named (pure_at functions depth) (function_named functions name)

-- No function calls itself, directly or through others, so calls are nested at most as deep as there are functions.
abbrev pub pure_in : Module → List ℕ → Bool
pure_in m = pure_at m.functions (suc (length m.functions))

abbrev pub ObeysRules : Module → Type 0
ObeysRules m = functions_obey (pure_in m) m.functions ≡ true
