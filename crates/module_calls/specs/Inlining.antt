-- Calls are inlined: `main` becomes one flat statement. Each declaration, and each parameter and result of a call, becomes
-- a variable of its own. A call becomes a binding: a new variable that is 0 at first, and statements that leave the call's
-- result in it. The bindings of an expression precede the statement that contains it. For the test of a loop they precede
-- the loop, and are repeated at the end of its body. (A pass of this project's compiler of modules.)
use Rattle.std.specs.Prelude.{ℕ, suc, zero, ◌+◌, pos, if◌then◌else◌, List, [], ◌∷◌, ◌++◌, length, bytes_eq, Option, Some, None}
use Rattle.module_tree.specs.Trees.{Expression, Number, Named, Element, LengthOf, Operation, Select, Call, Expressions, NoMore, More, Statement, Declare, SetVariable, SetElement, Choice, Loop, Return, Invoke, Nested, Block, Nothing, Then, Parameter, OfWord, OfArray, Function, Module}
use Rattle.module_tree.specs.Values.{Names, size_named, array_of}
use Rattle.module_tree.specs.Meaning.{names_of, function_named}
use Rattle.module_tree.specs.FirstWords.{number_named, sizes_of}
use Rattle.flat_tree.specs.Trees.{Term}
use Rattle.flat_tree.specs.Trees as flat

-- a local variable of a call, with its number
pub record Place : Type 0 where
  pub name : List ℕ
  pub number : ℕ

pub record Binding : Type 0 where
  pub first : Term
  pub body : flat.Statement

pub record Lowered : Type 0 where
  pub before : List Binding
  pub term : Term

-- an argument
pub record Passed : Type 0 where
  pub term : Term
  pub array : Option ℕ

pub record AllPassed : Type 0 where
  pub before : List Binding
  pub list : List Passed

-- what replaces a call of each function, from the arguments and the number of the result's variable
abbrev pub Inlines : Type 0
Inlines = List ℕ → List Passed → ℕ → Binding

abbrev pub with_bindings : ℕ → List Binding → flat.Statement → flat.Statement
with_bindings n [] s = s
with_bindings n (b ∷ bs) s = flat.Local n b.first (flat.Seq b.body (with_bindings (n + 1) bs s))

abbrev pub bind : ℕ → List Binding → flat.Statement
bind n [] = flat.Skip
bind n (b ∷ bs) = flat.Seq (flat.Set n b.first) (flat.Seq b.body (bind (n + 1) bs))

abbrev pub scalar_term : Option ℕ → Term
scalar_term None = flat.Number (pos 0)
scalar_term (Some k) = flat.Scalar k

abbrev pub element_term : Option ℕ → Term → Term
element_term None i = flat.Number (pos 0)
element_term (Some k) i = flat.Element k i

abbrev pub term_named : Names → List Place → List ℕ → Term
term_named names [] x = scalar_term (names x)
term_named names (p ∷ places) x = if bytes_eq x p.name then flat.Scalar p.number else term_named names places x

abbrev pub set_scalar : Option ℕ → Term → flat.Statement
set_scalar None e = flat.Skip
set_scalar (Some k) e = flat.Set k e

abbrev pub set_named : Names → List Place → List ℕ → Term → flat.Statement
set_named names [] x e = set_scalar (names x) e
set_named names (p ∷ places) x e = if bytes_eq x p.name then flat.Set p.number e else set_named names places x e

abbrev pub put_named : Option ℕ → Term → Term → flat.Statement
put_named None i e = flat.Skip
put_named (Some k) i e = flat.Put k i e

abbrev pub then_term : Lowered → Lowered → Term → Lowered
then_term h g term = record { before = h.before ++ g.before; term = term }

module _ (sizes : ℕ → ℕ) (inlines : Inlines) (names : Names) where
  abbrev mutual
    pub lowered : List Place → Expression → ℕ → Lowered
    lowered places (Number z) n = record { before = []; term = flat.Number z }
    lowered places (Named x) n = record { before = []; term = term_named names places x }
    lowered places (Element x i) n =
        let h = lowered places i n in record { before = h.before; term = element_term (names x) h.term }
    lowered places (LengthOf x) n =
        record { before = []; term = flat.Number (pos (size_named sizes (names x))) }
    lowered places (Operation operator a b) n =
        let h = lowered places a n in
        let g = lowered places b (n + length h.before) in
        then_term h g (flat.Operation operator h.term g.term)
    lowered places (Select c a b) n =
        let h = lowered places c n in
        let x = lowered places a (n + length h.before) in
        let y = lowered places b (n + length h.before + length x.before) in
        then_term h (then_term x y (flat.Number (pos 0))) (flat.Select h.term x.term y.term)
    lowered places (Call f es) n =
        let g = passed places es n in
        record {
          before = g.before ++ inlines f g.list (n + length g.before) ∷ [];
          term = flat.Scalar (n + length g.before);
        }

    pub passed : List Place → Expressions → ℕ → AllPassed
    passed places NoMore n = record { before = []; list = [] }
    passed places (More e es) n =
        let h = lowered places e n in
        let g = passed places es (n + length h.before) in
        record {
          before = h.before ++ g.before;
          list = record { term = h.term; array = array_of names e } ∷ g.list;
        }

  -- Statements, whose new variables have numbers from n on. A return sets variable number `result`.
  abbrev mutual
    pub statement : ℕ → List Place → Statement → ℕ → flat.Statement
    statement result places (Declare label x e) n = with_bindings n (lowered places e n).before flat.Skip
    statement result places (SetVariable x e) n =
        with_bindings n (lowered places e n).before (set_named names places x (lowered places e n).term)
    statement result places (SetElement x i e) n =
        let h = lowered places e n in
        let g = lowered places i (n + length h.before) in
        with_bindings n (h.before ++ g.before) (put_named (names x) g.term h.term)
    statement result places (Choice t a b) n =
        with_bindings n (lowered places t n).before
        (flat.If (lowered places t n).term (block result places a n) (block result places b n))
    statement result places (Loop t body step) n =
        with_bindings n (lowered places t n).before
        (flat.While (lowered places t n).term
        (flat.Seq (flat.Seq (block result places body n) (block result places step n))
        (bind n (lowered places t n).before)))
    statement result places (Return e) n =
        with_bindings n (lowered places e n).before (flat.Set result (lowered places e n).term)
    statement result places (Invoke f es) n = with_bindings n (lowered places (Call f es) n).before flat.Skip
    statement result places (Nested body) n = block result places body n

    pub block : ℕ → List Place → Block → ℕ → flat.Statement
    block result places Nothing n = flat.Skip
    block result places (Then (Declare label x e) rest) n =
        let h = lowered places e n in
        let k = n + length h.before in
        with_bindings n h.before
        (flat.Local k h.term (block result (record { name = x; number = k } ∷ places) rest (k + 1)))
    block result places (Then first rest) n =
        flat.Seq (statement result places first n) (block result places rest n)

-- the body of a function, in which its parameters are new variables
abbrev pub set_first : List ℕ → Term → (List Place → ℕ → flat.Statement) → List Place → ℕ → flat.Statement
set_first x e body places k = flat.Local k e (body (record { name = x; number = k } ∷ places) (k + 1))

abbrev pub with_parameters : List Parameter → List Passed → ℕ → (List Place → ℕ → flat.Statement) → flat.Statement
with_parameters [] list n body = body [] n
with_parameters (OfWord label x ∷ ps) [] n body = with_parameters ps [] n (set_first x (flat.Number (pos 0)) body)
with_parameters (OfWord label x ∷ ps) (a ∷ others) n body = with_parameters ps others n (set_first x a.term body)
with_parameters (OfArray x ∷ ps) [] n body = with_parameters ps [] n body
with_parameters (OfArray x ∷ ps) (a ∷ others) n body = with_parameters ps others n body

abbrev pub passed_arrays : List Passed → List (Option ℕ)
passed_arrays [] = []
passed_arrays (a ∷ others) = a.array ∷ passed_arrays others

abbrev pub body_of : (ℕ → ℕ) → Names → Inlines → Option Function → List Passed → ℕ → flat.Statement
body_of sizes all inlines None list result = flat.Skip
body_of sizes all inlines (Some f) list result =
    with_parameters f.parameters list (result + 1)
    (λ places n. block sizes inlines (names_of all f.parameters (passed_arrays list)) result places f.body n)

-- what replaces calls that are nested less than `depth` deep
unfoldable pub inlines_at : (ℕ → ℕ) → Module → ℕ → Inlines
inlines_at sizes m zero name list result = record { first = flat.Number (pos 0); body = flat.Skip }
inlines_at sizes m (suc depth) name list result = record {
  first = flat.Number (pos 0);
  body = body_of sizes (number_named m.items) (inlines_at sizes m depth) (function_named m.functions name) list result;
}

-- what a module becomes
abbrev pub inlined : Module → List ℕ → flat.Statement
inlined m main =
    with_bindings (length m.items)
    (inlines_at (sizes_of m.items) m (length m.functions) main [] (length m.items) ∷ []) flat.Skip
