-- The trees of modules without pointers, as contracts see owned trees. (The language of modules is this project's own.)
use Rattle.std.specs.Prelude.{List, [], ◌∷◌, map}
use Rattle.module_passes.specs.declared.trees.Expr.{Expr}
use Rattle.module_passes.specs.declared.trees.Expr.TheOpen.{Expr-F}
use Rattle.module_passes.specs.declared.trees.Expr.TheFolds.{fold-Expr}
use Rattle.module_passes.specs.declared.trees.Stmt.{Stmt}
use Rattle.module_passes.specs.declared.trees.Stmt.TheOpen.{Stmt-F}
use Rattle.module_passes.specs.declared.trees.Stmt.TheFolds.{fold-Stmt}
use Rattle.module_tree.specs.Operators.{Operator, Machine, LogicalShift, Compare, Conjunction, Disjunction}
use Rattle.module_tree.specs.Trees.{Expression, Number, Named, Element, LengthOf, Operation, Select, Call, Expressions, NoMore, More, Statement, Declare, SetVariable, SetElement, Choice, Loop, Return, Invoke, Nested, Block, Nothing, Then, Parameter, OfWord, OfArray, Function}
use Rattle.module_passes.specs.declared.trees.Operator as owned
use Rattle.module_passes.specs.declared.trees.Operator.TheVariants as sign
use Rattle.module_passes.specs.declared.trees.Expr.TheOpen as open_expr
use Rattle.module_passes.specs.declared.trees.Stmt.TheOpen as open_stmt
use Rattle.module_passes.specs.declared.trees.Parameter as owned_parameter
use Rattle.module_passes.specs.declared.trees.Parameter.TheVariants as parameter
use Rattle.module_passes.specs.declared.trees.Function as owned_function

abbrev pub operator_of : owned.Operator → Operator
operator_of (sign.Machine op) = Machine op
operator_of sign.LogicalShift = LogicalShift
operator_of (sign.Compare cmp) = Compare cmp
operator_of sign.Conjunction = Conjunction
operator_of sign.Disjunction = Disjunction

abbrev pub in_order : List Expression → Expressions
in_order [] = NoMore
in_order (e ∷ es) = More e (in_order es)

abbrev pub expression_step : Expr-F Expression → Expression
expression_step (open_expr.Num z) = Number z
expression_step (open_expr.Var x) = Named x
expression_step (open_expr.Item x i) = Element x i.value
expression_step (open_expr.Length x) = LengthOf x
expression_step (open_expr.Bin o a b) = Operation (operator_of o) a.value b.value
expression_step (open_expr.Select c a b) = Select c.value a.value b.value
expression_step (open_expr.Call f es) = Call f (in_order es.items)

abbrev pub expression_of : Expr → Expression
expression_of = fold-Expr Expression expression_step

abbrev pub block_of : List Statement → Block
block_of [] = Nothing
block_of (s ∷ ss) = Then s (block_of ss)

abbrev pub statement_step : Stmt-F Statement → Statement
statement_step (open_stmt.Declare label x e) = Declare label x (expression_of e)
statement_step (open_stmt.Set x e) = SetVariable x (expression_of e)
statement_step (open_stmt.Put x i e) = SetElement x (expression_of i) (expression_of e)
statement_step (open_stmt.If t a b) = Choice (expression_of t) (block_of a.items) (block_of b.items)
statement_step (open_stmt.Loop t a b) = Loop (expression_of t) (block_of a.items) (block_of b.items)
statement_step (open_stmt.Return e) = Return (expression_of e)
statement_step (open_stmt.Call f es) = Invoke f (in_order (map expression_of es.items))
statement_step (open_stmt.Block a) = Nested (block_of a.items)

abbrev pub statement_of : Stmt → Statement
statement_of = fold-Stmt Statement statement_step

-- the tree of several statements
abbrev pub block_of_all : List Stmt → Block
block_of_all statements = block_of (map statement_of statements)

abbrev pub parameter_of : owned_parameter.Parameter → Parameter
parameter_of (parameter.Word label x) = OfWord label x
parameter_of (parameter.Array x) = OfArray x

-- the tree of a function
abbrev pub function_of : owned_function.Function → Function
function_of f = record {
  name = f.name;
  returns_word = f.returns_word;
  parameters = map parameter_of f.parameters.items;
  body = block_of_all f.body.items;
}
