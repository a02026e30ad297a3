-- The trees of files with procedures as contracts see them.
use Rattle.std.specs.Prelude.{ℕ, List, [], ◌∷◌, map}
use Rattle.std.specs.Borrow.{Bor}
use Rattle.src_tree.specs.Trees.{Tree, expr_tree, test_of}
use Rattle.src_tree.specs.declared.trees.Expr.{Expr}
use Rattle.procs_tree.specs.declared.trees.PStmt.{PStmt}
use Rattle.procs_tree.specs.declared.trees.PStmt.TheOpen.{PStmt-F}
use Rattle.procs_tree.specs.declared.trees.PStmt.TheFolds.{fold-PStmt}
use Rattle.procs_tree.specs.Trees.{Statement, SetVariable, SetElement, Choice, Loop, Call, Block, Nothing, Then, Parameter, OfValue, OfVariable, Procedure, File}
use Rattle.procs_tree.specs.declared.trees.PStmt.TheOpen as open_stmt
use Rattle.procs_tree.specs.declared.trees.Param as params
use Rattle.procs_tree.specs.declared.trees.Param.TheVariants as param
use Rattle.procs_tree.specs.declared.trees.Proc as procs
use Rattle.procs_tree.specs.declared.trees.ProcFile as files

abbrev pub block_of : List Statement → Block
block_of [] = Nothing
block_of (s ∷ ss) = Then s (block_of ss)

abbrev pub trees_of : List Expr → List Tree
trees_of es = map expr_tree es

abbrev pub statement_step : PStmt-F Statement → Statement
statement_step (open_stmt.Set x e) = SetVariable x (expr_tree e)
statement_step (open_stmt.Put x i e) = SetElement x (expr_tree i) (expr_tree e)
statement_step (open_stmt.If g a b) = Choice (test_of g) (block_of a.items) (block_of b.items)
statement_step (open_stmt.While g a) = Loop (test_of g) (block_of a.items)
statement_step (open_stmt.Call x es) = Call x (trees_of es.items)

abbrev pub statement_of : PStmt → Statement
statement_of = fold-PStmt Statement statement_step

abbrev pub block_of_all : List PStmt → Block
block_of_all statements = block_of (map statement_of statements)

abbrev pub parameter_of : params.Param → Parameter
parameter_of (param.Scalar label name) = OfValue label name
parameter_of (param.Array name) = OfVariable name

abbrev pub procedure_of : procs.Proc → Procedure
procedure_of p = record {
  name = p.name;
  parameters = map parameter_of p.params.items;
  locals = p.locals.items;
  body = block_of_all p.body.items;
}

abbrev pub file_of : files.ProcFile → File
file_of f = record {
  decls = f.decls.items;
  procedures = map procedure_of f.procs.items;
  body = block_of_all f.body.items;
}

-- names by their bytes
abbrev pub names_seen : List (Bor (List ℕ)) → List (List ℕ)
names_seen names = map (λ (b : Bor (List ℕ)). b.now) names

-- procedures and statements, as a file without declarations
abbrev pub bare_file : List procs.Proc → List PStmt → File
bare_file ps statements =
    record { decls = []; procedures = map procedure_of ps; body = block_of_all statements }
