-- The program of a file with procedures: each call is replaced, outermost first, by an assignment of each scalar
-- argument, an assignment of 0 to each local, and the procedure's statements. The scalar parameters and the locals are
-- new variables `__0`, `__1` and so on, in the order of the calls in the program, declared after the file's own. Every
-- tree has a program: a name that refers to nothing becomes the name `__`, which no file declares.
use Rattle.std.specs.Prelude.{ℕ, ◌+◌, ◌&&◌, ◌==◌, List, [], ◌∷◌, ◌++◌, if◌then◌else◌, length, reverse, bytes_eq, decimal, slice_index, None, Bool}
use Rattle.gr_word.specs.declared.variables.Label.{Label}
use Rattle.src_tree.specs.declared.trees.Decl.{Decl}
use Rattle.src_tree.specs.Trees.{Tree, Number, Variable, Element, Operation, Test, Source}
use Rattle.procs_tree.specs.Trees.{Statement, SetVariable, SetElement, Choice, Loop, Call, Block, Nothing, Then, Procedure, File}
use Rattle.procs_tree.specs.Frames.{naming_all, new_values, new_labels}
use Rattle.src_tree.specs.Trees as plain

-- the names of the program for those of a procedure
abbrev pub Renaming : Type 0
Renaming = List ℕ → List ℕ

-- `__` and a number
abbrev pub new_name : ℕ → List ℕ
new_name k = 95 ∷ 95 ∷ decimal k

abbrev pub no_name : List ℕ
no_name = 95 ∷ 95 ∷ []

-- names that begin with `__`, which no file has
abbrev pub is_hidden : List ℕ → Bool
is_hidden name = (slice_index name 0 == 95) && (slice_index name 1 == 95)

-- the file's own statements keep their names
abbrev pub kept_name : Renaming
kept_name name = if is_hidden name then no_name else name

abbrev pub renamed : Renaming → Tree → Tree
renamed to (Number z) = Number z
renamed to (Variable x) = Variable (to x)
renamed to (Element x i) = Element (to x) (renamed to i)
renamed to (Operation op a b) = Operation op (renamed to a) (renamed to b)

abbrev pub renamed_test : Renaming → Test → Test
renamed_test to t = record { cmp = t.cmp; left = renamed to t.left; right = renamed to t.right }

-- statements of the program, and the labels of the new variables
pub record Inlined : Type 0 where
  pub block : plain.Block
  pub labels : List Label

abbrev pub blocks_joined : plain.Block → plain.Block → plain.Block
blocks_joined plain.Nothing other = other
blocks_joined (plain.Then s rest) other = plain.Then s (blocks_joined rest other)

abbrev pub only_statement : plain.Statement → List Label → Inlined
only_statement s labels = record { block = plain.Then s plain.Nothing; labels = labels }

abbrev pub both : Inlined → (ℕ → Inlined) → ℕ → Inlined
both first second next =
    let others = second (next + length first.labels) in
    record { block = blocks_joined first.block others.block; labels = first.labels ++ others.labels }

-- the statements that a call of a name is replaced by, by the caller's names, the arguments, and the number of the next
-- new variable
abbrev pub Inlines : Type 0
Inlines = List ℕ → Renaming → List Tree → ℕ → Inlined

abbrev pub choice_of : Test → Inlined → Inlined → Inlined
choice_of t first second = only_statement (plain.Choice t first.block second.block) (first.labels ++ second.labels)

abbrev pub loop_of : Test → Inlined → Inlined
loop_of t body = only_statement (plain.Loop t body.block) body.labels

abbrev mutual
  pub inlined : Inlines → Renaming → Statement → ℕ → Inlined
  inlined inlines to (SetVariable x e) next = only_statement (plain.SetVariable (to x) (renamed to e)) []
  inlined inlines to (SetElement x i e) next = only_statement (plain.SetElement (to x) (renamed to i) (renamed to e)) []
  inlined inlines to (Choice t a b) next =
      choice_of (renamed_test to t) (inlined_all inlines to a next)
      (inlined_all inlines to b (next + length (inlined_all inlines to a next).labels))
  inlined inlines to (Loop t a) next = loop_of (renamed_test to t) (inlined_all inlines to a next)
  inlined inlines to (Call name arguments) next = inlines name to arguments next

  pub inlined_all : Inlines → Renaming → Block → ℕ → Inlined
  inlined_all inlines to Nothing next = record { block = plain.Nothing; labels = [] }
  inlined_all inlines to (Then s rest) next = both (inlined inlines to s next) (inlined_all inlines to rest) next

-- the assignments of a call
abbrev pub assigned : Renaming → ℕ → List Tree → plain.Block
assigned to next [] = plain.Nothing
assigned to next (e ∷ es) =
    plain.Then (plain.SetVariable (new_name next) (renamed to e)) (assigned to (next + 1) es)

-- a call of a procedure
abbrev pub inlined_call : Inlines → Procedure → Renaming → List Tree → ℕ → Inlined
inlined_call inlines p caller arguments next =
    both
    (record {
      block = assigned caller next (new_values p.parameters arguments p.locals);
      labels = new_labels p.parameters arguments p.locals;
    })
    (inlined_all inlines (naming_all new_name no_name caller next p.parameters arguments p.locals) p.body) next

-- calls of these procedures, the last first
abbrev pub inlines_of : List Procedure → Inlines
inlines_of [] name caller arguments next = record { block = plain.Nothing; labels = [] }
inlines_of (p ∷ earlier) name caller arguments next =
    if bytes_eq name p.name then inlined_call (inlines_of earlier) p caller arguments next
    else inlines_of earlier name caller arguments next

-- new variables from number `next` on, which are scalars
abbrev pub added : ℕ → List Label → List Decl
added next [] = []
added next (label ∷ labels) = record { name = new_name next; label = label; length = None } ∷ added (next + 1) labels

abbrev pub inlined_body : File → Inlined
inlined_body f = inlined_all (inlines_of (reverse f.procedures)) kept_name f.body 0

abbrev pub inlined_file : File → Source
inlined_file f = record {
  decls = f.decls ++ added 0 (inlined_body f).labels;
  body = (inlined_body f).block;
}
