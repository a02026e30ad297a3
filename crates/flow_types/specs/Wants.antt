-- What the inputs of a program must fit: its variables in the order of declaration, a scalar as one word. (This
-- project's profile.)
use Rattle.std.specs.Prelude.{List, map}
use Rattle.gr_word.specs.declared.variables.Want.{Want}
use Rattle.src_tree.specs.declared.trees.Decl.{Decl}
use Rattle.src_tree.specs.Contexts.{shape_of}
use Rattle.src_tree.specs.Limits.{words_of}

abbrev pub declared_want : Decl → Want
declared_want d = record { name = d.name; label = d.label; shape = shape_of d.length; length = words_of d }

abbrev pub declared_wants : List Decl → List Want
declared_wants decls = map declared_want decls
