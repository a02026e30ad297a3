-- The names that a file declares don't begin with `__`.
use Rattle.std.proofs.Common.{List, ◌++◌}
use Rattle.gr_word.specs.declared.variables.Label.TheVariants.{Public, Secret}
use Rattle.src_lexer.specs.declared.tokens.Kind.{Kind}
use Rattle.src_tree.specs.declared.trees.Decl.{Decl}
use Rattle.src_parser.specs.Prelude.{Limits, Declares, NoMore, Scalar, Array}
use Rattle.procs_tree.specs.Prelude.{File, ArePlain}
use Rattle.procs_parser.specs.Prelude.{HasNoHiddenName, SpellsFile, AFile}

declares_plain : {tokens : List Kind} {decls : List Decl} → Declares tokens decls → (more : List Kind)
    → HasNoHiddenName (tokens ++ more) → ArePlain decls
declares_plain NoMore more shown = tt
declares_plain (Scalar Public name rest) more shown = (shown.0, declares_plain rest more shown.1)
declares_plain (Scalar Secret name rest) more shown = (shown.0, declares_plain rest more shown.1)
declares_plain (Array Public name n rest) more shown = (shown.0, declares_plain rest more shown.1)
declares_plain (Array Secret name n rest) more shown = (shown.0, declares_plain rest more shown.1)

pub file_plain : {most : Limits} {tokens : List Kind} {f : File} → SpellsFile most tokens f → ArePlain f.decls
file_plain (AFile {middle = middle} {back = back} shown decls procedures body) =
    declares_plain decls (middle ++ back) shown
