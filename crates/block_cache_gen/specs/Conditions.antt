-- The conditions of the calls that make code of a statement: it is in the program, in code for which it is made. (This
-- project's profile.)
use Rattle.std.specs.Prelude.{◌≡◌}
use Rattle.gr_word.specs.declared.variables.Label.{Label}
use Rattle.src_tree.specs.Statements.{StandsIn}
use Rattle.src_tree.specs.Trees.{Statement, Source}
use Rattle.block_cache_gen.specs.declared.frames.Mode.{Mode}
use Rattle.block_cache_gen.specs.declared.frames.Mode.TheVariants.{Public, Real, Mirrored}
use Rattle.gr_word.specs.declared.variables.Label.TheVariants as label

-- code of a secret choice is made only for statements of secret code
abbrev pub IsForCode : Mode → Label → Type 0
IsForCode Public code = Unit {0}
IsForCode Real code = code ≡ label.Secret
IsForCode Mirrored code = code ≡ label.Secret

-- a statement of a program, in code for which a mode is
pub record IsStatementFor (p : Source) (mode : Mode) (s : Statement) : Type 0 where
  pub code : Label
  pub stands : StandsIn p code s
  pub for_code : IsForCode mode code
