-- The levels of operators: an expression of a level is one of each lower level.
use Rattle.std.proofs.Common.{ℕ, ◌<◌, ◌≤◌, List, arith}
use Rattle.src_lexer.specs.declared.tokens.Kind.{Kind}
use Rattle.gr_word.specs.declared.operations.Op.{Op}
use Rattle.src_tree.specs.Prelude.{Tree}
use Rattle.src_parser.specs.Prelude.{SpellsTree, Numeral, Named, Indexed, Bracketed, Negated, Joined, level_of}
use Rattle.gr_word.specs.declared.operations.Op.TheVariants as op

-- an expression of a level is one of each lower level
pub lower : {most depth level : ℕ} {tokens : List Kind} {tree : Tree} (low : ℕ)
    → low ≤ level → SpellsTree most depth level tokens tree → SpellsTree most depth low tokens tree
lower low le (Numeral n) = Numeral n
lower low le (Named name) = Named name
lower low le (Indexed name room index) = Indexed name room index
lower low le (Bracketed room tree) = Bracketed room tree
lower low le (Negated room tree) = Negated room tree
lower low le (Joined op sign below is a b) = Joined op sign (omega arith) is a b

-- each operator has a lower level than an operand without operators
pub level_low : (o : Op) → level_of o < 6
level_low op.Add = omega arith
level_low _ = omega arith
