-- The effect of a token of a program depends on the limits in only one way: it is read if there is room.
use Rattle.std.proofs.Common.{◌≢◌, List, []}
use Rattle.src_lexer.specs.declared.tokens.Kind.{Kind}
use Rattle.src_tree.specs.declared.trees.Decl.{Decl}
use Rattle.src_parser.specs.Prelude.{heading_advanced, between_statements, TooMuch, ParserState, Between, Declaring, Doing, programs, between, with_heading, advanced, open_braces}
use Rattle.src_parser.proofs.Tokenwise.{Shape}
use Rattle.src_parser.proofs.Rooms.{constant, mapped_not, mapped_shape, heading_not}
use Rattle.src_parser.proofs.StatementRooms.{beginning_not, statements_shape}
use Rattle.src_lexer.specs.declared.tokens.Kind.TheVariants as kind

between_not : (decls : List Decl) (k : Kind) → between decls k ≢ TooMuch
between_not decls kind.Public e = absurd (cc)
between_not decls kind.Secret e = absurd (cc)
between_not decls k e =
    mapped_not (Doing decls) (between_statements programs [] [] k) (beginning_not programs [] [] k) e

pub shape : (state : ParserState) (k : Kind) → Shape ParserState k (open_braces state)
    (λ most. advanced most state k)
shape (Between decls) k = constant _ (between_not decls k)
shape (Declaring decls heading) k =
    mapped_shape (with_heading decls) (constant (heading_advanced heading k) (heading_not heading k))
shape (Doing decls blocks) k = mapped_shape (Doing decls) (statements_shape programs 0 blocks k)
