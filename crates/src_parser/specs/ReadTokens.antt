-- For the proofs and for private clauses only: several tokens of an expression, and the expression that they end.
use Rattle.std.specs.Prelude.{List, [], ◌∷◌, Option, None}
use Rattle.src_lexer.specs.declared.tokens.Kind.{Kind}
use Rattle.src_tree.specs.Trees.{Tree}
use Rattle.src_parser.specs.Grammar.{Limits}
use Rattle.src_parser.specs.Operands.{Reading, TokenStep, Moves, Stops, Deep, reads, whole}
use Rattle.src_lexer.specs.declared.tokens.Kind.TheVariants as kind

abbrev pub then_read : TokenStep → (Reading → TokenStep) → TokenStep
then_read (Moves x) next = next x
then_read (Stops x) next = Stops x
then_read Deep next = Deep

abbrev pub reads_all : Limits → Reading → List Kind → TokenStep
reads_all most x [] = Moves x
reads_all most x (k ∷ ks) = then_read (reads most x k) (λ y. reads_all most y ks)

-- the expression that is left by a token with which it doesn't continue
abbrev pub left_whole : TokenStep → Option Tree
left_whole (Moves x) = None
left_whole (Stops x) = whole x
left_whole Deep = None

-- the expression that was read, if it ends here
abbrev pub ended : Limits → Reading → Option Tree
ended most x = left_whole (reads most x kind.Semi)

-- the expression of all tokens but the last, if the last is the first with which it doesn't continue
abbrev pub after_read : TokenStep → List Kind → (Reading → Option Tree) → Option Tree
after_read (Moves x) ks next = next x
after_read (Stops x) [] next = whole x
after_read (Stops x) (k ∷ ks) next = None
after_read Deep ks next = None

abbrev pub read_to_end : Limits → Reading → List Kind → Option Tree
read_to_end most x [] = None
read_to_end most x (k ∷ ks) = after_read (reads most x k) ks (λ y. read_to_end most y ks)
