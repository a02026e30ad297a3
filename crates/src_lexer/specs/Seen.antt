-- For private clauses only: the lexer's own types as the proofs see them.
use Rattle.std.specs.Prelude.{ℕ, ◌≤◌}
use Rattle.src_lexer.specs.Pieces.{LetterRun, Is, Big, Long, Mixed, BytePair, Two, Slashes, Apart}
use Rattle.src_lexer.specs.Found.{Found, Skipped, Piece}
use Rattle.src_lexer.specs.declared.runs.Run as runs
use Rattle.src_lexer.specs.declared.runs.Run.TheVariants as run
use Rattle.src_lexer.specs.declared.signs.Pair as pairs
use Rattle.src_lexer.specs.declared.signs.Pair.TheVariants as pair
use Rattle.src_lexer.specs.declared.pieces.Piece as pieces
use Rattle.src_lexer.specs.declared.pieces.Piece.TheVariants as piece

abbrev pub run_seen : runs.Run → LetterRun
run_seen (run.Is k) = Is k
run_seen run.Big = Big
run_seen run.Long = Long
run_seen (run.Mixed digits) = Mixed digits

-- the digits of a mixed run are within it
abbrev pub MixedWithin : ℕ → runs.Run → Type 0
MixedWithin size (run.Mixed digits) = digits ≤ size
MixedWithin size other = Unit {0}

abbrev pub pair_seen : pairs.Pair → BytePair
pair_seen (pair.Two k) = Two k
pair_seen pair.Slashes = Slashes
pair_seen pair.Apart = Apart

abbrev pub piece_seen : pieces.Piece → Found
piece_seen (piece.Skipped size) = Skipped size
piece_seen (piece.Known k size) = Piece k size
