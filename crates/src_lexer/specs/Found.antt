-- For the proofs and for private clauses only: the first piece of a text.
use Rattle.std.specs.Prelude.{ℕ, ◌+◌, if◌then◌else◌, List, drop, slice_index, Option, Some, None}
use Rattle.std.specs.List.{prefix_len, take_while}
use Rattle.gr_word.specs.Names.{is_name_byte}
use Rattle.src_lexer.specs.declared.tokens.Kind.{Kind}
use Rattle.src_lexer.specs.declared.errors.LexFault.{LexFault}
use Rattle.src_lexer.specs.Pieces.{is_white, is_in_line, LetterRun, Is, Big, Long, Mixed, letter_run_of, sign_of, BytePair, Two, Slashes, Apart, pair_of}
use Rattle.src_lexer.specs.declared.errors.LexFault.TheVariants as error

-- white space or a comment of this length; a token of this length; or an error
pub data Found : Type 0 where
  Skipped : (size : ℕ) → Found
  Piece : (k : Kind) (size : ℕ) → Found
  Faulty : (e : LexFault) → Found

abbrev pub run_found : ℕ → ℕ → LetterRun → Found
run_found at size (Is k) = Piece k size
run_found at size Big = Faulty (error.NumberTooBig at)
run_found at size Long = Faulty (error.NameTooLong at)
run_found at size (Mixed digits) = Faulty (error.BadByte (at + digits))

abbrev pub single_found : ℕ → Option Kind → Found
single_found at (Some k) = Piece k 1
single_found at None = Faulty (error.BadByte at)

abbrev pub sign_found : ℕ → ℕ → List ℕ → BytePair → Found
sign_found at b rest (Two k) = Piece k 2
sign_found at b rest Slashes = Skipped (2 + prefix_len is_in_line (drop 1 rest))
sign_found at b rest Apart = single_found at (sign_of b)

-- the first piece of a text that isn't empty
-- Rule: source/byte.
abbrev pub found_in : ℕ → List ℕ → Found
found_in at text =
    if is_white (slice_index text 0) then Skipped 1
    else (if is_name_byte (slice_index text 0)
    then run_found at (prefix_len is_name_byte text) (letter_run_of (take_while is_name_byte text))
    else sign_found at (slice_index text 0) (drop 1 text) (pair_of (slice_index text 0) (slice_index (drop 1 text) 0)))
