-- The laws of single tokens and of states when a program is read token by token, from which the meaning of each error
-- follows.
use Rattle.std.proofs.Common.{◌≡◌, List, [], refl}
use Rattle.src_lexer.specs.declared.tokens.Kind.{Kind}
use Rattle.src_tree.specs.Prelude.{Source}
use Rattle.src_parser.specs.Prelude.{Limits, Sentence, ParserState, Between, advanced, program_of, open_braces}
use Rattle.src_parser.proofs.Tokenwise.{Laws}
use Rattle.src_parser.proofs.Standing.{Standing, standing_completes}
use Rattle.src_parser.proofs.Steps.{steps, nothing_read, finished}
use Rattle.src_parser.proofs.Parsed.{sentence_parsed}
use Rattle.src_parser.proofs.ProgramRooms.{shape}
use Rattle.src_parser.proofs.ProgramBraces.{counted}

-- before the first token
abbrev pub start : ParserState
start = Between []

pub program_laws : Laws advanced program_of open_braces start Sentence (λ most. Standing most)
program_laws = record {
  shape = shape;
  counted = counted;
  starts = refl;
  nothing_read = λ most. nothing_read;
  steps = λ most state tokens. steps;
  completes = λ most state tokens. standing_completes;
  finished = λ most state tokens. finished;
  read = λ most tokens tree. sentence_parsed;
}

-- tokens have at most one tree
pub one_tree : (most : Limits) (tokens : List Kind) (p q : Source)
    → Sentence most tokens p → Sentence most tokens q → p ≡ q
one_tree most tokens p q s t = let f = sentence_parsed s in let g = sentence_parsed t in cc
