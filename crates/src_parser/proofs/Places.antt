-- What the errors of any parser that reads token by token (`specs/Tokenwise`) mean for programs.
use Rattle.std.proofs.Common.{◌≡◌, ℕ, List, [], ◌∷◌, ◌++◌}
use Rattle.src_lexer.specs.declared.tokens.Kind.{Kind}
use Rattle.src_lexer.specs.declared.tokens.Token.{Token}
use Rattle.src_tree.specs.Prelude.{Source}
use Rattle.src_parser.specs.Prelude.{Limits, limits, Sentence, token_kinds, ProgramBegins, Unexpected, TooDeep, CutShort, Begins, Stray, Deeper, Cut, ParserState, advanced, ExplainsTokens, ReadsTo}
use Rattle.src_parser.specs.Readers.{Stops}
use Rattle.src_parser.specs.declared.errors.ParseFault.{ParseFault}
use Rattle.src_parser.proofs.Refused.{program_laws, start}
use Rattle.src_parser.proofs.SeveralTokens.{stray_after, deeper_after}
use Rattle.src_parser.specs.declared.errors.ParseFault.TheVariants as error
use Rattle.src_parser.proofs.Tokenwise as tokenwise

begun : {most : Limits} {tokens : List Kind} → Begins Sentence most tokens → ProgramBegins most tokens
begun b = record { shallow = b.shallow; braces = b.braces; more = b.more; program = b.tree; sentence = b.sentence }

begins : {most : Limits} {tokens : List Kind} → ProgramBegins most tokens → Begins Sentence most tokens
begins b = record { shallow = b.shallow; braces = b.braces; more = b.more; tree = b.program; sentence = b.sentence }

pub unexpected : (tokens : List Token) (at : ℕ) → Stray Sentence tokens at → Unexpected tokens at
unexpected tokens at s = record {
  before = s.before;
  token = s.token;
  after = s.after;
  split = s.split;
  place = s.place;
  begins = begun s.begins;
  none = λ most b. s.none most (begins b);
}

pub too_deep : (tokens : List Token) (at : ℕ) → Deeper Sentence tokens at → TooDeep tokens at
too_deep tokens at s = record {
  before = s.before;
  token = s.token;
  after = s.after;
  split = s.split;
  place = s.place;
  begins = begun s.begins;
  none = λ b. s.none (begins b);
  wider = s.wider;
  begins_wider = begun s.begins_wider;
}

pub cut_short : (tokens : List Token) → Cut Sentence tokens → CutShort tokens
cut_short tokens c = record { begins = begun c.begins; none = c.none }

-- `Unexpected`, `TooDeep` and `CutShort` as `Stray`, `Deeper` and `Cut` of the grammar's sentences
pub stray : {tokens : List Token} {at : ℕ} → Unexpected tokens at → Stray Sentence tokens at
stray s = record {
  before = s.before;
  token = s.token;
  after = s.after;
  split = s.split;
  place = s.place;
  begins = begins s.begins;
  none = λ most b. s.none most (begun b);
}

pub deeper : {tokens : List Token} {at : ℕ} → TooDeep tokens at → Deeper Sentence tokens at
deeper s = record {
  before = s.before;
  token = s.token;
  after = s.after;
  split = s.split;
  place = s.place;
  begins = begins s.begins;
  none = λ b. s.none (begun b);
  wider = s.wider;
  begins_wider = begins s.begins_wider;
}

pub cut : {tokens : List Token} → CutShort tokens → Cut Sentence tokens
cut c = record { begins = begins c.begins; none = c.none }

-- each prefix of a program, with the next token, begins a program
pub next_begins : (tokens before after : List Token) (token : Token) (p : Source) → tokens ≡ before ++ token ∷ after
    → Sentence limits (token_kinds tokens) p → ProgramBegins limits (token_kinds before ++ token.kind ∷ [])
next_begins tokens before after token p split s =
    begun (tokenwise.next_begins program_laws tokens before after token p split s)

-- why tokens aren't all read, as an error of all tokens, for any tokens after them
pub stops_explained : (before tokens after : List Token) (state : ParserState) (e : ParseFault)
    → ReadsTo advanced start before state → Stops advanced state tokens e
    → ExplainsTokens e ((before ++ tokens) ++ after)
stops_explained before tokens after state (error.Unexpected at) read s =
    unexpected _ at (stray_after program_laws before tokens after state at read s)
stops_explained before tokens after state (error.TooDeep at) read s =
    too_deep _ at (deeper_after program_laws before tokens after state at read s)
stops_explained before tokens after state error.EndOfText read s = absurd s
