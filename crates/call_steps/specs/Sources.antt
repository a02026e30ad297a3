-- Source texts: their limit, and what a text parses as, with procedures or without, or its first fault (this project's
-- profile).
use Rattle.std.specs.Prelude.{◌≡◌, ℕ, Bool, true, false, List, Option, Some, None, Ok, Err}
use Rattle.src_lexer.specs.Splits.{Splits}
use Rattle.src_lexer.specs.declared.tokens.Token.{Token}
use Rattle.src_lexer.specs.declared.errors.LexFault.{LexFault}
use Rattle.src_parser.specs.Grammar.{limits, Sentence}
use Rattle.src_parser.specs.Refusals.{token_kinds}
use Rattle.src_parser.specs.Source.{SpellsSource}
use Rattle.src_parser.specs.Explained.{ExplainsTokens}
use Rattle.src_parser.specs.declared.errors.ParseFault.{ParseFault}
use Rattle.src_parser.specs.declared.errors.TextFault.{TextFault}
use Rattle.procs_parser.specs.FileGrammar.{SpellsFile}
use Rattle.procs_parser.specs.FileRefusals.{ExplainsFile}
use Rattle.procs_tree.specs.Trees.{File}
use Rattle.procs_tree.specs.Inlined.{inlined_file}
use Rattle.procs_tree.specs.CallCauses.{IsFirstCallFault, ExplainsInlining}
use Rattle.procs_tree.specs.Promise.{KeepsMeaning}
use Rattle.procs_tree.specs.declared.errors.InlineError.{InlineError}
use Rattle.src_tree.specs.Trees.{Source}
use Rattle.src_tree.specs.Typing.{IsTyped}
use Rattle.src_tree.specs.Limits.{IsWithinLimits}
use Rattle.flow_types.specs.Refusals.{ExplainsProgram}
use Rattle.src_tree.specs.declared.faults.TypeError.{TypeError}
use Rattle.call_replies.specs.declared.source_faults.SourceFault.{SourceFault}
use Rattle.src_lexer.specs.declared.errors.LexFault.TheVariants as piece
use Rattle.src_parser.specs.declared.errors.ParseFault.TheVariants as token
use Rattle.src_parser.specs.declared.errors.TextFault.TheVariants as text
use Rattle.procs_tree.specs.declared.errors.InlineError.TheVariants as calls
use Rattle.src_tree.specs.declared.faults.TypeError.TheVariants as program
use Rattle.call_replies.specs.declared.source_faults.SourceFault.TheVariants as fault

-- the most bytes that a source text may have
abbrev pub source_limit : ℕ
source_limit = 1048576

-- Tokens that are a file with procedures, and the program that is made of it: its calls have no fault, and the program
-- does with the file's own variables what the file means.
pub record IsMadeOf (tokens : List Token) (p : Source) : Type 0 where
  pub file : File
  pub spelled : SpellsFile limits (token_kinds tokens) file
  pub faultless : (e : InlineError) → IsFirstCallFault file e → ⊥
  pub made : p ≡ inlined_file file
  pub means : KeepsMeaning file p

-- a text that parses as such a file
pub record SpellsCalls (text : List ℕ) (p : Source) : Type 0 where
  pub tokens : List Token
  pub split : Splits 0 text (Ok tokens)
  pub of_file : IsMadeOf tokens p

-- Tokens, and a text, that give a program, with procedures where they are asked for.
abbrev pub AreProgram : Bool → List Token → Source → Type 0
AreProgram false tokens p = Sentence limits (token_kinds tokens) p
AreProgram true tokens p = IsMadeOf tokens p

abbrev pub Spells : Bool → List ℕ → Source → Type 0
Spells false text p = SpellsSource text p
Spells true text p = SpellsCalls text p

-- the text parses as a program that is well typed and within the limits that don't depend on a machine
pub record SpellsTyped (procs : Bool) (text : List ℕ) (p : Source) : Type 0 where
  pub spells : Spells procs text p
  pub typed : IsTyped p
  pub within : IsWithinLimits p

-- the fault of a text's pieces, of its tokens, of its calls and of its program as it is shown; want of memory is none
abbrev pub piece_fault : LexFault → Option SourceFault
piece_fault (piece.BadByte at) = Some (fault.Byte at)
piece_fault (piece.NumberTooBig at) = Some (fault.Number at)
piece_fault (piece.NameTooLong at) = Some (fault.Name at)

abbrev pub token_fault : ParseFault → Option SourceFault
token_fault (token.Unexpected at) = Some (fault.Unexpected at)
token_fault token.EndOfText = Some fault.End
token_fault (token.TooDeep at) = Some (fault.Deep at)

abbrev pub text_fault : TextFault → Option SourceFault
text_fault (text.Pieces e) = piece_fault e
text_fault (text.Tokens e) = token_fault e

abbrev pub shown_call_fault : InlineError → Option SourceFault
shown_call_fault (calls.TwiceNamed n) = Some (fault.ProcedureTwice n)
shown_call_fault (calls.Undeclared n) = Some (fault.ProcedureUndeclared n)
shown_call_fault (calls.NoProcedure n) = Some (fault.CallUnknown n)
shown_call_fault (calls.WrongCount n) = Some (fault.CallCount n)
shown_call_fault (calls.NotAnArray n) = Some (fault.CallArray n)
shown_call_fault calls.TooLarge = Some fault.CallsLarge
shown_call_fault calls.Memory = None

abbrev pub program_fault : TypeError → Option SourceFault
program_fault (program.TwiceDeclared n) = Some (fault.Twice n)
program_fault (program.Undeclared n) = Some (fault.Undeclared n)
program_fault (program.WrongShape n) = Some (fault.Shape n)
program_fault (program.FlowToPublic n) = Some (fault.Flow n)
program_fault (program.SecretIndexOfPublic n) = Some (fault.Index n)
program_fault (program.SecretGuardOfLoop n) = Some (fault.Guard n)
program_fault (program.LoopInSecret n) = Some (fault.Loop n)
program_fault (program.Limit which n) = Some (fault.Limit which n)
program_fault program.Memory = None

-- The first fault of tokens: where they cease to begin a program; or a file with procedures, and where they are such a
-- file, the first fault of its calls.
pub data IsFileFault (tokens : List Token) (shown : SourceFault) : Type 0 where
  NoFile : (e : ParseFault) → ExplainsFile e tokens → token_fault e ≡ Some shown → IsFileFault tokens shown
  InCalls : (f : File) (e : InlineError) → SpellsFile limits (token_kinds tokens) f → ExplainsInlining e f
      → shown_call_fault e ≡ Some shown → IsFileFault tokens shown

abbrev pub IsTokensFault : Bool → List Token → SourceFault → Type 0
IsTokensFault false tokens shown = (e : ParseFault) × ExplainsTokens e tokens × (token_fault e ≡ Some shown)
IsTokensFault true tokens shown = IsFileFault tokens shown

-- The first fault of a text: that of its pieces; where they are tokens, that of the tokens; where these give a program,
-- that of its types and limits.
pub data IsFirstSourceFault (procs : Bool) (text : List ℕ) (shown : SourceFault) : Type 0 where
  InPieces : (e : LexFault) → Splits 0 text (Err e) → piece_fault e ≡ Some shown → IsFirstSourceFault procs text shown
  InTokens : (tokens : List Token) → Splits 0 text (Ok tokens) → IsTokensFault procs tokens shown
      → IsFirstSourceFault procs text shown
  InProgram : (p : Source) (e : TypeError) → Spells procs text p → ExplainsProgram e p → program_fault e ≡ Some shown
      → IsFirstSourceFault procs text shown
