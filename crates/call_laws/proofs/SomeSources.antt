-- Each source text is a program, with procedures or without, or has a first fault.
use Rattle.std.proofs.Common.{◌≡◌, ℕ, Bool, true, false, List, Option, Some, None, Result, Ok, Err, refl}
use Rattle.src_lexer.specs.declared.tokens.Token.{Token}
use Rattle.src_lexer.specs.declared.errors.LexFault.{LexFault}
use Rattle.src_lexer.specs.Prelude.{Splits}
use Rattle.src_parser.specs.Prelude.{limits, Sentence, token_kinds}
use Rattle.src_parser.proofs.Places.{unexpected, too_deep, cut_short}
use Rattle.src_parser.proofs.Refused.{program_laws}
use Rattle.procs_parser.specs.Prelude.{SpellsFile}
use Rattle.procs_parser.proofs.FileLaws.{file_laws}
use Rattle.procs_parser.proofs.PlainNames.{file_plain}
use Rattle.procs_tree.specs.Prelude.{inlined_file, inline_fault, File}
use Rattle.procs_tree.specs.declared.errors.InlineError.{InlineError}
use Rattle.procs_tree.proofs.CallCauses.{cause as call-cause, not-caused}
use Rattle.src_tree.specs.Prelude.{first_fault, Source}
use Rattle.src_tree.specs.declared.faults.TypeError.{TypeError}
use Rattle.src_tree.proofs.Faultless.{fine}
use Rattle.src_tree.proofs.FirstFaults.{cause}
use Rattle.flow_types.proofs.Judged.{explained}
use Rattle.call_replies.specs.declared.source_faults.SourceFault.{SourceFault}
use Rattle.call_steps.specs.Prelude.{IsRight, WhichSource, Spells, NoFile, InCalls, InPieces, InTokens, InProgram, piece_fault, program_fault, shown_call_fault}
use Rattle.call_laws.proofs.LexedTexts.{Reading, Reads, Fails, reading}
use Rattle.call_laws.proofs.ParsedTokens.{Outcome, IsSentence, IsStray, IsDeeper, IsCut, outcome}
use Rattle.call_laws.proofs.ToldFaults.{IsTold, IsToldCall, type-told, inline-told}
use Rattle.src_lexer.specs.declared.errors.LexFault.TheVariants as piece
use Rattle.src_parser.specs.declared.errors.ParseFault.TheVariants as token
use Rattle.procs_tree.specs.declared.errors.InlineError.TheVariants as calls
use Rattle.procs_tree.proofs.Judged as files
use Rattle.src_tree.specs.declared.faults.TypeError.TheVariants as program
use Rattle.call_replies.specs.declared.source_faults.SourceFault.TheVariants as fault

piece-shown : (e : LexFault) → (shown : SourceFault) × (piece_fault e ≡ Some shown)
piece-shown (piece.BadByte at) = (fault.Byte at, refl)
piece-shown (piece.NumberTooBig at) = (fault.Number at, refl)
piece-shown (piece.NameTooLong at) = (fault.Name at, refl)

call-shown : (e : InlineError) → IsToldCall e → (shown : SourceFault) × (shown_call_fault e ≡ Some shown)
call-shown (calls.TwiceNamed n) told = (fault.ProcedureTwice n, refl)
call-shown (calls.Undeclared n) told = (fault.ProcedureUndeclared n, refl)
call-shown (calls.NoProcedure n) told = (fault.CallUnknown n, refl)
call-shown (calls.WrongCount n) told = (fault.CallCount n, refl)
call-shown (calls.NotAnArray n) told = (fault.CallArray n, refl)
call-shown calls.TooLarge told = (fault.CallsLarge, refl)
call-shown calls.Memory told = absurd told

program-shown : (e : TypeError) → IsTold e → (shown : SourceFault) × (program_fault e ≡ Some shown)
program-shown (program.TwiceDeclared n) told = (fault.Twice n, refl)
program-shown (program.Undeclared n) told = (fault.Undeclared n, refl)
program-shown (program.WrongShape n) told = (fault.Shape n, refl)
program-shown (program.FlowToPublic n) told = (fault.Flow n, refl)
program-shown (program.SecretIndexOfPublic n) told = (fault.Index n, refl)
program-shown (program.SecretGuardOfLoop n) told = (fault.Guard n, refl)
program-shown (program.LoopInSecret n) told = (fault.Loop n, refl)
program-shown (program.Limit which n) told = (fault.Limit which n, refl)
program-shown program.Memory told = absurd told

abbrev SomeRight : Bool → List ℕ → Type 0
SomeRight procs text = (a : Result Source SourceFault) × IsRight (WhichSource procs text) a

module _ (text : List ℕ) where
  -- a program is well typed and within the limits, or has a first error
  on-program : (procs : Bool) (p : Source) → Spells procs text p → SomeRight procs text
  on-program procs p spells = by (first_fault p) refl
    where
      by : (found : Option TypeError) → first_fault p ≡ found → SomeRight procs text
      by None none =
          let f = fine p none in (Ok p, record { spells = spells; typed = f.typed; within = f.within })
      by (Some e) is =
          let shown = program-shown e (type-told p e (cause p e is)) in
          (Err shown.0, InProgram p e spells (explained p e is) shown.1)

  -- the calls of a file can be replaced, or have a first fault
  on-file : (tokens : List Token) → Splits 0 text (Ok tokens) → (f : File) → SpellsFile limits (token_kinds tokens) f
      → SomeRight true text
  on-file tokens split f spelled = by (inline_fault f) refl
    where
      by : (found : Option InlineError) → inline_fault f ≡ found → SomeRight true text
      by None none = on-program true (inlined_file f) (record {
        tokens = tokens;
        split = split;
        of_file = record {
          file = f;
          spelled = spelled;
          faultless = not-caused f none;
          made = refl;
          means = files.kept_for f (inlined_file f) (file_plain spelled) none refl;
        };
      })
      by (Some e) is =
          let first = call-cause f e is in
          let shown = call-shown e (inline-told f e first) in
          (Err shown.0, InTokens tokens split (InCalls f e spelled (files.explained e f first) shown.1))

  plain-tokens : (tokens : List Token) → Splits 0 text (Ok tokens) → Outcome Sentence tokens → SomeRight false text
  plain-tokens tokens split (IsSentence p sentence) =
      on-program false p (record { tokens = tokens; split = split; sentence = sentence })
  plain-tokens tokens split (IsStray at h) =
      (Err (fault.Unexpected at), InTokens tokens split (token.Unexpected at, unexpected tokens at h, refl))
  plain-tokens tokens split (IsDeeper at h) =
      (Err (fault.Deep at), InTokens tokens split (token.TooDeep at, too_deep tokens at h, refl))
  plain-tokens tokens split (IsCut h) =
      (Err fault.End, InTokens tokens split (token.EndOfText, cut_short tokens h, refl))

  file-tokens : (tokens : List Token) → Splits 0 text (Ok tokens) → Outcome SpellsFile tokens → SomeRight true text
  file-tokens tokens split (IsSentence f spelled) = on-file tokens split f spelled
  file-tokens tokens split (IsStray at h) =
      (Err (fault.Unexpected at), InTokens tokens split (NoFile (token.Unexpected at) h refl))
  file-tokens tokens split (IsDeeper at h) =
      (Err (fault.Deep at), InTokens tokens split (NoFile (token.TooDeep at) h refl))
  file-tokens tokens split (IsCut h) = (Err fault.End, InTokens tokens split (NoFile token.EndOfText h refl))

  on-tokens : (procs : Bool) (tokens : List Token) → Splits 0 text (Ok tokens) → SomeRight procs text
  on-tokens false tokens split = plain-tokens tokens split (outcome program_laws tokens)
  on-tokens true tokens split = file-tokens tokens split (outcome file_laws tokens)

-- there is a correct answer to the question of a source text
pub source-some : (procs : Bool) (text : List ℕ)
    → (a : Result Source SourceFault) × IsRight (WhichSource procs text) a
source-some procs text = by (reading text)
  where
    by : Reading 0 text → SomeRight procs text
    by (Reads tokens split) = on-tokens text procs tokens split
    by (Fails e split) = let shown = piece-shown e in (Err shown.0, InPieces e split shown.1)
