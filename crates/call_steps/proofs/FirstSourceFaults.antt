-- From the error of a text to its first fault.
use Rattle.std.proofs.Common.{◌≡◌, Bool, true, false, ℕ, List, Option, Some, None, IfSome, sym}
use Rattle.src_lexer.specs.declared.tokens.Token.{Token}
use Rattle.src_parser.specs.Prelude.{ExplainsTokens, ExplainsText, ExplainsTextBy}
use Rattle.src_parser.specs.declared.errors.ParseFault.{ParseFault}
use Rattle.src_parser.specs.declared.errors.TextFault.{TextFault}
use Rattle.procs_parser.specs.Prelude.{ExplainsFile, ExplainsFileText, SpellsFileText}
use Rattle.procs_tree.specs.Prelude.{File, ExplainsInlining}
use Rattle.procs_tree.specs.declared.errors.InlineError.{InlineError}
use Rattle.call_replies.specs.declared.source_faults.SourceFault.{SourceFault}
use Rattle.call_steps.specs.Prelude.{IsFirstSourceFault, InTokens, IsTokensFault, NoFile, InCalls, token_fault, text_fault, shown_call_fault}
use Rattle.call_steps.proofs.Saying.{piece-first}
use Rattle.src_parser.specs.declared.errors.TextFault.TheVariants as text

-- by what an error says about tokens
text-first : (procs : Bool) (Explains : ParseFault → List Token → Type 0)
    → ((e : ParseFault) (tokens : List Token) (fault : SourceFault) → Explains e tokens → token_fault e ≡ Some fault
    → IsTokensFault procs tokens fault)
    → (bytes : List ℕ) (e : TextFault) (shown : Option SourceFault) → shown ≡ text_fault e
    → ExplainsTextBy Explains e bytes → IfSome shown (IsFirstSourceFault procs bytes)
text-first procs Explains first bytes (text.Pieces e) shown is why = piece-first procs bytes e shown is why
text-first procs Explains first bytes (text.Tokens e) None is why = tt
text-first procs Explains first bytes (text.Tokens e) (Some fault) is has =
    InTokens has.tokens has.split (first e has.tokens fault has.is (sym is))

-- of a text without procedures
pub plain-first : (bytes : List ℕ) (e : TextFault) (shown : Option SourceFault) → shown ≡ text_fault e
    → ExplainsText e bytes → IfSome shown (IsFirstSourceFault false bytes)
plain-first = text-first false ExplainsTokens (λ e tokens fault explains is. (e, explains, is))

-- of a text with procedures
pub file-first : (bytes : List ℕ) (e : TextFault) (shown : Option SourceFault) → shown ≡ text_fault e
    → ExplainsFileText e bytes → IfSome shown (IsFirstSourceFault true bytes)
file-first = text-first true ExplainsFile (λ e tokens fault explains is. NoFile e explains is)

-- of the calls of a file
pub call-first : (bytes : List ℕ) (f : File) (e : InlineError) (shown : Option SourceFault) → shown ≡ shown_call_fault e
    → SpellsFileText bytes f → ExplainsInlining e f → IfSome shown (IsFirstSourceFault true bytes)
call-first bytes f e None is spells explains = tt
call-first bytes f e (Some fault) is spells explains =
    InTokens spells.tokens spells.split (InCalls f e spells.is explains (sym is))
