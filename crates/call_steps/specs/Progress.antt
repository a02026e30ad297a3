-- How far a part of the code has come with the work of a verb. (Only contracts of private functions and proofs say so.)
use Rattle.std.specs.Prelude.{◌≡◌, ◌⊎◌, ℕ, Option, Some, None}
use Rattle.gr_outside.specs.Shelf.{ShelfSeen}
use Rattle.call_replies.specs.declared.replies.Verdict.{Verdict}
use Rattle.call_replies.specs.declared.replies.Verdict.TheVariants.{Malformed, BadSource, BadInput, BadAssembly, NoNotes}
use Rattle.object_file.specs.declared.errors.DecodeError.{DecodeError}
use Rattle.lt_assembler.specs.declared.errors.AsmError.{AsmError}
use Rattle.note_infer.specs.declared.faults.InferError.{InferError}
use Rattle.call_replies.specs.declared.source_faults.SourceFault.{SourceFault}
use Rattle.call_replies.specs.declared.replies.InputFault.{InputFault}
use Rattle.run_data.specs.declared.errors.InputError.{InputError}
use Rattle.call_replies.specs.Texts.{Said, usage, no_memory, comes_to}
use Rattle.call_steps.specs.Questions.{Question, Answer, IsRight, Shows}
use Rattle.call_steps.specs.Showing.{nothing_seen}
use Rattle.call_steps.specs.Work.{Work, Ends, Ending, MayEnd, said_at}
use Rattle.call_steps.specs.CallsFollow.{Follows}
use Rattle.call_steps.specs.Outside.{Gives, OnlyReads, LeavesShelf, Stage}
use Rattle.object_file.specs.declared.errors.DecodeError.TheVariants as object
use Rattle.lt_assembler.specs.declared.errors.AsmError.TheVariants as text
use Rattle.note_infer.specs.declared.faults.InferError.TheVariants as notes

-- the rest of a work is this one, regardless of what later reads do to the shelf's count
abbrev pub HasLeft : ShelfSeen → Work → Work → Type 0
HasLeft before work rest = (now : ℕ) (ending : Ending) → MayEnd (Gives before.files before.read_faults now) rest ending
    → MayEnd (Gives before.files before.read_faults now) work ending

-- the work ends so without a write, or memory ran out; the calls follow the work
pub data Stops (before after : Stage) (work : Work) (said : Said) : Type 0 where
  NoRoomLeft : OnlyReads before.seen after.seen → said ≡ no_memory → Follows work None before.log after.log
      → Stops before after work said
  StopsAt : (ending : Ending)
      → MayEnd (Gives before.seen.files before.seen.read_faults after.seen.read_faults) work ending
      → Follows work (Some ending) before.log after.log → LeavesShelf ending before.seen after.seen
      → said ≡ said_at ending → Stops before after work said

-- A call that printed nothing leaves this to be printed: the words request no work, or memory ran out before a write,
-- or the work ends so without one.
pub data LeavesToSay (before after : Stage) (asked : Option Work) (said : Said) : Type 0 where
  NothingAsked : asked ≡ None → after.seen ≡ before.seen → said ≡ usage → LeavesToSay before after asked said
  NoRoomYet : OnlyReads before.seen after.seen → said ≡ no_memory → LeavesToSay before after asked said
  WorkStops : (work : Work) → asked ≡ Some work → Stops before after work said → LeavesToSay before after asked said

-- the right answer to a question ends the work with a verdict, or memory ran out
abbrev pub EndsWorkWith : (question : Question) → (Answer question → Work) → Said → Type 0
EndsWorkWith question next said = (said ≡ no_memory)
    ⊎ ((answer : Answer question) × (verdict : Verdict) × IsRight question answer
    × (next answer ≡ Ends nothing_seen verdict)
    × (said ≡ comes_to verdict))

-- the line for a fault of inputs: the fault, or that memory ran out
abbrev pub SaysInputs : InputError → Said → Type 0
SaysInputs first said =
    (said ≡ no_memory) ⊎ ((shown : InputFault) × Shows first shown × (said ≡ comes_to (BadInput shown)))

-- the line for bytes that weren't decoded, and for a text that wasn't assembled: their fault, or that memory ran out
abbrev pub SaysObject : DecodeError → Said → Type 0
SaysObject object.Memory said = said ≡ no_memory
SaysObject (object.Truncated at) said = said ≡ comes_to (Malformed (object.Truncated at))
SaysObject object.BadMagic said = said ≡ comes_to (Malformed object.BadMagic)
SaysObject (object.BadVersion version) said = said ≡ comes_to (Malformed (object.BadVersion version))
SaysObject (object.BadField at) said = said ≡ comes_to (Malformed (object.BadField at))
SaysObject (object.TrailingBytes at) said = said ≡ comes_to (Malformed (object.TrailingBytes at))

abbrev pub SaysText : AsmError → Said → Type 0
SaysText text.Memory said = said ≡ no_memory
SaysText (text.BadLine n) said = said ≡ comes_to (BadAssembly (text.BadLine n))
SaysText (text.BadNumber n) said = said ≡ comes_to (BadAssembly (text.BadNumber n))
SaysText (text.UnknownName n) said = said ≡ comes_to (BadAssembly (text.UnknownName n))
SaysText (text.TwiceNamed n) said = said ≡ comes_to (BadAssembly (text.TwiceNamed n))
SaysText (text.OverLimit n) said = said ≡ comes_to (BadAssembly (text.OverLimit n))

-- the line for a source's fault, or, without a fault, that memory ran out
abbrev pub SaysSource : Option SourceFault → Said → Type 0
SaysSource (Some shown) said = said ≡ comes_to (BadSource shown)
SaysSource None said = said ≡ no_memory

-- the line for an object that gets no notes: the reason, or that memory ran out
abbrev pub SaysNotes : InferError → Said → Type 0
SaysNotes notes.Memory said = said ≡ no_memory
SaysNotes (notes.Dead pc) said = said ≡ comes_to (NoNotes (notes.Dead pc))
SaysNotes (notes.Refused pc reason) said = said ≡ comes_to (NoNotes (notes.Refused pc reason))
SaysNotes (notes.TooMany count) said = said ≡ comes_to (NoNotes (notes.TooMany count))
