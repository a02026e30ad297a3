-- The work of a verb as a tree, and how it ends: which ending follows from what its files give.
use Rattle.std.specs.Prelude.{◌≡◌, ℕ, ◌<◌, ◌≤◌, List, length, Option, Some, None}
use Rattle.std.specs.FinMap.{get}
use Rattle.gr_outside.specs.Shelf.{Files, with_file}
use Rattle.call_replies.specs.declared.replies.Verdict.{Verdict}
use Rattle.call_replies.specs.declared.replies.Done.{Done}
use Rattle.call_replies.specs.Texts.{Said, comes_to, wrote, unread, too_long}
use Rattle.call_steps.specs.Showing.{Seen, around}
use Rattle.call_steps.specs.Questions.{Question, Answer, IsRight}

-- Print the lines of a run, mostly none, around a verdict; write a file and end; read a file of at most this many bytes
-- and continue with them; ask a question and continue with a right answer. No work by itself ends with a fault of
-- files, of the sink or of memory.
pub data Work : Type 0 where
  Ends : (seen : Seen) (verdict : Verdict) → Work
  Writes : (name bytes : List ℕ) (done : Done) → Work
  Reads : (name : List ℕ) (limit : ℕ) (next : List ℕ → Work) → Work
  Asks : (question : Question) (next : Answer question → Work) → Work

-- a file can't be read, or is too long; a verdict, with what is seen around it; a file is written
pub data Ending : Type 0 where
  IsUnread : (name : List ℕ) → Ending
  IsTooLong : (name : List ℕ) (limit : ℕ) → Ending
  IsVerdict : (seen : Seen) (verdict : Verdict) → Ending
  IsWritten : (name bytes : List ℕ) (done : Done) → Ending

-- How a work may end where a file gives these contents, or none.
pub data MayEnd (Gives : List ℕ → Option (List ℕ) → Type 0) : Work → Ending → Type 0 where
  Ended : (seen : Seen) (verdict : Verdict) → MayEnd Gives (Ends seen verdict) (IsVerdict seen verdict)
  Wrote : (name bytes : List ℕ) (done : Done) → MayEnd Gives (Writes name bytes done) (IsWritten name bytes done)
  Missing : (name : List ℕ) (limit : ℕ) (next : List ℕ → Work)
      → Gives name None → MayEnd Gives (Reads name limit next) (IsUnread name)
  TooLong : (name : List ℕ) (limit : ℕ) (next : List ℕ → Work) (bytes : List ℕ)
      → Gives name (Some bytes) → limit < length bytes → MayEnd Gives (Reads name limit next) (IsTooLong name limit)
  Found : (name : List ℕ) (limit : ℕ) (next : List ℕ → Work) (bytes : List ℕ) (ending : Ending)
      → Gives name (Some bytes)
      → length bytes ≤ limit → MayEnd Gives (next bytes) ending → MayEnd Gives (Reads name limit next) ending
  Answered : (question : Question) (next : Answer question → Work) (answer : Answer question) (ending : Ending)
      → IsRight question answer → MayEnd Gives (next answer) ending → MayEnd Gives (Asks question next) ending

-- the status and the text of an ending, and the files after it
abbrev pub said_at : Ending → Said
said_at (IsUnread name) = unread name
said_at (IsTooLong name limit) = too_long name limit
said_at (IsVerdict seen verdict) = around seen (comes_to verdict)
said_at (IsWritten name bytes done) = wrote done

abbrev pub files_at : Ending → Files → Files
files_at (IsWritten name bytes done) files = with_file name bytes files
files_at other files = files

-- the files give what they hold
abbrev pub Holds : Files → List ℕ → Option (List ℕ) → Type 0
Holds files name file = get files name ≡ file

-- A name that the work may read, and one that it may write, for any contents and answers. Which file couldn't be read
-- isn't stated here but by `Explains`: the work has the ending `IsUnread` of that very file.
pub data MayRead : Work → List ℕ → Type 0 where
  ReadsIt : (name : List ℕ) (limit : ℕ) (next : List ℕ → Work) → MayRead (Reads name limit next) name
  ReadsLater : (other name : List ℕ) (limit : ℕ) (next : List ℕ → Work) (bytes : List ℕ) → MayRead (next bytes) name
      → MayRead (Reads other limit next) name
  ReadsThen : (question : Question) (next : Answer question → Work) (answer : Answer question) (name : List ℕ)
      → MayRead (next answer) name → MayRead (Asks question next) name

pub data MayWrite : Work → List ℕ → Type 0 where
  WritesIt : (name bytes : List ℕ) (done : Done) → MayWrite (Writes name bytes done) name
  WritesLater : (other name : List ℕ) (limit : ℕ) (next : List ℕ → Work) (bytes : List ℕ) → MayWrite (next bytes) name
      → MayWrite (Reads other limit next) name
  WritesThen : (question : Question) (next : Answer question → Work) (answer : Answer question) (name : List ℕ)
      → MayWrite (next answer) name → MayWrite (Asks question next) name
