-- The calls of a shelf in the course of a verb's work. (Only contracts of private functions and proofs say so.)
use Rattle.std.specs.Prelude.{◌≡◌, ◌⊎◌, Bool, ℕ, ◌<◌, ◌≤◌, List, length, Option, Some, None, if◌then◌else◌}
use Rattle.gr_outside.specs.Shelf.{Log, logged, read_of, write_of}
use Rattle.call_replies.specs.declared.replies.Done.{Done}
use Rattle.call_replies.specs.declared.replies.Verdict.{Verdict}
use Rattle.call_steps.specs.Questions.{Question, Answer, IsRight}
use Rattle.call_steps.specs.Showing.{Seen}
use Rattle.call_steps.specs.Work.{Work, Ends, Reads, Writes, Asks, Ending, IsUnread, IsTooLong, IsVerdict, IsWritten}

-- The calls from one log to another follow a work to this ending, if it comes to one: its files are read in its order,
-- the work goes on with the bytes that were read and with right answers, and then its bytes are written. No call
-- follows a read that failed or a write. The calls may stop anywhere, since memory may run out, and a write may fail.
pub data Follows : Work → Option Ending → Log → Log → Type 0 where
  StopsHere : (work : Work) (log : Log) → Follows work None log log
  Judges : (seen : Seen) (verdict : Verdict) (log : Log)
      → Follows (Ends seen verdict) (Some (IsVerdict seen verdict)) log log
  ReadFails : (name : List ℕ) (limit : ℕ) (next : List ℕ → Work) (before after : Log)
      → after ≡ logged (read_of name None) before → Follows (Reads name limit next) (Some (IsUnread name)) before after
  ReadStarves : (name : List ℕ) (limit : ℕ) (next : List ℕ → Work) (before after : Log)
      → after ≡ logged (read_of name None) before → Follows (Reads name limit next) None before after
  ReadsMore : (name : List ℕ) (limit : ℕ) (next : List ℕ → Work) (bytes : List ℕ) (before after : Log)
      → after ≡ logged (read_of name (Some bytes)) before → limit < length bytes
      → Follows (Reads name limit next) (Some (IsTooLong name limit)) before after
  ReadsOn : (name : List ℕ) (limit : ℕ) (next : List ℕ → Work) (bytes : List ℕ) (ending : Option Ending)
      (before between after : Log) → between ≡ logged (read_of name (Some bytes)) before → length bytes ≤ limit
      → Follows (next bytes) ending between after → Follows (Reads name limit next) ending before after
  AsksOn : (question : Question) (next : Answer question → Work) (answer : Answer question) (ending : Option Ending)
      (before after : Log) → IsRight question answer → Follows (next answer) ending before after
      → Follows (Asks question next) ending before after
  WritesLast : (name bytes : List ℕ) (done : Done) (before after : Log)
      → after ≡ logged (write_of name (Some bytes)) before
      → Follows (Writes name bytes done) (Some (IsWritten name bytes done)) before after
  WriteFails : (name bytes : List ℕ) (done : Done) (before after : Log)
      → after ≡ logged (write_of name None) before → Follows (Writes name bytes done) None before after

-- the calls follow the work, to whatever ending
abbrev pub HasCalls : Work → Log → Log → Type 0
HasCalls work before after = (ending : Option Ending) × Follows work ending before after

-- the calls follow the work that the words ask for, if they ask for any; there may be none
pub data Makes : Option Work → Log → Log → Type 0 where
  NoCalls : (asked : Option Work) (log : Log) → Makes asked log log
  CallsOf : (work : Work) (before after : Log) → HasCalls work before after → Makes (Some work) before after

-- at most one call, which writes this file with these bytes: whether it was written
abbrev pub TriesWrite : (name bytes : List ℕ) → Log → Log → Type 0
TriesWrite name bytes before after = (after ≡ before)
    ⊎ ((written : Bool) × (after ≡ logged (write_of name (if written then Some bytes else None)) before))
