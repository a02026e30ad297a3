-- The outcome of a call of the program, whether or not the bytes of the shelf's files and of the sink are known.
use Rattle.std.specs.Prelude.{◌≡◌, ◌≢◌, ◌⊎◌, ℕ, ◌≤◌, List, Option, Some, None, is_some, IfSome}
use Rattle.std.specs.Option.{option_map}
use Rattle.std.specs.FinMap.{get}
use Rattle.gr_base.specs.Counts.{Rose}
use Rattle.gr_base.specs.Added.{Adds, AddsLess}
use Rattle.gr_outside.specs.Shelf.{Files, Log, ShelfSeen, SameBut, untold, with_file}
use Rattle.gr_outside.specs.Sink.{SinkSeen}
use Rattle.call_replies.specs.declared.replies.Verdict.{Verdict}
use Rattle.call_replies.specs.declared.replies.Done.{Done}
use Rattle.call_replies.specs.Texts.{Said, usage, unread, unwritten, no_memory, too_long, wrote}
use Rattle.call_steps.specs.CallsFollow.{Follows}
use Rattle.call_steps.specs.Showing.{Seen}
use Rattle.call_steps.specs.Work.{Work, Ending, IsUnread, IsTooLong, IsVerdict, IsWritten, MayEnd, said_at}

-- a shelf at some time: what is seen of it, and the log of its calls
pub record Stage : Type 0 where
  pub seen : ShelfSeen
  pub log : Log

abbrev pub stage : ShelfSeen → Log → Stage
stage seen log = record { seen = seen; log = log }

-- the shelf, its log and the sink, before or after a call
pub record Outside : Type 0 where
  pub shelf : ShelfSeen
  pub log : Log
  pub sink : SinkSeen

abbrev pub outside_at : Stage → SinkSeen → Outside
outside_at at sink = record { shelf = at.seen; log = at.log; sink = sink }

-- the same of a shelf whose log isn't visible
abbrev pub outside : ShelfSeen → SinkSeen → Outside
outside shelf sink = outside_at (stage shelf untold) sink

-- The result of reading a file: its known contents, or some bytes if the contents of files aren't known. There are none
-- if the known files lack it, or if the shelf's count of failed reads rose from before to now.
abbrev pub Gives : Option Files → ℕ → ℕ → List ℕ → Option (List ℕ) → Type 0
Gives None before now name None = Rose before now
Gives None before now name (Some bytes) = Unit {0}
Gives (Some files) before now name None = (get files name ≡ None) ⊎ Rose before now
Gives (Some files) before now name (Some bytes) = get files name ≡ Some bytes

-- The text was printed whole, and the exit status is its status. Or the sink failed: the exit status is 4, its count
-- rose, and it gained nothing or a proper prefix of the text.
abbrev pub PutsSaid : SinkSeen → SinkSeen → Said → ℕ → Type 0
PutsSaid before after said status =
    ((status ≡ said.status) × Adds before.held after.held said.text × (after.faults ≡ before.faults))
    ⊎ ((status ≡ 4) × Rose before.faults after.faults × AddsLess before.held after.held said.text)

-- of the shelf at most the count of failed reads changed, and that didn't fall, and the last file that couldn't be read
abbrev pub OnlyReads : ShelfSeen → ShelfSeen → Type 0
OnlyReads before after =
    (after ≡ record before { read_faults = after.read_faults; unread = after.unread })
    × (before.read_faults ≤ after.read_faults)

-- only that changed, and the last file that couldn't be read is this one, if its name is visible
pub record LeavesUnread (name : List ℕ) (before after : ShelfSeen) : Type 0 where
  pub only : OnlyReads before after
  pub named : IfSome after.unread (λ unread. unread ≡ name)

-- a write was refused: all other files are as they were, and so is the count of failed reads
pub record RefusedWrite (name : List ℕ) (before after : ShelfSeen) : Type 0 where
  pub others : SameBut name before.files after.files
  pub tells : is_some after.files ≡ is_some before.files
  pub reads : after.read_faults ≡ before.read_faults

-- The files after an ending, with the exit status. A file that couldn't be written is reported instead of the finished
-- work, and so is running out of memory in that write. If it is written, nothing else of the shelf changed.
pub data LeftBy (before after : Outside) (status : ℕ) : Ending → Type 0 where
  Unread : (name : List ℕ) → LeavesUnread name before.shelf after.shelf
      → PutsSaid before.sink after.sink (unread name) status → LeftBy before after status (IsUnread name)
  Long : (name : List ℕ) (limit : ℕ)
      → after.shelf ≡ before.shelf → PutsSaid before.sink after.sink (too_long name limit) status
      → LeftBy before after status (IsTooLong name limit)
  Judged : (seen : Seen) (verdict : Verdict) → after.shelf ≡ before.shelf
      → PutsSaid before.sink after.sink (said_at (IsVerdict seen verdict)) status
      → LeftBy before after status (IsVerdict seen verdict)
  Written : (name bytes : List ℕ) (done : Done)
      → after.shelf ≡ record before.shelf { files = option_map (with_file name bytes) before.shelf.files }
      → PutsSaid before.sink after.sink (wrote done) status → LeftBy before after status (IsWritten name bytes done)
  NotWritten : (name bytes : List ℕ) (done : Done) → RefusedWrite name before.shelf after.shelf
      → Rose before.shelf.write_faults after.shelf.write_faults → after.shelf.starved ≡ before.shelf.starved
      → PutsSaid before.sink after.sink (unwritten name) status → LeftBy before after status (IsWritten name bytes done)
  Starved : (name bytes : List ℕ) (done : Done) → RefusedWrite name before.shelf after.shelf
      → Rose before.shelf.starved after.shelf.starved → after.shelf.write_faults ≡ before.shelf.write_faults
      → PutsSaid before.sink after.sink no_memory status → LeftBy before after status (IsWritten name bytes done)

-- Why a call ends as it ends: the words ask for no work; or memory ran out, which may happen anywhere, before a file
-- was written; or the work that the words ask for ended so. Then its calls are in the log, with the bytes that it read
-- and wrote, unless the status says that a write or a print failed or that memory ran out.
pub data Explains (before after : Outside) (status : ℕ) : Option Work → Type 0 where
  NoWork : after.shelf ≡ before.shelf → PutsSaid before.sink after.sink usage status → Explains before after status None
  NoRoom : (asked : Option Work) → OnlyReads before.shelf after.shelf → PutsSaid before.sink after.sink no_memory status
      → Explains before after status asked
  Worked : (work : Work) (ending : Ending)
      → MayEnd (Gives before.shelf.files before.shelf.read_faults after.shelf.read_faults) work ending
      → (status ≢ 4 → status ≢ 5 → Follows work (Some ending) before.log after.log)
      → LeftBy before after status ending → Explains before after status (Some work)

-- what of the shelf an ending leaves that writes no file
abbrev pub LeavesShelf : Ending → ShelfSeen → ShelfSeen → Type 0
LeavesShelf (IsUnread name) before after = LeavesUnread name before after
LeavesShelf (IsTooLong name limit) before after = after ≡ before
LeavesShelf (IsVerdict seen verdict) before after = after ≡ before
LeavesShelf (IsWritten name bytes done) before after = ⊥
