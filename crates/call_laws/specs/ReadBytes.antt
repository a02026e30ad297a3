-- The headline of a call over the bytes that it really read and wrote, as the log of the shelf has them. The contents of
-- the shelf's files and the bytes of the sink need not be visible.
use Rattle.std.specs.Prelude.{◌≡◌, ℕ, Bool, true, false, List, [], ◌∷◌, ◌++◌, Option, Some}
use Rattle.std.specs.FinMap.{get}
use Rattle.gr_base.specs.Added.{Adds}
use Rattle.gr_outside.specs.Shelf.{Files, ShelfCall, with_file}
use Rattle.command_words.specs.CommandLines.{AreTexts, Text}
use Rattle.call_steps.specs.Outside.{Outside}
use Rattle.call_laws.specs.Headline.{Headline}
use Rattle.call_laws.specs.HeadlineFollows.{Fails}
use Rattle.call_laws.specs.Promises.{IsDone, Promises}
use Rattle.call_laws.specs.Verbs.{work_of}

-- the log keeps all calls, and gained these
pub record Gains (calls : List ShelfCall) (before after : Outside) : Type 0 where
  pub keeps : (name : Text) → before.log.keeps name ≡ true
  pub held : List ShelfCall
  pub was : before.log.noted.calls ≡ Some held
  pub now : after.log.noted.calls ≡ Some (held ++ calls)

-- Each read of these calls returned what the files have: the contents of the file, or nothing if there is no such file.
abbrev pub AreRead : Files → List ShelfCall → Type 0
AreRead files [] = Unit {0}
AreRead files (call ∷ calls) = (call.writes ≡ false → get files call.name ≡ call.bytes) × AreRead files calls

-- the files after a call that may have written one, and after several
abbrev pub written_to : Bool → (name : Text) → Option (List ℕ) → Files → Files
written_to true name (Some bytes) files = with_file name bytes files
written_to other name bytes files = files

abbrev pub left_by : List ShelfCall → Files → Files
left_by [] files = files
left_by (call ∷ calls) files = left_by calls (written_to call.writes call.name call.bytes files)

-- If the work of a call is done, then for any files that have the bytes that its reads returned, the headline is true of
-- these files and of those that its write left, with the text that the sink took.
abbrev pub HasReadBytes : List Text → Outside → Outside → ℕ → Type 0
HasReadBytes words before after status =
    IsDone status → (calls : List ShelfCall) → Gains calls before after → (files : Files) → AreRead files calls
    → (put : List ℕ)
    × Adds before.sink.held after.sink.held put
    × Headline (Fails before after) words files (left_by calls files) put status

abbrev pub ReadBytes : Type 0
ReadBytes =
    (words : List Text) (before after : Outside) (status : ℕ) → AreTexts words
    → Promises (work_of words) before after status → HasReadBytes words before after status
