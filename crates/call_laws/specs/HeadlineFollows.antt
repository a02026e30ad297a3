-- The headline of a call, if the bytes of the shelf's files and of the sink are known, follows from what the call
-- promises.
use Rattle.std.specs.Prelude.{◌≡◌, ◌⊎◌, ℕ, List, ◌++◌, Some}
use Rattle.gr_base.specs.Counts.{Rose}
use Rattle.gr_outside.specs.Shelf.{Files}
use Rattle.command_words.specs.CommandLines.{AreTexts, Text}
use Rattle.call_laws.specs.Headline.{Headline}
use Rattle.call_steps.specs.Outside.{Outside}
use Rattle.call_laws.specs.Promises.{Promises}
use Rattle.call_laws.specs.Verbs.{work_of}

-- the files that the shelf told before and after a call, and the bytes that the sink gained
pub record Tells (files afterwards : Files) (put : List ℕ) (before after : Outside) : Type 0 where
  pub told : before.shelf.files ≡ Some files
  pub left : after.shelf.files ≡ Some afterwards
  pub held : List ℕ
  pub sank : before.sink.held ≡ Some held
  pub gained : after.sink.held ≡ Some (held ++ put)

-- a count of failed reads, writes or prints rose
abbrev pub Fails : Outside → Outside → Type 0
Fails before after =
    Rose before.shelf.read_faults after.shelf.read_faults ⊎ Rose before.shelf.write_faults after.shelf.write_faults
    ⊎ Rose before.sink.faults after.sink.faults

-- whichever these are, they are as the headline says
abbrev pub HasHeadline : List Text → Outside → Outside → ℕ → Type 0
HasHeadline words before after status =
    (files afterwards : Files) (put : List ℕ) → Tells files afterwards put before after
    → Headline (Fails before after) words files afterwards put status

abbrev pub HeadlineFollows : Type 0
HeadlineFollows =
    (words : List Text) (before after : Outside) (status : ℕ) → AreTexts words
    → Promises (work_of words) before after status → HasHeadline words before after status
