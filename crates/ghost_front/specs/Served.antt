-- What a call of the front program does for a verb of `ghost_cli`: what the verb promises, with `-` as a stream.
use Rattle.std.specs.Prelude.{◌≡◌, ◌≢◌, ℕ, ◌≤◌, true, false, List, [], Option, Some, None}
use Rattle.std.specs.FinMap.{get}
use Rattle.std.specs.Str.{bytes_eq}
use Rattle.gr_base.specs.Added.{Adds}
use Rattle.gr_base.specs.Counts.{Rose}
use Rattle.gr_outside.specs.Shelf.{Files}
use Rattle.gr_outside.specs.Sink.{SinkSeen}
use Rattle.real_outside.specs.Known.{InputSeen, IsFrontOf}
use Rattle.call_replies.specs.Texts.{no_memory}
use Rattle.call_steps.specs.Outside.{Outside, PutsSaid, outside}
use Rattle.call_steps.specs.Work.{Work}
use Rattle.call_laws.specs.HeadlineFollows.{HasHeadline}
use Rattle.call_laws.specs.Promises.{Promises, IsOutput}
use Rattle.call_laws.specs.Verbs.{work_of}
use Rattle.ghost_front.specs.Dashes.{dashes_in}
use Rattle.ghost_front.specs.HeldText.{held_seen}
use Rattle.ghost_front.specs.Saying.{Echoes, SaysPlain}
use Rattle.ghost_front.specs.Streams.{Streams, as_shelf, dash}

-- the shelf, standard input, standard output and standard error, before or after a call
pub record Around : Type 0 where
  pub shelf : Streams
  pub input : InputSeen
  pub output : SinkSeen
  pub errors : SinkSeen

abbrev pub around : Streams → InputSeen → SinkSeen → SinkSeen → Around
around shelf input output errors = record { shelf = shelf; input = input; output = output; errors = errors }

-- before the first call of a real system, whose files and outputs aren't visible: nothing was read or written yet, and
-- standard input has these bytes, if they are visible
abbrev pub begun : Option (List ℕ) → Around
begun left = record {
  shelf = record { files = None; input = None; output = None; read_faults = 0; write_faults = 0; starved = 0 };
  input = record { left = left; faults = 0 };
  output = record { held = None; faults = 0 };
  errors = record { held = None; faults = 0 };
}

-- what `ghostrider` promises of a call with these words
pub record IsCall (words : List (List ℕ)) (before after : Outside) (status : ℕ) : Type 0 where
  pub promises : Promises (work_of words) before after status
  pub headline : HasHeadline words before after status

-- the most bytes that are read of standard input: one more than any file may have, so that a longer one is seen
abbrev pub most_input : ℕ
most_input = 67108865

-- What `-` is for a call that reads it once or never. `Untaken`: it isn't read. `Taken`: it is the first bytes that
-- standard input had left, or all of them if it had fewer. `NotTaken`: standard input failed, so `-` is missing.
pub data Takes (count : ℕ) (before after : InputSeen) (shelf : Streams) : Streams → Type 0 where
  Untaken : count ≡ 0 → after ≡ before → Takes count before after shelf shelf
  Taken : (bytes : List ℕ) → count ≡ 1 → IsFrontOf before.left most_input bytes → after.faults ≡ before.faults
      → Takes count before after shelf (record shelf { input = Some bytes })
  NotTaken : count ≡ 1 → Rose before.faults after.faults → Takes count before after shelf shelf

-- the bytes of an output, none if it wasn't written
abbrev pub bytes_of : Option (List ℕ) → List ℕ
bytes_of (Some bytes) = bytes
bytes_of None = []

-- Standard output gains the file that the verb wrote to `-`, if the verb ended with status 0; otherwise it stays as it
-- was. If it couldn't take the file, or couldn't be flushed after it, the status is 4.
pub data Delivers (file : Option (List ℕ)) (before after : SinkSeen) (verdict : ℕ) : ℕ → Type 0 where
  NotDone : verdict ≢ 0 → after ≡ before → Delivers file before after verdict verdict
  Whole : verdict ≡ 0 → Adds before.held after.held (bytes_of file) → after.faults ≡ before.faults
      → Delivers file before after verdict 0
  NotPut : verdict ≡ 0 → Rose before.faults after.faults → Delivers file before after verdict 4

-- OUT is `-`: the verb's text was kept, unless memory for it ran out; the file OUT went to standard output, and then the
-- text, or as much of it as standard error took, to standard error.
pub record StreamsFile (words : List (List ℕ)) (shelf : Streams) (before after : Around) (status : ℕ)
    : Type 0 where
  pub verdict : ℕ
  pub text : Option (List ℕ)
  pub call : IsCall words (outside (as_shelf shelf) (held_seen (Some [])))
      (outside (as_shelf after.shelf) (held_seen text)) verdict
  pub delivered : Delivers after.shelf.output before.output after.output verdict status
  pub echoed : Echoes before.errors after.errors (bytes_of text)

-- How a call of words ends that aren't the front's own. `Refused`: `-` is the name of two files to read, and the call
-- ends as one of no words does. `NoRoom`: memory ran out before the verb began, and only the line of that status was
-- printed, or standard output failed and the status is 4.
-- `Printed`: the verb did what it promises, and printed to standard output. `Streamed`: its file went there instead.
pub data Serves (words : List (List ℕ)) (before after : Around) (status : ℕ) : Type 0 where
  Refused : 2 ≤ (dashes_in words).read → after.input ≡ before.input
      → IsCall [] (outside (as_shelf before.shelf) before.output) (outside (as_shelf after.shelf) after.output) status
      → SaysPlain before.errors after.errors
      → Serves words before after status
  NoRoom : after.shelf ≡ before.shelf → PutsSaid before.output after.output no_memory status
      → SaysPlain before.errors after.errors
      → Serves words before after status
  Printed : (shelf : Streams) → Takes (dashes_in words).read before.input after.input before.shelf shelf
      → (dashes_in words).written ≡ false
      → IsCall words (outside (as_shelf shelf) before.output) (outside (as_shelf after.shelf) after.output) status
      → SaysPlain before.errors after.errors
      → Serves words before after status
  Streamed : (shelf : Streams) → Takes (dashes_in words).read before.input after.input before.shelf shelf
      → (dashes_in words).written ≡ true
      → StreamsFile words shelf before after status
      → Serves words before after status

-- every file is as it was, but for `-` and the file that the words ask to write
abbrev pub KeepsOthers : Option Work → Option Files → Option Files → Type 0
KeepsOthers asked before after =
    (one other : Files) → before ≡ Some one → after ≡ Some other → (name : List ℕ)
    → bytes_eq name dash ≡ false → (IsOutput asked name → ⊥) → get other name ≡ get one name
