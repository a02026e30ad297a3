-- What a call does with its files and its output: which files it reads and writes, in which order and which bytes, as far
-- as the log of the shelf is visible, and what the sink holds back. It is the clause `happened` of `ghostrider`.
-- (This project's profile.)
use Rattle.std.specs.Prelude.{◌≡◌, ◌≢◌, ◌⊎◌, ℕ, List, [], ◌∷◌, ◌++◌, Option, Some, None}
use Rattle.gr_outside.specs.Shelf.{Log, logged, read_of, write_of}
use Rattle.command_words.specs.CommandLines.{Part, Text}
use Rattle.command_words.specs.VerbLines.{Call}
use Rattle.command_words.specs.declared.verbs.Verb.{Verb}
use Rattle.command_words.specs.declared.verbs.Verb.TheVariants.{Bus, Check, Sample, Trace}

-- The calls from one log to another are reads of these files in their order, and after them one write of the output.
-- No call follows a read that failed or a write. The calls may stop anywhere, since a file may be rejected and memory
-- may run out.
pub data InOrder (output : Option Text) : List Text → Log → Log → Type 0 where
  NoFurther : (files : List Text) (log : Log) → InOrder output files log log
  FailsToRead : (name : Text) (files : List Text) (before after : Log)
      → after ≡ logged (read_of name None) before → InOrder output (name ∷ files) before after
  ReadsNext : (name : Text) (bytes : List ℕ) (files : List Text) (before between after : Log)
      → between ≡ logged (read_of name (Some bytes)) before → InOrder output files between after
      → InOrder output (name ∷ files) before after
  WritesOutput : (name : Text) (bytes : Option (List ℕ)) (before after : Log) → output ≡ Some name
      → after ≡ logged (write_of name bytes) before → InOrder output [] before after

-- A verb that writes a file reads the files of its names before the last, and writes the last one. The first name of
-- `sample` is a number. Any other verb reads the files of all its names.
abbrev pub AllButLast : (names files : List Text) → Option Text → Type 0
AllButLast names files None = ⊥
AllButLast names files (Some output) = names ≡ files ++ output ∷ []

abbrev pub AreFiles : Verb → (names files : List Text) → Option Text → Type 0
AreFiles Check names files output = (names ≡ files) × (output ≡ None)
AreFiles Trace names files output = (names ≡ files) × (output ≡ None)
AreFiles Bus names files output = (names ≡ files) × (output ≡ None)
AreFiles Sample names files output = (files ≡ []) × (number : Text) × AllButLast names (number ∷ []) output
AreFiles other names files output = AllButLast names files output

-- the words are a call of a verb, and the calls of the shelf are those of its files in their order
pub record CallsItsFiles (words : List Text) (before after : Log) : Type 0 where
  pub verb : Verb
  pub names : List Text
  pub parts : List Part
  pub call : Call words verb names parts
  pub files : List Text
  pub output : Option Text
  pub are : AreFiles verb names files output
  pub order : InOrder output files before after

-- What happened: the shelf had no call, or those of the files that the words name, in their order; and the sink holds
-- nothing back, except at status 4.
pub record Happened (words : List Text) (before after : Log) (waiting status : ℕ) : Type 0 where
  pub calls : (after ≡ before) ⊎ CallsItsFiles words before after
  pub flushed : status ≢ 4 → waiting ≡ 0
