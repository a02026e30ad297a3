-- The outcome of a call of the program from a page. (This project's profile.)
use Rattle.std.specs.Prelude.{◌≡◌, ◌⊎◌, ℕ, All, ◌≤◌, ◌==◌, List, [], ◌∷◌, codes, take, length, Some, None, MatchOption}
use Rattle.std.specs.List.{slice_split}
use Rattle.std.specs.FinMap.{from_entries, get}
use Rattle.gr_outside.specs.Shelf.{Files, ShelfSeen}
use Rattle.gr_outside.specs.Sink.{SinkSeen}
use Rattle.gr_outside.specs.MemShelf.{Shelved}
use Rattle.gr_outside.specs.MemSink.{Held}
use Rattle.fault_texts.specs.Plain.{IsPlain}
use Rattle.call_steps.specs.Outside.{Outside, outside}
use Rattle.call_laws.specs.Promises.{Promises}
use Rattle.call_laws.specs.Verbs.{work_of}

-- the words of a call, of which each line has one
abbrev pub words_in : List ℕ → List (List ℕ)
words_in lines = slice_split (λ byte. byte == 10) lines

-- the two files that a page hands in
abbrev pub page_files : List ℕ → List ℕ → Files
page_files program input = from_entries ((codes "program", program) ∷ (codes "input", input) ∷ [])

-- a shelf in memory with them, none of whose calls fails
abbrev pub page_shelf : List ℕ → List ℕ → Shelved
page_shelf program input = record {
  files = page_files program input;
  calls = record { failing = []; next = 0 };
  read_faults = 0;
  write_faults = 0;
  starved = 0;
}

-- what is seen of a shelf and of a sink in memory: all of their files and bytes
abbrev pub shelf_seen : Shelved → ShelfSeen
shelf_seen s =
    record {
      files = Some s.files;
      read_faults = s.read_faults;
      write_faults = s.write_faults;
      starved = s.starved;
      unread = None;
    }

abbrev pub sink_seen : Held → SinkSeen
sink_seen s = record { held = Some s.bytes; faults = s.faults }

-- what a call begins with: these files, of which no call failed yet, and a sink that holds nothing
abbrev pub page_outside : List ℕ → List ℕ → Outside
page_outside program input = outside
    (record { files = Some (page_files program input); read_faults = 0; write_faults = 0; starved = 0; unread = None })
    (record { held = Some []; faults = 0 })

-- the bytes are at the beginning of the room, if they fit
abbrev pub StandsIn : List ℕ → List ℕ → Type 0
StandsIn bytes room = length bytes ≤ length room → take (length bytes) room ≡ bytes

-- the text that a call left: this many bytes, at the beginning of their room
abbrev pub IsText : Held → List ℕ → ℕ → Type 0
IsText sink text size = (size ≡ length sink.bytes) × StandsIn sink.bytes text

-- the file `output` that a call left, or that there is none
abbrev pub IsFile : Shelved → List ℕ → ℕ → ℕ → Type 0
IsFile shelf output written size = MatchOption (get shelf.files (codes "output")) (written ≡ 0)
    (λ bytes. (written ≡ 1) × (size ≡ length bytes) × StandsIn bytes output)

-- The status is an answer of the program to these words over these files, as the program promises it. The text is what
-- the program printed, and the file `output` is what it left.
pub record IsAnswered (lines program input text output : List ℕ) (status written text_size output_size : ℕ)
    : Type 0 where
  pub shelf : Shelved
  pub sink : Held
  pub promises : Promises (work_of (words_in lines)) (page_outside program input)
      (outside (shelf_seen shelf) (sink_seen sink)) status
  pub put : IsText sink text text_size
  pub left : IsFile shelf output written output_size

-- nothing was printed, and there is no file `output`
pub record IsNothing (written text_size output_size : ℕ) : Type 0 where
  pub no_file : written ≡ 0
  pub no_text : text_size ≡ 0
  pub no_bytes : output_size ≡ 0

-- Words that are text are answered by the program, unless memory ran out before it was called; words that aren't are a
-- usage error.
abbrev pub IsAnsweredOrStarved : (lines program input text output : List ℕ)
    → (status written text_size output_size : ℕ) → Type 0
IsAnsweredOrStarved lines program input text output status written text_size output_size =
    IsAnswered lines program input text output status written text_size output_size
    ⊎ (status ≡ 5) × IsNothing written text_size output_size

-- The explanation: this many printable characters and line feeds, at the beginning of their room.
abbrev pub IsPlainText : List ℕ → ℕ → Type 0
IsPlainText text size = (said : List ℕ) × All IsPlain said × (size ≡ length said) × StandsIn said text
