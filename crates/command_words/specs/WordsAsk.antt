-- Which work the words of a command line ask for, verb by verb: exactly the words that say so. (This project's
-- profile.)
-- why: of UTF-8 words only. `clap`'s definition of a word's characters has no meaning for other bytes.
use Rattle.std.specs.Prelude.{◌≡◌, ◌↔◌, ℕ, List, [], ◌∷◌, codes, Some, None}
use Rattle.command_words.specs.declared.windows.Window.{Window}
use Rattle.command_words.specs.CommandLines.{AreTexts, IsAmong, Part, Says, StandTogether, Text, compile_options, has_flag, run_options, value_in}
use Rattle.command_words.specs.Options.{block_log_given, items_given, number_given, seed_given}
use Rattle.command_words.specs.Pairs.{Pair, pairs_of}
use Rattle.command_words.specs.Verbs.{Works, asked_work}
use Rattle.command_words.specs.Windows.{window_given}

-- a verb with one name, and with two, that has no options
pub record AsksByOne {W : Type 0} (work_on : Text → W) (words : List Text) (work : W) : Type 0 where
  pub name : Text
  pub parts : List Part
  pub says : Says [] [] words (name ∷ []) parts
  pub is : work ≡ work_on name

pub record AsksByTwo {W : Type 0} (work_on : Text → Text → W) (words : List Text) (work : W) : Type 0 where
  pub first : Text
  pub second : Text
  pub parts : List Part
  pub says : Says [] [] words (first ∷ second ∷ []) parts
  pub is : work ≡ work_on first second

pub record AsksToTrace {W : Type 0} (works : Works W) (words : List Text) (work : W) : Type 0 where
  pub object : Text
  pub input : Text
  pub parts : List Part
  pub cycles : ℕ
  pub seed : ℕ
  pub says : Says run_options (codes "paths" ∷ codes "recursive" ∷ []) words (object ∷ input ∷ []) parts
  pub cycles_given : number_given (value_in (codes "cycles") parts) ≡ Some cycles
  pub seed_is : seed_given (value_in (codes "seed") parts) ≡ Some seed
  pub is : work
      ≡ works.trace object input cycles seed (has_flag (codes "paths") parts) (has_flag (codes "recursive") parts)

pub record AsksToRun {W : Type 0} (works : Works W) (words : List Text) (work : W) : Type 0 where
  pub object : Text
  pub input : Text
  pub output : Text
  pub parts : List Part
  pub cycles : ℕ
  pub seed : ℕ
  pub says : Says run_options (codes "recursive" ∷ []) words (object ∷ input ∷ output ∷ []) parts
  pub cycles_given : number_given (value_in (codes "cycles") parts) ≡ Some cycles
  pub seed_is : seed_given (value_in (codes "seed") parts) ≡ Some seed
  pub is : work ≡ works.run object input output cycles

pub record AsksToEvaluate {W : Type 0} (works : Works W) (words : List Text) (work : W) : Type 0 where
  pub source : Text
  pub input : Text
  pub output : Text
  pub parts : List Part
  pub turns : ℕ
  pub says : Says (codes "turns" ∷ []) (codes "procs" ∷ []) words (source ∷ input ∷ output ∷ []) parts
  pub turns_given : number_given (value_in (codes "turns") parts) ≡ Some turns
  pub is : work ≡ works.evaluate source input output turns (has_flag (codes "procs") parts)

pub record AsksToCompile {W : Type 0} (works : Works W) (words : List Text) (work : W) : Type 0 where
  pub source : Text
  pub output : Text
  pub parts : List Part
  pub block_log : ℕ
  pub window : Window
  pub says : Says compile_options (codes "procs" ∷ codes "fast" ∷ []) words (source ∷ output ∷ []) parts
  pub block_log_is : block_log_given (value_in (codes "block-log") parts) ≡ Some block_log
  pub window_is : window_given (value_in (codes "window") parts) ≡ Some window
  pub is : work
      ≡ works.compile source output block_log window (has_flag (codes "fast") parts) (has_flag (codes "procs") parts)

pub record AsksToSample {W : Type 0} (works : Works W) (words : List Text) (work : W) : Type 0 where
  pub number : Text
  pub output : Text
  pub parts : List Part
  pub items : ℕ
  pub seed : ℕ
  pub says : Says (codes "seed" ∷ []) (codes "fast" ∷ []) words (number ∷ output ∷ []) parts
  pub items_are : items_given number ≡ Some items
  pub seed_is : seed_given (value_in (codes "seed") parts) ≡ Some seed
  pub is : work ≡ works.sample (has_flag (codes "fast") parts) items output

-- its names are adjacent, and are one pair or more
pub record AsksForBus {W : Type 0} (works : Works W) (words : List Text) (work : W) : Type 0 where
  pub names : List Text
  pub parts : List Part
  pub first : Pair
  pub more : List Pair
  pub cycles : ℕ
  pub seed : ℕ
  pub says : Says run_options [] words names parts
  pub together : StandTogether names parts
  pub pairs_are : pairs_of names ≡ Some (first ∷ more)
  pub cycles_given : number_given (value_in (codes "cycles") parts) ≡ Some cycles
  pub seed_is : seed_given (value_in (codes "seed") parts) ≡ Some seed
  pub is : work ≡ works.bus (first ∷ more) cycles

-- after a verb words request a work exactly if they consist of its parts
abbrev pub AskExactly : {W : Type 0} → Works W → Text → (List Text → W → Type 0) → Type 0
AskExactly {W = W} works verb Asks =
    (words : List Text) (work : W) → AreTexts words → (asked_work works (verb ∷ words) ≡ Some work) ↔ Asks words work

-- the verbs
abbrev pub verb_names : List Text
verb_names =
    codes "check" ∷ codes "trace" ∷ codes "run" ∷ codes "asm" ∷ codes "dis" ∷ codes "eval" ∷ codes "compile"
    ∷ codes "sample" ∷ codes "bus" ∷ codes "infer" ∷ []

-- so it is for all verbs; no words, and words whose first isn't a verb, request none
pub record WordsAsk {W : Type 0} (works : Works W) : Type 0 where
  pub check : AskExactly works (codes "check") (AsksByOne works.check)
  pub trace : AskExactly works (codes "trace") (AsksToTrace works)
  pub run : AskExactly works (codes "run") (AsksToRun works)
  pub assemble : AskExactly works (codes "asm") (AsksByTwo works.assemble)
  pub disassemble : AskExactly works (codes "dis") (AsksByTwo works.disassemble)
  pub evaluate : AskExactly works (codes "eval") (AsksToEvaluate works)
  pub compile : AskExactly works (codes "compile") (AsksToCompile works)
  pub sample : AskExactly works (codes "sample") (AsksToSample works)
  pub bus : AskExactly works (codes "bus") (AsksForBus works)
  pub infer : AskExactly works (codes "infer") (AsksByTwo works.infer)
  pub no_words : asked_work works [] ≡ None
  pub no_verb : (first : Text) (words : List Text) → (IsAmong verb_names first → ⊥)
      → asked_work works (first ∷ words) ≡ None
