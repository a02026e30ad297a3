-- The verbs of the program: the table that a new verb is added to.
use Rattle.std.specs.Prelude.{ℕ, Bool, List, [], ◌∷◌, find, Option, None, option_and_then}
use Rattle.std.specs.Str.{bytes_eq}
use Rattle.clap.specs.Words.{Row, Text}
use Rattle.command_words.specs.declared.verbs.Verb.{Verb}
use Rattle.command_words.specs.declared.verbs.Verb.TheVariants.{Check, Trace, Run, Assemble, Disassemble, Evaluate, Compile, Sample, Bus, Infer}
use Rattle.command_words.specs.declared.windows.Window.{Window}
use Rattle.command_words.specs.Asks.{assemble_asks, bus_asks, check_asks, compile_asks, disassemble_asks, evaluate_asks, infer_asks, run_asks, sample_asks, trace_asks}
use Rattle.command_words.specs.Options.{asked_by}
use Rattle.command_words.specs.Pairs.{Pair}
use Rattle.command_words.specs.VerbRows.{VerbRow, assemble_row, bus_row, check_row, command_of, compile_row, disassemble_row, evaluate_row, infer_row, run_row, sample_row, trace_row}

abbrev pub row_of : Verb → VerbRow
row_of Check = check_row
row_of Trace = trace_row
row_of Run = run_row
row_of Assemble = assemble_row
row_of Disassemble = disassemble_row
row_of Evaluate = evaluate_row
row_of Compile = compile_row
row_of Sample = sample_row
row_of Bus = bus_row
row_of Infer = infer_row

abbrev pub verbs : List Verb
verbs = Check ∷ Trace ∷ Run ∷ Assemble ∷ Disassemble ∷ Evaluate ∷ Compile ∷ Sample ∷ Bus ∷ Infer ∷ []

-- the verb of a name, if there is one
unfoldable pub verb_named : Text → Option Verb
verb_named name = find (λ verb. bytes_eq (row_of verb).name name) verbs

-- the work of each verb, on the names, numbers and flags that its words give
pub record Works (W : Type 0) : Type 0 where
  pub check : (object : Text) → W
  pub trace : (object input : Text) (cycles seed : ℕ) (paths recursive : Bool) → W
  pub run : (object input output : Text) (cycles : ℕ) → W
  pub assemble : (text output : Text) → W
  pub disassemble : (object output : Text) → W
  pub evaluate : (source input output : Text) (turns : ℕ) (procs : Bool) → W
  pub compile : (source output : Text) (block_log : ℕ) (window : Window) (fast procs : Bool) → W
  pub sample : (fast : Bool) (items : ℕ) (output : Text) → W
  pub bus : (pairs : List Pair) (cycles : ℕ) → W
  pub infer : (object output : Text) → W

-- what a verb asks for, by what is found for its words
abbrev pub asks_of : {W : Type 0} → Works W → Verb → List Row → Option W
asks_of works Check = check_asks works.check
asks_of works Trace = trace_asks works.trace
asks_of works Run = run_asks works.run
asks_of works Assemble = assemble_asks works.assemble
asks_of works Disassemble = disassemble_asks works.disassemble
asks_of works Evaluate = evaluate_asks works.evaluate
asks_of works Compile = compile_asks works.compile
asks_of works Sample = sample_asks works.sample
asks_of works Bus = bus_asks works.bus
asks_of works Infer = infer_asks works.infer

-- what words ask for, the verb first, by the verb's row
unfoldable pub asked_for : {W : Type 0} → Works W → Verb → List Text → Option W
asked_for works verb words = asked_by (command_of (row_of verb)) (asks_of works verb) words

abbrev pub asked_of : {W : Type 0} → Works W → Text → List Text → Option W
asked_of works name words = option_and_then (λ verb. asked_for works verb words) (verb_named name)

-- the work that the words of a command line ask for, if they ask for any
abbrev pub asked_work : {W : Type 0} → Works W → List Text → Option W
asked_work works [] = None
asked_work works (verb ∷ words) = asked_of works verb (verb ∷ words)
