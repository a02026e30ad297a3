-- What `check`, `trace` and `run` do, stated of the words of a call, of the files before and after it, of what it
-- printed and of its status: an object that they accept is oblivious, what `trace` prints is the trace of the run, and
-- what `run` writes is what the run leaves. (GhostRider, ASPLOS 2015: memory-trace obliviousness; here of words and
-- files.)
use Rattle.std.specs.Prelude.{◌≡◌, ◌≢◌, ℕ, ℤ, Bool, true, false, List, [], ◌∷◌, ◌++◌, codes, Option, Some, None, is_some, Ok}
use Rattle.std.specs.Option.{option_map}
use Rattle.std.specs.FinMap.{get}
use Rattle.gr_outside.specs.Shelf.{Files, with_file}
use Rattle.gr_word.specs.declared.variables.Want.{Want}
use Rattle.lt_isa.specs.Object.{Parts}
use Rattle.lt_isa.specs.Oblivious.{IsOblivious}
use Rattle.lt_isa.specs.Start.{trace, wants_of}
use Rattle.run_data.specs.InputsOf.{inputs_of, json_of}
use Rattle.run_data.specs.TraceText.{trace_text_of}
use Rattle.call_steps.specs.Objects.{SpellsObject}
use Rattle.call_steps.specs.Runs.{HaltOf, run_outputs}
use Rattle.command_words.specs.CommandLines.{Part, Text, has_flag, value_in}
use Rattle.command_words.specs.Options.{number_given}
use Rattle.command_words.specs.VerbLines.{Call, WritesFile}
use Rattle.command_words.specs.declared.verbs.Verb.{Verb}
use Rattle.command_words.specs.declared.verbs.Verb.TheVariants.{Check, Run, Trace}
use Rattle.call_laws.specs.Promises.{IsDone}

-- the file of this name encodes the object
pub record HoldsObject (files : Files) (name : Text) (o : Parts) : Type 0 where
  pub bytes : List ℕ
  pub there : get files name ≡ Some bytes
  pub spells : SpellsObject bytes o

-- the file of this name encodes an object that reveals only public data
pub record HoldsOblivious (files : Files) (name : Text) : Type 0 where
  pub o : Parts
  pub held : HoldsObject files name o
  pub oblivious : IsOblivious o

-- the file of this name gives these inputs for variables
pub record HoldsInputs (files : Files) (name : Text) (wants : List Want) (inputs : List (List ℤ)) : Type 0 where
  pub json : List ℕ
  pub there : get files name ≡ Some json
  pub given : inputs_of wants (json_of json) ≡ Ok inputs

-- the status of work that is done, 0, and of work that took more than its cycles or turns, 10
abbrev pub done_status : Bool → ℕ
done_status true = 0
done_status false = 10

-- the files with the output, if there is one to write
abbrev pub with_output : Text → Option (List ℕ) → Files → Files
with_output name None files = files
with_output name (Some bytes) files = with_file name bytes files

-- the files hold an oblivious object and its inputs, the words give a number of cycles, and within these the run halts
-- here, or doesn't; the status says which
pub record HasRun (files : Files) (object input : Text) (parts : List Part) (status : ℕ) : Type 0 where
  pub o : Parts
  pub held : HoldsObject files object o
  pub oblivious : IsOblivious o
  pub inputs : List (List ℤ)
  pub given : HoldsInputs files input (wants_of o) inputs
  pub cycles : ℕ
  pub within : number_given (value_in (codes "cycles") parts) ≡ Some cycles
  pub halt : Option ℕ
  pub ends : HaltOf (trace o inputs cycles) halt
  pub done : status ≡ done_status (is_some halt)

-- without `--paths` what `trace` printed is the text of the trace
pub record Traces (files : Files) (object input : Text) (parts : List Part) (put : List ℕ) (status : ℕ) : Type 0 where
  pub of : HasRun files object input parts status
  pub is : has_flag (codes "paths") parts ≡ false
      → put ≡ trace_text_of (trace of.o of.inputs of.cycles) (is_some of.halt)

-- `run` wrote the outputs that the run leaves, if it halted
pub record Runs (files afterwards : Files) (object input output : Text) (parts : List Part) (status : ℕ)
    : Type 0 where
  pub of : HasRun files object input parts status
  pub left : afterwards
      ≡ with_output output (option_map (λ at. run_outputs of.o of.inputs of.cycles) of.halt) files

-- the words name this output last, after a verb that writes
pub record NameOutput (words : List Text) (output : Text) : Type 0 where
  pub verb : Verb
  pub writes : WritesFile verb
  pub others : List Text
  pub parts : List Part
  pub call : Call words verb (others ++ output ∷ []) parts

pub record Watched (words : List Text) (files afterwards : Files) (put : List ℕ) (status : ℕ) : Type 0 where
  pub checked : (object : Text) (parts : List Part) → Call words Check (object ∷ []) parts
      → status ≡ 0 → HoldsOblivious files object
  pub traced : (object input : Text) (parts : List Part)
      → Call words Trace (object ∷ input ∷ []) parts
      → IsDone status → Traces files object input parts put status
  pub run : (object input output : Text) (parts : List Part)
      → Call words Run (object ∷ input ∷ output ∷ []) parts
      → IsDone status → Runs files afterwards object input output parts status
  pub only_output : (name : Text) → get afterwards name ≢ get files name → NameOutput words name
