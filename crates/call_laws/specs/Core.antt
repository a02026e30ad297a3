-- What `compile` and `eval` do besides what `check`, `trace` and `run` do (`Watched`), of sources without procedures:
-- the object that `compile` writes is accepted, and runs as its program means, which is what `eval` computes. And that
-- work is done whenever it can be: if no read, write or print failed, then an accepted object passes the check and runs
-- on inputs that fit, and a well-typed program within the limits is compiled and evaluated. Only memory may run out,
-- with status 5.
use Rattle.std.specs.Prelude.{◌≡◌, ◌⊎◌, ℕ, ◌≤◌, ℤ, false, List, [], ◌∷◌, codes, length, Some, is_some}
use Rattle.std.specs.Option.{option_map}
use Rattle.std.specs.FinMap.{get}
use Rattle.gr_outside.specs.Shelf.{Files}
use Rattle.gr_word.specs.declared.variables.Want.{Want}
use Rattle.lt_isa.specs.Object.{Parts, usual_latencies}
use Rattle.lt_isa.specs.declared.profiles.Profile.{Profile}
use Rattle.lt_isa.specs.Start.{wants_of}
use Rattle.src_parser.specs.Source.{SpellsSource}
use Rattle.flow_types.specs.Wants.{declared_wants}
use Rattle.src_tree.specs.Limits.{IsWithinLimits}
use Rattle.src_tree.specs.Meaning.{Store, meaning}
use Rattle.src_tree.specs.Trees.{Source}
use Rattle.src_tree.specs.Typing.{IsTyped}
use Rattle.bank_alloc.specs.Fits.{Fits}
use Rattle.bank_alloc.specs.Layout.{HasLayout}
use Rattle.run_data.specs.OutputText.{output_of}
use Rattle.compiled_objects.specs.Compiles.{IsFor}
use Rattle.call_steps.specs.Objects.{SpellsObject, object_limit}
use Rattle.call_steps.specs.Sources.{source_limit}
use Rattle.call_steps.specs.Steps.{input_limit}
use Rattle.command_words.specs.CommandLines.{Part, Text, has_flag, value_in}
use Rattle.command_words.specs.Options.{block_log_given, number_given, seed_given}
use Rattle.command_words.specs.VerbLines.{Call}
use Rattle.command_words.specs.Windows.{window_given, windowed_profile}
use Rattle.command_words.specs.declared.windows.Window.{Window}
use Rattle.command_words.specs.declared.verbs.Verb.TheVariants.{Check, Compile, Evaluate, Run, Trace}
use Rattle.call_laws.specs.CompiledRuns.{RunsAsMeant}
use Rattle.call_laws.specs.CompiledTexts.{TextsAsMeant}
use Rattle.call_laws.specs.Promises.{IsDone}
use Rattle.call_laws.specs.Watched.{HoldsInputs, HoldsObject, Watched, done_status, with_output}

-- ---- what `compile` and `eval` leave

-- The bytes encode an object that runs as the program of the text means, and reads and writes text as it does. It is
-- accepted, is for the profile, and has the usual latencies.
pub record IsObjectOf (Accepted : Parts → Type 0) (Spells : List ℕ → Source → Type 0) (profile : Profile)
    (text bytes : List ℕ) : Type 0 where
  pub p : Source
  pub program : Spells text p
  pub o : Parts
  pub spells : SpellsObject bytes o
  pub accepted : Accepted o
  pub runs : RunsAsMeant p o
  pub texts : TextsAsMeant p o
  pub machine : IsFor profile usual_latencies o

-- The output file is such an object file of the source's text, for blocks and a window as the words say. Without
-- `--fast` its variables are at the places that the standard layout gives them.
pub record Compiles (Accepted : Parts → Type 0) (Spells : List ℕ → Source → Type 0) (files afterwards : Files)
    (source output : Text) (parts : List Part) : Type 0 where
  pub text : List ℕ
  pub there : get files source ≡ Some text
  pub block_log : ℕ
  pub window : Window
  pub sized : block_log_given (value_in (codes "block-log") parts) ≡ Some block_log
  pub opened : window_given (value_in (codes "window") parts) ≡ Some window
  pub bytes : List ℕ
  pub written : get afterwards output ≡ Some bytes
  pub object : IsObjectOf Accepted Spells (windowed_profile block_log window) text bytes
  pub layout : has_flag (codes "fast") parts ≡ false → HasLayout object.p block_log object.o

-- `eval` wrote what the program of the source means on the inputs, if its loops ended within the turns
pub record Evaluates (Spells : List ℕ → Source → Type 0) (files afterwards : Files) (source input output : Text)
    (parts : List Part) (status : ℕ) : Type 0 where
  pub text : List ℕ
  pub there : get files source ≡ Some text
  pub p : Source
  pub program : Spells text p
  pub store : Store
  pub given : HoldsInputs files input (declared_wants p.decls) store
  pub turns : ℕ
  pub within : number_given (value_in (codes "turns") parts) ≡ Some turns
  pub left : afterwards
      ≡ with_output output (option_map (output_of (declared_wants p.decls)) (meaning p store turns)) files
  pub done : status ≡ done_status (is_some (meaning p store turns))

-- ---- when work is done

-- the file encodes an accepted object, and isn't too long
pub record HoldsAccepted (Accepted : Parts → Type 0) (files : Files) (name : Text) (o : Parts) : Type 0 where
  pub bytes : List ℕ
  pub there : get files name ≡ Some bytes
  pub short : length bytes ≤ object_limit
  pub spells : SpellsObject bytes o
  pub accepted : Accepted o

-- the file gives these inputs, and isn't too long
pub record GivesInputs (files : Files) (name : Text) (wants : List Want) (inputs : List (List ℤ)) : Type 0 where
  pub held : HoldsInputs files name wants inputs
  pub short : length held.json ≤ input_limit

-- the file's text parses as a well-typed program within the limits, and isn't too long
pub record HoldsProgram (Spells : List ℕ → Source → Type 0) (files : Files) (name : Text) (p : Source) : Type 0 where
  pub text : List ℕ
  pub there : get files name ≡ Some text
  pub short : length text ≤ source_limit
  pub program : Spells text p
  pub typed : IsTyped p
  pub within : IsWithinLimits p

-- the options of a run are numbers in their ranges
pub record AreRunOptions (parts : List Part) : Type 0 where
  pub cycles : ℕ
  pub within : number_given (value_in (codes "cycles") parts) ≡ Some cycles
  pub seed : ℕ
  pub seeded : seed_given (value_in (codes "seed") parts) ≡ Some seed

-- the work is done, or memory ran out
abbrev pub IsDoneOrStarved : ℕ → Type 0
IsDoneOrStarved status = IsDone status ⊎ (status ≡ 5)

-- the same for work that is done with status 0 only
abbrev pub SucceedsOrStarves : ℕ → Type 0
SucceedsOrStarves status = (status ≡ 0) ⊎ (status ≡ 5)

pub record Progress (Accepted : Parts → Type 0) (words : List Text) (files : Files) (status : ℕ) : Type 0 where
  pub check : (object : Text) (parts : List Part) (o : Parts) → Call words Check (object ∷ []) parts
      → HoldsAccepted Accepted files object o → SucceedsOrStarves status
  pub trace : (object input : Text) (parts : List Part) (o : Parts) (inputs : List (List ℤ))
      → Call words Trace (object ∷ input ∷ []) parts → AreRunOptions parts
      → HoldsAccepted Accepted files object o → GivesInputs files input (wants_of o) inputs → IsDoneOrStarved status
  pub run : (object input output : Text) (parts : List Part) (o : Parts) (inputs : List (List ℤ))
      → Call words Run (object ∷ input ∷ output ∷ []) parts → AreRunOptions parts
      → HoldsAccepted Accepted files object o → GivesInputs files input (wants_of o) inputs → IsDoneOrStarved status
  pub compile : (source output : Text) (parts : List Part) (p : Source) (block_log : ℕ) (window : Window)
      → Call words Compile (source ∷ output ∷ []) parts
      → has_flag (codes "procs") parts ≡ false → has_flag (codes "fast") parts ≡ false
      → block_log_given (value_in (codes "block-log") parts) ≡ Some block_log
      → window_given (value_in (codes "window") parts) ≡ Some window
      → HoldsProgram SpellsSource files source p → Fits p block_log → SucceedsOrStarves status
  pub evaluate : (source input output : Text) (parts : List Part) (p : Source) (turns : ℕ) (inputs : List (List ℤ))
      → Call words Evaluate (source ∷ input ∷ output ∷ []) parts → has_flag (codes "procs") parts ≡ false
      → number_given (value_in (codes "turns") parts) ≡ Some turns
      → HoldsProgram SpellsSource files source p → GivesInputs files input (declared_wants p.decls) inputs
      → IsDoneOrStarved status

-- ---- all of it: `Failed` says that a read, a write or a print failed

pub record Core (Accepted : Parts → Type 0) (Failed : Type 0) (words : List Text) (files afterwards : Files)
    (put : List ℕ) (status : ℕ) : Type 0 where
  pub watched : Watched words files afterwards put status
  pub accepted : (object : Text) (parts : List Part) → Call words Check (object ∷ []) parts
      → status ≡ 0 → (o : Parts) × HoldsObject files object o × Accepted o
  pub compiled : (source output : Text) (parts : List Part)
      → Call words Compile (source ∷ output ∷ []) parts → has_flag (codes "procs") parts ≡ false
      → status ≡ 0 → Compiles Accepted SpellsSource files afterwards source output parts
  pub evaluated : (source input output : Text) (parts : List Part)
      → Call words Evaluate (source ∷ input ∷ output ∷ []) parts → has_flag (codes "procs") parts ≡ false
      → IsDone status → Evaluates SpellsSource files afterwards source input output parts status
  pub progress : (Failed → ⊥) → Progress Accepted words files status
