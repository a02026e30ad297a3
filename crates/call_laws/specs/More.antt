-- What the other verbs and options do: procedures, `--fast`, `infer`, `asm`, `dis`, `sample`, `bus`, and the leaves that
-- runs show.
use Rattle.std.specs.Prelude.{◌≡◌, ℕ, ℤ, Bool, true, false, List, [], ◌∷◌, ◌++◌, codes, Option, Some, Ok}
use Rattle.std.specs.FinMap.{get}
use Rattle.gr_outside.specs.Shelf.{Files}
use Rattle.lt_isa.specs.Object.{Parts, usual_profile}
use Rattle.lt_isa.specs.Oblivious.{IsOblivious}
use Rattle.lt_isa.specs.Start.{wants_of}
use Rattle.lt_isa.specs.declared.symbols.Note.{Note}
use Rattle.bus_arbiter.specs.Laws.{AllAgree, AllOblivious, NoneOverlap, runs_of, traces_on}
use Rattle.bus_arbiter.specs.Transfers.{IsJoined, Transfer}
use Rattle.src_lexer.specs.Splits.{Splits}
use Rattle.src_lexer.specs.declared.tokens.Token.{Token}
use Rattle.src_parser.specs.Grammar.{limits}
use Rattle.src_parser.specs.Refusals.{token_kinds}
use Rattle.src_parser.specs.Source.{SpellsSource}
use Rattle.procs_parser.specs.FileGrammar.{SpellsFile}
use Rattle.procs_tree.specs.Trees.{File}
use Rattle.flow_types.specs.Wants.{declared_wants}
use Rattle.src_tree.specs.Trees.{Source}
use Rattle.src_tree.specs.declared.trees.Decl.{Decl}
use Rattle.lt_assembler.specs.Canonical.{canonical}
use Rattle.lt_assembler.specs.Spelled.{SpellsInText}
use Rattle.path_oram.specs.LeavesAlike.{LeavesAlike}
use Rattle.compiled_objects.specs.FastLayout.{HasFastLayout}
use Rattle.command_words.specs.CommandLines.{Part, StandTogether, Text, has_flag, value_in}
use Rattle.command_words.specs.Options.{block_log_given, items_given, number_given}
use Rattle.command_words.specs.Pairs.{Pair, pairs_of}
use Rattle.command_words.specs.VerbLines.{Call}
use Rattle.command_words.specs.Windows.{window_given}
use Rattle.command_words.specs.declared.windows.Window.{Window}
use Rattle.command_words.specs.declared.verbs.Verb.TheVariants.{Assemble, Bus, Compile, Disassemble, Evaluate, Infer, Run, Sample, Trace}
use Rattle.call_steps.specs.Compiled.{HasRoom}
use Rattle.call_steps.specs.Histogram.{sample_text}
use Rattle.call_steps.specs.Inferred.{GetsNotes}
use Rattle.call_steps.specs.Sources.{Spells}
use Rattle.call_steps.specs.Showing.{core_lines, transfer_lines}
use Rattle.machine_verbs.specs.Bus.{all_halted}
use Rattle.machine_verbs.specs.Sharing.{AreHalts}
use Rattle.call_laws.specs.Calls.{MeansCalls}
use Rattle.call_laws.specs.Core.{Compiles, Evaluates, GivesInputs, HoldsProgram, IsDoneOrStarved, IsObjectOf, SucceedsOrStarves}
use Rattle.call_laws.specs.Counting.{ShownAsOften}
use Rattle.call_laws.specs.Promises.{IsDone}
use Rattle.call_laws.specs.Watched.{HoldsInputs, HoldsObject, done_status}

-- ---- procedures and `--fast`

-- The text parses as a file with procedures. The program has the file's variables, followed by new ones, and does with
-- the file's variables what its calls mean.
pub record SpellsForCalls (text : List ℕ) (p : Source) : Type 0 where
  pub tokens : List Token
  pub split : Splits 0 text (Ok tokens)
  pub file : File
  pub spelled : SpellsFile limits (token_kinds tokens) file
  pub new : List Decl
  pub decls : p.decls ≡ file.decls ++ new
  pub means : MeansCalls file p

-- the text parses as the program, with procedures or without
abbrev pub SpellsProgram : Bool → List ℕ → Source → Type 0
SpellsProgram false = SpellsSource
SpellsProgram true = SpellsForCalls

-- with `--fast` the variables of the object are at the places of the plan that keeps arrays in the scratchpad
pub record CompilesFast (Accepted : Parts → Type 0) (procs : Bool) (files afterwards : Files) (source output : Text) (parts : List Part) : Type 0 where
  pub of : Compiles Accepted (SpellsProgram procs) files afterwards source output parts
  pub layout : HasFastLayout of.object.p of.block_log of.object.o

-- ---- other verbs

-- The output file encodes an oblivious object that differs from that of the other file only in its notes, which are the
-- least ones.
pub record Infers (files afterwards : Files) (object output : Text) : Type 0 where
  pub o : Parts
  pub held : HoldsObject files object o
  pub notes : List Note
  pub found : HoldsObject afterwards output (record o { notes = notes })
  pub least : GetsNotes o (record o { notes = notes })
  pub oblivious : IsOblivious (record o { notes = notes })

-- the output file encodes the object that the text of the other file writes in assembly
pub record Assembles (files afterwards : Files) (text output : Text) : Type 0 where
  pub lines : List ℕ
  pub there : get files text ≡ Some lines
  pub o : Parts
  pub spells : SpellsInText lines o
  pub found : HoldsObject afterwards output o

-- the output file is the text of the object that the other file encodes
pub record Disassembles (files afterwards : Files) (object output : Text) : Type 0 where
  pub o : Parts
  pub held : HoldsObject files object o
  pub written : get afterwards output ≡ Some (canonical o)

-- The words are a call of `sample` for this many items, and its output file encodes an object of the histogram program
-- for as many, as `compile` writes it for blocks of 2^9 words.
pub record Samples (Accepted : Parts → Type 0) (words : List Text) (afterwards : Files) : Type 0 where
  pub number : Text
  pub output : Text
  pub parts : List Part
  pub call : Call words Sample (number ∷ output ∷ []) parts
  pub items : ℕ
  pub given : items_given number ≡ Some items
  pub bytes : List ℕ
  pub written : get afterwards output ≡ Some bytes
  pub object : IsObjectOf Accepted SpellsSource (usual_profile 9) (sample_text items) bytes

-- each pair of files holds an object and its inputs
abbrev pub AllHeld : Files → List Pair → List Parts → List (List (List ℤ)) → Type 0
AllHeld files [] [] [] = Unit {0}
AllHeld files [] [] (d ∷ ds) = ⊥
AllHeld files [] (o ∷ os) ds = ⊥
AllHeld files (pair ∷ pairs) [] ds = ⊥
AllHeld files (pair ∷ pairs) (o ∷ os) [] = ⊥
AllHeld files (pair ∷ pairs) (o ∷ os) (d ∷ ds) =
    HoldsObject files pair.object o × HoldsInputs files pair.input (wants_of o) d × AllHeld files pairs os ds

-- What `bus` printed are the transfers of the objects' runs, in order, and how each run ended. The objects are
-- oblivious, so inputs that agree on what is public give the same traces, of which all this is made. No two transfers
-- overlap.
pub record Shares (files : Files) (pairs : List Pair) (parts : List Part) (put : List ℕ) (status : ℕ) : Type 0 where
  pub objects : List Parts
  pub inputs : List (List (List ℤ))
  pub held : AllHeld files pairs objects inputs
  pub oblivious : AllOblivious objects
  pub cycles : ℕ
  pub within : number_given (value_in (codes "cycles") parts) ≡ Some cycles
  pub joined : List Transfer
  pub halts : List (Option ℕ)
  pub is : put ≡ transfer_lines joined ++ core_lines 0 halts
  pub joins : IsJoined (traces_on objects inputs cycles) joined
  pub ends : AreHalts (traces_on objects inputs cycles) halts
  pub done : status ≡ done_status (all_halted halts)
  pub public : (others : List (List (List ℤ))) → AllAgree objects inputs others
      → traces_on objects inputs cycles ≡ traces_on objects others cycles
  pub apart : NoneOverlap (runs_of objects inputs) joined

-- The object that was read is such that on inputs that agree its runs show the same leaves of each oblivious bank after a
-- rearrangement of the random words, and show any leaves equally often if all lists of words are counted.
pub record HidesLeaves (files : Files) (object : Text) : Type 0 where
  pub o : Parts
  pub held : HoldsObject files object o
  pub alike : LeavesAlike o
  pub often : ShownAsOften o

-- ---- when work is done, with procedures and with `--fast`

pub record MoreProgress (words : List Text) (files : Files) (status : ℕ) : Type 0 where
  pub compile : (source output : Text) (parts : List Part) (p : Source) (block_log : ℕ) (window : Window)
      → Call words Compile (source ∷ output ∷ []) parts
      → block_log_given (value_in (codes "block-log") parts) ≡ Some block_log
      → window_given (value_in (codes "window") parts) ≡ Some window
      → HoldsProgram (Spells (has_flag (codes "procs") parts)) files source p
      → HasRoom (has_flag (codes "fast") parts) p block_log → SucceedsOrStarves status
  pub evaluate : (source input output : Text) (parts : List Part) (p : Source) (turns : ℕ) (inputs : List (List ℤ))
      → Call words Evaluate (source ∷ input ∷ output ∷ []) parts
      → number_given (value_in (codes "turns") parts) ≡ Some turns
      → HoldsProgram (Spells (has_flag (codes "procs") parts)) files source p
      → GivesInputs files input (declared_wants p.decls) inputs → IsDoneOrStarved status

-- ---- all of it

pub record More (Accepted : Parts → Type 0) (Failed : Type 0) (words : List Text) (files afterwards : Files)
    (put : List ℕ) (status : ℕ) : Type 0 where
  pub compiled_calls : (source output : Text) (parts : List Part)
      → Call words Compile (source ∷ output ∷ []) parts → has_flag (codes "procs") parts ≡ true
      → status ≡ 0 → Compiles Accepted SpellsForCalls files afterwards source output parts
  pub evaluated_calls : (source input output : Text) (parts : List Part)
      → Call words Evaluate (source ∷ input ∷ output ∷ []) parts → has_flag (codes "procs") parts ≡ true
      → IsDone status → Evaluates SpellsForCalls files afterwards source input output parts status
  pub compiled_fast : (source output : Text) (parts : List Part)
      → Call words Compile (source ∷ output ∷ []) parts → has_flag (codes "fast") parts ≡ true
      → status ≡ 0 → CompilesFast Accepted (has_flag (codes "procs") parts) files afterwards source output parts
  pub inferred : (object output : Text) (parts : List Part)
      → Call words Infer (object ∷ output ∷ []) parts
      → status ≡ 0 → Infers files afterwards object output
  pub assembled : (text output : Text) (parts : List Part)
      → Call words Assemble (text ∷ output ∷ []) parts
      → status ≡ 0 → Assembles files afterwards text output
  pub disassembled : (object output : Text) (parts : List Part)
      → Call words Disassemble (object ∷ output ∷ []) parts
      → status ≡ 0 → Disassembles files afterwards object output
  pub sampled : (names : List Text) (parts : List Part) → Call words Sample names parts
      → status ≡ 0 → Samples Accepted words afterwards
  pub shared : (names : List Text) (parts : List Part) (first : Pair) (pairs : List Pair)
      → Call words Bus names parts → StandTogether names parts
      → pairs_of names ≡ Some (first ∷ pairs) → IsDone status
      → Shares files (first ∷ pairs) parts put status
  pub traced_leaves : (object input : Text) (parts : List Part)
      → Call words Trace (object ∷ input ∷ []) parts → IsDone status → HidesLeaves files object
  pub run_leaves : (object input output : Text) (parts : List Part)
      → Call words Run (object ∷ input ∷ output ∷ []) parts → IsDone status → HidesLeaves files object
  pub progress : (Failed → ⊥) → MoreProgress words files status
