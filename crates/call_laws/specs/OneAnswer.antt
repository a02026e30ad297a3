-- If the contents of files and the requested work are known, there is at most one answer: one status, one text, and one
-- map of files. (This project's profile.) Two things are left open: the object that `compile` and `sample` make, and the
-- levels of blocks with `--paths`.
use Rattle.std.specs.Prelude.{◌≡◌, ℕ, ◌<◌, ◌≤◌, ℤ, Bool, false, List, length, All, Some, None, Result, Ok}
use Rattle.std.specs.FinMap.{get}
use Rattle.gr_base.specs.Lists.{Within}
use Rattle.gr_outside.specs.Shelf.{Files, SameBut}
use Rattle.call_steps.specs.declared.targets.Target.{Target}
use Rattle.lt_isa.specs.Object.{Parts}
use Rattle.lt_isa.specs.Ranges.{ProfileFits}
use Rattle.lt_isa.specs.Start.{Agree, wants_of}
use Rattle.trace_patterns.specs.Accepts.{Accepts}
use Rattle.src_lexer.specs.declared.tokens.Token.{Token}
use Rattle.src_parser.specs.Grammar.{limits}
use Rattle.src_parser.specs.Refusals.{token_kinds}
use Rattle.src_parser.specs.declared.errors.ParseFault.{ParseFault}
use Rattle.procs_parser.specs.FileGrammar.{SpellsFile}
use Rattle.procs_parser.specs.FileRefusals.{ExplainsFile}
use Rattle.procs_tree.specs.Trees.{File}
use Rattle.src_tree.specs.Trees.{Source}
use Rattle.call_replies.specs.declared.source_faults.SourceFault.{SourceFault}
use Rattle.call_laws.specs.Assemble.{assemble_work}
use Rattle.command_words.specs.Pairs.{Pair}
use Rattle.machine_verbs.specs.Bus.{bus_work}
use Rattle.call_laws.specs.Check.{check_work}
use Rattle.call_steps.specs.Compile.{compile_work}
use Rattle.call_laws.specs.Disassemble.{disassemble_work}
use Rattle.call_laws.specs.Evaluate.{evaluate_work}
use Rattle.call_laws.specs.Infer.{infer_work}
use Rattle.call_steps.specs.Objects.{SpellsObject, object_limit}
use Rattle.call_laws.specs.Promises.{Answers, IsDone}
use Rattle.call_steps.specs.Questions.{AreInputs, IsRight, WhichSource}
use Rattle.machine_verbs.specs.Run.{run_work}
use Rattle.call_laws.specs.Sample.{sample_work}
use Rattle.call_steps.specs.Steps.{input_limit}
use Rattle.call_replies.specs.Texts.{Said, usage}
use Rattle.machine_verbs.specs.Trace.{trace_work}
use Rattle.call_steps.specs.Work.{Work}

-- for any files, two answers for a work are equal
abbrev pub HasOneAnswer : Work → Type 0
HasOneAnswer work =
    (files : Files) (said other : Said) (left right : Files) → Answers files (Some work) said left
    → Answers files (Some work) other right → (said ≡ other) × (left ≡ right)

-- Two answers are equal; or the work is done by both, and they have the same text and leave the same files except for
-- one.
pub data AreOneBut (output : List ℕ) (said other : Said) (left right : Files) : Type 0 where
  Same : said ≡ other → left ≡ right → AreOneBut output said other left right
  DoneBut : IsDone said.status → said ≡ other → SameBut output (Some left) (Some right)
      → AreOneBut output said other left right

-- so it is for any two answers for a work
abbrev pub HasOneAnswerBut : List ℕ → Work → Type 0
HasOneAnswerBut output work =
    (files : Files) (said other : Said) (left right : Files) → Answers files (Some work) said left
    → Answers files (Some work) other right → AreOneBut output said other left right

-- the words that ask for no work, and the work of these verbs, have one answer
pub record OneAnswer : Type 0 where
  pub no_work : (files : Files) (said : Said) (left : Files) → Answers files None said left
      → (said ≡ usage) × (left ≡ files)
  pub check : (object : List ℕ) → HasOneAnswer (check_work object)
  pub trace : (object input : List ℕ) (cycles seed : ℕ) (recursive : Bool)
      → HasOneAnswer (trace_work object input cycles seed false recursive)
  pub run : (object input output : List ℕ) (cycles : ℕ) → HasOneAnswer (run_work object input output cycles)
  pub assemble : (text output : List ℕ) → HasOneAnswer (assemble_work text output)
  pub disassemble : (object output : List ℕ) → HasOneAnswer (disassemble_work object output)
  pub bus : (pairs : List Pair) (cycles : ℕ) → HasOneAnswer (bus_work pairs cycles)
  pub infer : (object output : List ℕ) → HasOneAnswer (infer_work object output)
  pub evaluate : (source input output : List ℕ) (turns : ℕ) (procs : Bool)
      → HasOneAnswer (evaluate_work source input output turns procs)
  pub compile : (source output : List ℕ) (target : Target) (procs : Bool)
      → HasOneAnswerBut output (compile_work source output target procs)

-- Tokens are at most one file with procedures, and no error of its parser is true of tokens that are one. A text has at
-- most one answer as a source, with procedures or without: its program, or its first fault.
pub record OneSource : Type 0 where
  pub one_file : (tokens : List Token) (f g : File) → SpellsFile limits (token_kinds tokens) f
      → SpellsFile limits (token_kinds tokens) g → f ≡ g
  pub no_refusal : (tokens : List Token) (f : File) (e : ParseFault) → SpellsFile limits (token_kinds tokens) f
      → ExplainsFile e tokens → ⊥
  pub once : (procs : Bool) (text : List ℕ) (a b : Result Source SourceFault) → IsRight (WhichSource procs text) a
      → IsRight (WhichSource procs text) b → a ≡ b

-- The contents of files are bytes; then the work has an answer.
abbrev pub AreBytes : Files → Type 0
AreBytes files = (name bytes : List ℕ) → get files name ≡ Some bytes → All (λ byte. byte < 256) bytes

abbrev pub HasSomeAnswer : Work → Type 0
HasSomeAnswer work =
    (files : Files) → AreBytes files → (said : Said) × (left : Files) × Answers files (Some work) said left

-- The work of each verb has an answer, and a source text is a program or has a first fault.
pub record SomeAnswer : Type 0 where
  pub check : (object : List ℕ) → HasSomeAnswer (check_work object)
  pub trace : (object input : List ℕ) (cycles seed : ℕ) (paths recursive : Bool)
      → HasSomeAnswer (trace_work object input cycles seed paths recursive)
  pub run : (object input output : List ℕ) (cycles : ℕ) → HasSomeAnswer (run_work object input output cycles)
  pub assemble : (text output : List ℕ) → HasSomeAnswer (assemble_work text output)
  pub disassemble : (object output : List ℕ) → HasSomeAnswer (disassemble_work object output)
  pub bus : (pairs : List Pair) (cycles : ℕ) → length pairs ≤ 8 → HasSomeAnswer (bus_work pairs cycles)
  pub infer : (object output : List ℕ) → HasSomeAnswer (infer_work object output)
  pub evaluate : (source input output : List ℕ) (turns : ℕ) (procs : Bool)
      → HasSomeAnswer (evaluate_work source input output turns procs)
  pub compile : (source output : List ℕ) (target : Target) (procs : Bool) → ProfileFits target.profile
      → HasSomeAnswer (compile_work source output target procs)
  pub sample : (fast : Bool) (items : ℕ) (output : List ℕ) → Within 1 65536 items
      → HasSomeAnswer (sample_work fast items output)
  pub source : (procs : Bool) (text : List ℕ)
      → (a : Result Source SourceFault) × IsRight (WhichSource procs text) a

-- Files hold an accepted object under a name, and inputs of it under another. Neither file is too long.
pub record HoldRun (files : Files) (object input : List ℕ) (o : Parts) (inputs : List (List ℤ)) : Type 0 where
  pub bytes : List ℕ
  pub json : List ℕ
  pub there : get files object ≡ Some bytes
  pub short : length bytes ≤ object_limit
  pub spells : SpellsObject bytes o
  pub accepted : Accepts o
  pub given : get files input ≡ Some json
  pub few : length json ≤ input_limit
  pub read : AreInputs (wants_of o) json (Ok inputs)

-- Two calls of `trace` without `--paths` on one accepted object, with the same number of cycles, on inputs that agree
-- on public values, print the same bytes with the same status, under any two seeds, and change no file. (GhostRider,
-- ASPLOS 2015: memory-trace obliviousness.)
abbrev pub TraceAgrees : Type 0
TraceAgrees =
    (files others : Files) (object input object' input' : List ℕ) (o : Parts) (d e : List (List ℤ))
    (cycles seed seed' : ℕ) (recursive recursive' : Bool) → HoldRun files object input o d
    → HoldRun others object' input' o e → Agree o d e → (said other : Said) (left right : Files)
    → Answers files (Some (trace_work object input cycles seed false recursive)) said left
    → Answers others (Some (trace_work object' input' cycles seed' false recursive')) other right
    → (said ≡ other) × (left ≡ files) × (right ≡ others)
