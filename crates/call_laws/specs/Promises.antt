-- What every call of the program promises, for the work that its words ask for, if they ask for any.
use Rattle.std.specs.Prelude.{◌≡◌, ◌≢◌, ◌⊎◌, ℕ, Bool, false, List, ◌++◌, Contains, Option, Some, None, is_some, MatchOption}
use Rattle.std.specs.FinMap.{get}
use Rattle.gr_base.specs.Counts.{Rose}
use Rattle.gr_base.specs.Added.{Adds, AddsLess}
use Rattle.gr_outside.specs.Shelf.{Files, SameBut, with_file}
use Rattle.call_steps.specs.declared.targets.Target.{Target}
use Rattle.lt_isa.specs.Object.{Parts}
use Rattle.lt_isa.specs.Oblivious.{IsOblivious}
use Rattle.trace_patterns.specs.Accepts.{Accepts}
use Rattle.object_file.specs.Spelling.{spelling}
use Rattle.path_oram.specs.LeavesAlike.{LeavesAlike}
use Rattle.src_tree.specs.Trees.{Source}
use Rattle.call_replies.specs.Texts.{Said, usage, unread, unwritten, no_memory}
use Rattle.call_steps.specs.Objects.{SpellsObject}
use Rattle.call_steps.specs.Sources.{SpellsTyped}
use Rattle.command_words.specs.Pairs.{Pair}
use Rattle.machine_verbs.specs.Bus.{bus_work}
use Rattle.call_laws.specs.Calls.{MeansItsCalls}
use Rattle.call_steps.specs.Compile.{compile_work}
use Rattle.call_steps.specs.Compiled.{IsCompiledTo}
use Rattle.call_laws.specs.CompiledRuns.{RunsAsMeant}
use Rattle.call_laws.specs.CompiledTexts.{TextsAsMeant}
use Rattle.call_steps.specs.Histogram.{sample_text, sample_target}
use Rattle.call_laws.specs.Infer.{infer_work}
use Rattle.call_steps.specs.Inferred.{GetsNotes}
use Rattle.call_laws.specs.Sample.{sample_work}
use Rattle.call_steps.specs.Work.{Work, Ending, MayEnd, Holds, MayRead, MayWrite, said_at, files_at}
use Rattle.call_steps.specs.Steps.{with_accepted}
use Rattle.call_steps.specs.Outside.{Outside, Explains, LeavesUnread, OnlyReads, RefusedWrite}

-- The answers of the program: the printed text and the files afterwards, if the shelf has these files and nothing
-- fails.
pub data Answers (files : Files) : Option Work → Said → Files → Type 0 where
  NoAnswer : Answers files None usage files
  AnswersSo : (work : Work) (ending : Ending) → MayEnd (Holds files) work ending
      → Answers files (Some work) (said_at ending) (files_at ending files)

-- a file that the words ask to read, and one that they ask to write
abbrev pub IsRead : Option Work → List ℕ → Type 0
IsRead asked name = (work : Work) × (asked ≡ Some work) × MayRead work name

abbrev pub IsOutput : Option Work → List ℕ → Type 0
IsOutput asked name = (work : Work) × (asked ≡ Some work) × MayWrite work name

-- status, text and files are those of an answer
pub record IsAnswered (asked : Option Work) (before after : Outside) (status : ℕ) (files : Files) : Type 0 where
  pub said : Said
  pub afterwards : Files
  pub answer : Answers files asked said afterwards
  pub is : status ≡ said.status
  pub put : Adds before.sink.held after.sink.held said.text
  pub left : after.shelf.files ≡ Some afterwards

-- an existing file couldn't be read: a read failed, and its line was printed
pub record IsUnreadable (asked : Option Work) (before after : Outside) (status : ℕ) (files : Files) : Type 0 where
  pub name : List ℕ
  pub bytes : List ℕ
  pub read : IsRead asked name
  pub there : get files name ≡ Some bytes
  pub is : status ≡ 3
  pub failed : Rose before.shelf.read_faults after.shelf.read_faults
  pub put : Adds before.sink.held after.sink.held (unread name).text
  pub left : LeavesUnread name before.shelf after.shelf

-- status 3: only the line of a file that was to be read was printed, the one that couldn't be read; the known files
-- lack it, or a read failed
pub record ReadFailed (asked : Option Work) (before after : Outside) : Type 0 where
  pub name : List ℕ
  pub read : IsRead asked name
  pub put : Adds before.sink.held after.sink.held (unread name).text
  pub left : LeavesUnread name before.shelf after.shelf
  pub cause : MatchOption before.shelf.files ⊥ (λ files. get files name ≡ None)
      ⊎ Rose before.shelf.read_faults after.shelf.read_faults

-- a write failed, and its whole line was printed
pub record WriteFailed (asked : Option Work) (before after : Outside) : Type 0 where
  pub name : List ℕ
  pub output : IsOutput asked name
  pub failed : Rose before.shelf.write_faults after.shelf.write_faults
  pub put : Adds before.sink.held after.sink.held (unwritten name).text

-- a write itself wanted memory
pub record WriteStarved (asked : Option Work) (before after : Outside) : Type 0 where
  pub name : List ℕ
  pub output : IsOutput asked name
  pub starved : Rose before.shelf.starved after.shelf.starved
  pub left : RefusedWrite name before.shelf after.shelf

-- status 5: only its line was printed, and no file and no count except that of failed reads changed, unless by a write
-- that itself ran out of memory
pub record NoMemory (asked : Option Work) (before after : Outside) : Type 0 where
  pub put : Adds before.sink.held after.sink.held no_memory.text
  pub cause : OnlyReads before.shelf after.shelf ⊎ WriteStarved asked before after

-- the counts of failed writes and of failed prints are as before
pub record IsCalm (before after : Outside) : Type 0 where
  pub writes : after.shelf.write_faults ≡ before.shelf.write_faults
  pub puts : after.sink.faults ≡ before.sink.faults

-- only one file may have changed, one that the words ask to write
pub record OnlyOutput (asked : Option Work) (before after : Outside) : Type 0 where
  pub name : List ℕ
  pub output : IsOutput asked name
  pub others : SameBut name before.shelf.files after.shelf.files

-- The files at status 4, if no write failed and the contents of files are known: the files of an answer; or the line of
-- status 3 or of status 5 couldn't be printed, and the files are as at that status.
pub data StandsAtFour (asked : Option Work) (before after : Outside) (files : Files) : Type 0 where
  OfAnswer : (said : Said) (afterwards : Files)
      → Answers files asked said afterwards → after.shelf.files ≡ Some afterwards
      → AddsLess before.sink.held after.sink.held said.text → StandsAtFour asked before after files
  UnreadCut : (name : List ℕ) → IsRead asked name → AddsLess before.sink.held after.sink.held (unread name).text
      → Rose before.shelf.read_faults after.shelf.read_faults → LeavesUnread name before.shelf after.shelf
      → StandsAtFour asked before after files
  NoMemoryCut : AddsLess before.sink.held after.sink.held no_memory.text
      → OnlyReads before.shelf after.shelf ⊎ WriteStarved asked before after → StandsAtFour asked before after files

-- a sink whose bytes are known gained exactly this text
abbrev pub Gained : Option (List ℕ) → Option (List ℕ) → List ℕ → Type 0
Gained (Some before) (Some after) text = after ≡ before ++ text
Gained (Some before) None text = ⊥
Gained None (Some after) text = ⊥
Gained None None text = ⊥

-- the work is done, or the run was spent
abbrev pub IsDone : ℕ → Type 0
IsDone status = (status ≡ 0) ⊎ (status ≡ 10)

-- the file encodes an object that is accepted, and so oblivious; its runs on inputs that agree show the same leaves of
-- the oblivious banks, up to a permutation of the random words
pub record IsSafe (files : Files) (name : List ℕ) : Type 0 where
  pub bytes : List ℕ
  pub o : Parts
  pub there : get files name ≡ Some bytes
  pub spells : SpellsObject bytes o
  pub accepted : Accepts o
  pub oblivious : IsOblivious o
  pub leaves : LeavesAlike o

-- The text parses as a program, and only the output file changed: it has the bytes of the program's compiled object,
-- whose runs show and leave what the program means, and read and write text as the program does. If the text was read
-- with procedures, that is what its calls mean.
pub record IsWrittenFor (procs : Bool) (files afterwards : Files) (text output : List ℕ) (target : Target)
    : Type 0 where
  pub p : Source
  pub bytes : List ℕ
  pub spells : SpellsTyped procs text p
  pub written : afterwards ≡ with_file output bytes files
  pub compiled : IsCompiledTo p target bytes
  pub runs : (o : Parts) → SpellsObject bytes o → RunsAsMeant p o
  pub texts : (o : Parts) → SpellsObject bytes o → TextsAsMeant p o
  pub calls : MeansItsCalls procs text p spells.spells

-- so it is for the text of a file
pub record IsCompiledFile (procs : Bool) (files afterwards : Files) (source output : List ℕ) (target : Target)
    : Type 0 where
  pub text : List ℕ
  pub there : get files source ≡ Some text
  pub file : IsWrittenFor procs files afterwards text output target

-- The file encodes an object, and only the output file changed: it has the bytes of the object with its least notes. So
-- it is safe.
pub record IsInferredFile (files afterwards : Files) (object output : List ℕ) : Type 0 where
  pub bytes : List ℕ
  pub o : Parts
  pub there : get files object ≡ Some bytes
  pub spells : SpellsObject bytes o
  pub found : Parts
  pub notes : GetsNotes o found
  pub written : afterwards ≡ with_file output (spelling found) files
  pub safe : IsSafe afterwards output
  pub same : safe.o ≡ found

-- What every call promises: the words, running out of memory, or what the files gave explain how it ended.
pub record Promises (asked : Option Work) (before after : Outside) (status : ℕ) : Type 0 where
  pub explained : Explains before after status asked

-- What follows from that, one law a field (`PromisesFollow`).
pub record CallLaws (asked : Option Work) (before after : Outside) (status : ℕ) : Type 0 where
  -- If the contents of files are known, status, text and files are those of an answer, unless an existing file couldn't
  -- be read.
  pub answers : (files : Files) → before.shelf.files ≡ Some files → status ≢ 4 → status ≢ 5
      → IsAnswered asked before after status files ⊎ IsUnreadable asked before after status files
  -- Status 2 means that the words request no work; if they request none, only a failed print or running out of memory
  -- gives another status.
  pub usage : status ≡ 2 → asked ≡ None
  pub no_work : asked ≡ None → (status ≡ 2) ⊎ (status ≡ 4) ⊎ (status ≡ 5)
  -- Statuses 3, 4 and 5 have their causes; the whole line of a failed write is printed only if a write failed.
  pub unread : status ≡ 3 → ReadFailed asked before after
  pub failed : status ≡ 4 → Rose before.sink.faults after.sink.faults ⊎ WriteFailed asked before after
  pub line : status ≡ 4 → (name : List ℕ) → Gained before.sink.held after.sink.held (unwritten name).text
      → Rose before.shelf.write_faults after.shelf.write_faults
  pub no_room : status ≡ 5 → NoMemory asked before after
  -- At every other status no write, no print and no flush has failed.
  pub calm : status ≢ 4 → IsCalm before after
  -- No read has failed but at 3, 4 and 5, and no write has wanted memory but at 5 and 4.
  pub reads : status ≢ 3 → status ≢ 4 → status ≢ 5 → after.shelf.read_faults ≡ before.shelf.read_faults
  pub starved : status ≢ 5 → status ≢ 4 → after.shelf.starved ≡ before.shelf.starved
  -- Only the output file changes, and only at the statuses 0, 4 and 5; whether the contents of files are known never
  -- does.
  pub others : (after.shelf.files ≡ before.shelf.files) ⊎ OnlyOutput asked before after
  pub last : status ≢ 0 → status ≢ 4 → status ≢ 5 → OnlyReads before.shelf after.shelf
  pub tells : is_some after.shelf.files ≡ is_some before.shelf.files
  -- The files at status 4.
  pub stands : (files : Files) → before.shelf.files ≡ Some files → status ≡ 4
      → (Rose before.shelf.write_faults after.shelf.write_faults → ⊥) → StandsAtFour asked before after files
  -- If the files give an answer by which the work is done, and no count rose, then the work is done, unless memory ran
  -- out.
  pub complete : (files : Files) → before.shelf.files ≡ Some files
      → ((said : Said) (afterwards : Files) → Answers files asked said afterwards → IsDone said.status)
      → (Rose before.shelf.read_faults after.shelf.read_faults → ⊥)
      → (Rose before.shelf.write_faults after.shelf.write_faults → ⊥)
      → (Rose before.sink.faults after.sink.faults → ⊥) → IsDone status ⊎ (status ≡ 5)
  -- If the work is done, every object that was checked for it is oblivious.
  pub oblivious : (object : List ℕ) (next : Parts → Work) → asked ≡ Some (with_accepted object next) → IsDone status
      → (files : Files) → before.shelf.files ≡ Some files → IsSafe files object
  -- So is the object of each core of a bus whose work is done.
  pub bus : (pairs : List Pair) (cycles : ℕ) → asked ≡ Some (bus_work pairs cycles) → IsDone status
      → (files : Files) → before.shelf.files ≡ Some files → (p : Pair) → Contains pairs p → IsSafe files p.object
  -- A successful compilation leaves the object file of the program that the source parses as.
  pub compiled : (source output : List ℕ) (target : Target) (procs : Bool)
      → asked ≡ Some (compile_work source output target procs) → status ≡ 0
      → (files : Files) → before.shelf.files ≡ Some files
      → (afterwards : Files) × (after.shelf.files ≡ Some afterwards)
      × IsCompiledFile procs files afterwards source output target
  -- `infer` that is done leaves the object with its least notes.
  pub inferred : (object output : List ℕ) → asked ≡ Some (infer_work object output) → status ≡ 0
      → (files : Files) → before.shelf.files ≡ Some files
      → (afterwards : Files) × (after.shelf.files ≡ Some afterwards)
      × IsInferredFile files afterwards object output
  -- A sample is done or exceeds its limit, or a print, a write or memory failed. If it is done, it leaves the object
  -- file of its program.
  pub sampled : (fast : Bool) (items : ℕ) (output : List ℕ) → asked ≡ Some (sample_work fast items output)
      → IsDone status ⊎ (status ≡ 4) ⊎ (status ≡ 5)
  pub sample : (fast : Bool) (items : ℕ) (output : List ℕ) → asked ≡ Some (sample_work fast items output) → status ≡ 0
      → (files : Files) → before.shelf.files ≡ Some files → (afterwards : Files) × (after.shelf.files ≡ Some afterwards)
      × IsWrittenFor false files afterwards (sample_text items) output (sample_target fast)

-- so it is for all work
abbrev pub PromisesFollow : Type 0
PromisesFollow =
    (asked : Option Work) (before after : Outside) (status : ℕ) → Promises asked before after status
    → CallLaws asked before after status
