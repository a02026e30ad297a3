-- What the headline says of each verb but `bus`.
use Rattle.std.proofs.Common.{◌≡◌, inl, ℕ, ℤ, Bool, true, false, List, [], ◌∷◌, codes, Option, Some, None, is_some, refl, sym, ap, ◌∙◌, subst, true≢false}
use Rattle.std.specs.Option.{option_map}
use Rattle.std.specs.FinMap.{get}
use Rattle.std.proofs.lemmas.Option.{same_Some}
use Rattle.gr_outside.specs.Prelude.{Files, with_file}
use Rattle.lt_isa.specs.Prelude.{Parts, IsOblivious, trace, wants_of}
use Rattle.trace_patterns.specs.Prelude.{Accepts}
use Rattle.call_steps.specs.declared.targets.Target.{Target}
use Rattle.flow_types.specs.Prelude.{declared_wants}
use Rattle.run_data.specs.Prelude.{output_of}
use Rattle.procs_tree.specs.Prelude.{added, inlined_body}
use Rattle.src_tree.specs.Prelude.{Store, Source}
use Rattle.call_replies.specs.declared.replies.Verdict.TheVariants.{Accepted, Spent, Traced}
use Rattle.command_words.specs.declared.verbs.Verb.TheVariants.{Check, Compile, Evaluate, Infer, Run, Trace}
use Rattle.call_replies.specs.declared.replies.Done.{Done}
use Rattle.call_replies.specs.declared.replies.Done.TheVariants.{Evaluated, Halted}
use Rattle.call_laws.specs.Prelude.{MeansItsCalls, check_work, evaluate_work, evaluates_on, on_left, Compiles, Evaluates, HasRun, HoldsInputs, HoldsObject, HoldsOblivious, Infers, IsObjectOf, Runs, SpellsProgram, Traces, done_status, with_output, infer_work, IsDone, IsSafe, work_of, works}
use Rattle.command_words.specs.Prelude.{Part, Text, has_flag, value_in, number_given, Call}
use Rattle.call_steps.specs.Prelude.{target_for, GetsNotes, HasLayoutFor, IsCompiledTo, WhenItHalts, HaltOf, run_outputs, Seen, events_alone, nothing_seen, Spells, SpellsTyped, with_accepted, with_inputs, with_variables, Asks, Ending, Ends, Holds, IsVerdict, MayEnd, Work, Writes, files_at, said_at}
use Rattle.machine_verbs.specs.Prelude.{on_halt, run_work, shows_on, trace_work}
use Rattle.call_replies.specs.Prelude.{verdict_status}
use Rattle.call_laws.proofs.Behind.{behind-it}
use Rattle.call_laws.proofs.Calls.{means-its-calls}
use Rattle.call_laws.proofs.CompiledFiles.{compiled-of}
use Rattle.call_laws.proofs.CompiledRuns.{compiled-runs}
use Rattle.call_laws.proofs.CompiledTexts.{compiled-texts}
use Rattle.call_laws.proofs.DoneWork.{checked-on, given-on, programmed-on}
use Rattle.call_laws.proofs.HeadlineCalls.{Called, asked, asked-by, done-ending, ended, ended-by}
use Rattle.call_laws.proofs.Inferring.{inferred-of, written-there}
use Rattle.command_words.proofs.VerbWords.{compile-given, evaluate-given, run-given, trace-given, words-ask}
use Rattle.machine_verbs.proofs.Watches.{text-alone}

-- ---- objects

pub safe-object : (files : Files) (name : Text) (safe : IsSafe files name) → HoldsObject files name safe.o
safe-object files name safe = record { bytes = safe.bytes; there = safe.there; spells = safe.spells }

safe-holds : (files : Files) (name : Text) → IsSafe files name → HoldsOblivious files name
safe-holds files name safe =
    record { o = safe.o; held = safe-object files name safe; oblivious = safe.oblivious }

-- what is written is there
pub written-is : (name bytes : List ℕ) (files afterwards : Files) → afterwards ≡ with_file name bytes files
    → get afterwards name ≡ Some bytes
written-is name bytes files afterwards is =
    subst (λ (fs : Files). get fs name ≡ Some bytes) (sym is) (written-there name bytes files)

-- ---- programs

spells-program : (procs : Bool) (text : List ℕ) (p : Source) (spells : Spells procs text p)
    → MeansItsCalls procs text p spells → SpellsProgram procs text p
spells-program false text p spells calls = spells
spells-program true text p spells calls = record {
  tokens = spells.tokens;
  split = spells.split;
  file = spells.of_file.file;
  spelled = spells.of_file.spelled;
  new = added 0 (inlined_body spells.of_file.file).labels;
  decls = ap (λ (q : Source). q.decls) spells.of_file.made;
  means = calls;
}

typed-program : (procs : Bool) (text : List ℕ) (p : Source) → SpellsTyped procs text p → SpellsProgram procs text p
typed-program procs text p spells =
    spells-program procs text p spells.spells (means-its-calls procs text p spells.spells)

-- what is compiled from a text that parses as a program
pub compiled-program : (procs : Bool) (text : List ℕ) (p : Source) (target : Target) (bytes : List ℕ)
    → SpellsTyped procs text p → IsCompiledTo p target bytes
    → IsObjectOf Accepts (SpellsProgram procs) target.profile text bytes
compiled-program procs text p target bytes spells compiled = record {
  p = p;
  program = typed-program procs text p spells;
  o = compiled.o;
  spells = compiled.spells;
  accepted = compiled.accepted;
  machine = compiled.machine;
  runs = compiled-runs p target bytes compiled.o spells.typed spells.within compiled compiled.spells;
  texts = compiled-texts p target bytes compiled.o spells.typed spells.within compiled compiled.spells;
}

-- ---- runs

-- the object and the inputs of a run, and its halt
record Ran (files : Files) (object input : Text) (cycles : ℕ) (next : Parts → List (List ℤ) → Option ℕ → Work)
    (ending : Ending) : Type 0 where
  safe : IsSafe files object
  inputs : List (List ℤ)
  given : HoldsInputs files input (wants_of safe.o) inputs
  halt : Option ℕ
  ends : HaltOf (trace safe.o inputs cycles) halt
  comes : MayEnd (Holds files) (next safe.o inputs halt) ending

module _ (files : Files) (ending : Ending) (done : IsDone (said_at ending).status) where
  ran : (object input : Text) (cycles : ℕ) (next : Parts → List (List ℤ) → Option ℕ → Work)
      → MayEnd (Holds files)
      (with_accepted object (λ o. with_inputs o input (λ d. Asks (WhenItHalts o d cycles) (next o d)))) ending
      → Ran files object input cycles next ending
  ran object input cycles next comes =
      let checked =
      checked-on files ending done object (λ o. with_inputs o input (λ d. Asks (WhenItHalts o d cycles) (next o d)))
      comes in
      let o = checked.safe.o in
      let given =
      given-on files ending done (wants_of o) input (λ d. Asks (WhenItHalts o d cycles) (next o d)) checked.comes in
      let asked = behind-it (Holds files) (Asks (WhenItHalts o given.inputs cycles) (next o given.inputs)) ending
      given.comes in
      record {
        safe = checked.safe;
        inputs = given.inputs;
        given = given.given;
        halt = asked.0;
        ends = asked.1;
        comes = asked.2;
      }

abbrev has-run : (files : Files) (object input : Text) (parts : List Part) (status cycles : ℕ)
    (next : Parts → List (List ℤ) → Option ℕ → Work) (ending : Ending)
    → number_given (value_in (codes "cycles") parts) ≡ Some cycles
    → (ran : Ran files object input cycles next ending) → status ≡ done_status (is_some ran.halt)
    → HasRun files object input parts status
has-run files object input parts status cycles next ending within ran done = record {
  o = ran.safe.o;
  held = safe-object files object ran.safe;
  oblivious = ran.safe.oblivious;
  inputs = ran.inputs;
  given = ran.given;
  cycles = cycles;
  within = within;
  halt = ran.halt;
  ends = ran.ends;
  done = done;
}

-- the output of `trace` ends with this verdict, and is only the trace without paths
record ShownSo (paths : Bool) (o : Parts) (d : List (List ℤ)) (cycles : ℕ) (halt : Option ℕ) (ending : Ending)
    : Type 0 where
  seen : Seen
  is : ending ≡ IsVerdict seen (Traced (is_some halt))
  alone : paths ≡ false → seen ≡ events_alone (trace o d cycles)

shown-so : (files : Files) (paths recursive : Bool) (cycles seed : ℕ) (o : Parts) (d : List (List ℤ))
    (halt : Option ℕ) (ending : Ending)
    → MayEnd (Holds files) (shows_on paths recursive cycles seed o d halt) ending
    → ShownSo paths o d cycles halt ending
shown-so files false recursive cycles seed o d halt ending comes = record {
  seen = events_alone (trace o d cycles);
  is = behind-it (Holds files) (shows_on false recursive cycles seed o d halt) ending comes;
  alone = λ e. refl;
}
shown-so files true recursive cycles seed o d halt ending comes =
    let asked = behind-it (Holds files) (shows_on true recursive cycles seed o d halt) ending comes in
    record {
      seen = asked.0;
      is = behind-it (Holds files) (Ends asked.0 (Traced (is_some halt))) ending asked.2;
      alone = λ e. absurd (true≢false e);
    }

pub traced-status : (halted : Bool) → verdict_status (Traced halted) ≡ done_status halted
traced-status true = refl
traced-status false = refl

-- what `run` leaves, and its status
record LeftSo (files : Files) (output : Text) (bytes : Option (List ℕ)) (ending : Ending) : Type 0 where
  status : (said_at ending).status ≡ done_status (is_some bytes)
  left : files_at ending files ≡ with_output output bytes files

written-so : (files : Files) (output bytes : List ℕ) (ending : Ending) (done : Done)
    → MayEnd (Holds files) (Writes output bytes done) ending → LeftSo files output (Some bytes) ending
written-so files output bytes ending done comes =
    let is = behind-it (Holds files) (Writes output bytes done) ending comes in
    record { status = ap (λ e. (said_at e).status) is; left = ap (λ e. files_at e files) is }

spent-so : (files : Files) (output : List ℕ) (most : ℕ) (ending : Ending)
    → MayEnd (Holds files) (Ends nothing_seen (Spent most)) ending → LeftSo files output None ending
spent-so files output most ending comes =
    let is = behind-it (Holds files) (Ends nothing_seen (Spent most)) ending comes in
    record { status = ap (λ e. (said_at e).status) is; left = ap (λ e. files_at e files) is }

halt-left : (files : Files) (output : Text) (cycles : ℕ) (o : Parts) (d : List (List ℤ)) (halt : Option ℕ)
    (ending : Ending) → MayEnd (Holds files) (on_halt o d output cycles halt) ending
    → LeftSo files output (option_map (λ (at : ℕ). run_outputs o d cycles) halt) ending
halt-left files output cycles o d (Some at) ending comes =
    written-so files output (run_outputs o d cycles) ending (Halted at) comes
halt-left files output cycles o d None ending comes = spent-so files output cycles ending comes

some-mapped : {A B : Type 0} (f : A → B) (a : Option A) → is_some (option_map f a) ≡ is_some a
some-mapped f None = refl
some-mapped f (Some x) = refl

left-so : (files : Files) (output : Text) (p : Source) (turns : ℕ) (left : Option Store) (ending : Ending)
    → MayEnd (Holds files) (on_left p output turns left) ending
    → LeftSo files output (option_map (output_of (declared_wants p.decls)) left) ending
left-so files output p turns (Some left) ending comes =
    written-so files output (output_of (declared_wants p.decls) left) ending Evaluated comes
left-so files output p turns None ending comes = spent-so files output turns ending comes

-- ---- each verb

-- what `compile` leaves, with the layout of its kind
pub record Compiled (procs fast : Bool) (files afterwards : Files) (source output : Text) (parts : List Part)
    : Type 0 where
  pub of : Compiles Accepts (SpellsProgram procs) files afterwards source output parts
  pub layout : HasLayoutFor fast of.object.p of.block_log of.object.o

module _ (words : List Text) (files afterwards : Files) (put : List ℕ) (status : ℕ)
    (called : Called words files afterwards put status) where
  pub check-safe : (object : Text) (parts : List Part) → Call words Check (object ∷ []) parts
      → status ≡ 0 → IsSafe files object
  check-safe object parts call zero =
      let end = ended words files afterwards put status called (inl zero) (check_work object)
      (asked-by words files afterwards put status called (codes "check") call.more call.are _ (words-ask works).check
      (check_work object) (record { name = object; parts = parts; says = call.says; is = refl })) in
      (checked-on files end.ending (done-ending words files afterwards put status called (inl zero) _ end) object
      (λ o. Ends nothing_seen Accepted) end.comes).safe

  pub checked : (object : Text) (parts : List Part) → Call words Check (object ∷ []) parts
      → status ≡ 0 → HoldsOblivious files object
  checked object parts call zero = safe-holds files object (check-safe object parts call zero)

  pub accepted : (object : Text) (parts : List Part) → Call words Check (object ∷ []) parts
      → status ≡ 0 → (o : Parts) × HoldsObject files object o × Accepts o
  accepted object parts call zero =
      let safe = check-safe object parts call zero in (safe.o, safe-object files object safe, safe.accepted)

  pub trace-safe : (object input : Text) (parts : List Part) → Call words Trace (object ∷ input ∷ []) parts
      → IsDone status → IsSafe files object
  trace-safe object input parts call done =
      let paths = has_flag (codes "paths") parts in
      let recursive = has_flag (codes "recursive") parts in
      let work = asked words files afterwards put status called done (codes "trace") call.more call.are in
      let given = trace-given works call.more object input parts work.0 call.says work.1 in
      let end = ended-by words files afterwards put status called done (codes "trace") call.more call.are work.0
      (trace_work object input given.0 given.1 paths recursive) work.1 given.4 in
      (checked-on files end.ending (done-ending words files afterwards put status called done _ end) object _
      end.comes).safe

  pub run-safe : (object input output : Text) (parts : List Part)
      → Call words Run (object ∷ input ∷ output ∷ []) parts → IsDone status → IsSafe files object
  run-safe object input output parts call done =
      let work = asked words files afterwards put status called done (codes "run") call.more call.are in
      let given = run-given works call.more object input output parts work.0 call.says work.1 in
      let end = ended-by words files afterwards put status called done (codes "run") call.more call.are work.0
      (run_work object input output given.0) work.1 given.4 in
      (checked-on files end.ending (done-ending words files afterwards put status called done _ end) object _
      end.comes).safe

  pub traced : (object input : Text) (parts : List Part)
      → Call words Trace (object ∷ input ∷ []) parts
      → IsDone status → Traces files object input parts put status
  traced object input parts call done =
      let paths = has_flag (codes "paths") parts in
      let recursive = has_flag (codes "recursive") parts in
      let work = asked words files afterwards put status called done (codes "trace") call.more call.are in
      let given = trace-given works call.more object input parts work.0 call.says work.1 in
      let cycles = given.0 in
      let end = ended-by words files afterwards put status called done (codes "trace") call.more call.are work.0
      (trace_work object input cycles given.1 paths recursive) work.1 given.4 in
      let next : Parts → List (List ℤ) → Option ℕ → Work = λ o d. shows_on paths recursive cycles given.1 o d in
      let run = ran files end.ending (done-ending words files afterwards put status called done _ end) object input
      cycles next end.comes in
      let shown = shown-so files paths recursive cycles given.1 run.safe.o run.inputs run.halt end.ending run.comes in
      record {
        of = has-run files object input parts status cycles next end.ending given.2 run
            (end.is ∙ ap (λ e. (said_at e).status) shown.is ∙ traced-status (is_some run.halt));
        is = λ without.
            end.text ∙ ap (λ e. (said_at e).text) shown.is
            ∙ ap (λ seen. (said_at (IsVerdict seen (Traced (is_some run.halt)))).text) (shown.alone without)
            ∙ text-alone (trace run.safe.o run.inputs cycles) (is_some run.halt);
      }

  pub run : (object input output : Text) (parts : List Part)
      → Call words Run (object ∷ input ∷ output ∷ []) parts
      → IsDone status → Runs files afterwards object input output parts status
  run object input output parts call done =
      let work = asked words files afterwards put status called done (codes "run") call.more call.are in
      let given = run-given works call.more object input output parts work.0 call.says work.1 in
      let cycles = given.0 in
      let end = ended-by words files afterwards put status called done (codes "run") call.more call.are work.0
      (run_work object input output cycles) work.1 given.4 in
      let next : Parts → List (List ℤ) → Option ℕ → Work = λ o d. on_halt o d output cycles in
      let of = ran files end.ending (done-ending words files afterwards put status called done _ end) object input
      cycles next end.comes in
      let left = halt-left files output cycles of.safe.o of.inputs of.halt end.ending of.comes in
      record {
        of = has-run files object input parts status cycles next end.ending given.2 of
            (end.is ∙ left.status
            ∙ ap done_status (some-mapped (λ (at : ℕ). run_outputs of.safe.o of.inputs cycles) of.halt));
        left = end.leaves ∙ left.left;
      }

  pub evaluated : (source input output : Text) (parts : List Part)
      → Call words Evaluate (source ∷ input ∷ output ∷ []) parts
      → IsDone status
      → Evaluates (SpellsProgram (has_flag (codes "procs") parts)) files afterwards source input output parts status
  evaluated source input output parts call done =
      let procs = has_flag (codes "procs") parts in
      let work = asked words files afterwards put status called done (codes "eval") call.more call.are in
      let given = evaluate-given works call.more source input output parts work.0 call.says work.1 in
      let turns = given.0 in
      let end = ended-by words files afterwards put status called done (codes "eval") call.more call.are work.0
      (evaluate_work source input output turns procs) work.1 given.2 in
      let over = done-ending words files afterwards put status called done _ end in
      let found = programmed-on files end.ending over procs source
      (λ p. with_variables (declared_wants p.decls) input (evaluates_on output turns p)) end.comes in
      let p = found.p in
      let wants = declared_wants p.decls in
      let held = given-on files end.ending over wants input (evaluates_on output turns p) found.comes in
      let asks = behind-it (Holds files) (evaluates_on output turns p held.inputs) end.ending held.comes in
      let left = left-so files output p turns asks.0 end.ending asks.2 in
      record {
        text = found.text;
        there = found.there;
        p = p;
        program = typed-program procs found.text p found.spells;
        store = held.inputs;
        given = held.given;
        turns = turns;
        within = given.1;
        left = end.leaves ∙ left.left
            ∙ ap (λ (l : Option Store). with_output output (option_map (output_of wants) l) files) (sym asks.1);
        done = end.is ∙ left.status ∙ ap done_status (some-mapped (output_of wants) asks.0)
            ∙ ap (λ (l : Option Store). done_status (is_some l)) (sym asks.1);
      }

  pub compiled : (source output : Text) (parts : List Part)
      → Call words Compile (source ∷ output ∷ []) parts → status ≡ 0
      → Compiled (has_flag (codes "procs") parts) (has_flag (codes "fast") parts) files afterwards source output parts
  unfolding compiled-program
  compiled source output parts call zero =
      let procs = has_flag (codes "procs") parts in
      let fast = has_flag (codes "fast") parts in
      let work = asked words files afterwards put status called (inl zero) (codes "compile") call.more call.are in
      let given = compile-given works call.more source output parts work.0 call.says work.1 in
      let target = target_for given.0 given.1 fast in
      let found = compiled-of called.promises.explained source output target procs
      (ap work_of call.are ∙ work.1 ∙ ap Some given.4) zero files called.tells.told in
      let file = found.2.file in
      record {
        of = record {
          text = found.2.text;
          there = found.2.there;
          block_log = given.0;
          window = given.1;
          sized = given.2;
          opened = given.3;
          bytes = file.bytes;
          written = written-is output file.bytes files afterwards
              (same_Some afterwards found.0 (sym called.tells.left ∙ found.1) ∙ file.written);
          object = compiled-program procs found.2.text file.p target file.bytes file.spells file.compiled;
          layout = λ plain. subst (λ (b : Bool). HasLayoutFor b file.p given.0 file.compiled.o) plain
              file.compiled.layout;
        };
        layout = file.compiled.layout;
      }

  pub inferred : (object output : Text) (parts : List Part)
      → Call words Infer (object ∷ output ∷ []) parts
      → status ≡ 0 → Infers files afterwards object output
  inferred object output parts call zero =
      let found = inferred-of called.promises.explained object output
      (asked-by words files afterwards put status called (codes "infer") call.more call.are _ (words-ask works).infer
      (infer_work object output)
      (record { first = object; second = output; parts = parts; says = call.says; is = refl })) zero files called.tells.told
      in
      let file = found.2 in
      let is = file.notes.inferred.is in
      let same = same_Some afterwards found.0 (sym called.tells.left ∙ found.1) in
      let there : HoldsObject afterwards output file.found =
      subst (λ (o : Parts). HoldsObject afterwards output o) file.same
      (subst (λ (fs : Files). HoldsObject fs output file.safe.o) (sym same)
      (safe-object found.0 output file.safe)) in
      record {
        o = file.o;
        held = record { bytes = file.bytes; there = file.there; spells = file.spells };
        notes = file.notes.inferred.notes;
        found = subst (λ (o : Parts). HoldsObject afterwards output o) is there;
        least = subst (λ (o : Parts). GetsNotes file.o o) is file.notes;
        oblivious = subst IsOblivious (file.same ∙ is) file.safe.oblivious;
      }
