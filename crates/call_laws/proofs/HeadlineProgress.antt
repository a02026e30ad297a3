-- Work that can be done is done, if no read, write or print failed and memory didn't run out.
use Rattle.std.proofs.Common.{◌≡◌, inl, inr, ℕ, ◌≤◌, ℤ, Bool, true, false, List, [], ◌∷◌, codes, length, Option, Some, None, is_some, Result, Ok, Err, refl, sym, ap, ◌∙◌, subst}
use Rattle.std.specs.FinMap.{get}
use Rattle.gr_outside.specs.Prelude.{Files}
use Rattle.gr_word.specs.declared.variables.Want.{Want}
use Rattle.lt_isa.specs.Prelude.{Parts, wants_of}
use Rattle.object_file.specs.declared.errors.DecodeError.{DecodeError}
use Rattle.flow_types.specs.Prelude.{declared_wants}
use Rattle.src_tree.specs.Prelude.{Source, Store}
use Rattle.trace_patterns.specs.Prelude.{Accepts}
use Rattle.trace_patterns.specs.declared.reasons.Reason.{Reason}
use Rattle.call_replies.specs.declared.replies.InputFault.{InputFault}
use Rattle.call_replies.specs.declared.replies.Verdict.TheVariants.{Accepted, BadInput, BadSource, Malformed, Traced}
use Rattle.call_replies.specs.declared.source_faults.SourceFault.{SourceFault}
use Rattle.command_words.specs.Prelude.{Call, Part, Text, block_log_given, has_flag, number_given, value_in, window_given}
use Rattle.command_words.specs.declared.verbs.Verb.TheVariants.{Check, Compile, Evaluate, Run, Trace}
use Rattle.command_words.specs.declared.windows.Window.{Window}
use Rattle.call_steps.specs.Prelude.{Asks, Ending, Ends, HasRoom, Holds, IsRight, MayEnd, Reads, Seen, Spells, WhetherAccepted, WhichCompiled, WhichInputs, WhichObject, WhichSource, Work, compiles_to, compile_work, input_limit, nothing_seen, object_limit, on_compiled, on_judged, or_ends, said_at, source_limit, target_for, with_accepted, with_source, with_variables}
use Rattle.call_steps.specs.declared.targets.Target.{Target}
use Rattle.machine_verbs.specs.Prelude.{on_halt, run_work, runs_on, shows_on, trace_work, traces_on}
use Rattle.call_laws.specs.Prelude.{AreRunOptions, Fails, GivesInputs, HoldsAccepted, HoldsProgram, IsDone, IsDoneOrStarved, MoreProgress, Progress, SucceedsOrStarves, check_work, done_status, evaluate_work, evaluates_on, on_left, work_of, works}
use Rattle.call_laws.proofs.HeadlineCalls.{Called, asked-by, ended}
use Rattle.call_laws.proofs.HeadlineVerbs.{traced-status}
use Rattle.call_laws.proofs.OneAnswers.{OfRead, Exceeds, Gives, Lacks, answer-of, inputs-once, judged-once, none-some, object-once, of-told, past-limit, some-once}
use Rattle.call_laws.proofs.OneRoom.{room-or-not}
use Rattle.call_laws.proofs.OneSourceFault.{source-once}
use Rattle.call_laws.proofs.Promised.{complete-of}
use Rattle.command_words.proofs.VerbWords.{words-ask}

-- ---- what a work has read and asked, if the files are known

module _ (files : Files) (ending : Ending) where
  read-known : (name : List ℕ) (limit : ℕ) (next : List ℕ → Work) (bytes : List ℕ) → get files name ≡ Some bytes
      → length bytes ≤ limit → MayEnd (Holds files) (Reads name limit next) ending
      → MayEnd (Holds files) (next bytes) ending
  read-known name limit next bytes there short comes =
      by ending (of-told files (Reads name limit next) ending comes)
    where
      by : (end : Ending) → OfRead files name limit next end → MayEnd (Holds files) (next bytes) end
      by end (Lacks none) = none-some (get files name) bytes none there
      by end (Exceeds other gives long) =
          past-limit (length other) limit long
          (subst (λ (l : List ℕ). length l ≤ limit) (some-once (get files name) bytes other there gives) short)
      by end (Gives other end' gives few more) =
          subst (λ (l : List ℕ). MayEnd (Holds files) (next l) end) (some-once (get files name) other bytes gives there)
          more

  accepted-known : (object : Text) (next : Parts → Work) (o : Parts) → HoldsAccepted Accepts files object o
      → MayEnd (Holds files) (with_accepted object next) ending → MayEnd (Holds files) (next o) ending
  accepted-known object next o holds comes =
      let read = read-known object object_limit _ holds.bytes holds.there holds.short comes in
      let asked = of-told files
      (Asks (WhichObject holds.bytes) (or_ends Malformed (λ p. Asks (WhetherAccepted p) (on_judged (next p))))) ending
      read in
      let judged = of-told files (Asks (WhetherAccepted o) (on_judged (next o))) ending
      (subst (λ (a : Result Parts DecodeError).
      MayEnd (Holds files) (or_ends Malformed (λ p. Asks (WhetherAccepted p) (on_judged (next p))) a) ending)
      (object-once holds.bytes asked.0 (Ok o) asked.1 holds.spells) asked.2) in
      subst (λ (a : Option (ℕ × Reason)). MayEnd (Holds files) (on_judged (next o) a) ending)
      (judged-once o judged.0 None judged.1 holds.accepted) judged.2

  inputs-known : (wants : List Want) (input : Text) (next : List (List ℤ) → Work) (d : List (List ℤ))
      → GivesInputs files input wants d → MayEnd (Holds files) (with_variables wants input next) ending
      → MayEnd (Holds files) (next d) ending
  inputs-known wants input next d gives comes =
      let json = gives.held.json in
      let read = read-known input input_limit _ json gives.held.there gives.short comes in
      let asked = of-told files (Asks (WhichInputs wants json) (or_ends BadInput next)) ending read in
      subst (λ (a : Result (List (List ℤ)) InputFault). MayEnd (Holds files) (or_ends BadInput next a) ending)
      (inputs-once wants json asked.0 (Ok d) asked.1 gives.held.given) asked.2

  source-known : (procs : Bool) (source : Text) (next : Source → Work) (p : Source)
      → HoldsProgram (Spells procs) files source p → MayEnd (Holds files) (with_source procs source next) ending
      → MayEnd (Holds files) (next p) ending
  source-known procs source next p holds comes =
      let read = read-known source source_limit _ holds.text holds.there holds.short comes in
      let asked = of-told files (Asks (WhichSource procs holds.text) (or_ends BadSource next)) ending read in
      subst (λ (a : Result Source SourceFault). MayEnd (Holds files) (or_ends BadSource next a) ending)
      (source-once procs holds.text asked.0 (Ok p) asked.1
      (record { spells = holds.program; typed = holds.typed; within = holds.within })) asked.2

  -- ---- how the rest ends

  halted-done : (o : Parts) (d : List (List ℤ)) (output : Text) (cycles : ℕ) (halt : Option ℕ)
      → MayEnd (Holds files) (on_halt o d output cycles halt) ending → IsDone (said_at ending).status
  halted-done o d output cycles (Some at) comes =
      inl (ap (λ (e : Ending). (said_at e).status) (of-told files (on_halt o d output cycles (Some at)) ending comes))
  halted-done o d output cycles None comes =
      inr (ap (λ (e : Ending). (said_at e).status) (of-told files (on_halt o d output cycles None) ending comes))

  status-done : (halted : Bool) → IsDone (done_status halted)
  status-done true = inl refl
  status-done false = inr refl

  verdict-done : (seen : Seen) (halted : Bool) → MayEnd (Holds files) (Ends seen (Traced halted)) ending
      → IsDone (said_at ending).status
  verdict-done seen halted comes =
      subst IsDone
      (sym (ap (λ (e : Ending). (said_at e).status) (of-told files (Ends seen (Traced halted)) ending comes)
      ∙ traced-status halted)) (status-done halted)

  shown-done : (paths recursive : Bool) (cycles seed : ℕ) (o : Parts) (d : List (List ℤ)) (halt : Option ℕ)
      → MayEnd (Holds files) (shows_on paths recursive cycles seed o d halt) ending → IsDone (said_at ending).status
  shown-done false recursive cycles seed o d halt comes = verdict-done _ (is_some halt) comes
  shown-done true recursive cycles seed o d halt comes =
      let asked = of-told files (shows_on true recursive cycles seed o d halt) ending comes in
      verdict-done asked.0 (is_some halt) asked.2

  left-done : (p : Source) (output : Text) (turns : ℕ) (left : Option Store)
      → MayEnd (Holds files) (on_left p output turns left) ending → IsDone (said_at ending).status
  left-done p output turns (Some left) comes =
      inl (ap (λ (e : Ending). (said_at e).status) (of-told files (on_left p output turns (Some left)) ending comes))
  left-done p output turns None comes =
      inr (ap (λ (e : Ending). (said_at e).status) (of-told files (on_left p output turns None) ending comes))

  compiled-zero : (p : Source) (target : Target) (output : Text) → HasRoom target.fast p target.profile.block_log
      → MayEnd (Holds files) (compiles_to output target p) ending → (said_at ending).status ≡ 0
  compiled-zero p target output room comes =
      let asked = of-told files (compiles_to output target p) ending comes in by asked.0 asked.1 asked.2
    where
      by : (a : Result (List ℕ) SourceFault) → IsRight (WhichCompiled p target) a
          → MayEnd (Holds files) (on_compiled output a) ending → (said_at ending).status ≡ 0
      by (Ok bytes) right more =
          ap (λ (e : Ending). (said_at e).status) (of-told files (on_compiled output (Ok bytes)) ending more)
      by (Err fault) lacks more =
          absurd (room-or-not target.fast p target.profile.block_log lacks.0 fault room lacks.1 lacks.2)

-- ---- calls

module _ (words : List Text) (files afterwards : Files) (put : List ℕ) (status : ℕ)
    (called : Called words files afterwards put status) (calm : Fails called.before called.after → ⊥) where
  finishes : (work : Work) → work_of words ≡ Some work
      → ((ending : Ending) → MayEnd (Holds files) work ending → IsDone (said_at ending).status)
      → IsDoneOrStarved status
  finishes work is all =
      complete-of called.promises.explained files called.tells.told
      (λ said left answer.
      let of = answer-of files (work_of words) said left answer work is in
      subst IsDone (sym (ap (λ s. s.status) of.is)) (all of.ending of.comes))
      (λ rose. calm (inl rose)) (λ rose. calm (inr (inl rose))) (λ rose. calm (inr (inr rose)))

  succeeds : (work : Work) → work_of words ≡ Some work
      → ((ending : Ending) → MayEnd (Holds files) work ending → (said_at ending).status ≡ 0)
      → SucceedsOrStarves status
  succeeds work is all = elim (finishes work is (λ ending comes. inl (all ending comes))) [
    | inl done ↦
        let end = ended words files afterwards put status called done work is in
        inl (end.is ∙ all end.ending end.comes)
    | inr starved ↦ inr starved
  ]

  pub check : (object : Text) (parts : List Part) (o : Parts) → Call words Check (object ∷ []) parts
      → HoldsAccepted Accepts files object o → SucceedsOrStarves status
  check object parts o call holds =
      succeeds (check_work object)
      (asked-by words files afterwards put status called (codes "check") call.more call.are _ (words-ask works).check
      (check_work object) (record { name = object; parts = parts; says = call.says; is = refl }))
      (λ ending comes.
      ap (λ (e : Ending). (said_at e).status)
      (of-told files (Ends nothing_seen Accepted) ending
      (accepted-known files ending object (λ p. Ends nothing_seen Accepted) o holds comes)))

  pub trace : (object input : Text) (parts : List Part) (o : Parts) (inputs : List (List ℤ))
      → Call words Trace (object ∷ input ∷ []) parts → AreRunOptions parts
      → HoldsAccepted Accepts files object o → GivesInputs files input (wants_of o) inputs → IsDoneOrStarved status
  trace object input parts o inputs call options holds gives =
      let paths = has_flag (codes "paths") parts in
      let recursive = has_flag (codes "recursive") parts in
      let cycles = options.cycles in
      let seed = options.seed in
      finishes (trace_work object input cycles seed paths recursive)
      (asked-by words files afterwards put status called (codes "trace") call.more call.are _ (words-ask works).trace
      (trace_work object input cycles seed paths recursive)
      (record {
        object = object;
        input = input;
        parts = parts;
        cycles = cycles;
        seed = seed;
        says = call.says;
        cycles_given = options.within;
        seed_is = options.seeded;
        is = refl;
      }))
      (λ ending comes.
      let asked = of-told files (traces_on paths recursive cycles seed o inputs) ending
      (inputs-known files ending (wants_of o) input (traces_on paths recursive cycles seed o) inputs gives
      (accepted-known files ending object _ o holds comes)) in
      shown-done files ending paths recursive cycles seed o inputs asked.0 asked.2)

  pub run : (object input output : Text) (parts : List Part) (o : Parts) (inputs : List (List ℤ))
      → Call words Run (object ∷ input ∷ output ∷ []) parts → AreRunOptions parts
      → HoldsAccepted Accepts files object o → GivesInputs files input (wants_of o) inputs → IsDoneOrStarved status
  run object input output parts o inputs call options holds gives =
      let cycles = options.cycles in
      finishes (run_work object input output cycles)
      (asked-by words files afterwards put status called (codes "run") call.more call.are _ (words-ask works).run
      (run_work object input output cycles)
      (record {
        object = object;
        input = input;
        output = output;
        parts = parts;
        cycles = cycles;
        seed = options.seed;
        says = call.says;
        cycles_given = options.within;
        seed_is = options.seeded;
        is = refl;
      }))
      (λ ending comes.
      let asked = of-told files (runs_on output cycles o inputs) ending
      (inputs-known files ending (wants_of o) input (runs_on output cycles o) inputs gives
      (accepted-known files ending object _ o holds comes)) in
      halted-done files ending o inputs output cycles asked.0 asked.2)

  compile-any : (source output : Text) (parts : List Part) (p : Source) (block_log : ℕ) (window : Window)
      → Call words Compile (source ∷ output ∷ []) parts
      → block_log_given (value_in (codes "block-log") parts) ≡ Some block_log
      → window_given (value_in (codes "window") parts) ≡ Some window
      → HoldsProgram (Spells (has_flag (codes "procs") parts)) files source p
      → HasRoom (has_flag (codes "fast") parts) p block_log → SucceedsOrStarves status
  compile-any source output parts p block_log window call sized opened holds room =
      let procs = has_flag (codes "procs") parts in
      let target = target_for block_log window (has_flag (codes "fast") parts) in
      succeeds (compile_work source output target procs)
      (asked-by words files afterwards put status called (codes "compile") call.more call.are _
      (words-ask works).compile (compile_work source output target procs)
      (record {
        source = source;
        output = output;
        parts = parts;
        block_log = block_log;
        window = window;
        says = call.says;
        block_log_is = sized;
        window_is = opened;
        is = refl;
      }))
      (λ ending comes.
      compiled-zero files ending p target output room
      (source-known files ending procs source (compiles_to output target) p holds comes))

  evaluate-any : (source input output : Text) (parts : List Part) (p : Source) (turns : ℕ) (inputs : List (List ℤ))
      → Call words Evaluate (source ∷ input ∷ output ∷ []) parts
      → number_given (value_in (codes "turns") parts) ≡ Some turns
      → HoldsProgram (Spells (has_flag (codes "procs") parts)) files source p
      → GivesInputs files input (declared_wants p.decls) inputs → IsDoneOrStarved status
  evaluate-any source input output parts p turns inputs call given holds gives =
      let procs = has_flag (codes "procs") parts in
      finishes (evaluate_work source input output turns procs)
      (asked-by words files afterwards put status called (codes "eval") call.more call.are _
      (words-ask works).evaluate (evaluate_work source input output turns procs)
      (record {
        source = source;
        input = input;
        output = output;
        parts = parts;
        turns = turns;
        says = call.says;
        turns_given = given;
        is = refl;
      }))
      (λ ending comes.
      let asked = of-told files (evaluates_on output turns p inputs) ending
      (inputs-known files ending (declared_wants p.decls) input (evaluates_on output turns p) inputs gives
      (source-known files ending procs source _ p holds comes)) in
      left-done files ending p output turns asked.0 asked.2)

  pub progress : Progress Accepts words files status
  progress = record {
    check = check;
    trace = trace;
    run = run;
    compile = λ source output parts p block_log window call plain slow sized opened holds room.
        compile-any source output parts p block_log window call sized opened
        (subst (λ (b : Bool). HoldsProgram (Spells b) files source p) (sym plain) holds)
        (subst (λ (b : Bool). HasRoom b p block_log) (sym slow) room);
    evaluate = λ source input output parts p turns inputs call plain given holds gives.
        evaluate-any source input output parts p turns inputs call given
        (subst (λ (b : Bool). HoldsProgram (Spells b) files source p) (sym plain) holds) gives;
  }

  pub more-progress : MoreProgress words files status
  more-progress = record { compile = compile-any; evaluate = evaluate-any }
