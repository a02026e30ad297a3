-- The calls of a shelf that follow a verb's work are those of its files in their order.
use Rattle.std.proofs.Common.{◌≡◌, ◌⊎◌, inl, inr, ℕ, ◌+◌, ℤ, Bool, true, false, cond, List, [], ◌∷◌, codes, length, Option, Some, None, if◌then◌else◌, Result, Ok, Err, refl, sym, ap, ◌∙◌, subst, arith}
use Rattle.std.specs.Prelude.{nat_lt}
use Rattle.std.specs.Option.{option_map}
use Rattle.std.proofs.lemmas.Option.{same_Some}
use Rattle.gr_outside.specs.Prelude.{Log, logged, read_of}
use Rattle.gr_word.specs.declared.variables.Want.{Want}
use Rattle.lt_isa.specs.Prelude.{Parts}
use Rattle.src_tree.specs.Prelude.{Source}
use Rattle.trace_patterns.specs.declared.reasons.Reason.{Reason}
use Rattle.bus_arbiter.specs.declared.errors.BusError.{BusError}
use Rattle.bus_arbiter.specs.Prelude.{refusal, share_of}
use Rattle.note_infer.specs.declared.faults.InferError.{InferError}
use Rattle.call_replies.specs.declared.replies.Verdict.{Verdict}
use Rattle.call_replies.specs.declared.replies.Done.{Done}
use Rattle.call_replies.specs.declared.source_faults.SourceFault.{SourceFault}
use Rattle.command_words.specs.Prelude.{AreTexts, Part, Says, Text, Pair, in_pairs, pairs_of, flags_of, name_of, options_of, texts}
use Rattle.command_words.specs.declared.verbs.Verb.{Verb}
use Rattle.command_words.specs.declared.verbs.Verb.TheVariants.{Assemble, Bus, Check, Compile, Disassemble, Evaluate, Infer, Run, Sample, Trace}
use Rattle.call_steps.specs.declared.targets.Target.{Target}
use Rattle.call_laws.specs.Prelude.{assemble_work, check_work, disassemble_work, evaluate_work, on_left, infer_work, on_inferred, on_sampled, sample_work, work_of, works}
use Rattle.machine_verbs.specs.Prelude.{Read, bus_work, none_read, on_plan, one_read, shares_bus, with_cores, with_halts, on_halt, run_work, shows_on, trace_work}
use Rattle.call_steps.specs.Prelude.{AsksOn, CallsOf, Follows, HasCalls, Judges, Makes, NoCalls, ReadFails, ReadsMore, ReadsOn, ReadStarves, StopsHere, TriesWrite, WriteFails, WritesLast, Ending, compile_work, on_compiled, AreFiles, CallsItsFiles, FailsToRead, InOrder, NoFurther, ReadsNext, WritesOutput, Made, Answer, Question, on_judged, or_ends, with_accepted, with_assembly, with_object, with_source, with_variables, Asks, Ends, Reads, Work, Writes}
use Rattle.command_words.proofs.VerbWords.{words-ask}
use Rattle.call_laws.proofs.EachVerb.{asks-nothing, each-verb}
use Rattle.std.specs.Borrow.{Bor}

-- ---- the calls that follow a work, by its kind

abbrev OfCalls : Work → Log → Log → Type 0
OfCalls (Ends seen verdict) before after = after ≡ before
OfCalls (Writes name bytes done) before after = TriesWrite name bytes before after
OfCalls (Reads name limit next) before after =
    (after ≡ before) ⊎ (after ≡ logged (read_of name None) before)
    ⊎ ((bytes : List ℕ) × (between : Log) × (between ≡ logged (read_of name (Some bytes)) before)
    × ((after ≡ between) ⊎ HasCalls (next bytes) between after))
OfCalls (Asks question next) before after =
    (after ≡ before) ⊎ ((answer : Answer question) × HasCalls (next answer) before after)

no-calls : (work : Work) (log : Log) → OfCalls work log log
no-calls (Ends seen verdict) log = refl
no-calls other log = inl refl

of-follows : (work : Work) (ending : Option Ending) (before after : Log) → Follows work ending before after
    → OfCalls work before after
of-follows work ending before after (StopsHere work' log) = no-calls work before
of-follows work ending before after (Judges seen verdict log) = refl
of-follows work ending before after (ReadFails name limit next before' after' noted) = inr (inl noted)
of-follows work ending before after (ReadStarves name limit next before' after' noted) = inr (inl noted)
of-follows work ending before after (ReadsMore name limit next bytes before' after' noted long) =
    inr (inr (bytes, after, noted, inl refl))
of-follows work ending before after (ReadsOn name limit next bytes ending' before' between after' noted short rest) =
    inr (inr (bytes, between, noted, inr (ending, rest)))
of-follows work ending before after (AsksOn question next answer ending' before' after' right rest) =
    inr (answer, (ending, rest))
of-follows work ending before after (WritesLast name bytes done before' after' noted) = inr (true, noted)
of-follows work ending before after (WriteFails name bytes done before' after' noted) = inr (false, noted)

of-calls : (work : Work) (before after : Log) → HasCalls work before after → OfCalls work before after
of-calls work before after calls = of-follows work calls.0 before after calls.1

-- ---- each work reads its files in their order

-- the files of pairs
abbrev files_in : List Pair → List Text
files_in [] = []
files_in (pair ∷ pairs) = pair.object ∷ pair.input ∷ files_in pairs

module _ (output : Option Text) where
  abbrev pub InTurn : List Text → Work → Type 0
  InTurn files work = (before after : Log) → HasCalls work before after → InOrder output files before after

  stays : (files : List Text) (before after : Log) → after ≡ before → InOrder output files before after
  stays files before after same = subst (λ (l : Log). InOrder output files before l) (sym same) (NoFurther files before)

  ending : (files : List Text) (seen : _) (verdict : _) → InTurn files (Ends seen verdict)
  ending files seen verdict before after follows =
      stays files before after (of-calls (Ends seen verdict) before after follows)

  writes : (name : Text) → output ≡ Some name → (bytes : List ℕ) (done : Done) → InTurn [] (Writes name bytes done)
  writes name is bytes done before after follows = go (of-calls (Writes name bytes done) before after follows)
    where
      go : TriesWrite name bytes before after → InOrder output [] before after
      go (inl same) = stays [] before after same
      go (inr call) = WritesOutput name (if call.0 then Some bytes else None) before after is call.1

  reads : (name : Text) (files : List Text) (limit : ℕ) (next : List ℕ → Work)
      → ((bytes : List ℕ) → InTurn files (next bytes)) → InTurn (name ∷ files) (Reads name limit next)
  reads name files limit next all before after follows = go (of-calls (Reads name limit next) before after follows)
    where
      go : OfCalls (Reads name limit next) before after → InOrder output (name ∷ files) before after
      go (inl same) = stays (name ∷ files) before after same
      go (inr (inl failed)) = FailsToRead name files before after failed
      go (inr (inr on)) =
          ReadsNext name on.0 files before on.1 after on.2
          (elim on.3 [ inl same ↦ stays files on.1 after same | inr rest ↦ all on.0 on.1 after rest ])

  asks : (files : List Text) (question : Question) (next : Answer question → Work)
      → ((answer : Answer question) → InTurn files (next answer)) → InTurn files (Asks question next)
  asks files question next all before after follows = go (of-calls (Asks question next) before after follows)
    where
      go : OfCalls (Asks question next) before after → InOrder output files before after
      go (inl same) = stays files before after same
      go (inr on) = all on.0 before after on.1

  or-ends : {X E : Type 0} (files : List Text) (verdict : E → Verdict) (next : X → Work) → ((x : X) → InTurn files (next x))
      → (r : Result X E) → InTurn files (or_ends verdict next r)
  or-ends files verdict next all (Ok x) = all x
  or-ends files verdict next all (Err e) = ending files _ _

  judged : (files : List Text) (next : Work) → InTurn files next → (r : Option (ℕ × Reason))
      → InTurn files (on_judged next r)
  judged files next all None = all
  judged files next all (Some r) = ending files _ _

  object : (name : Text) (files : List Text) (next : Parts → Work) → ((o : Parts) → InTurn files (next o))
      → InTurn (name ∷ files) (with_object name next)
  object name files next all = reads name files _ _ (λ bytes. asks files _ _ (or-ends files _ next all))

  accepted : (name : Text) (files : List Text) (next : Parts → Work) → ((o : Parts) → InTurn files (next o))
      → InTurn (name ∷ files) (with_accepted name next)
  accepted name files next all = object name files _ (λ o. asks files _ _ (judged files (next o) (all o)))

  assembly : (name : Text) (files : List Text) (next : Parts → Work) → ((o : Parts) → InTurn files (next o))
      → InTurn (name ∷ files) (with_assembly name next)
  assembly name files next all = reads name files _ _ (λ text. asks files _ _ (or-ends files _ next all))

  source : (procs : Bool) (name : Text) (files : List Text) (next : Source → Work)
      → ((p : Source) → InTurn files (next p)) → InTurn (name ∷ files) (with_source procs name next)
  source procs name files next all = reads name files _ _ (λ text. asks files _ _ (or-ends files _ next all))

  inputs : (wants : List Want) (name : Text) (files : List Text) (next : List (List ℤ) → Work)
      → ((d : List (List ℤ)) → InTurn files (next d)) → InTurn (name ∷ files) (with_variables wants name next)
  inputs wants name files next all = reads name files _ _ (λ json. asks files _ _ (or-ends files _ next all))

  check-turn : (name : Text) → InTurn (name ∷ []) (check_work name)
  check-turn name = accepted name [] _ (λ o. ending [] _ _)

  shows : (paths recursive : Bool) (cycles seed : ℕ) (o : Parts) (d : List (List ℤ)) (halt : Option ℕ)
      → InTurn [] (shows_on paths recursive cycles seed o d halt)
  shows false recursive cycles seed o d halt = ending [] _ _
  shows true recursive cycles seed o d halt = asks [] _ _ (λ seen. ending [] _ _)

  trace-turn : (name input : Text) (cycles seed : ℕ) (paths recursive : Bool)
      → InTurn (name ∷ input ∷ []) (trace_work name input cycles seed paths recursive)
  trace-turn name input cycles seed paths recursive =
      accepted name (input ∷ []) _ (λ o. inputs _ input [] _ (λ d.
      asks [] _ _ (shows paths recursive cycles seed o d)))

  plans : (files : List Text) (k : ℕ) (found : Option BusError) (next : Work) → InTurn files next
      → InTurn files (on_plan k found next)
  plans files k None next all = all
  plans files k (Some cause) next all = ending files _ _

  cores : (pairs : List Pair) (k : ℕ) (read : Read) (next : Read → Work) → ((r : Read) → InTurn [] (next r))
      → InTurn (files_in pairs) (with_cores pairs k read next)
  cores [] k read next all = all read
  cores (pair ∷ pairs) k read next all =
      accepted pair.object (pair.input ∷ files_in pairs) _ (λ o.
      plans (pair.input ∷ files_in pairs) k (refusal read.plan (share_of o)) _
      (inputs _ pair.input (files_in pairs) _ (λ d. cores pairs (k + 1) (one_read read o d) next all)))

  halting : (n : ℕ) (os : List Parts) (ds : List (List (List ℤ))) (next : List (Option ℕ) → Work)
      → ((hs : List (Option ℕ)) → InTurn [] (next hs)) → InTurn [] (with_halts n os ds next)
  halting n [] ds next all = all []
  halting n (o ∷ os) [] next all = all []
  halting n (o ∷ os) (d ∷ ds) next all =
      asks [] _ _ (λ halt. halting n os ds (λ more. next (halt ∷ more)) (λ more. all (halt ∷ more)))

  bus-turn : (pairs : List Pair) (cycles : ℕ) → InTurn (files_in pairs) (bus_work pairs cycles)
  bus-turn pairs cycles =
      cores pairs 0 none_read (shares_bus cycles)
      (λ r. halting cycles r.objects r.inputs _ (λ halts. asks [] _ _ (λ joined. ending [] _ _)))

  module _ (name : Text) (is : output ≡ Some name) where
    halt-turn : (o : Parts) (d : List (List ℤ)) (cycles : ℕ) (halt : Option ℕ)
        → InTurn [] (on_halt o d name cycles halt)
    halt-turn o d cycles (Some at) = writes name is _ _
    halt-turn o d cycles None = ending [] _ _

    run-turn : (object input : Text) (cycles : ℕ) → InTurn (object ∷ input ∷ []) (run_work object input name cycles)
    run-turn object input cycles =
        accepted object (input ∷ []) _ (λ o. inputs _ input [] _ (λ d. asks [] _ _ (halt-turn o d cycles)))

    assemble-turn : (text : Text) → InTurn (text ∷ []) (assemble_work text name)
    assemble-turn text = assembly text [] _ (λ o. writes name is _ _)

    disassemble-turn : (object : Text) → InTurn (object ∷ []) (disassemble_work object name)
    disassemble-turn from = object from [] _ (λ o. writes name is _ _)

    left-turn : (p : Source) (turns : ℕ) (left : Option (List (List ℤ))) → InTurn [] (on_left p name turns left)
    left-turn p turns (Some left) = writes name is _ _
    left-turn p turns None = ending [] _ _

    evaluate-turn : (from input : Text) (turns : ℕ) (procs : Bool)
        → InTurn (from ∷ input ∷ []) (evaluate_work from input name turns procs)
    evaluate-turn from input turns procs =
        source procs from (input ∷ []) _ (λ p. inputs _ input [] _ (λ d. asks [] _ _ (left-turn p turns)))

    compiled-turn : (r : Result (List ℕ) SourceFault) → InTurn [] (on_compiled name r)
    compiled-turn (Ok bytes) = writes name is _ _
    compiled-turn (Err fault) = ending [] _ _

    compile-turn : (from : Text) (target : Target) (procs : Bool)
        → InTurn (from ∷ []) (compile_work from name target procs)
    compile-turn from target procs = source procs from [] _ (λ p. asks [] _ _ compiled-turn)

    sampled-turn : (n : ℕ) (made : Made) (halt : Option ℕ) → InTurn [] (on_sampled n name made halt)
    sampled-turn n made (Some at) = writes name is _ _
    sampled-turn n made None = ending [] _ _

    sample-turn : (fast : Bool) (n : ℕ) → InTurn [] (sample_work fast n name)
    sample-turn fast n = asks [] _ _ (λ made. asks [] _ _ (sampled-turn n made))

    inferred-turn : (r : Result Parts InferError) → InTurn [] (on_inferred name r)
    inferred-turn (Ok found) = writes name is _ _
    inferred-turn (Err why) = ending [] _ _

    infer-turn : (from : Text) → InTurn (from ∷ []) (infer_work from name)
    infer-turn from = object from [] _ (λ o. asks [] _ _ inferred-turn)

-- ---- the words

-- the names of pairs are their files
in-more : (object input : Text) (more : List Text) (rest : Option (List Pair)) → in_pairs more ≡ rest
    → ((pairs : List Pair) → in_pairs more ≡ Some pairs → more ≡ files_in pairs) → (pairs : List Pair)
    → option_map (λ (ps : List Pair). record { object = object; input = input } ∷ ps) rest ≡ Some pairs
    → object ∷ input ∷ more ≡ files_in pairs
in-more object input more None known later pairs none =
    absurd (let f : ◌≡◌ {A = Option (List Pair)} None (Some pairs) = none in cc)
in-more object input more (Some ps) known later pairs some =
    ap (λ (files : List Text). object ∷ input ∷ files) (later ps known)
    ∙ ap files_in (same_Some (record { object = object; input = input } ∷ ps) pairs some)

in-pairs : (names : List Text) (pairs : List Pair) → in_pairs names ≡ Some pairs → names ≡ files_in pairs
in-pairs [] pairs is = ap files_in (same_Some [] pairs is)
in-pairs (object ∷ []) pairs is = absurd (let f : ◌≡◌ {A = Option (List Pair)} None (Some pairs) = is in cc)
in-pairs (object ∷ input ∷ more) pairs is =
    in-more object input more (in_pairs more) refl (in-pairs more) pairs is

in-names : (names : List Text) (pairs : List Pair) → pairs_of names ≡ Some pairs → names ≡ files_in pairs
in-names names pairs is = by (nat_lt 16 (length names)) is
  where
    by : (b : Bool) → cond b None (in_pairs names) ≡ Some pairs → names ≡ files_in pairs
    by true none = absurd (let f : ◌≡◌ {A = Option (List Pair)} None (Some pairs) = none in cc)
    by false some = in-pairs names pairs some

calls-files : (verb : Verb) (more names files : List Text) (parts : List Part) (output : Option Text)
    (before after : Log) → Says (options_of verb) (flags_of verb) more names parts → AreFiles verb names files output
    → InOrder output files before after → CallsItsFiles (name_of verb ∷ more) before after
calls-files verb more names files parts output before after says are ordered = record {
  verb = verb;
  names = names;
  parts = parts;
  call = record { more = more; are = refl; says = says };
  files = files;
  output = output;
  are = are;
  order = ordered;
}

module _ (more : List Text) (texts : AreTexts more) (work : Work) (before after : Log)
    (follows : HasCalls work before after) where
  abbrev OfVerb : Text → Type 0
  OfVerb verb = work_of (verb ∷ more) ≡ Some work → CallsItsFiles (verb ∷ more) before after

  in-turn : (output : Option Text) (files : List Text) (other : Work) → work ≡ other → InTurn output files other
      → InOrder output files before after
  in-turn output files other same turn =
      turn before after (subst (λ (w : Work). HasCalls w before after) same follows)

  of-check : OfVerb (codes "check")
  of-check asked =
      let a = ((words-ask works).check more work texts).0 asked in
      calls-files Check more (a.name ∷ []) (a.name ∷ []) a.parts None before after a.says (refl, refl)
      (in-turn None (a.name ∷ []) (check_work a.name) a.is (check-turn None a.name))

  of-trace : OfVerb (codes "trace")
  of-trace asked =
      let a = ((words-ask works).trace more work texts).0 asked in
      calls-files Trace more (a.object ∷ a.input ∷ []) (a.object ∷ a.input ∷ []) a.parts None before after a.says
      (refl, refl)
      (in-turn None (a.object ∷ a.input ∷ []) _ a.is (trace-turn None a.object a.input a.cycles a.seed _ _))

  of-run : OfVerb (codes "run")
  of-run asked =
      let a = ((words-ask works).run more work texts).0 asked in
      calls-files Run more (a.object ∷ a.input ∷ a.output ∷ []) (a.object ∷ a.input ∷ []) a.parts (Some a.output)
      before after a.says refl
      (in-turn (Some a.output) (a.object ∷ a.input ∷ []) _ a.is
      (run-turn (Some a.output) a.output refl a.object a.input a.cycles))

  of-assemble : OfVerb (codes "asm")
  of-assemble asked =
      let a = ((words-ask works).assemble more work texts).0 asked in
      calls-files Assemble more (a.first ∷ a.second ∷ []) (a.first ∷ []) a.parts (Some a.second) before after a.says
      refl
      (in-turn (Some a.second) (a.first ∷ []) _ a.is (assemble-turn (Some a.second) a.second refl a.first))

  of-disassemble : OfVerb (codes "dis")
  of-disassemble asked =
      let a = ((words-ask works).disassemble more work texts).0 asked in
      calls-files Disassemble more (a.first ∷ a.second ∷ []) (a.first ∷ []) a.parts (Some a.second) before after
      a.says refl
      (in-turn (Some a.second) (a.first ∷ []) _ a.is (disassemble-turn (Some a.second) a.second refl a.first))

  of-evaluate : OfVerb (codes "eval")
  of-evaluate asked =
      let a = ((words-ask works).evaluate more work texts).0 asked in
      calls-files Evaluate more (a.source ∷ a.input ∷ a.output ∷ []) (a.source ∷ a.input ∷ []) a.parts (Some a.output)
      before after a.says refl
      (in-turn (Some a.output) (a.source ∷ a.input ∷ []) _ a.is
      (evaluate-turn (Some a.output) a.output refl a.source a.input a.turns _))

  of-compile : OfVerb (codes "compile")
  of-compile asked =
      let a = ((words-ask works).compile more work texts).0 asked in
      calls-files Compile more (a.source ∷ a.output ∷ []) (a.source ∷ []) a.parts (Some a.output) before after a.says
      refl
      (in-turn (Some a.output) (a.source ∷ []) _ a.is (compile-turn (Some a.output) a.output refl a.source _ _))

  of-sample : OfVerb (codes "sample")
  of-sample asked =
      let a = ((words-ask works).sample more work texts).0 asked in
      calls-files Sample more (a.number ∷ a.output ∷ []) [] a.parts (Some a.output) before after a.says
      (refl, a.number, refl)
      (in-turn (Some a.output) [] _ a.is (sample-turn (Some a.output) a.output refl _ a.items))

  of-bus : OfVerb (codes "bus")
  of-bus asked =
      let a = ((words-ask works).bus more work texts).0 asked in
      calls-files Bus more a.names (files_in (a.first ∷ a.more)) a.parts None before after a.says
      (in-names a.names (a.first ∷ a.more) a.pairs_are, refl)
      (in-turn None (files_in (a.first ∷ a.more)) _ a.is (bus-turn None (a.first ∷ a.more) a.cycles))

  of-infer : OfVerb (codes "infer")
  of-infer asked =
      let a = ((words-ask works).infer more work texts).0 asked in
      calls-files Infer more (a.first ∷ a.second ∷ []) (a.first ∷ []) a.parts (Some a.second) before after a.says refl
      (in-turn (Some a.second) (a.first ∷ []) _ a.is (infer-turn (Some a.second) a.second refl a.first))

  of-verb : (verb : Text) → OfVerb verb
  of-verb =
      each-verb (λ (verb : Text). OfVerb verb) of-check of-trace of-run of-assemble of-disassemble of-evaluate
      of-compile of-sample of-bus of-infer
      (λ verb unknown asked. absurd (asks-nothing verb more work unknown asked))

calls-named : (words : List Text) → AreTexts words → (work : Work) → work_of words ≡ Some work → (before after : Log)
    → HasCalls work before after → CallsItsFiles words before after
calls-named [] texts work asked before after follows =
    absurd (let f : ◌≡◌ {A = Option Work} None (Some work) = sym (words-ask works).no_words ∙ asked in cc)
calls-named (verb ∷ more) texts work asked before after follows =
    of-verb more texts.1 work before after follows verb asked

-- the calls of the work that words ask for are those of the files that the words name
pub calls-of : {words : List Text} {before after : Log} → AreTexts words → Makes (work_of words) before after
    → (after ≡ before) ⊎ CallsItsFiles words before after
calls-of {words = words} {before = before} {after = after} texts makes = go (work_of words) before after makes refl
  where
    go : (asked : Option Work) (one two : Log) → Makes asked one two → work_of words ≡ asked
        → (two ≡ one) ⊎ CallsItsFiles words one two
    go asked one two (NoCalls asked' log) is = inl refl
    go asked one two (CallsOf work one' two' follows) is = inr (calls-named words texts work is one two follows)

-- no words at all
pub no-words : (words : List (Bor (List ℕ))) → length words ≡ 0 → ◌≡◌ {A = Option Work} None (work_of (texts words))
no-words [] none = refl
no-words (word ∷ words) none = absurd (omega (arith, none))
