-- Which file the work of a verb may write.
use Rattle.std.proofs.Common.{◌≡◌, ◌≢◌, ℕ, ◌+◌, ℤ, Bool, true, false, cond, List, [], ◌∷◌, ◌++◌, codes, Option, Some, None, Result, Ok, Err, refl, sym, ap, ◌∙◌, subst}
use Rattle.std.specs.FinMap.{get, remove, get-remove}
use Rattle.std.specs.Option.{option_map}
use Rattle.std.specs.Ordering.{nat_cmp, eq_by_cmp}
use Rattle.std.specs.Cmp.Lexicographic.{slice_cmp, nat_list_cmp_total}
use Rattle.std.proofs.lemmas.Option.{same_Some}
use Rattle.std.proofs.lemmas.Map.Text.{is_eq-slice_cmp}
use Rattle.std.proofs.lemmas.Slice.Eq.{bytes_eq-Decides}
use Rattle.gr_outside.specs.Prelude.{Files}
use Rattle.gr_word.specs.declared.variables.Want.{Want}
use Rattle.lt_isa.specs.Prelude.{Parts}
use Rattle.call_steps.specs.declared.targets.Target.{Target}
use Rattle.src_tree.specs.Prelude.{Source}
use Rattle.trace_patterns.specs.declared.reasons.Reason.{Reason}
use Rattle.bus_arbiter.specs.declared.errors.BusError.{BusError}
use Rattle.bus_arbiter.specs.Prelude.{refusal, share_of}
use Rattle.note_infer.specs.declared.faults.InferError.{InferError}
use Rattle.call_replies.specs.declared.source_faults.SourceFault.{SourceFault}
use Rattle.call_replies.specs.declared.replies.Verdict.{Verdict}
use Rattle.call_laws.specs.Prelude.{assemble_work, check_work, disassemble_work, evaluate_work, on_left, infer_work, on_inferred, on_sampled, sample_work, work_of, works, NameOutput}
use Rattle.command_words.specs.Prelude.{Pair, AreTexts, Part, Says, Text, WritesFile, flags_of, name_of, options_of}
use Rattle.machine_verbs.specs.Prelude.{Read, bus_work, none_read, on_plan, one_read, shares_bus, with_cores, with_halts, on_halt, run_work, shows_on, trace_work}
use Rattle.call_steps.specs.Prelude.{compile_work, on_compiled, Made, Answer, Question, on_judged, or_ends, with_accepted, with_assembly, with_object, with_source, with_variables, Asks, Ends, MayWrite, Reads, Work, Writes, WritesIt, WritesLater, WritesThen}
use Rattle.command_words.specs.declared.verbs.Verb.{Verb}
use Rattle.command_words.specs.declared.verbs.Verb.TheVariants.{Assemble, Compile, Disassemble, Evaluate, Infer, Run, Sample}
use Rattle.command_words.proofs.VerbWords.{words-ask}
use Rattle.call_laws.proofs.EachVerb.{asks-nothing, each-verb}

-- ---- the files after a write

abbrev OfWrite : Work → List ℕ → Type 0
OfWrite (Ends seen verdict) name = ⊥
OfWrite (Writes output bytes done) name = name ≡ output
OfWrite (Reads other limit next) name = (bytes : List ℕ) × MayWrite (next bytes) name
OfWrite (Asks question next) name = (answer : Answer question) × MayWrite (next answer) name

of-write : (work : Work) (name : List ℕ) → MayWrite work name → OfWrite work name
of-write work name (WritesIt name' bytes done) = refl
of-write work name (WritesLater other name' limit next bytes later) = (bytes, later)
of-write work name (WritesThen question next answer name' later) = (answer, later)

module _ (P : List ℕ → Type 0) where
  abbrev pub Only : Work → Type 0
  Only work = (name : List ℕ) → MayWrite work name → P name

  ending : (seen : _) (verdict : _) → Only (Ends seen verdict)
  ending seen verdict name may = absurd (of-write (Ends seen verdict) name may)

  writes : (output bytes : List ℕ) (done : _) → P output → Only (Writes output bytes done)
  writes output bytes done is name may =
      subst P (sym (of-write (Writes output bytes done) name may)) is

  reads : (other : List ℕ) (limit : ℕ) (next : List ℕ → Work) → ((bytes : List ℕ) → Only (next bytes))
      → Only (Reads other limit next)
  reads other limit next all name may =
      let later = of-write (Reads other limit next) name may in all later.0 name later.1

  asks : (question : Question) (next : Answer question → Work) → ((answer : Answer question) → Only (next answer))
      → Only (Asks question next)
  asks question next all name may =
      let later = of-write (Asks question next) name may in all later.0 name later.1

  or-ends : {X E : Type 0} (verdict : E → Verdict) (next : X → Work) → ((x : X) → Only (next x))
      → (r : Result X E) → Only (or_ends verdict next r)
  or-ends verdict next all (Ok x) = all x
  or-ends verdict next all (Err e) = ending _ _

  judged : (next : Work) → Only next → (r : Option (ℕ × Reason)) → Only (on_judged next r)
  judged next all None = all
  judged next all (Some r) = ending _ _

  object : (name : List ℕ) (next : Parts → Work) → ((o : Parts) → Only (next o)) → Only (with_object name next)
  object name next all = reads name _ _ (λ bytes. asks _ _ (or-ends _ next all))

  accepted : (name : List ℕ) (next : Parts → Work) → ((o : Parts) → Only (next o)) → Only (with_accepted name next)
  accepted name next all = object name _ (λ o. asks _ _ (judged (next o) (all o)))

  assembly : (name : List ℕ) (next : Parts → Work) → ((o : Parts) → Only (next o)) → Only (with_assembly name next)
  assembly name next all = reads name _ _ (λ text. asks _ _ (or-ends _ next all))

  source : (procs : Bool) (name : List ℕ) (next : Source → Work) → ((p : Source) → Only (next p))
      → Only (with_source procs name next)
  source procs name next all = reads name _ _ (λ text. asks _ _ (or-ends _ next all))

  inputs : (wants : List Want) (name : List ℕ) (next : List (List ℤ) → Work) → ((d : List (List ℤ)) → Only (next d))
      → Only (with_variables wants name next)
  inputs wants name next all = reads name _ _ (λ json. asks _ _ (or-ends _ next all))

  check-only : (name : Text) → Only (check_work name)
  check-only name = accepted name _ (λ o. ending _ _)

  shows : (paths recursive : Bool) (cycles seed : ℕ) (o : Parts) (d : List (List ℤ)) (halt : Option ℕ)
      → Only (shows_on paths recursive cycles seed o d halt)
  shows false recursive cycles seed o d halt = ending _ _
  shows true recursive cycles seed o d halt = asks _ _ (λ seen. ending _ _)

  trace-only : (name input : Text) (cycles seed : ℕ) (paths recursive : Bool)
      → Only (trace_work name input cycles seed paths recursive)
  trace-only name input cycles seed paths recursive =
      accepted name _ (λ o. inputs _ input _ (λ d. asks _ _ (shows paths recursive cycles seed o d)))

  plans : (k : ℕ) (found : Option BusError) (next : Work) → Only next → Only (on_plan k found next)
  plans k None next all = all
  plans k (Some cause) next all = ending _ _

  cores : (pairs : List Pair) (k : ℕ) (read : Read) (next : Read → Work) → ((r : Read) → Only (next r))
      → Only (with_cores pairs k read next)
  cores [] k read next all = all read
  cores (pair ∷ pairs) k read next all =
      accepted pair.object _ (λ o. plans k (refusal read.plan (share_of o)) _
      (inputs _ pair.input _ (λ d. cores pairs (k + 1) (one_read read o d) next all)))

  halting : (n : ℕ) (os : List Parts) (ds : List (List (List ℤ))) (next : List (Option ℕ) → Work)
      → ((hs : List (Option ℕ)) → Only (next hs)) → Only (with_halts n os ds next)
  halting n [] ds next all = all []
  halting n (o ∷ os) [] next all = all []
  halting n (o ∷ os) (d ∷ ds) next all =
      asks _ _ (λ halt. halting n os ds (λ more. next (halt ∷ more)) (λ more. all (halt ∷ more)))

  bus-only : (pairs : List Pair) (cycles : ℕ) → Only (bus_work pairs cycles)
  bus-only pairs cycles =
      cores pairs 0 none_read (shares_bus cycles)
      (λ r. halting cycles r.objects r.inputs _ (λ halts. asks _ _ (λ joined. ending _ _)))

  module _ (output : Text) (is : P output) where
    halt-only : (o : Parts) (d : List (List ℤ)) (cycles : ℕ) (halt : Option ℕ) → Only (on_halt o d output cycles halt)
    halt-only o d cycles (Some at) = writes output _ _ is
    halt-only o d cycles None = ending _ _

    run-only : (name input : Text) (cycles : ℕ) → Only (run_work name input output cycles)
    run-only name input cycles =
        accepted name _ (λ o. inputs _ input _ (λ d. asks _ _ (halt-only o d cycles)))

    assemble-only : (text : Text) → Only (assemble_work text output)
    assemble-only text = assembly text _ (λ o. writes output _ _ is)

    disassemble-only : (name : Text) → Only (disassemble_work name output)
    disassemble-only name = object name _ (λ o. writes output _ _ is)

    left-only : (p : Source) (turns : ℕ) (left : Option (List (List ℤ))) → Only (on_left p output turns left)
    left-only p turns (Some left) = writes output _ _ is
    left-only p turns None = ending _ _

    evaluate-only : (name input : Text) (turns : ℕ) (procs : Bool) → Only (evaluate_work name input output turns procs)
    evaluate-only name input turns procs =
        source procs name _ (λ p. inputs _ input _ (λ d. asks _ _ (left-only p turns)))

    compiled-only : (r : Result (List ℕ) SourceFault) → Only (on_compiled output r)
    compiled-only (Ok bytes) = writes output _ _ is
    compiled-only (Err fault) = ending _ _

    compile-only : (name : Text) (target : Target) (procs : Bool) → Only (compile_work name output target procs)
    compile-only name target procs = source procs name _ (λ p. asks _ _ compiled-only)

    sampled-only : (n : ℕ) (made : Made) (halt : Option ℕ) → Only (on_sampled n output made halt)
    sampled-only n made (Some at) = writes output _ _ is
    sampled-only n made None = ending _ _

    sample-only : (fast : Bool) (n : ℕ) → Only (sample_work fast n output)
    sample-only fast n = asks _ _ (λ made. asks _ _ (sampled-only n made))

    inferred-only : (r : Result Parts InferError) → Only (on_inferred output r)
    inferred-only (Ok found) = writes output _ _ is
    inferred-only (Err why) = ending _ _

    infer-only : (name : Text) → Only (infer_work name output)
    infer-only name = object name _ (λ o. asks _ _ inferred-only)

-- ---- words that name an output

names-output : (verb : Verb) → WritesFile verb → (more others : List Text) (output name : Text) (parts : List Part)
    → Says (options_of verb) (flags_of verb) more (others ++ output ∷ []) parts → name ≡ output
    → NameOutput (name_of verb ∷ more) name
names-output verb writes more others output name parts says is = record {
  verb = verb;
  writes = writes;
  others = others;
  parts = parts;
  call = record {
    more = more;
    are = refl;
    says = subst (λ (o : Text). Says (options_of verb) (flags_of verb) more (others ++ o ∷ []) parts) (sym is) says;
  };
}

module _ (more : List Text) (texts : AreTexts more) (work : Work) (name : Text) (may : MayWrite work name) where
  abbrev OfVerb : Text → Type 0
  OfVerb verb = work_of (verb ∷ more) ≡ Some work → NameOutput (verb ∷ more) name

  by-only : (P : List ℕ → Type 0) (other : Work) → work ≡ other → Only P other → P name
  by-only P other same only = only name (subst (λ (w : Work). MayWrite w name) same may)

  abbrev Out : Text → List ℕ → Type 0
  Out output n = n ≡ output

  abbrev Never : List ℕ → Type 0
  Never n = ⊥

  of-check : OfVerb (codes "check")
  of-check asked =
      let a = ((words-ask works).check more work texts).0 asked in
      absurd (by-only Never (check_work a.name) a.is (check-only Never a.name))

  of-trace : OfVerb (codes "trace")
  of-trace asked =
      let a = ((words-ask works).trace more work texts).0 asked in
      absurd (by-only Never _ a.is (trace-only Never a.object a.input a.cycles a.seed _ _))

  of-run : OfVerb (codes "run")
  of-run asked =
      let a = ((words-ask works).run more work texts).0 asked in
      names-output Run tt more (a.object ∷ a.input ∷ []) a.output name a.parts a.says
      (by-only (Out a.output) _ a.is (run-only (Out a.output) a.output refl a.object a.input a.cycles))

  of-assemble : OfVerb (codes "asm")
  of-assemble asked =
      let a = ((words-ask works).assemble more work texts).0 asked in
      names-output Assemble tt more (a.first ∷ []) a.second name a.parts a.says
      (by-only (Out a.second) _ a.is (assemble-only (Out a.second) a.second refl a.first))

  of-disassemble : OfVerb (codes "dis")
  of-disassemble asked =
      let a = ((words-ask works).disassemble more work texts).0 asked in
      names-output Disassemble tt more (a.first ∷ []) a.second name a.parts a.says
      (by-only (Out a.second) _ a.is (disassemble-only (Out a.second) a.second refl a.first))

  of-evaluate : OfVerb (codes "eval")
  of-evaluate asked =
      let a = ((words-ask works).evaluate more work texts).0 asked in
      names-output Evaluate tt more (a.source ∷ a.input ∷ []) a.output name a.parts a.says
      (by-only (Out a.output) _ a.is (evaluate-only (Out a.output) a.output refl a.source a.input a.turns _))

  of-compile : OfVerb (codes "compile")
  of-compile asked =
      let a = ((words-ask works).compile more work texts).0 asked in
      names-output Compile tt more (a.source ∷ []) a.output name a.parts a.says
      (by-only (Out a.output) _ a.is (compile-only (Out a.output) a.output refl a.source _ _))

  of-sample : OfVerb (codes "sample")
  of-sample asked =
      let a = ((words-ask works).sample more work texts).0 asked in
      names-output Sample tt more (a.number ∷ []) a.output name a.parts a.says
      (by-only (Out a.output) _ a.is (sample-only (Out a.output) a.output refl _ a.items))

  of-bus : OfVerb (codes "bus")
  of-bus asked =
      let a = ((words-ask works).bus more work texts).0 asked in
      absurd (by-only Never _ a.is (bus-only Never (a.first ∷ a.more) a.cycles))

  of-infer : OfVerb (codes "infer")
  of-infer asked =
      let a = ((words-ask works).infer more work texts).0 asked in
      names-output Infer tt more (a.first ∷ []) a.second name a.parts a.says
      (by-only (Out a.second) _ a.is (infer-only (Out a.second) a.second refl a.first))

  of-verb : (verb : Text) → OfVerb verb
  of-verb =
      each-verb (λ (verb : Text). OfVerb verb) of-check of-trace of-run of-assemble of-disassemble of-evaluate
      of-compile of-sample of-bus of-infer
      (λ verb unknown asked. absurd (asks-nothing verb more work unknown asked))

-- the words name the output that their work may write
pub words-name : (words : List Text) → AreTexts words → (work : Work) (name : Text) → work_of words ≡ Some work
    → MayWrite work name → NameOutput words name
words-name [] texts work name asked may =
    absurd (let f : ◌≡◌ {A = Option Work} None (Some work) = sym (words-ask works).no_words ∙ asked in cc)
words-name (verb ∷ more) texts work name asked may = of-verb more texts.1 work name may verb asked

-- a file that is another one afterwards is the one that may be
pub changed-is : (files afterwards : Files) (output name : Text)
    → option_map (λ fs. remove fs output) (Some afterwards) ≡ option_map (λ fs. remove fs output) (Some files)
    → get afterwards name ≢ get files name → name ≡ output
changed-is files afterwards output name same changed = by (eq_by_cmp (slice_cmp nat_cmp) name output) refl
  where
    removed : get (remove afterwards output) name ≡ get (remove files output) name
    removed = ap (λ (fs : Files). get fs name) (same_Some (remove afterwards output) (remove files output) same)

    at : (b : Bool) → eq_by_cmp (slice_cmp nat_cmp) name output ≡ b
        → cond b None (get afterwards name) ≡ cond b None (get files name)
    at b e =
        subst (λ (c : Bool). cond c None (get afterwards name) ≡ cond c None (get files name)) e
        (sym (get-remove nat_list_cmp_total afterwards output name) ∙ removed
        ∙ get-remove nat_list_cmp_total files output name)

    by : (b : Bool) → eq_by_cmp (slice_cmp nat_cmp) name output ≡ b → name ≡ output
    by true e = (bytes_eq-Decides name output).0 (sym (is_eq-slice_cmp name output) ∙ e)
    by false e = absurd (changed (at false e))
