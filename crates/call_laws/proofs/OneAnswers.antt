-- If the contents of files are known, a work whose questions have one right answer each has one ending.
use Rattle.std.proofs.Common.{◌≡◌, ℕ, ◌+◌, ◌<◌, ◌≤◌, ℤ, Bool, false, List, [], ◌∷◌, length, Option, Some, None, is_some, Result, Ok, Err, refl, sym, ap, ap₂, ◌∙◌, subst, arith}
use Rattle.std.specs.FinMap.{get}
use Rattle.gr_outside.specs.Prelude.{Files}
use Rattle.lt_isa.specs.Prelude.{Parts, IsInRange, FitsObject, trace, wants_of, Stamped}
use Rattle.lt_isa.proofs.Variables.{wants_are_variables}
use Rattle.trace_patterns.specs.declared.reasons.Reason.{Reason}
use Rattle.lt_checker.proofs.AcceptanceLaws.{first_refusal-once, refused_is_not_accepted}
use Rattle.lt_checker.proofs.Soundness.{accepted_is_oblivious}
use Rattle.lt_assembler.specs.declared.errors.AsmError.{AsmError}
use Rattle.lt_assembler.specs.Prelude.{assembled, canonical}
use Rattle.lt_assembler.proofs.FirstFaulty.{one_fault}
use Rattle.lt_assembler.proofs.SpelledRead.{spells-assembled}
use Rattle.object_file.specs.Prelude.{decoded, spelling}
use Rattle.object_file.specs.declared.errors.DecodeError.{DecodeError}
use Rattle.object_file.proofs.FaultLaws.{first-decoded}
use Rattle.object_file.proofs.ObjectLaws.{decoded-spelling}
use Rattle.run_data.specs.Prelude.{json_of, inputs_of}
use Rattle.run_data.specs.declared.errors.InputError.{InputError}
use Rattle.run_data.proofs.ReadWords.{inputs_fit}
use Rattle.bus_arbiter.specs.Prelude.{AllFit, refusal, share_of}
use Rattle.bus_arbiter.specs.declared.errors.BusError.{BusError}
use Rattle.bus_arbiter.proofs.JoinedLaws.{one-list}
use Rattle.call_replies.specs.declared.replies.InputFault.{InputFault}
use Rattle.call_replies.specs.declared.replies.Done.{Done}
use Rattle.call_replies.specs.declared.replies.Done.TheVariants.{Assembled, Disassembled, Inferred}
use Rattle.call_replies.specs.declared.replies.Verdict.{Verdict}
use Rattle.call_replies.specs.declared.replies.Verdict.TheVariants.{Accepted, Traced, BadAssembly, BadInput, Malformed, NoNotes}
use Rattle.command_words.specs.Prelude.{Pair}
use Rattle.machine_verbs.specs.Prelude.{Read, bus_work, none_read, on_plan, one_read, shares_bus, with_cores, with_halts, on_halt, run_work, runs_on, AreRead, shows_on, trace_work, traces_on}
use Rattle.call_laws.specs.Prelude.{assemble_work, check_work, disassemble_work, infer_work, infers_to, on_inferred, HasOneAnswer, HoldRun, TraceAgrees, Answers, AnswersSo, NoAnswer}
use Rattle.call_replies.specs.Prelude.{Said}
use Rattle.note_infer.specs.declared.faults.InferError.{InferError}
use Rattle.call_steps.specs.Prelude.{SpellsObject, object_limit, Answer, AreInputs, IsRight, Question, Shows, WhatIsInferred, WhatIsJoined, WhenItHalts, WhetherAccepted, WhichAssembly, WhichInputs, WhichObject, HaltOf, Seen, events_alone, nothing_seen, input_limit, on_judged, or_ends, with_accepted, with_assembly, with_inputs, with_object, Answered, Asks, Ended, Ending, Ends, Found, Holds, IsTooLong, IsUnread, IsVerdict, IsWritten, MayEnd, Missing, Reads, TooLong, Work, Writes, Wrote, files_at, said_at}
use Rattle.call_laws.proofs.BusAgreeing.{one-halt}
use Rattle.call_laws.proofs.InferredOnce.{inference-once}
use Rattle.machine_verbs.proofs.Pairing.{none-read, one-read}
use Rattle.call_steps.proofs.Saying.{traces-agree}
use Rattle.run_data.specs.declared.errors.InputError.TheVariants as error

-- ---- the files after an ending, if the contents of files are known

pub data OfRead (files : Files) (name : List ℕ) (limit : ℕ) (next : List ℕ → Work) : Ending → Type 0 where
  Lacks : get files name ≡ None → OfRead files name limit next (IsUnread name)
  Exceeds : (bytes : List ℕ) → get files name ≡ Some bytes → limit < length bytes
      → OfRead files name limit next (IsTooLong name limit)
  Gives : (bytes : List ℕ) (ending : Ending) → get files name ≡ Some bytes → length bytes ≤ limit
      → MayEnd (Holds files) (next bytes) ending → OfRead files name limit next ending

abbrev pub OfTold : Files → Work → Ending → Type 0
OfTold files (Ends seen verdict) ending = ending ≡ IsVerdict seen verdict
OfTold files (Writes name bytes done) ending = ending ≡ IsWritten name bytes done
OfTold files (Reads name limit next) ending = OfRead files name limit next ending
OfTold files (Asks question next) ending =
    (answer : Answer question) × IsRight question answer × MayEnd (Holds files) (next answer) ending

pub of-told : (files : Files) (work : Work) (ending : Ending) → MayEnd (Holds files) work ending
    → OfTold files work ending
of-told files work ending (Ended seen verdict) = refl
of-told files work ending (Wrote name bytes done) = refl
of-told files work ending (Missing name limit next none) = Lacks none
of-told files work ending (TooLong name limit next bytes gives long) = Exceeds bytes gives long
of-told files work ending (Found name limit next bytes ending' gives short comes) = Gives bytes ending' gives short
    comes
of-told files work ending (Answered question next answer ending' right comes) = (answer, right, comes)

pub none-some : {X A : Type 0} (found : Option A) (a : A) → found ≡ None → found ≡ Some a → X
none-some {A = A} found a none some = absurd (let f : ◌≡◌ {A = Option A} None (Some a) = sym none ∙ some in cc)

pub some-once : {A : Type 0} (found : Option A) (a b : A) → found ≡ Some a → found ≡ Some b → a ≡ b
some-once {A = A} found a b first second = let f : ◌≡◌ {A = Option A} (Some a) (Some b) = sym first ∙ second in cc

pub past-limit : {X : Type 0} (n limit : ℕ) → limit < n → n ≤ limit → X
past-limit n limit long short = absurd (omega (arith, long, short))

-- ---- each question has one right answer

pub decoded-right : (bytes : List ℕ) (answer : Result Parts DecodeError) → IsRight (WhichObject bytes) answer
    → decoded bytes ≡ answer
decoded-right bytes (Ok o) spells = ap decoded spells.spelled ∙ decoded-spelling o spells.in_range
decoded-right bytes (Err first) is = first-decoded bytes first is

pub object-once : (bytes : List ℕ) (a b : Result Parts DecodeError) → IsRight (WhichObject bytes) a
    → IsRight (WhichObject bytes) b → a ≡ b
object-once bytes a b first second = sym (decoded-right bytes a first) ∙ decoded-right bytes b second

assembled-right : (text : List ℕ) (answer : Result Parts AsmError) → IsRight (WhichAssembly text) answer
    → assembled text ≡ answer
assembled-right text (Ok o) spells = spells-assembled text o spells
assembled-right text (Err first) is = one_fault text first is

assembly-once : (text : List ℕ) (a b : Result Parts AsmError) → IsRight (WhichAssembly text) a
    → IsRight (WhichAssembly text) b → a ≡ b
assembly-once text a b first second = sym (assembled-right text a first) ∙ assembled-right text b second

shown-once : (first : InputError) (a b : InputFault) → Shows first a → Shows first b → a ≡ b
shown-once error.Memory a b one other = absurd one
shown-once rest a b one other = one ∙ sym other

ok-err : {X A E : Type 0} (r : Result A E) (a : A) (e : E) → r ≡ Ok a → r ≡ Err e → X
ok-err {A = A} {E = E} r a e ok err = absurd (let f : ◌≡◌ {A = Result A E} (Ok a) (Err e) = sym ok ∙ err in cc)

pub ok-once : {A E : Type 0} (r : Result A E) (a b : A) → r ≡ Ok a → r ≡ Ok b → a ≡ b
ok-once {A = A} {E = E} r a b first second = let f : ◌≡◌ {A = Result A E} (Ok a) (Ok b) = sym first ∙ second in cc

err-once : {A E : Type 0} (r : Result A E) (a b : E) → r ≡ Err a → r ≡ Err b → a ≡ b
err-once {A = A} {E = E} r a b first second = let f : ◌≡◌ {A = Result A E} (Err a) (Err b) = sym first ∙ second in cc

pub inputs-once : (wants : _) (json : List ℕ) (a b : Result (List (List ℤ)) InputFault) → AreInputs wants json a
    → AreInputs wants json b → a ≡ b
inputs-once wants json (Ok d) (Ok e) first second =
    ap Ok (ok-once (inputs_of wants (json_of json)) d e first second)
inputs-once wants json (Ok d) (Err f) first second =
    ok-err (inputs_of wants (json_of json)) d second.0 first second.1
inputs-once wants json (Err f) (Ok e) first second =
    ok-err (inputs_of wants (json_of json)) e first.0 second first.1
inputs-once wants json (Err f) (Err g) first second =
    ap Err (shown-once first.0 f g first.2
    (subst (λ x. Shows x g) (err-once (inputs_of wants (json_of json)) second.0 first.0 second.1 first.1) second.2))

pub judged-once : (o : Parts) (a b : Option (ℕ × Reason)) → IsRight (WhetherAccepted o) a
    → IsRight (WhetherAccepted o) b → a ≡ b
judged-once o None None first second = refl
judged-once o None (Some r) first second = absurd (refused_is_not_accepted o r.0 r.1 second first)
judged-once o (Some r) None first second = absurd (refused_is_not_accepted o r.0 r.1 first second)
judged-once o (Some r) (Some u) first second =
    let same = first_refusal-once o r.0 u.0 r.1 u.1 first second in
    ap₂ (λ (p : ℕ) (w : Reason). Some (p, w)) same.0 same.1

-- ---- one ending

abbrev pub same-ending : Ending → Ending → Type 0
same-ending one other = one ≡ other

-- two endings are related, each to itself
module _ (R : Ending → Ending → Type 0) (own : (ending : Ending) → R ending ending) (files : Files) where
  abbrev pub Once : Work → Type 0
  Once work = (one other : Ending) → MayEnd (Holds files) work one → MayEnd (Holds files) work other → R one other

  equal-once : (one other : Ending) → one ≡ other → R one other
  equal-once one other same = subst (R one) same (own one)

  pub ends-once : (seen : Seen) (verdict : Verdict) → Once (Ends seen verdict)
  ends-once seen verdict one other first second =
      equal-once one other
      (of-told files (Ends seen verdict) one first ∙ sym (of-told files (Ends seen verdict) other second))

  pub writes-once : (name bytes : List ℕ) (done : Done) → Once (Writes name bytes done)
  writes-once name bytes done one other first second =
      equal-once one other
      (of-told files (Writes name bytes done) one first ∙ sym (of-told files (Writes name bytes done) other second))

  pub reads-once : (name : List ℕ) (limit : ℕ) (next : List ℕ → Work) → ((bytes : List ℕ) → Once (next bytes))
      → Once (Reads name limit next)
  reads-once name limit next once one other first second =
      by one other (of-told files (Reads name limit next) one first)
      (of-told files (Reads name limit next) other second)
    where
      too-long : {X : Type 0} (a b : List ℕ) → a ≡ b → limit < length a → length b ≤ limit → X
      too-long a b same long short =
          let le : length a ≤ limit = subst (λ (l : List ℕ). length l ≤ limit) (sym same) short in
          absurd (omega (arith, long, le))

      by : (one other : Ending) → OfRead files name limit next one → OfRead files name limit next other
          → R one other
      by one other (Lacks none) (Lacks none') = own _
      by one other (Lacks none) (Exceeds bytes gives long) = none-some (get files name) bytes none gives
      by one other (Lacks none) (Gives bytes ending gives short comes) =
          none-some (get files name) bytes none gives
      by one other (Exceeds bytes gives long) (Lacks none) = none-some (get files name) bytes none gives
      by one other (Exceeds bytes gives long) (Exceeds bytes' gives' long') = own _
      by one other (Exceeds bytes gives long) (Gives bytes' ending gives' short comes) =
          too-long bytes bytes' (some-once (get files name) bytes bytes' gives gives') long short
      by one other (Gives bytes ending gives short comes) (Lacks none) =
          none-some (get files name) bytes none gives
      by one other (Gives bytes ending gives short comes) (Exceeds bytes' gives' long) =
          too-long bytes' bytes (some-once (get files name) bytes' bytes gives' gives) long short
      by one other (Gives bytes ending gives short comes) (Gives bytes' ending' gives' short' comes') =
          once bytes one other comes
          (subst (λ (l : List ℕ). MayEnd (Holds files) (next l) other)
          (some-once (get files name) bytes' bytes gives' gives) comes')

  pub asks-once : (question : Question) (next : Answer question → Work)
      → ((a b : Answer question) → IsRight question a → IsRight question b → a ≡ b)
      → ((a : Answer question) → IsRight question a → Once (next a)) → Once (Asks question next)
  asks-once question next answers once one other first second =
      let a = of-told files (Asks question next) one first in
      let b = of-told files (Asks question next) other second in
      once a.0 a.1 one other a.2
      (subst (λ (x : Answer question). MayEnd (Holds files) (next x) other) (answers b.0 a.0 b.1 a.1) b.2)

  -- ---- steps

  pub object-step : (name : List ℕ) (next : Parts → Work) → ((o : Parts) → IsInRange o → Once (next o))
      → Once (with_object name next)
  object-step name next once =
      reads-once name object_limit _ (λ bytes. asks-once (WhichObject bytes) (or_ends Malformed next)
      (object-once bytes) (by bytes))
    where
      by : (bytes : List ℕ) (answer : Result Parts DecodeError) → IsRight (WhichObject bytes) answer
          → Once (or_ends Malformed next answer)
      by bytes (Ok o) spells = once o spells.in_range
      by bytes (Err fault) first = ends-once nothing_seen _

  pub accepted-step : (name : List ℕ) (next : Parts → Work)
      → ((o : Parts) → IsInRange o → Once (next o)) → Once (with_accepted name next)
  accepted-step name next once =
      object-step name _ (λ o range. asks-once (WhetherAccepted o) (on_judged (next o)) (judged-once o)
      (by o range))
    where
      by : (o : Parts) → IsInRange o → (answer : Option (ℕ × Reason)) → IsRight (WhetherAccepted o) answer
          → Once (on_judged (next o) answer)
      by o range None accepts = once o range
      by o range (Some refusal) first = ends-once nothing_seen _

  pub assembly-step : (name : List ℕ) (next : Parts → Work) → ((o : Parts) → Once (next o))
      → Once (with_assembly name next)
  assembly-step name next once =
      reads-once name _ _ (λ text. asks-once (WhichAssembly text) (or_ends BadAssembly next)
      (assembly-once text) (by text))
    where
      by : (text : List ℕ) (answer : Result Parts AsmError) → IsRight (WhichAssembly text) answer
          → Once (or_ends BadAssembly next answer)
      by text (Ok o) spells = once o
      by text (Err fault) first = ends-once nothing_seen _

  pub inputs-step : (o : Parts) → IsInRange o → (name : List ℕ) (next : List (List ℤ) → Work)
      → ((d : List (List ℤ)) → FitsObject o d → Once (next d)) → Once (with_inputs o name next)
  inputs-step o range name next once =
      reads-once name input_limit _ (λ json. asks-once (WhichInputs (wants_of o) json) (or_ends BadInput next)
      (inputs-once (wants_of o) json) (by json))
    where
      by : (json : List ℕ) (answer : Result (List (List ℤ)) InputFault) → AreInputs (wants_of o) json answer
          → Once (or_ends BadInput next answer)
      by json (Ok d) is = once d (inputs_fit (wants_of o) json d (wants_are_variables o range) is)
      by json (Err fault) first = ends-once nothing_seen _

  pub halts-step : (o : Parts) → IsInRange o → (d : List (List ℤ)) → FitsObject o d → (cycles : ℕ)
      (next : Option ℕ → Work) → ((halt : Option ℕ) → Once (next halt))
      → Once (Asks (WhenItHalts o d cycles) next)
  halts-step o range d fits cycles next once =
      asks-once (WhenItHalts o d cycles) next (one-halt o range d fits cycles) (λ halt is. once halt)

  -- ---- verbs

  pub infer-once : (object output : List ℕ) → Once (infer_work object output)
  infer-once object output =
      object-step object (infers_to output) (λ o range. asks-once (WhatIsInferred o) (on_inferred output)
      (inference-once o) (λ a right. by a))
    where
      by : (a : Result Parts InferError) → Once (on_inferred output a)
      by (Ok found) = writes-once output (spelling found) (Inferred (length found.notes))
      by (Err why) = ends-once nothing_seen (NoNotes why)

  pub check-once : (object : List ℕ) → Once (check_work object)
  check-once object = accepted-step object _ (λ o range. ends-once nothing_seen Accepted)

  pub trace-once : (object input : List ℕ) (cycles seed : ℕ) (recursive : Bool)
      → Once (trace_work object input cycles seed false recursive)
  trace-once object input cycles seed recursive =
      accepted-step object _ (λ o range. inputs-step o range input (traces_on false recursive cycles seed o)
      (λ d fits. halts-step o range d fits cycles (shows_on false recursive cycles seed o d)
      (λ halt. ends-once (events_alone (trace o d cycles)) (Traced (is_some halt)))))

  pub run-once : (object input output : List ℕ) (cycles : ℕ) → Once (run_work object input output cycles)
  run-once object input output cycles =
      accepted-step object _ (λ o range. inputs-step o range input (runs_on output cycles o)
      (λ d fits. halts-step o range d fits cycles (on_halt o d output cycles) (by o d)))
    where
      by : (o : Parts) (d : List (List ℤ)) (halt : Option ℕ) → Once (on_halt o d output cycles halt)
      by o d (Some at) = writes-once output _ _
      by o d None = ends-once nothing_seen _

  pub assemble-once : (text output : List ℕ) → Once (assemble_work text output)
  assemble-once text output = assembly-step text _ (λ o. writes-once output (spelling o) Assembled)

  pub disassemble-once : (object output : List ℕ) → Once (disassemble_work object output)
  disassemble-once object output = object-step object _ (λ o range. writes-once output (canonical o) Disassembled)

  plan-step : (k : ℕ) (found : Option BusError) (next : Work) → Once next → Once (on_plan k found next)
  plan-step k None next once = once
  plan-step k (Some cause) next once = ends-once nothing_seen _

  cores-step : (pairs : List Pair) (k : ℕ) (read : Read) (next : Read → Work) → AreRead read
      → ((r : Read) → AreRead r → Once (next r)) → Once (with_cores pairs k read next)
  cores-step [] k read next are once = once read are
  cores-step (pair ∷ pairs) k read next are once =
      accepted-step pair.object _ (λ o range. plan-step k (refusal read.plan (share_of o)) _
      (inputs-step o range pair.input _
      (λ d fits. cores-step pairs (k + 1) (one_read read o d) next (one-read read o d are range fits) once)))

  halts-steps : (cycles : ℕ) (os : List Parts) (ds : List (List (List ℤ))) → AllFit os ds
      → (next : List (Option ℕ) → Work) → ((halts : List (Option ℕ)) → Once (next halts))
      → Once (with_halts cycles os ds next)
  halts-steps cycles [] ds all next once = once []
  halts-steps cycles (o ∷ os) [] all next once = once []
  halts-steps cycles (o ∷ os) (d ∷ ds) all next once =
      halts-step o all.0 d all.1 cycles _
      (λ halt. halts-steps cycles os ds all.2 (λ more. next (halt ∷ more)) (λ more. once (halt ∷ more)))

  pub bus-once : (pairs : List Pair) (cycles : ℕ) → Once (bus_work pairs cycles)
  bus-once pairs cycles =
      cores-step pairs 0 none_read (shares_bus cycles) none-read
      (λ r are. halts-steps cycles r.objects r.inputs are.fit _
      (λ halts. asks-once (WhatIsJoined r.objects r.inputs cycles) _
      (one-list _) (λ joined joins. ends-once _ _)))

-- ---- answers

pub record AnswerOf (files : Files) (work : Work) (said : Said) (left : Files) : Type 0 where
  pub ending : Ending
  pub comes : MayEnd (Holds files) work ending
  pub is : said ≡ said_at ending
  pub leaves : left ≡ files_at ending files

pub answer-of : (files : Files) (asked : Option Work) (said : Said) (left : Files) → Answers files asked said left
    → (work : Work) → asked ≡ Some work → AnswerOf files work said left
answer-of files asked said left NoAnswer work is =
    absurd (let f : ◌≡◌ {A = Option Work} None (Some work) = is in cc)
answer-of files asked said left (AnswersSo work' ending comes) work is =
    let same : work' ≡ work = some-once (Some work') work' work refl is in
    record {
      ending = ending;
      comes = subst (λ (w : Work). MayEnd (Holds files) w ending) same comes;
      is = refl;
      leaves = refl;
    }

pub one-answer : (work : Work) → ((files : Files) → Once same-ending (λ ending. refl) files work) → HasOneAnswer work
one-answer work once files said other left right first second =
    let a = answer-of files (Some work) said left first work refl in
    let b = answer-of files (Some work) other right second work refl in
    let same = once files a.ending b.ending a.comes b.comes in
    (a.is ∙ ap said_at same ∙ sym b.is, a.leaves ∙ ap (λ (e : Ending). files_at e files) same ∙ sym b.leaves)

-- ---- two calls of `trace`

record Traces (o : Parts) (d : List (List ℤ)) (cycles : ℕ) (ending : Ending) : Type 0 where
  halt : Option ℕ
  halts : HaltOf (trace o d cycles) halt
  is : ending ≡ IsVerdict (events_alone (trace o d cycles)) (Traced (is_some halt))

-- the ending of a call that has such files
trace-of : (files : Files) (object input : List ℕ) (o : Parts) (d : List (List ℤ)) (cycles seed : ℕ)
    (recursive : Bool) → HoldRun files object input o d → (ending : Ending)
    → MayEnd (Holds files) (trace_work object input cycles seed false recursive) ending → Traces o d cycles ending
trace-of files object input o d cycles seed recursive run ending comes =
    by-object ending (of-told files (trace_work object input cycles seed false recursive) ending comes)
  where
    next : Parts → Work
    next p = with_inputs p input (traces_on false recursive cycles seed p)

    traced : (ending : Ending) → MayEnd (Holds files) (traces_on false recursive cycles seed o d) ending
        → Traces o d cycles ending
    traced ending comes =
        let asked = of-told files (traces_on false recursive cycles seed o d) ending comes in
        record {
          halt = asked.0;
          halts = asked.1;
          is = of-told files (shows_on false recursive cycles seed o d asked.0) ending asked.2;
        }

    on-json : (ending : Ending) (json : List ℕ) → json ≡ run.json
        → MayEnd (Holds files)
        (Asks (WhichInputs (wants_of o) json) (or_ends BadInput (traces_on false recursive cycles seed o))) ending
        → Traces o d cycles ending
    on-json ending json same comes =
        let asked =
        of-told files
        (Asks (WhichInputs (wants_of o) json) (or_ends BadInput (traces_on false recursive cycles seed o)))
        ending comes in
        let right : AreInputs (wants_of o) json (Ok d) =
        subst (λ (j : List ℕ). AreInputs (wants_of o) j (Ok d)) (sym same) run.read in
        traced ending
        (subst (λ (a : Result (List (List ℤ)) InputFault).
        MayEnd (Holds files) (or_ends BadInput (traces_on false recursive cycles seed o) a) ending)
        (inputs-once (wants_of o) json asked.0 (Ok d) asked.1 right) asked.2)

    by-input : (ending : Ending)
        → OfRead files input input_limit
        (λ json. Asks (WhichInputs (wants_of o) json)
        (or_ends BadInput (traces_on false recursive cycles seed o))) ending
        → Traces o d cycles ending
    by-input ending (Lacks none) = none-some (get files input) run.json none run.given
    by-input ending (Exceeds json gives long) =
        let same = some-once (get files input) json run.json gives run.given in
        let le = subst (λ (l : List ℕ). length l ≤ input_limit) (sym same) run.few in
        past-limit (length json) input_limit long le
    by-input ending (Gives json ending' gives short comes) =
        on-json ending json (some-once (get files input) json run.json gives run.given) comes

    on-bytes : (ending : Ending) (bytes : List ℕ) → bytes ≡ run.bytes
        → MayEnd (Holds files)
        (Asks (WhichObject bytes) (or_ends Malformed (λ p. Asks (WhetherAccepted p) (on_judged (next p))))) ending
        → Traces o d cycles ending
    on-bytes ending bytes same comes =
        let asked =
        of-told files
        (Asks (WhichObject bytes) (or_ends Malformed (λ p. Asks (WhetherAccepted p) (on_judged (next p)))))
        ending comes in
        let right : IsRight (WhichObject bytes) (Ok o) =
        subst (λ (b : List ℕ). SpellsObject b o) (sym same) run.spells in
        let accepted =
        of-told files (Asks (WhetherAccepted o) (on_judged (next o))) ending
        (subst (λ (a : Result Parts DecodeError).
        MayEnd (Holds files) (or_ends Malformed (λ p. Asks (WhetherAccepted p) (on_judged (next p))) a) ending)
        (object-once bytes asked.0 (Ok o) asked.1 right) asked.2) in
        by-input ending
        (of-told files (next o) ending
        (subst (λ (a : Option (ℕ × Reason)). MayEnd (Holds files) (on_judged (next o) a) ending)
        (judged-once o accepted.0 None accepted.1 run.accepted) accepted.2))

    by-object : (ending : Ending)
        → OfRead files object object_limit
        (λ bytes. Asks (WhichObject bytes)
        (or_ends Malformed (λ p. Asks (WhetherAccepted p) (on_judged (next p))))) ending
        → Traces o d cycles ending
    by-object ending (Lacks none) = none-some (get files object) run.bytes none run.there
    by-object ending (Exceeds bytes gives long) =
        let same = some-once (get files object) bytes run.bytes gives run.there in
        let le = subst (λ (l : List ℕ). length l ≤ object_limit) (sym same) run.short in
        past-limit (length bytes) object_limit long le
    by-object ending (Gives bytes ending' gives short comes) =
        on-bytes ending bytes (some-once (get files object) bytes run.bytes gives run.there) comes

pub trace-agrees : TraceAgrees
trace-agrees files others object input object' input' o d e cycles seed seed' recursive recursive' run run' agree
    said other left right first second =
    let a = answer-of files (Some (trace_work object input cycles seed false recursive)) said left first _ refl in
    let b =
    answer-of others (Some (trace_work object' input' cycles seed' false recursive')) other right second _ refl in
    let one = trace-of files object input o d cycles seed recursive run a.ending a.comes in
    let two = trace-of others object' input' o e cycles seed' recursive' run' b.ending b.comes in
    let range = run.spells.in_range in
    let events = traces-agree o d e cycles (accepted_is_oblivious o range run.accepted) agree in
    let fits : FitsObject o d = inputs_fit (wants_of o) run.json d (wants_are_variables o range) run.read in
    let halts : one.halt ≡ two.halt =
    one-halt o range d fits cycles one.halt two.halt one.halts
    (subst (λ (es : List Stamped). HaltOf es two.halt) (sym events) two.halts) in
    let same : a.ending ≡ b.ending =
    one.is
    ∙ ap₂ (λ (es : List Stamped) (h : Option ℕ). IsVerdict (events_alone es) (Traced (is_some h))) events halts
    ∙ sym two.is in (
      a.is ∙ ap said_at same ∙ sym b.is,
      a.leaves ∙ ap (λ (x : Ending). files_at x files) one.is,
      b.leaves ∙ ap (λ (x : Ending). files_at x others) two.is,
    )
