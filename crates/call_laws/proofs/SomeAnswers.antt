-- There is an answer for files of bytes: each question that these verbs ask has a right one.
use Rattle.std.proofs.Common.{◌≡◌, ℕ, zero, suc, ◌+◌, ◌<◌, ◌≤◌, ℤ, Bool, true, false, not, List, [], ◌∷◌, ◌++◌, length, ◌⊎◌, inl, inr, Option, Some, None, is_some, Result, Ok, Err, refl, ap, subst, arith, length-append}
use Rattle.std.specs.Prelude.{if◌then◌else◌, bytes_eq, slice_index_or}
use Rattle.std.specs.Option.{option_map_or}
use Rattle.std.specs.FinMap.{get}
use Rattle.std.specs.List.{list_all}
use Rattle.std.proofs.lemmas.Bool.{cases_lt}
use Rattle.gr_base.specs.Prelude.{Within}
use Rattle.gr_outside.specs.Prelude.{Files}
use Rattle.gr_word.specs.declared.variables.Want.{Want}
use Rattle.lt_isa.specs.Prelude.{Observed, Halted, Parts, IsInRange, ProfileFits, FitsObject, trace, wants_of, HaltsAt, Stamped, seen_at}
use Rattle.lt_isa.proofs.Variables.{wants_are_variables}
use Rattle.trace_patterns.specs.Prelude.{Accepts, FirstRefusal}
use Rattle.trace_patterns.specs.declared.reasons.Reason.{Reason}
use Rattle.flow_types.specs.Prelude.{declared_wants}
use Rattle.src_tree.specs.Prelude.{meaning, Source}
use Rattle.lt_checker.proofs.AcceptanceLaws.{accepted-or-refused}
use Rattle.lt_assembler.specs.Prelude.{assembled, canonical}
use Rattle.lt_assembler.specs.declared.errors.AsmError.{AsmError}
use Rattle.lt_assembler.proofs.FirstFaulty.{first_fault}
use Rattle.lt_assembler.proofs.Spelled.{assembled-spells}
use Rattle.object_file.specs.Prelude.{decoded, spelling}
use Rattle.object_file.specs.declared.errors.DecodeError.{DecodeError}
use Rattle.object_file.proofs.FaultLaws.{decoded-first}
use Rattle.object_file.proofs.Numbers.{IsBytes-All}
use Rattle.object_file.proofs.ObjectLaws.{spelling-decoded}
use Rattle.run_data.specs.Prelude.{json_of, inputs_of, inputs_in, unless_fault, first_input_fault, named_fault, value_fault, list_fault, or_else, listed_values, has_length, is_word}
use Rattle.run_data.specs.declared.errors.InputError.{InputError}
use Rattle.run_data.proofs.ReadWords.{inputs_fit}
use Rattle.bus_arbiter.specs.declared.errors.BusError.{BusError}
use Rattle.bus_arbiter.specs.Prelude.{runs_of, refusal, IsPlan, share_of, IsJoined, joined_of}
use Rattle.bus_arbiter.specs.Laws.{traces_on as all_traces}
use Rattle.bus_arbiter.proofs.JoinedLaws.{worked-out}
use Rattle.bus_arbiter.proofs.PlannedRuns.{on-bus, plan-none, plan-takes, traces-same}
use Rattle.serde_json.specs.Data.{Data, Members, no_members, member}
use Rattle.serde_json.specs.Find.{as_object}
use Rattle.note_infer.proofs.Answered.{Answered, Gets, Fails, answered}
use Rattle.call_replies.specs.declared.replies.Done.{Done}
use Rattle.call_replies.specs.declared.replies.InputFault.{InputFault}
use Rattle.call_replies.specs.declared.replies.Verdict.{Verdict}
use Rattle.call_replies.specs.declared.source_faults.SourceFault.{SourceFault}
use Rattle.call_steps.specs.declared.targets.Target.{Target}
use Rattle.call_laws.specs.Prelude.{assemble_work, check_work, disassemble_work, evaluate_work, evaluates_on, on_left, infer_work, infers_to, on_inferred, AreBytes, HasSomeAnswer, SomeAnswer, AnswersSo, on_sampled, sample_work, samples_on}
use Rattle.command_words.specs.Prelude.{Pair}
use Rattle.machine_verbs.specs.Prelude.{Read, bus_work, none_read, on_plan, one_read, shares_bus, with_cores, with_halts, on_halt, run_work, runs_on, AreRead, shows_on, trace_work, traces_on}
use Rattle.call_steps.specs.Prelude.{compile_work, on_compiled, Made, figures_of, sample_cycles, sample_inputs, object_limit, Answer, AreInputs, IsRight, Question, WhatIsInferred, WhatIsJoined, WhatIsLeft, WhatIsMade, WhatIsShown, WhenItHalts, WhetherAccepted, WhichAssembly, WhichCompiled, WhichInputs, WhichObject, WhichSource, HaltOf, Seen, events_alone, nothing_seen, SpellsTyped, source_limit, input_limit, on_judged, or_ends, text_limit, with_accepted, with_assembly, with_inputs, with_object, with_source, with_variables, Asks, Ended, Ending, Ends, Found, Holds, IsTooLong, IsUnread, IsVerdict, IsWritten, MayEnd, Missing, Reads, TooLong, Work, Writes, Wrote, files_at, said_at}
use Rattle.call_replies.specs.Prelude.{name_text}
use Rattle.machine_verbs.proofs.Pairing.{none-read, one-read}
use Rattle.call_laws.proofs.SomeObjects.{compiled-some, program-fits}
use Rattle.call_laws.proofs.SomePaths.{shown-in-trees-some, shown-some}
use Rattle.call_laws.proofs.SomeSamples.{made-some}
use Rattle.call_laws.proofs.SomeSources.{source-some}
use Rattle.run_data.specs.declared.errors.InputError.TheVariants as error
use Rattle.call_replies.specs.declared.replies.Done.TheVariants as made
use Rattle.call_replies.specs.declared.replies.InputFault.TheVariants as fault
use Rattle.call_replies.specs.declared.replies.Verdict.TheVariants as verdict
use Rattle.call_steps.specs.Work as work

-- ---- inputs: that memory ran out is no fault of a text

abbrev NoMemory : Option InputError → Type 0
NoMemory found = found ≡ Some error.Memory → ⊥

other-fault : {X : Type 0} (e : InputError) → (e ≡ error.Memory → ⊥) → ◌≡◌ {A = Option InputError} (Some e) (Some error.Memory)
    → X
other-fault e other is = absurd (other (let f : ◌≡◌ {A = Option InputError} (Some e) (Some error.Memory) = is in cc))

none-fault : {X : Type 0} → ◌≡◌ {A = Option InputError} None (Some error.Memory) → X
none-fault is = absurd cc

list-fault : (want : Want) (a b : Bool)
    → NoMemory (if a then Some (error.WrongLength want.name) else (if b then None else Some (error.NotAWord want.name)))
list-fault want true b is = other-fault (error.WrongLength want.name) (λ e. absurd cc) is
list-fault want false true is = none-fault is
list-fault want false false is = other-fault (error.NotAWord want.name) (λ e. absurd cc) is

value-fault : (want : Want) (value : Data) → NoMemory (value_fault want value)
value-fault want value = by (listed_values want.shape value)
  where
    by : (listed : Option (List Data))
        → NoMemory (option_map_or (list_fault want) listed (Some (error.WrongShape want.name)))
    by None is = other-fault (error.WrongShape want.name) (λ e. absurd cc) is
    by (Some values) is =
        list-fault want (not (has_length want.shape want.length (length values))) (list_all is_word values) is

named-fault : (wants : List Want) (name : List ℕ) (value : Data) → NoMemory (named_fault wants name value)
named-fault [] name value is = other-fault (error.UnknownName name) (λ e. absurd cc) is
named-fault (want ∷ wants) name value is =
    by (bytes_eq want.name name) (value_fault want value) (named_fault wants name value) (value-fault want value)
    (named-fault wants name value) is
  where
    by : (b : Bool) (x y : Option InputError) → NoMemory x → NoMemory y → NoMemory (if b then x else y)
    by true x y one other = one
    by false x y one other = other

either-fault : (x y : Option InputError) → NoMemory x → NoMemory y → NoMemory (or_else x y)
either-fault None y one other = other
either-fault (Some e) y one other = one

first-fault : (wants : List Want) (members : Members) → NoMemory (first_input_fault wants members)
first-fault wants no_members is = none-fault is
first-fault wants (member name value members) is =
    either-fault (named_fault wants name value) (first_input_fault wants members) (named-fault wants name value)
    (first-fault wants members) is

abbrev Inputs : Type 0
Inputs = Result (List (List ℤ)) InputError

ok-not : {X : Type 0} (lists : List (List ℤ)) → ◌≡◌ {A = Inputs} (Ok lists) (Err error.Memory) → X
ok-not lists is = absurd cc

err-is : (e : InputError) → ◌≡◌ {A = Inputs} (Err e) (Err error.Memory) → e ≡ error.Memory
err-is e is = cc

inputs-fault : (found : Option InputError) (lists : List (List ℤ)) → NoMemory found
    → unless_fault found lists ≡ Err error.Memory → ⊥
inputs-fault None lists none is = ok-not lists is
inputs-fault (Some e) lists none is = none (ap Some (err-is e is))

never-memory : (wants : List Want) (value : Option Data) → inputs_of wants value ≡ Err error.Memory → ⊥
never-memory wants None is = absurd (let f : error.BadJson ≡ error.Memory = err-is error.BadJson is in cc)
never-memory wants (Some value) is = by (as_object value) is
  where
    by : (members : Option Members) → option_map_or (inputs_in wants) members (Err error.NotAnObject) ≡ Err error.Memory
        → ⊥
    by None e = absurd (let f : error.NotAnObject ≡ error.Memory = err-is error.NotAnObject e in cc)
    by (Some members) e = inputs-fault (first_input_fault wants members) _ (first-fault wants members) e

inputs-some : (wants : List Want) (json : List ℕ) → (a : Result (List (List ℤ)) InputFault) × AreInputs wants json a
inputs-some wants json = by (inputs_of wants (json_of json)) refl
  where
    shown : (e : InputError) → inputs_of wants (json_of json) ≡ Err e
        → (a : Result (List (List ℤ)) InputFault) × AreInputs wants json a
    shown error.BadJson is = (Err fault.Json, (error.BadJson, is, refl))
    shown error.NotAnObject is = (Err fault.Object, (error.NotAnObject, is, refl))
    shown (error.UnknownName name) is = (Err (fault.Unknown (name_text name)), (error.UnknownName name, is, refl))
    shown (error.WrongShape name) is = (Err (fault.Shape (name_text name)), (error.WrongShape name, is, refl))
    shown (error.WrongLength name) is = (Err (fault.Length (name_text name)), (error.WrongLength name, is, refl))
    shown (error.NotAWord name) is = (Err (fault.Word (name_text name)), (error.NotAWord name, is, refl))
    shown error.Memory is = absurd (never-memory wants (json_of json) is)

    by : (r : Inputs) → inputs_of wants (json_of json) ≡ r
        → (a : Result (List (List ℤ)) InputFault) × AreInputs wants json a
    by (Ok d) is = (Ok d, is)
    by (Err e) is = shown e is

-- ---- halts

halted-or-not : (e : Observed) → (e ≡ Halted) ⊎ (e ≡ Halted → ⊥)
halted-or-not Halted = inl refl
halted-or-not other = inr (λ e. absurd cc)

abbrev HaltOrNot : List Stamped → Type 0
HaltOrNot events = ((at : ℕ) × HaltsAt events at) ⊎ ((at : ℕ) → HaltsAt events at → ⊥)

halt-or-not : (events : List Stamped) → HaltOrNot events
halt-or-not [] = inr (λ at c. omega (arith, c.1))
halt-or-not (s ∷ events) = by (halted-or-not s.event) (halt-or-not events)
  where
    here : (s.event ≡ Halted → ⊥) → ((at : ℕ) → HaltsAt events at → ⊥) → (at k : ℕ) → k < length (s ∷ events)
        → slice_index_or (s ∷ events) k (seen_at at Halted) ≡ seen_at at Halted → ⊥
    here other none at zero lt is = other (ap (λ (x : Stamped). x.event) is)
    here other none at (suc k) lt is = none at (k, omega (arith, lt), is)

    by : (s.event ≡ Halted) ⊎ (s.event ≡ Halted → ⊥) → HaltOrNot events → HaltOrNot (s ∷ events)
    by (inl is) rest = inl (s.stamp, (0, omega arith, ap (λ (e : Observed). seen_at s.stamp e) is))
    by (inr other) (inl found) = inl (found.0, (suc found.1.0, omega (arith, found.1.1), found.1.2))
    by (inr other) (inr none) = inr (λ at c. here other none at c.0 c.1 c.2)

halt-some : (events : List Stamped) → (halt : Option ℕ) × HaltOf events halt
halt-some events = by (halt-or-not events)
  where
    by : HaltOrNot events → (halt : Option ℕ) × HaltOf events halt
    by (inl found) = (Some found.0, found.1)
    by (inr none) = (None, none)

-- ---- work

module _ (files : Files) (are : AreBytes files) where
  abbrev HasEnd : Work → Type 0
  HasEnd asked = (ending : Ending) × MayEnd (Holds files) asked ending

  ends-some : (seen : Seen) (ends : Verdict) → HasEnd (Ends seen ends)
  ends-some seen ends = (IsVerdict seen ends, Ended seen ends)

  writes-some : (name bytes : List ℕ) (done : Done) → HasEnd (Writes name bytes done)
  writes-some name bytes done = (IsWritten name bytes done, Wrote name bytes done)

  reads-some : (name : List ℕ) (limit : ℕ) (next : List ℕ → Work)
      → ((bytes : List ℕ) → get files name ≡ Some bytes → HasEnd (next bytes)) → HasEnd (Reads name limit next)
  reads-some name limit next some = by (get files name) refl
    where
      sized : (bytes : List ℕ) → get files name ≡ Some bytes → HasEnd (next bytes)
          → (limit < length bytes) ⊎ (length bytes ≤ limit) → HasEnd (Reads name limit next)
      sized bytes gives ends (inl long) = (IsTooLong name limit, TooLong name limit next bytes gives long)
      sized bytes gives ends (inr short) = (ends.0, Found name limit next bytes ends.0 gives short ends.1)

      by : (file : Option (List ℕ)) → get files name ≡ file → HasEnd (Reads name limit next)
      by None none = (IsUnread name, Missing name limit next none)
      by (Some bytes) gives = sized bytes gives (some bytes gives) (cases_lt limit (length bytes))

  asks-some : (question : Question) (next : Answer question → Work) (answer : Answer question)
      → IsRight question answer → HasEnd (next answer) → HasEnd (Asks question next)
  asks-some question next answer right ends = (ends.0, work.Answered question next answer ends.0 right ends.1)

  object-some : (name : List ℕ) (next : Parts → Work) → ((o : Parts) → IsInRange o → HasEnd (next o))
      → HasEnd (with_object name next)
  object-some name next some = reads-some name object_limit _ (λ bytes gives. by bytes gives (decoded bytes) refl)
    where
      by : (bytes : List ℕ) → get files name ≡ Some bytes → (r : Result Parts DecodeError) → decoded bytes ≡ r
          → HasEnd (Asks (WhichObject bytes) (or_ends verdict.Malformed next))
      by bytes gives (Ok o) is =
          let h = spelling-decoded bytes o (IsBytes-All bytes (are name bytes gives)) is in
          asks-some (WhichObject bytes) (or_ends verdict.Malformed next) (Ok o) (record { in_range = h.1; spelled = h.0 })
          (some o h.1)
      by bytes gives (Err e) is =
          asks-some (WhichObject bytes) (or_ends verdict.Malformed next) (Err e)
          (decoded-first bytes e (IsBytes-All bytes (are name bytes gives)) is)
          (ends-some nothing_seen (verdict.Malformed e))

  accepted-some : (name : List ℕ) (next : Parts → Work) → ((o : Parts) → IsInRange o → HasEnd (next o))
      → HasEnd (with_accepted name next)
  accepted-some name next some = object-some name _ (λ o range. by o range (accepted-or-refused o))
    where
      by : (o : Parts) → IsInRange o
          → Accepts o ⊎ ((place : ℕ) × (reason : Reason) × FirstRefusal o place reason)
          → HasEnd (Asks (WhetherAccepted o) (on_judged (next o)))
      by o range (inl accepts) = asks-some (WhetherAccepted o) (on_judged (next o)) None accepts (some o range)
      by o range (inr r) =
          asks-some (WhetherAccepted o) (on_judged (next o)) (Some (r.0, r.1)) r.2
          (ends-some nothing_seen (verdict.Refused r.0 r.1))

  assembly-some : (name : List ℕ) (next : Parts → Work) → ((o : Parts) → HasEnd (next o))
      → HasEnd (with_assembly name next)
  assembly-some name next some = reads-some name text_limit _ (λ text gives. by text (assembled text) refl)
    where
      by : (text : List ℕ) (r : Result Parts AsmError) → assembled text ≡ r
          → HasEnd (Asks (WhichAssembly text) (or_ends verdict.BadAssembly next))
      by text (Ok o) is =
          asks-some (WhichAssembly text) (or_ends verdict.BadAssembly next) (Ok o) (assembled-spells text o is) (some o)
      by text (Err e) is =
          asks-some (WhichAssembly text) (or_ends verdict.BadAssembly next) (Err e) (first_fault text e is)
          (ends-some nothing_seen (verdict.BadAssembly e))

  variables-some : (wants : List Want) (name : List ℕ) (next : List (List ℤ) → Work)
      → ((json : List ℕ) (d : List (List ℤ)) → AreInputs wants json (Ok d) → HasEnd (next d))
      → HasEnd (with_variables wants name next)
  variables-some wants name next some =
      reads-some name input_limit _ (λ json gives. let a = inputs-some wants json in by json a.0 a.1)
    where
      by : (json : List ℕ) (a : Result (List (List ℤ)) InputFault) → AreInputs wants json a
          → HasEnd (Asks (WhichInputs wants json) (or_ends verdict.BadInput next))
      by json (Ok d) right =
          asks-some (WhichInputs wants json) (or_ends verdict.BadInput next) (Ok d) right (some json d right)
      by json (Err f) right =
          asks-some (WhichInputs wants json) (or_ends verdict.BadInput next) (Err f) right
          (ends-some nothing_seen (verdict.BadInput f))

  given-some : (o : Parts) → IsInRange o → (name : List ℕ) (next : List (List ℤ) → Work)
      → ((d : List (List ℤ)) → FitsObject o d → HasEnd (next d)) → HasEnd (with_inputs o name next)
  given-some o range name next some =
      variables-some (wants_of o) name next
      (λ json d right. some d (inputs_fit (wants_of o) json d (wants_are_variables o range) right))

  sources-some : (procs : Bool) (name : List ℕ) (next : Source → Work)
      → ((text : List ℕ) (p : Source) → SpellsTyped procs text p → HasEnd (next p))
      → HasEnd (with_source procs name next)
  sources-some procs name next some =
      reads-some name source_limit _ (λ text gives. let a = source-some procs text in by text a.0 a.1)
    where
      by : (text : List ℕ) (a : Result Source SourceFault) → IsRight (WhichSource procs text) a
          → HasEnd (Asks (WhichSource procs text) (or_ends verdict.BadSource next))
      by text (Ok p) right =
          asks-some (WhichSource procs text) (or_ends verdict.BadSource next) (Ok p) right (some text p right)
      by text (Err shown) right =
          asks-some (WhichSource procs text) (or_ends verdict.BadSource next) (Err shown) right
          (ends-some nothing_seen (verdict.BadSource shown))

  halts-some : (o : Parts) (d : List (List ℤ)) (cycles : ℕ) (next : Option ℕ → Work)
      → ((halt : Option ℕ) → HasEnd (next halt)) → HasEnd (Asks (WhenItHalts o d cycles) next)
  halts-some o d cycles next some =
      let h = halt-some (trace o d cycles) in asks-some (WhenItHalts o d cycles) next h.0 h.1 (some h.0)

  -- ---- the cores of a bus

  cores-some : (pairs : List Pair) (k : ℕ) (read : Read) (next : Read → Work) → AreRead read → IsPlan read.plan
      → length read.plan + length pairs ≤ 8 → ((r : Read) → AreRead r → IsPlan r.plan → HasEnd (next r))
      → HasEnd (with_cores pairs k read next)
  cores-some [] k read next are plan few some = some read are plan
  cores-some (pair ∷ pairs) k read next are plan few some =
      accepted-some pair.object _ (λ o range. by o range (refusal read.plan (share_of o)) refl
      (λ d more now room. cores-some pairs (k + 1) (one_read read o d) next more now room some))
    where
      by : (o : Parts) → IsInRange o → (found : Option BusError) → refusal read.plan (share_of o) ≡ found
          → ((d : List (List ℤ)) → AreRead (one_read read o d) → IsPlan (read.plan ++ share_of o ∷ [])
          → length (read.plan ++ share_of o ∷ []) + length pairs ≤ 8
          → HasEnd (with_cores pairs (k + 1) (one_read read o d) next))
          → HasEnd (on_plan k found (with_inputs o pair.input (λ d. with_cores pairs (k + 1) (one_read read o d) next)))
      by o range None taken rest =
          given-some o range pair.input _ (λ d fits. rest d (one-read read o d are range fits)
          (plan-takes read.plan o plan (omega (arith, few)) range taken)
          (omega (arith, few, length-append read.plan (share_of o ∷ []))))
      by o range (Some cause) refused rest = ends-some nothing_seen (verdict.OffBus k cause)

  all-halts-some : (cycles : ℕ) (os : List Parts) (ds : List (List (List ℤ))) (next : List (Option ℕ) → Work)
      → ((halts : List (Option ℕ)) → HasEnd (next halts)) → HasEnd (with_halts cycles os ds next)
  all-halts-some cycles [] ds next some = some []
  all-halts-some cycles (o ∷ os) [] next some = some []
  all-halts-some cycles (o ∷ os) (d ∷ ds) next some =
      halts-some o d cycles _ (λ halt. all-halts-some cycles os ds (λ more. next (halt ∷ more))
      (λ more. some (halt ∷ more)))

  bus-some : (pairs : List Pair) (cycles : ℕ) → length pairs ≤ 8 → HasEnd (bus_work pairs cycles)
  bus-some pairs cycles few =
      cores-some pairs 0 none_read (shares_bus cycles) none-read plan-none (omega (arith, few)) (λ r are plan.
      all-halts-some cycles r.objects r.inputs _ (λ halts.
      asks-some (WhatIsJoined r.objects r.inputs cycles) _ (joined_of (all_traces r.objects r.inputs cycles)) (joins r are plan)
      (ends-some _ _)))
    where
      joins : (r : Read) → AreRead r → IsPlan r.plan
          → IsJoined (all_traces r.objects r.inputs cycles) (joined_of (all_traces r.objects r.inputs cycles))
      joins r are plan =
          subst (λ (l : List (List Stamped)). IsJoined l (joined_of l)) (traces-same r.objects r.inputs cycles)
          (worked-out (runs_of r.objects r.inputs)
          (on-bus r.objects r.inputs are.fit (subst IsPlan are.planned plan)) cycles)

  -- ---- verbs

  check-some : (object : List ℕ) → HasEnd (check_work object)
  check-some object = accepted-some object _ (λ o range. ends-some nothing_seen verdict.Accepted)

  shows-some : (paths recursive : Bool) (cycles seed : ℕ) (o : Parts) → IsInRange o → (d : List (List ℤ))
      → FitsObject o d → (halt : Option ℕ) → HasEnd (shows_on paths recursive cycles seed o d halt)
  shows-some false recursive cycles seed o range d fits halt =
      ends-some (events_alone (trace o d cycles)) (verdict.Traced (is_some halt))
  shows-some true false cycles seed o range d fits halt =
      let seen = shown-some o range d fits cycles seed in
      asks-some (WhatIsShown false o d cycles seed) _ seen.0 seen.1
      (ends-some seen.0 (verdict.Traced (is_some halt)))
  shows-some true true cycles seed o range d fits halt =
      let seen = shown-in-trees-some o range d fits cycles seed in
      asks-some (WhatIsShown true o d cycles seed) _ seen.0 seen.1
      (ends-some seen.0 (verdict.Traced (is_some halt)))

  trace-some : (object input : List ℕ) (cycles seed : ℕ) (paths recursive : Bool)
      → HasEnd (trace_work object input cycles seed paths recursive)
  trace-some object input cycles seed paths recursive =
      accepted-some object _ (λ o range. given-some o range input (traces_on paths recursive cycles seed o)
      (λ d fits. halts-some o d cycles (shows_on paths recursive cycles seed o d)
      (λ halt. shows-some paths recursive cycles seed o range d fits halt)))

  run-some : (object input output : List ℕ) (cycles : ℕ) → HasEnd (run_work object input output cycles)
  run-some object input output cycles =
      accepted-some object _ (λ o range. given-some o range input (runs_on output cycles o)
      (λ d fits. halts-some o d cycles (on_halt o d output cycles) (by o d)))
    where
      by : (o : Parts) (d : List (List ℤ)) (halt : Option ℕ) → HasEnd (on_halt o d output cycles halt)
      by o d (Some at) = writes-some output _ _
      by o d None = ends-some nothing_seen _

  assemble-some : (text output : List ℕ) → HasEnd (assemble_work text output)
  assemble-some text output = assembly-some text _ (λ o. writes-some output (spelling o) made.Assembled)

  disassemble-some : (object output : List ℕ) → HasEnd (disassemble_work object output)
  disassemble-some object output = object-some object _ (λ o range. writes-some output (canonical o) made.Disassembled)

  evaluate-some : (source input output : List ℕ) (turns : ℕ) (procs : Bool)
      → HasEnd (evaluate_work source input output turns procs)
  evaluate-some source input output turns procs =
      sources-some procs source _ (λ text p typed. variables-some (declared_wants p.decls) input
      (evaluates_on output turns p) (λ json d right.
      asks-some (WhatIsLeft p d turns) (on_left p output turns) (meaning p d turns) refl (by p (meaning p d turns))))
    where
      by : (p : Source) (left : Option (List (List ℤ))) → HasEnd (on_left p output turns left)
      by p (Some left) = writes-some output _ made.Evaluated
      by p None = ends-some nothing_seen (verdict.Spent turns)

  compile-some : (source output : List ℕ) (target : Target) (procs : Bool) → ProfileFits target.profile
      → HasEnd (compile_work source output target procs)
  compile-some source output target procs profile =
      sources-some procs source _ (λ text p typed.
      let a = compiled-some p target profile typed.typed typed.within (program-fits procs text p typed.spells) in
      asks-some (WhichCompiled p target) (on_compiled output) a.0 a.1 (by a.0))
    where
      by : (a : Result (List ℕ) SourceFault) → HasEnd (on_compiled output a)
      by (Ok bytes) = writes-some output bytes made.Compiled
      by (Err shown) = ends-some nothing_seen (verdict.BadSource shown)

  sample-some : (fast : Bool) (n : ℕ) (output : List ℕ) → Within 1 65536 n → HasEnd (sample_work fast n output)
  sample-some fast n output few =
      let sample = made-some fast n few in
      asks-some (WhatIsMade fast n) (samples_on n output) sample.0 sample.1
      (halts-some sample.0.object (sample_inputs (wants_of sample.0.object)) sample_cycles
      (on_sampled n output sample.0) (by sample.0))
    where
      by : (sample : Made) (halt : Option ℕ) → HasEnd (on_sampled n output sample halt)
      by sample (Some at) = writes-some output sample.bytes (made.Sampled (figures_of n sample at))
      by sample None = ends-some nothing_seen (verdict.Spent sample_cycles)

  infer-some : (object output : List ℕ) → HasEnd (infer_work object output)
  infer-some object output = object-some object (infers_to output) (λ o range. by o (answered o range))
    where
      by : (o : Parts) → Answered o → HasEnd (infers_to output o)
      by o (Gets found in_range inferred) =
          asks-some (WhatIsInferred o) (on_inferred output) (Ok found)
          (record { in_range = in_range; inferred = inferred })
          (writes-some output (spelling found) (made.Inferred (length found.notes)))
      by o (Fails why told cause suffices) =
          asks-some (WhatIsInferred o) (on_inferred output) (Err why)
          (record { told = told; cause = cause; suffices = suffices }) (ends-some nothing_seen (verdict.NoNotes why))

some-answer : (asked : Work) → ((files : Files) (are : AreBytes files) → HasEnd files are asked) → HasSomeAnswer asked
some-answer asked some files are =
    let e = some files are in (said_at e.0, files_at e.0 files, AnswersSo asked e.0 e.1)

pub some-answers : SomeAnswer
some-answers = record {
  check = λ object. some-answer _ (λ files are. check-some files are object);
  trace = λ object input cycles seed paths recursive.
      some-answer _ (λ files are. trace-some files are object input cycles seed paths recursive);
  run = λ object input output cycles. some-answer _ (λ files are. run-some files are object input output cycles);
  assemble = λ text output. some-answer _ (λ files are. assemble-some files are text output);
  disassemble = λ object output. some-answer _ (λ files are. disassemble-some files are object output);
  bus = λ pairs cycles few. some-answer _ (λ files are. bus-some files are pairs cycles few);
  infer = λ object output. some-answer _ (λ files are. infer-some files are object output);
  evaluate = λ source input output turns procs.
      some-answer _ (λ files are. evaluate-some files are source input output turns procs);
  compile = λ source output target procs profile.
      some-answer _ (λ files are. compile-some files are source output target procs profile);
  sample = λ fast items output within. some-answer _ (λ files are. sample-some files are fast items output within);
  source = λ procs text. source-some procs text;
}
