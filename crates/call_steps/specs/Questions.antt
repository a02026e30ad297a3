-- What the work of a verb asks about what it has read: the questions, the possible answers to each, and which of them
-- are right. A verb that asks something new adds it here.
use Rattle.std.specs.Prelude.{◌≡◌, Bool, true, false, ℕ, ℤ, List, Option, Result, Ok, Err, MatchOption, MatchResult}
use Rattle.gr_word.specs.declared.variables.Want.{Want}
use Rattle.src_tree.specs.Trees.{Source}
use Rattle.call_steps.specs.declared.targets.Target.{Target}
use Rattle.lt_isa.specs.Object.{Parts}
use Rattle.lt_isa.specs.Start.{trace}
use Rattle.bus_arbiter.specs.Laws.{traces_on}
use Rattle.bus_arbiter.specs.Transfers.{IsJoined, Transfer}
use Rattle.object_file.specs.FirstFaults.{IsFirstObjectFault}
use Rattle.object_file.specs.declared.errors.DecodeError.{DecodeError}
use Rattle.lt_assembler.specs.Spelled.{SpellsInText}
use Rattle.lt_assembler.specs.FirstFaults.{IsFirstTextFault}
use Rattle.lt_assembler.specs.declared.errors.AsmError.{AsmError}
use Rattle.run_data.specs.InputsOf.{json_of, inputs_of}
use Rattle.run_data.specs.declared.errors.InputError.{InputError}
use Rattle.trace_patterns.specs.declared.reasons.Reason.{Reason}
use Rattle.trace_patterns.specs.Accepts.{Accepts, FirstRefusal}
use Rattle.note_infer.specs.declared.faults.InferError.{InferError}
use Rattle.call_replies.specs.declared.replies.InputFault.{InputFault}
use Rattle.call_replies.specs.declared.source_faults.SourceFault.{SourceFault}
use Rattle.call_replies.specs.NameText.{name_text}
use Rattle.call_steps.specs.Objects.{SpellsObject}
use Rattle.call_steps.specs.Sources.{SpellsTyped, IsFirstSourceFault}
use Rattle.call_steps.specs.Compiled.{IsCompiled}
use Rattle.call_steps.specs.Histogram.{Made, IsMade}
use Rattle.call_steps.specs.Inferred.{GetsNone, GetsNotes}
use Rattle.call_steps.specs.Paths.{IsShown}
use Rattle.call_steps.specs.RecursivePaths.{IsShownInTrees}
use Rattle.call_steps.specs.Runs.{HaltOf}
use Rattle.call_steps.specs.Showing.{Seen}
use Rattle.src_tree.specs.Meaning.{meaning}
use Rattle.run_data.specs.declared.errors.InputError.TheVariants as error
use Rattle.call_replies.specs.declared.replies.InputFault.TheVariants as fault

pub data Question : Type 0 where
  WhichObject : (bytes : List ℕ) → Question
  WhichAssembly : (text : List ℕ) → Question
  WhichSource : (procs : Bool) (text : List ℕ) → Question
  WhichInputs : (wants : List Want) (json : List ℕ) → Question
  WhetherAccepted : (o : Parts) → Question
  WhenItHalts : (o : Parts) (inputs : List (List ℤ)) (cycles : ℕ) → Question
  WhatIsJoined : (objects : List Parts) (inputs : List (List (List ℤ))) (cycles : ℕ) → Question
  WhatIsShown : (recursive : Bool) (o : Parts) (inputs : List (List ℤ)) (cycles seed : ℕ) → Question
  WhatIsLeft : (p : Source) (inputs : List (List ℤ)) (turns : ℕ) → Question
  WhichCompiled : (p : Source) (target : Target) → Question
  WhatIsMade : (fast : Bool) (items : ℕ) → Question
  WhatIsInferred : (o : Parts) → Question

-- an object, a program or inputs, or the first fault; the first refusal, if there is one; the cycle of the halt, if
-- there is one; the joined list of several runs; the trace with its paths; the final values, if there are any; an
-- object file of a program, or what lacks room; the sample for this many items; the object with its least notes, or why
-- it gets none
abbrev pub Answer : Question → Type 0
Answer (WhichObject bytes) = Result Parts DecodeError
Answer (WhichAssembly text) = Result Parts AsmError
Answer (WhichSource procs text) = Result Source SourceFault
Answer (WhichInputs wants json) = Result (List (List ℤ)) InputFault
Answer (WhetherAccepted o) = Option (ℕ × Reason)
Answer (WhenItHalts o inputs cycles) = Option ℕ
Answer (WhatIsJoined objects inputs cycles) = List Transfer
Answer (WhatIsShown recursive o inputs cycles seed) = Seen
Answer (WhatIsLeft p inputs turns) = Option (List (List ℤ))
Answer (WhichCompiled p target) = Result (List ℕ) SourceFault
Answer (WhatIsMade fast items) = Made
Answer (WhatIsInferred o) = Result Parts InferError

-- the fault as it is shown, its name as JSON text
abbrev pub Shows : InputError → InputFault → Type 0
Shows error.BadJson shown = shown ≡ fault.Json
Shows error.NotAnObject shown = shown ≡ fault.Object
Shows (error.UnknownName name) shown = shown ≡ fault.Unknown (name_text name)
Shows (error.WrongShape name) shown = shown ≡ fault.Shape (name_text name)
Shows (error.WrongLength name) shown = shown ≡ fault.Length (name_text name)
Shows (error.NotAWord name) shown = shown ≡ fault.Word (name_text name)
Shows error.Memory shown = ⊥

abbrev pub AreInputs : List Want → List ℕ → Result (List (List ℤ)) InputFault → Type 0
AreInputs wants json (Ok inputs) = inputs_of wants (json_of json) ≡ Ok inputs
AreInputs wants json (Err shown) =
    (first : InputError) × (inputs_of wants (json_of json) ≡ Err first) × Shows first shown

-- Which answer is right: `MatchResult` gives what is true of a result and then of a fault; `MatchOption` gives what is
-- true if there is none and then of what there is.
abbrev pub IsRight : (question : Question) → Answer question → Type 0
IsRight (WhichObject bytes) answer = MatchResult answer (SpellsObject bytes) (IsFirstObjectFault bytes)
IsRight (WhichAssembly text) answer = MatchResult answer (SpellsInText text) (IsFirstTextFault text)
IsRight (WhichSource procs text) answer = MatchResult answer (SpellsTyped procs text) (IsFirstSourceFault procs text)
IsRight (WhichInputs wants json) answer = AreInputs wants json answer
IsRight (WhetherAccepted o) answer = MatchOption answer (Accepts o) (λ refusal. FirstRefusal o refusal.0 refusal.1)
IsRight (WhenItHalts o inputs cycles) answer = HaltOf (trace o inputs cycles) answer
IsRight (WhatIsJoined objects inputs cycles) answer = IsJoined (traces_on objects inputs cycles) answer
IsRight (WhatIsShown false o inputs cycles seed) answer = IsShown o inputs cycles seed answer
IsRight (WhatIsShown true o inputs cycles seed) answer = IsShownInTrees o inputs cycles seed answer
IsRight (WhatIsLeft p inputs turns) answer = meaning p inputs turns ≡ answer
IsRight (WhichCompiled p target) answer = IsCompiled p target answer
IsRight (WhatIsMade fast items) answer = IsMade fast items answer
IsRight (WhatIsInferred o) answer = MatchResult answer (GetsNotes o) (GetsNone o)
