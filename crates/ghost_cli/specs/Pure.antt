-- What the calls over bytes return: what they found, or why they found nothing. They read no files. (This project's
-- target.)
use Rattle.std.specs.Prelude.{◌≡◌, ℕ, ℤ, Bool, List, Ok, Err}
use Rattle.lt_isa.specs.Object.{Parts}
use Rattle.lt_isa.specs.Oblivious.{IsOblivious}
use Rattle.lt_isa.specs.Start.{wants_of}
use Rattle.call_steps.specs.declared.targets.Target.{Target}
use Rattle.object_file.specs.FirstFaults.{IsFirstObjectFault}
use Rattle.object_file.specs.declared.errors.DecodeError.{DecodeError}
use Rattle.run_data.specs.InputsOf.{inputs_of, json_of}
use Rattle.src_tree.specs.Trees.{Source}
use Rattle.trace_patterns.specs.Accepts.{FirstRefusal}
use Rattle.trace_patterns.specs.declared.reasons.Reason.{Reason}
use Rattle.call_replies.specs.declared.replies.InputFault.{InputFault}
use Rattle.call_replies.specs.declared.replies.Verdict.TheVariants.{BadInput, BadSource, Malformed, Refused}
use Rattle.machine_verbs.specs.declared.run.Ran.{Ran}
use Rattle.call_replies.specs.declared.source_faults.SourceFault.{SourceFault}
use Rattle.call_steps.specs.Compiled.{IsCompiled}
use Rattle.call_steps.specs.Objects.{SpellsObject}
use Rattle.call_steps.specs.Questions.{AreInputs}
use Rattle.machine_verbs.specs.Ran.{RanTo}
use Rattle.call_steps.specs.Sources.{IsFirstSourceFault, SpellsTyped}
use Rattle.call_replies.specs.Texts.{Said, comes_to, no_memory}
use Rattle.machine_verbs.specs.TracedText.{IsTextOfTrace}

-- Why bytes give no accepted object: memory ran out; or they don't encode an object, and this is their first fault; or
-- the check rejects their object, and this is its first refusal.
pub data NotChecked (bytes : List ℕ) (said : Said) : Type 0 where
  NoRoom : said ≡ no_memory → NotChecked bytes said
  NoObject : (fault : DecodeError) → IsFirstObjectFault bytes fault → said ≡ comes_to (Malformed fault)
      → NotChecked bytes said
  NotAccepted : (o : Parts) (place : ℕ) (reason : Reason) → SpellsObject bytes o → FirstRefusal o place reason
      → said ≡ comes_to (Refused place reason) → NotChecked bytes said

-- Why a text gives no object file: memory ran out; or it isn't a program, and this is its first fault; or the program
-- has no room on the machine.
pub data NotCompiled (procs : Bool) (text : List ℕ) (target : Target) (said : Said) : Type 0 where
  NoRoomLeft : said ≡ no_memory → NotCompiled procs text target said
  NoProgram : (fault : SourceFault) → IsFirstSourceFault procs text fault → said ≡ comes_to (BadSource fault)
      → NotCompiled procs text target said
  NoRoomOnMachine : (p : Source) (fault : SourceFault) → SpellsTyped procs text p → IsCompiled p target (Err fault)
      → said ≡ comes_to (BadSource fault) → NotCompiled procs text target said

-- Why an object and inputs give no run: memory ran out; or the bytes give no accepted object; or the bytes give it no
-- inputs, and this is their first fault.
pub data NotRun (object input : List ℕ) (said : Said) : Type 0 where
  NoRoomToRun : said ≡ no_memory → NotRun object input said
  NotRunnable : NotChecked object said → NotRun object input said
  NoInputs : (o : Parts) (fault : InputFault) → SpellsObject object o → AreInputs (wants_of o) input (Err fault)
      → said ≡ comes_to (BadInput fault) → NotRun object input said

-- the bytes give an oblivious object and its inputs, and the run ends so
pub record RunsTo (object input : List ℕ) (cycles : ℕ) (ran : Ran) : Type 0 where
  pub o : Parts
  pub spells : SpellsObject object o
  pub oblivious : IsOblivious o
  pub inputs : List (List ℤ)
  pub given : inputs_of (wants_of o) (json_of input) ≡ Ok inputs
  pub ends : RanTo o inputs cycles ran

-- the bytes give an oblivious object and its inputs, and this is the text of the run's trace
pub record TracesTo (object input : List ℕ) (cycles : ℕ) (text : List ℕ) : Type 0 where
  pub o : Parts
  pub spells : SpellsObject object o
  pub oblivious : IsOblivious o
  pub inputs : List (List ℤ)
  pub given : inputs_of (wants_of o) (json_of input) ≡ Ok inputs
  pub traced : IsTextOfTrace o inputs cycles text
