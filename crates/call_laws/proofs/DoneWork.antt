-- What a finished work has read and asked: files that exist, and results that aren't faults.
use Rattle.std.proofs.Common.{◌≡◌, ◌≢◌, inl, inr, ℕ, ℤ, Bool, List, Option, Some, None, Result, Ok, Err, refl, subst, arith}
use Rattle.std.specs.FinMap.{get}
use Rattle.gr_outside.specs.Prelude.{Files}
use Rattle.gr_word.specs.declared.variables.Want.{Want}
use Rattle.lt_isa.specs.Prelude.{Parts}
use Rattle.lt_checker.proofs.Soundness.{accepted_is_oblivious}
use Rattle.lt_assembler.specs.Prelude.{SpellsInText}
use Rattle.path_oram.proofs.AlikeLeaves.{leaves_alike}
use Rattle.src_tree.specs.Prelude.{Source}
use Rattle.trace_patterns.specs.Prelude.{Accepts}
use Rattle.trace_patterns.specs.declared.reasons.Reason.{Reason}
use Rattle.bus_arbiter.specs.declared.errors.BusError.{BusError}
use Rattle.call_replies.specs.declared.replies.Verdict.{Verdict}
use Rattle.call_replies.specs.declared.replies.Verdict.TheVariants.{BadAssembly, BadInput, BadSource, Malformed}
use Rattle.machine_verbs.specs.Prelude.{on_plan}
use Rattle.call_laws.specs.Prelude.{HoldsInputs, IsDone, IsSafe}
use Rattle.call_steps.specs.Prelude.{SpellsObject, object_limit, IsRight, WhetherAccepted, WhichAssembly, WhichInputs, WhichObject, WhichSource, SpellsTyped, source_limit, input_limit, on_judged, or_ends, text_limit, with_accepted, with_assembly, with_object, with_source, with_variables, Asks, Ending, Holds, MayEnd, Reads, Work, said_at}
use Rattle.call_replies.specs.Prelude.{verdict_status}
use Rattle.call_laws.proofs.Behind.{behind-it, not-done}

-- the file encodes an object, and the rest of the work ends so with it
pub record Spelled (files : Files) (name : List ℕ) (next : Parts → Work) (ending : Ending) : Type 0 where
  pub bytes : List ℕ
  pub there : get files name ≡ Some bytes
  pub o : Parts
  pub spells : SpellsObject bytes o
  pub comes : MayEnd (Holds files) (next o) ending

-- the file is the text of an object in assembly, and the rest of the work ends so with it
pub record Written (files : Files) (name : List ℕ) (next : Parts → Work) (ending : Ending) : Type 0 where
  pub text : List ℕ
  pub there : get files name ≡ Some text
  pub o : Parts
  pub spells : SpellsInText text o
  pub comes : MayEnd (Holds files) (next o) ending

-- the object was checked: it is safe, and the rest of the work ends so with it
pub record Checked (files : Files) (object : List ℕ) (next : Parts → Work) (ending : Ending) : Type 0 where
  pub safe : IsSafe files object
  pub comes : MayEnd (Holds files) (next safe.o) ending

-- the file parses as a well-typed program
pub record Programmed (procs : Bool) (files : Files) (name : List ℕ) (next : Source → Work) (ending : Ending)
    : Type 0 where
  pub text : List ℕ
  pub there : get files name ≡ Some text
  pub p : Source
  pub spells : SpellsTyped procs text p
  pub comes : MayEnd (Holds files) (next p) ending

-- the file gives inputs
pub record Given (files : Files) (name : List ℕ) (wants : List Want) (next : List (List ℤ) → Work) (ending : Ending)
    : Type 0 where
  pub inputs : List (List ℤ)
  pub given : HoldsInputs files name wants inputs
  pub comes : MayEnd (Holds files) (next inputs) ending

module _ (files : Files) (ending : Ending) (done : IsDone (said_at ending).status) where
  -- a file was read
  read-on : (name : List ℕ) (limit : ℕ) (next : List ℕ → Work) → MayEnd (Holds files) (Reads name limit next) ending
      → (bytes : List ℕ) × (get files name ≡ Some bytes) × MayEnd (Holds files) (next bytes) ending
  read-on name limit next comes =
      elim (behind-it (Holds files) (Reads name limit next) ending comes) [
        | inl unread ↦ not-done ending _ unread done (λ e. omega (arith, e)) (λ e. omega (arith, e))
        | inr more ↦ elim more [
          | inl long ↦ not-done ending _ long done (λ e. omega (arith, e)) (λ e. omega (arith, e))
          | inr found ↦ found
        ]
      ]

  -- a result was found, and isn't a fault
  found-on : {X E : Type 0} (verdict : E → Verdict) → ((e : E) → verdict_status (verdict e) ≢ 0)
      → ((e : E) → verdict_status (verdict e) ≢ 10) → (next : X → Work) (answer : Result X E)
      → MayEnd (Holds files) (or_ends verdict next answer) ending
      → (x : X) × (answer ≡ Ok x) × MayEnd (Holds files) (next x) ending
  found-on verdict zero ten next (Ok x) comes = (x, refl, comes)
  found-on verdict zero ten next (Err e) comes =
      not-done ending _ (behind-it (Holds files) _ ending comes) done (zero e) (ten e)

  pub spelled-on : (name : List ℕ) (next : Parts → Work) → MayEnd (Holds files) (with_object name next) ending
      → Spelled files name next ending
  spelled-on name next comes =
      let read = read-on name object_limit (λ bytes. Asks (WhichObject bytes) (or_ends Malformed next)) comes in
      let asked = behind-it (Holds files) _ ending read.2 in
      let found =
      found-on Malformed (λ e is. omega (arith, is)) (λ e is. omega (arith, is)) next asked.0 asked.2 in
      record {
        bytes = read.0;
        there = read.1;
        o = found.0;
        spells = subst (IsRight (WhichObject read.0)) found.1 asked.1;
        comes = found.2;
      }

  pub assembled-on : (name : List ℕ) (next : Parts → Work) → MayEnd (Holds files) (with_assembly name next) ending
      → Written files name next ending
  assembled-on name next comes =
      let read = read-on name text_limit (λ text. Asks (WhichAssembly text) (or_ends BadAssembly next)) comes in
      let asked = behind-it (Holds files) _ ending read.2 in
      let found =
      found-on BadAssembly (λ e is. omega (arith, is)) (λ e is. omega (arith, is)) next asked.0 asked.2 in
      record {
        text = read.0;
        there = read.1;
        o = found.0;
        spells = subst (IsRight (WhichAssembly read.0)) found.1 asked.1;
        comes = found.2;
      }

  -- a check said yes
  accepted-on : (o : Parts) (next : Work) (answer : Option (ℕ × Reason)) → IsRight (WhetherAccepted o) answer
      → MayEnd (Holds files) (on_judged next answer) ending → Accepts o × MayEnd (Holds files) next ending
  accepted-on o next None accepts comes = (accepts, comes)
  accepted-on o next (Some refusal) first comes =
      not-done ending _ (behind-it (Holds files) _ ending comes) done (λ e. omega (arith, e)) (λ e. omega (arith, e))

  pub checked-on : (object : List ℕ) (next : Parts → Work) → MayEnd (Holds files) (with_accepted object next) ending
      → Checked files object next ending
  checked-on object next comes =
      let found = spelled-on object (λ o. Asks (WhetherAccepted o) (on_judged (next o))) comes in
      let asked = behind-it (Holds files) _ ending found.comes in
      let judged = accepted-on found.o (next found.o) asked.0 asked.1 asked.2 in
      let oblivious = accepted_is_oblivious found.o found.spells.in_range judged.0 in
      record {
        safe = record {
          bytes = found.bytes;
          o = found.o;
          there = found.there;
          spells = found.spells;
          accepted = judged.0;
          oblivious = oblivious;
          leaves = leaves_alike found.o found.spells.in_range oblivious;
        };
        comes = judged.1;
      }

  pub programmed-on : (procs : Bool) (name : List ℕ) (next : Source → Work)
      → MayEnd (Holds files) (with_source procs name next) ending → Programmed procs files name next ending
  programmed-on procs name next comes =
      let read = read-on name source_limit (λ text. Asks (WhichSource procs text) (or_ends BadSource next)) comes in
      let asked = behind-it (Holds files) _ ending read.2 in
      let found =
      found-on BadSource (λ e is. omega (arith, is)) (λ e is. omega (arith, is)) next asked.0 asked.2 in
      record {
        text = read.0;
        there = read.1;
        p = found.0;
        spells = subst (IsRight (WhichSource procs read.0)) found.1 asked.1;
        comes = found.2;
      }

  pub given-on : (wants : List Want) (name : List ℕ) (next : List (List ℤ) → Work)
      → MayEnd (Holds files) (with_variables wants name next) ending → Given files name wants next ending
  given-on wants name next comes =
      let read = read-on name input_limit (λ json. Asks (WhichInputs wants json) (or_ends BadInput next)) comes in
      let asked = behind-it (Holds files) _ ending read.2 in
      let found =
      found-on BadInput (λ e is. omega (arith, is)) (λ e is. omega (arith, is)) next asked.0 asked.2 in
      record {
        inputs = found.0;
        given = record {
          json = read.0;
          there = read.1;
          given = subst (IsRight (WhichInputs wants read.0)) found.1 asked.1;
        };
        comes = found.2;
      }

  -- the plan of a bus refused no object
  pub planned-on : (k : ℕ) (found : Option BusError) (next : Work) → MayEnd (Holds files) (on_plan k found next) ending
      → (found ≡ None) × MayEnd (Holds files) next ending
  planned-on k None next comes = (refl, comes)
  planned-on k (Some cause) next comes =
      not-done ending _ (behind-it (Holds files) _ ending comes) done (λ e. omega (arith, e)) (λ e. omega (arith, e))
