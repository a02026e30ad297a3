-- Why a call over bytes found nothing: from what ends the work of a verb.
use Rattle.std.proofs.Common.{◌≡◌, inl, inr, ℕ, ℤ, Bool, List, [], Option, Some, None, Result, Ok, Err, sym, ap, ◌∙◌}
use Rattle.lt_isa.specs.Prelude.{Parts, wants_of}
use Rattle.call_steps.specs.declared.targets.Target.{Target}
use Rattle.object_file.specs.declared.errors.DecodeError.{DecodeError}
use Rattle.src_tree.specs.Prelude.{Source}
use Rattle.trace_patterns.specs.declared.reasons.Reason.{Reason}
use Rattle.call_replies.specs.declared.replies.Done.TheVariants.{Compiled}
use Rattle.call_replies.specs.declared.replies.InputFault.{InputFault}
use Rattle.call_replies.specs.declared.replies.Verdict.{Verdict}
use Rattle.call_replies.specs.declared.replies.Verdict.TheVariants.{BadInput, BadSource, Malformed, Refused}
use Rattle.call_replies.specs.declared.source_faults.SourceFault.{SourceFault}
use Rattle.call_steps.specs.Prelude.{on_compiled, SpellsObject, EndsWorkWith, IsRight, WhetherAccepted, WhichCompiled, WhichInputs, WhichObject, WhichSource, nothing_seen, SpellsTyped, on_judged, or_ends, Ends, Work, Writes}
use Rattle.ghost_cli.specs.Prelude.{NoInputs, NoObject, NoProgram, NoRoom, NoRoomLeft, NoRoomOnMachine, NoRoomToRun, NotAccepted, NotChecked, NotCompiled, NotRun}
use Rattle.call_replies.specs.Prelude.{Said, comes_to}

-- a work that isn't a verdict, and the verdict of one that is
abbrev some-write : Work
some-write = Writes [] [] Compiled

same-verdict : (one other : Verdict) → Ends nothing_seen one ≡ Ends nothing_seen other → one ≡ other
same-verdict one other e = let f : ◌≡◌ {A = Work} (Ends nothing_seen one) (Ends nothing_seen other) = e in cc

goes-on : {X : Type 0} (verdict : Verdict) → some-write ≡ Ends nothing_seen verdict → X
goes-on verdict e = absurd (let f : ◌≡◌ {A = Work} (Writes [] [] Compiled) (Ends nothing_seen verdict) = e in cc)

says : (one other : Verdict) (said : Said) → Ends nothing_seen one ≡ Ends nothing_seen other → said ≡ comes_to other
    → said ≡ comes_to one
says one other said e is = is ∙ ap comes_to (sym (same-verdict one other e))

pub not-spelled : (bytes : List ℕ) (said : Said)
    → ((next : Parts → Work) → EndsWorkWith (WhichObject bytes) (or_ends Malformed next) said) → NotChecked bytes said
not-spelled bytes said ends = elim (ends (λ o. some-write)) [
  | inl none ↦ NoRoom none
  | inr why ↦ by why.0 why.1 why.2 why.3 why.4
]
  where
    by : (answer : Result Parts DecodeError) (verdict : Verdict) → IsRight (WhichObject bytes) answer
        → or_ends Malformed (λ o. some-write) answer ≡ Ends nothing_seen verdict → said ≡ comes_to verdict
        → NotChecked bytes said
    by (Ok o) verdict spells e is = goes-on verdict e
    by (Err fault) verdict first e is = NoObject fault first (says (Malformed fault) verdict said e is)

pub not-accepted : (bytes : List ℕ) (o : Parts) (said : Said) → SpellsObject bytes o
    → ((next : Work) → EndsWorkWith (WhetherAccepted o) (on_judged next) said) → NotChecked bytes said
not-accepted bytes o said spells ends = elim (ends some-write) [
  | inl none ↦ NoRoom none
  | inr why ↦ by why.0 why.1 why.2 why.3 why.4
]
  where
    by : (answer : Option (ℕ × Reason)) (verdict : Verdict) → IsRight (WhetherAccepted o) answer
        → on_judged some-write answer ≡ Ends nothing_seen verdict → said ≡ comes_to verdict → NotChecked bytes said
    by None verdict accepts e is = goes-on verdict e
    by (Some refusal) verdict first e is =
        NotAccepted o refusal.0 refusal.1 spells first (says (Refused refusal.0 refusal.1) verdict said e is)

pub no-program : (procs : Bool) (text : List ℕ) (target : Target) (said : Said)
    → ((next : Source → Work) → EndsWorkWith (WhichSource procs text) (or_ends BadSource next) said)
    → NotCompiled procs text target said
no-program procs text target said ends = elim (ends (λ p. some-write)) [
  | inl none ↦ NoRoomLeft none
  | inr why ↦ by why.0 why.1 why.2 why.3 why.4
]
  where
    by : (answer : Result Source SourceFault) (verdict : Verdict) → IsRight (WhichSource procs text) answer
        → or_ends BadSource (λ p. some-write) answer ≡ Ends nothing_seen verdict → said ≡ comes_to verdict
        → NotCompiled procs text target said
    by (Ok p) verdict spells e is = goes-on verdict e
    by (Err fault) verdict first e is = NoProgram fault first (says (BadSource fault) verdict said e is)

pub not-compiled : (procs : Bool) (text : List ℕ) (p : Source) (target : Target) (said : Said)
    → SpellsTyped procs text p
    → ((output : List ℕ) → EndsWorkWith (WhichCompiled p target) (on_compiled output) said)
    → NotCompiled procs text target said
not-compiled procs text p target said spells ends = elim (ends []) [
  | inl none ↦ NoRoomLeft none
  | inr why ↦ by why.0 why.1 why.2 why.3 why.4
]
  where
    by : (answer : Result (List ℕ) SourceFault) (verdict : Verdict) → IsRight (WhichCompiled p target) answer
        → on_compiled [] answer ≡ Ends nothing_seen verdict → said ≡ comes_to verdict
        → NotCompiled procs text target said
    by (Ok bytes) verdict compiled e is =
        absurd (let f : ◌≡◌ {A = Work} (Writes [] bytes Compiled) (Ends nothing_seen verdict) = e in cc)
    by (Err fault) verdict room e is =
        NoRoomOnMachine p fault spells room (says (BadSource fault) verdict said e is)

pub no-inputs : (object input : List ℕ) (o : Parts) (said : Said) → SpellsObject object o
    → ((next : List (List ℤ) → Work) → EndsWorkWith (WhichInputs (wants_of o) input) (or_ends BadInput next) said)
    → NotRun object input said
no-inputs object input o said spells ends = elim (ends (λ d. some-write)) [
  | inl none ↦ NoRoomToRun none
  | inr why ↦ by why.0 why.1 why.2 why.3 why.4
]
  where
    by : (answer : Result (List (List ℤ)) InputFault) (verdict : Verdict)
        → IsRight (WhichInputs (wants_of o) input) answer
        → or_ends BadInput (λ d. some-write) answer ≡ Ends nothing_seen verdict → said ≡ comes_to verdict
        → NotRun object input said
    by (Ok d) verdict given e is = goes-on verdict e
    by (Err fault) verdict first e is = NoInputs o fault spells first (says (BadInput fault) verdict said e is)
