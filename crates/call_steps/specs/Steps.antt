-- Steps that several verbs take: find the object that a file encodes, accepted or not, the program that it parses as,
-- and the inputs that it gives.
use Rattle.std.specs.Prelude.{ℕ, ℤ, Bool, List, Option, Some, None, Result, Ok, Err}
use Rattle.gr_word.specs.declared.variables.Want.{Want}
use Rattle.lt_isa.specs.Object.{Parts}
use Rattle.lt_isa.specs.Start.{wants_of}
use Rattle.src_tree.specs.Trees.{Source}
use Rattle.trace_patterns.specs.declared.reasons.Reason.{Reason}
use Rattle.call_replies.specs.declared.replies.Verdict.{Verdict}
use Rattle.call_replies.specs.declared.replies.Verdict.TheVariants.{Malformed, Refused, BadSource, BadInput, BadAssembly}
use Rattle.call_steps.specs.Objects.{object_limit}
use Rattle.call_steps.specs.Sources.{source_limit}
use Rattle.call_steps.specs.Questions.{WhichObject, WhichAssembly, WhichSource, WhichInputs, WhetherAccepted}
use Rattle.call_steps.specs.Showing.{nothing_seen}
use Rattle.call_steps.specs.Work.{Work, Ends, Reads, Asks}

-- the most bytes that an input file and an assembly text may have
abbrev pub input_limit : ℕ
input_limit = 67108864

abbrev pub text_limit : ℕ
text_limit = 67108864

-- with what was found; otherwise the verb ends with this verdict of what was at fault
abbrev pub or_ends : {X E : Type 0} → (E → Verdict) → (X → Work) → Result X E → Work
or_ends verdict next (Ok found) = next found
or_ends verdict next (Err fault) = Ends nothing_seen (verdict fault)

abbrev pub on_judged : Work → Option (ℕ × Reason) → Work
on_judged next None = next
on_judged next (Some refusal) = Ends nothing_seen (Refused refusal.0 refusal.1)

-- with the object that the file of this name encodes
abbrev pub with_object : List ℕ → (Parts → Work) → Work
with_object name next = Reads name object_limit (λ bytes. Asks (WhichObject bytes) (or_ends Malformed next))

-- with the same, if it is accepted
abbrev pub with_accepted : List ℕ → (Parts → Work) → Work
with_accepted name next = with_object name (λ o. Asks (WhetherAccepted o) (on_judged (next o)))

-- with the object that the file of this name writes in assembly
abbrev pub with_assembly : List ℕ → (Parts → Work) → Work
with_assembly name next = Reads name text_limit (λ text. Asks (WhichAssembly text) (or_ends BadAssembly next))

-- with the well-typed program that the file of this name parses as, with procedures or without
abbrev pub with_source : Bool → List ℕ → (Source → Work) → Work
with_source procs name next = Reads name source_limit (λ text. Asks (WhichSource procs text) (or_ends BadSource next))

-- with the inputs that the file of this name gives for variables, and for the symbols of an object
abbrev pub with_variables : List Want → List ℕ → (List (List ℤ) → Work) → Work
with_variables wants name next = Reads name input_limit (λ json. Asks (WhichInputs wants json) (or_ends BadInput next))

abbrev pub with_inputs : Parts → List ℕ → (List (List ℤ) → Work) → Work
with_inputs o name next = with_variables (wants_of o) name next
