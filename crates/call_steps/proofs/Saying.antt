-- From a fault to its line, and from events to the text of a trace.
use Rattle.std.proofs.Common.{◌≡◌, ◌≢◌, ◌⊎◌, inl, inr, Bool, ℕ, zero, suc, ℤ, List, [], ◌∷◌, Option, Some, None, Err, IfSome, refl, sym, ap, arith}
use Rattle.gr_word.specs.declared.variables.Want.{Want}
use Rattle.lt_isa.specs.Prelude.{Parts, Observed, RamRead, RamWrite, EncRead, EncWrite, Oram, Halted, Stamped, seen_at, HaltsAt}
use Rattle.object_file.specs.declared.errors.DecodeError.{DecodeError}
use Rattle.object_file.specs.Prelude.{IsFirstObjectFault}
use Rattle.lt_assembler.specs.Prelude.{IsFirstTextFault}
use Rattle.lt_assembler.specs.declared.errors.AsmError.{AsmError}
use Rattle.src_lexer.specs.Prelude.{Splits}
use Rattle.src_lexer.specs.declared.errors.LexFault.{LexFault}
use Rattle.src_tree.specs.Prelude.{Source}
use Rattle.flow_types.specs.Prelude.{ExplainsProgram}
use Rattle.src_tree.specs.declared.faults.TypeError.{TypeError}
use Rattle.run_data.specs.Prelude.{json_of, inputs_of, trace_text_of}
use Rattle.run_data.specs.declared.errors.InputError.{InputError}
use Rattle.call_replies.specs.declared.replies.InputFault.{InputFault}
use Rattle.call_replies.specs.declared.source_faults.SourceFault.{SourceFault}
use Rattle.call_steps.specs.Prelude.{Spells, IsFirstSourceFault, InPieces, InProgram, piece_fault, program_fault, WhichObject, WhichAssembly, WhichSource, WhichInputs, Shows, Work, or_ends, EndsWorkWith, SaysObject, SaysText, SaysSource, SaysInputs, TracesAgree, TextsAgree}
use Rattle.call_replies.specs.declared.replies.Verdict.TheVariants.{Malformed, BadSource, BadInput, BadAssembly}
use Rattle.call_replies.specs.Prelude.{Said}
use Rattle.processor.specs.Prelude.{NoHalt}
use Rattle.object_file.specs.declared.errors.DecodeError.TheVariants as object
use Rattle.lt_assembler.specs.declared.errors.AsmError.TheVariants as text
use Rattle.run_data.specs.declared.errors.InputError.TheVariants as input

-- the line about bytes that don't encode an object names their first fault
pub no-object : (bytes : List ℕ) (fault : DecodeError) (said : Said)
    → (fault ≢ object.Memory → IsFirstObjectFault bytes fault) → SaysObject fault said
    → (next : Parts → Work) → EndsWorkWith (WhichObject bytes) (or_ends Malformed next) said
no-object bytes object.Memory said fails says next = inl says
no-object bytes fault said fails says next = inr (Err fault, Malformed fault, fails (λ e. cc), refl, says)

-- a text that gives no program, by a fault of it that is shown
pub no-source : (procs : Bool) (text : List ℕ) (shown : Option SourceFault) (said : Said)
    → IfSome shown (IsFirstSourceFault procs text) → SaysSource shown said
    → (next : Source → Work) → EndsWorkWith (WhichSource procs text) (or_ends BadSource next) said
no-source procs text None said first says next = inl says
no-source procs text (Some fault) said first says next = inr (Err fault, BadSource fault, first, refl, says)

-- the faults of a text's pieces, of its tokens and of its program
pub piece-first : (procs : Bool) (text : List ℕ) (e : LexFault) (shown : Option SourceFault) → shown ≡ piece_fault e
    → Splits 0 text (Err e) → IfSome shown (IsFirstSourceFault procs text)
piece-first procs text e None is why = tt
piece-first procs text e (Some fault) is splits = InPieces e splits (sym is)

pub program-first : (procs : Bool) (text : List ℕ) (p : Source) (e : TypeError) (shown : Option SourceFault)
    → shown ≡ program_fault e → Spells procs text p → ExplainsProgram e p
    → IfSome shown (IsFirstSourceFault procs text)
program-first procs text p e None is spells explains = tt
program-first procs text p e (Some fault) is spells explains = InProgram p e spells explains (sym is)

-- the line about a text that isn't an object names its first fault
pub no-assembly : (bytes : List ℕ) (fault : AsmError) (said : Said)
    → (fault ≢ text.Memory → IsFirstTextFault bytes fault) → SaysText fault said
    → (next : Parts → Work) → EndsWorkWith (WhichAssembly bytes) (or_ends BadAssembly next) said
no-assembly bytes text.Memory said fails says next = inl says
no-assembly bytes fault said fails says next = inr (Err fault, BadAssembly fault, fails (λ e. cc), refl, says)

-- a fault that is shown isn't running out of memory
shown-not : (fault : InputError) (shown : InputFault) → Shows fault shown → fault ≢ input.Memory
shown-not input.Memory shown shows e = absurd shows
shown-not other shown shows e = cc

-- the line of inputs that don't fit names their first fault
pub no-inputs : (wants : List Want) (bytes : List ℕ) (fault : InputError) (said : Said)
    → (fault ≢ input.Memory → inputs_of wants (json_of bytes) ≡ Err fault) → SaysInputs fault said
    → (next : List (List ℤ) → Work) → EndsWorkWith (WhichInputs wants bytes) (or_ends BadInput next) said
no-inputs wants bytes fault said fails says next = elim says [
  | inl no_room ↦ inl no_room
  | inr shown ↦
      inr (Err shown.0, BadInput shown.0, (fault, fails (shown-not fault shown.0 shown.1), shown.1), refl, shown.2)
]

-- ---- traces

-- whether an event is the halt
halt-here : (stamp : ℕ) (event : Observed)
    → ((at : ℕ) × (seen_at stamp event ≡ seen_at at Halted)) ⊎ ((at : ℕ) → seen_at stamp event ≡ seen_at at Halted → ⊥)
halt-here stamp Halted = inl (stamp, refl)
halt-here stamp (RamRead block words) =
    inr (λ at e. let f : ◌≡◌ {A = Observed} (RamRead block words) Halted = ap (λ s. s.event) e in cc)
halt-here stamp (RamWrite block words) =
    inr (λ at e. let f : ◌≡◌ {A = Observed} (RamWrite block words) Halted = ap (λ s. s.event) e in cc)
halt-here stamp (EncRead block) =
    inr (λ at e. let f : ◌≡◌ {A = Observed} (EncRead block) Halted = ap (λ s. s.event) e in cc)
halt-here stamp (EncWrite block) =
    inr (λ at e. let f : ◌≡◌ {A = Observed} (EncWrite block) Halted = ap (λ s. s.event) e in cc)
halt-here stamp (Oram bank) = inr (λ at e. let f : ◌≡◌ {A = Observed} (Oram bank) Halted = ap (λ s. s.event) e in cc)

no-halt-more : (s : Stamped) (events : List Stamped)
    → ((at : ℕ) → s ≡ seen_at at Halted → ⊥) → NoHalt events → NoHalt (s ∷ events)
no-halt-more s events not none at (zero, within, is) = not at is
no-halt-more s events not none at (suc k, within, is) = none at (k, omega arith, is)

-- whether a halt is among events
pub halts-or-not : (events : List Stamped) → ((at : ℕ) × HaltsAt events at) ⊎ NoHalt events
halts-or-not [] = inr (λ at found. absurd (let less = found.1 in omega arith))
halts-or-not (s ∷ events) = elim (halt-here s.stamp s.event) [
  | inl here ↦ inl (here.0, (0, omega arith, here.1))
  | inr not ↦ elim (halts-or-not events) [
    | inl there ↦ inl (there.0, (suc there.1.0, omega (arith, there.1.1), there.1.2))
    | inr none ↦ inr (no-halt-more s events not none)
  ]
]

-- what is seen of two runs that agree
pub traces-agree : TracesAgree
traces-agree o d e cycles oblivious agree = oblivious.same_traces d e agree cycles

pub texts-agree : TextsAgree
texts-agree o d e cycles oblivious agree halted =
    ap (λ events. trace_text_of events halted) (traces-agree o d e cycles oblivious agree)
