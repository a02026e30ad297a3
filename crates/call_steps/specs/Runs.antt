-- The run of an object on inputs within a number of cycles, and what is printed and written of it.
use Rattle.std.specs.Prelude.{◌≡◌, ℕ, Bool, ℤ, List, Option, Some, None}
use Rattle.lt_isa.specs.Object.{Parts}
use Rattle.lt_isa.specs.Trace.{Stamped, HaltsAt}
use Rattle.lt_isa.specs.Start.{wants_of, trace, final, Agree}
use Rattle.lt_isa.specs.Oblivious.{IsOblivious}
use Rattle.lt_isa.specs.Outputs.{outputs}
use Rattle.processor.specs.Ends.{NoHalt}
use Rattle.run_data.specs.TraceText.{trace_text_of}
use Rattle.run_data.specs.OutputText.{output_of}

-- the halt of events, if there is one
abbrev pub HaltOf : List Stamped → Option ℕ → Type 0
HaltOf events (Some at) = HaltsAt events at
HaltOf events None = NoHalt events

-- the text of the outputs that a run leaves
abbrev pub run_outputs : Parts → List (List ℤ) → ℕ → List ℕ
run_outputs o inputs cycles = output_of (wants_of o) (outputs o (final o inputs cycles))

-- the traces of two runs of an oblivious object on inputs that agree on what is public are equal, at every number of
-- cycles
abbrev pub TracesAgree : Type 0
TracesAgree = (o : Parts) (d e : List (List ℤ)) (cycles : ℕ) → IsOblivious o → Agree o d e
    → trace o d cycles ≡ trace o e cycles

-- and so is their text
abbrev pub TextsAgree : Type 0
TextsAgree = (o : Parts) (d e : List (List ℤ)) (cycles : ℕ) → IsOblivious o → Agree o d e → (halted : Bool)
    → trace_text_of (trace o d cycles) halted ≡ trace_text_of (trace o e cycles) halted
