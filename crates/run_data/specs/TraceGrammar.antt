-- The grammar of traces: which events with their stamps a trace may have, and which line of a text breaks it (this
-- project's profile).
use Rattle.std.specs.Prelude.{◌≡◌, ℕ, ◌+◌, ◌-◌, ◌^◌, ◌<◌, ◌≤◌, ◌==◌, Bool, true, false, List, [], ◌∷◌, ◌++◌, length, take}
use Rattle.std.specs.List.{slice_split}
use Rattle.gr_word.specs.Fitting.{AreWords}
use Rattle.lt_isa.specs.Machine.{Observed, RamRead, RamWrite, EncRead, EncWrite, Oram, Halted}
use Rattle.lt_isa.specs.Trace.{Stamped}
use Rattle.run_data.specs.TraceText.{line_of, ending_text, trace_text_of}

-- a trace may have the event if a block has this many words
abbrev pub EventFits : ℕ → Observed → Type 0
EventFits size (RamRead block words) = (block < 2 ^ 32) × (length words ≡ size) × AreWords words
EventFits size (RamWrite block words) = (block < 2 ^ 32) × (length words ≡ size) × AreWords words
EventFits size (EncRead block) = block < 2 ^ 32
EventFits size (EncWrite block) = block < 2 ^ 32
EventFits size (Oram bank) = (2 ≤ bank) × (bank ≤ 9)
EventFits size Halted = Unit {0}

abbrev pub LineFits : ℕ → Stamped → Type 0
LineFits size s = (s.stamp < 2 ^ 32) × EventFits size s.event

-- what follows an event: nothing after a halt, and the trace halted; other events after any other
abbrev pub GoesOn : Observed → List Stamped → Bool → Type 0 → Type 0
GoesOn Halted events halted others = (events ≡ []) × (halted ≡ true)
GoesOn other events halted others = others

-- The events of a trace, whose stamps rise from a least one on. It halted if the last event is a halt; no other event
-- is one.
abbrev pub AreEvents : ℕ → ℕ → List Stamped → Bool → Type 0
AreEvents size least [] halted = halted ≡ false
AreEvents size least (s ∷ events) halted =
    (least ≤ s.stamp) × LineFits size s × GoesOn s.event events halted (AreEvents size (s.stamp + 1) events halted)

-- the text encodes a trace of these events
abbrev pub SpellsTrace : ℕ → List ℕ → List Stamped → Bool → Type 0
SpellsTrace size text events halted = AreEvents size 0 events halted × (text ≡ trace_text_of events halted)

-- the lines of a trace, without their line feeds
abbrev pub trace_lines : List Stamped → Bool → List (List ℕ)
trace_lines [] halted = ending_text halted ∷ []
trace_lines (s ∷ events) halted = line_of s.stamp s.event ∷ trace_lines events halted

-- a trace begins with these lines
abbrev pub TraceBegins : ℕ → List (List ℕ) → Type 0
TraceBegins size lines =
    (events : List Stamped) × (halted : Bool) × (more : List (List ℕ)) × AreEvents size 0 events halted
    × (trace_lines events halted ≡ lines ++ more)

-- the lines of a text, without their line feeds; what follows the last line feed isn't one
abbrev pub front_parts : List (List ℕ) → List (List ℕ)
front_parts parts = take (length parts - 1) parts

abbrev pub lines_of : List ℕ → List (List ℕ)
lines_of text = front_parts (slice_split (λ byte. byte == 10) text)

-- Line number n is the first with which the lines so far begin no trace. If all lines of the text begin one, it is the
-- line after them: a line without its line feed, or an empty one.
pub record BreaksAt (size : ℕ) (text : List ℕ) (n : ℕ) : Type 0 where
  pub spells_none : (events : List Stamped) (halted : Bool) → ¬ (SpellsTrace size text events halted)
  pub counted : 1 ≤ n
  pub within : n ≤ length (lines_of text) + 1
  pub before : TraceBegins size (take (n - 1) (lines_of text))
  pub there : n ≤ length (lines_of text) → ¬ (TraceBegins size (take n (lines_of text)))
