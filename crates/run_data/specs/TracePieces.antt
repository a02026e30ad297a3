-- The pieces of a trace's line, which one space parts, and what is found in some pieces. For private clauses.
use Rattle.std.specs.Prelude.{◌≡◌, ◌≢◌, ℕ, ◌+◌, ◌<◌, ◌≤◌, ◌==◌, if◌then◌else◌, bytes_eq, slice_index_or, Bool, true, false, ℤ, List, [], ◌∷◌, ◌++◌, length, take, map, codes, decimal, Option, Some, None}
use Rattle.std.specs.Fmt.{signed_decimal}
use Rattle.std.specs.Borrow.{Bor}
use Rattle.gr_word.specs.Fitting.{AreWords}
use Rattle.lt_isa.specs.Machine.{Observed, RamRead, RamWrite, EncRead, EncWrite, Oram, Halted}
use Rattle.lt_isa.specs.Trace.{Stamped}
use Rattle.run_data.specs.declared.trace_files.SeenEvent.{SeenEvent}
use Rattle.run_data.specs.declared.trace_files.TraceLine.{TraceLine}
use Rattle.run_data.specs.TraceText.{line_of, ending_text}
use Rattle.run_data.specs.TraceGrammar.{EventFits, LineFits, AreEvents, trace_lines}
use Rattle.run_data.specs.TraceFiles.{observed_in, stamped_in}

abbrev pub contents : List (Bor (List ℕ)) → List (List ℕ)
contents pieces = map (λ piece. piece.now) pieces

abbrev pub event_pieces : Observed → List (List ℕ)
event_pieces (RamRead block words) = codes "D" ∷ codes "r" ∷ decimal block ∷ map signed_decimal words
event_pieces (RamWrite block words) = codes "D" ∷ codes "w" ∷ decimal block ∷ map signed_decimal words
event_pieces (EncRead block) = codes "E" ∷ codes "r" ∷ decimal block ∷ []
event_pieces (EncWrite block) = codes "E" ∷ codes "w" ∷ decimal block ∷ []
event_pieces (Oram bank) = (codes "O" ++ decimal bank) ∷ []
event_pieces Halted = codes "H" ∷ []

abbrev pub line_pieces : Stamped → List (List ℕ)
line_pieces s = decimal s.stamp ∷ event_pieces s.event

-- the words that the pieces encode, or that they encode none
abbrev pub WordsFound : List (List ℕ) → Option (List ℤ) → Type 0
WordsFound pieces (Some words) = AreWords words × (pieces ≡ map signed_decimal words)
WordsFound pieces None = (words : List ℤ) → AreWords words → pieces ≢ map signed_decimal words

-- the event that the pieces encode, or that they encode none that fits
abbrev pub EventFound : ℕ → List (List ℕ) → Option SeenEvent → Type 0
EventFound size pieces (Some event) = EventFits size (observed_in event) × (pieces ≡ event_pieces (observed_in event))
EventFound size pieces None = (event : Observed) → EventFits size event → pieces ≢ event_pieces event

abbrev pub PiecesFound : ℕ → List (List ℕ) → Option TraceLine → Type 0
PiecesFound size pieces (Some line) = LineFits size (stamped_in line) × (pieces ≡ line_pieces (stamped_in line))
PiecesFound size pieces None = (s : Stamped) → LineFits size s → pieces ≢ line_pieces s

-- the same of a whole line
abbrev pub LineFound : ℕ → List ℕ → Option TraceLine → Type 0
LineFound size bytes (Some line) =
    LineFits size (stamped_in line) × (bytes ≡ line_of line.stamp (observed_in line.event))
LineFound size bytes None = (s : Stamped) → LineFits size s → bytes ≢ line_of s.stamp s.event

-- the next line of a trace, whose stamp isn't below the least and which doesn't follow a halt
abbrev pub NextFound : ℕ → ℕ → Bool → List ℕ → Option TraceLine → Type 0
NextFound size least halted bytes (Some line) =
    (halted ≡ false) × (least ≤ line.stamp) × LineFits size (stamped_in line)
    × (bytes ≡ line_of line.stamp (observed_in line.event))
NextFound size least halted bytes None =
    halted ≡ false → (s : Stamped) → LineFits size s → least ≤ s.stamp → bytes ≢ line_of s.stamp s.event

-- what may follow lines that were read: the end of a trace that halted, or other events
abbrev pub MayFollow : Bool → ℕ → ℕ → List Stamped → Bool → Type 0
MayFollow true size least events halted = (events ≡ []) × (halted ≡ true)
MayFollow false size least events halted = AreEvents size least events halted

-- Lines that were read are those of events: anything that may follow them makes a trace, and what follows them in a
-- trace is what may follow.
pub record AreRead (size : ℕ) (lines : List (List ℕ)) (events : List Stamped) (halts : Bool) (least : ℕ) : Type 0 where
  pub read : lines ≡ map (λ s. line_of s.stamp s.event) events
  pub forth : (more : List Stamped) (halted : Bool)
      → MayFollow halts size least more halted → AreEvents size 0 (events ++ more) halted
  pub back : (all : List Stamped) (halted : Bool) (rest : List (List ℕ))
      → AreEvents size 0 all halted → trace_lines all halted ≡ lines ++ rest
      → (more : List Stamped) × MayFollow halts size least more halted × (rest ≡ trace_lines more halted)

abbrev pub is_halt : Observed → Bool
is_halt Halted = true
is_halt other = false

-- The lines of a text were read as events as far as they begin a trace with its last line left out.
pub record RunStops (size : ℕ) (lines : List (List ℕ)) (events : List Stamped) (halts : Bool) : Type 0 where
  pub least : ℕ
  pub within : length events ≤ length lines
  pub read : AreRead size (take (length events) lines) events halts least
  pub stops : length events < length lines → halts ≡ false → (s : Stamped) → LineFits size s → least ≤ s.stamp
      → slice_index_or lines (length events) [] ≢ line_of s.stamp s.event

-- the line that breaks a trace of which the lines before number n are events: none if that is the last line and nothing
-- follows it
abbrev pub break_of : List (List ℕ) → ℕ → Bool → Option ℕ
break_of parts n halts =
    if n + 1 == length parts then Some (n + 1)
    else (if bytes_eq (slice_index_or parts n []) (ending_text halts) then
    (if n + 2 == length parts then
    (if length (slice_index_or parts (n + 1) []) == 0 then None else Some (n + 2))
    else Some (n + 2))
    else Some (n + 1))
