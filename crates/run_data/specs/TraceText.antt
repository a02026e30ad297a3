-- The text of a trace: a line for each event, with its stamp, and a last line (this project's profile).
use Rattle.std.specs.Prelude.{ℕ, Bool, if◌then◌else◌, ℤ, List, ◌∷◌, ◌++◌, codes, decimal, flat_map}
use Rattle.std.specs.Fmt.{signed_decimal}
use Rattle.lt_isa.specs.Machine.{Observed, RamRead, RamWrite, EncRead, EncWrite, Oram, Halted}
use Rattle.lt_isa.specs.Trace.{Stamped}

-- a space before each word
abbrev pub words_text : List ℤ → List ℕ
words_text words = flat_map (λ word. 32 ∷ signed_decimal word) words

-- Rules: trace/plain, trace/encrypted, trace/oblivious, trace/halt.
abbrev pub event_text : Observed → List ℕ
event_text (RamRead block words) = codes "D r " ++ decimal block ++ words_text words
event_text (RamWrite block words) = codes "D w " ++ decimal block ++ words_text words
event_text (EncRead block) = codes "E r " ++ decimal block
event_text (EncWrite block) = codes "E w " ++ decimal block
event_text (Oram bank) = codes "O" ++ decimal bank
event_text Halted = codes "H"

-- a line without its line feed
abbrev pub line_of : ℕ → Observed → List ℕ
line_of stamp event = decimal stamp ++ codes " " ++ event_text event

abbrev pub event_line : ℕ → Observed → List ℕ
event_line stamp event = line_of stamp event ++ codes "\n"

-- the last line without its line feed
abbrev pub ending_text : Bool → List ℕ
ending_text halted = if halted then codes "end halted" else codes "end spent"

abbrev pub end_line : Bool → List ℕ
end_line halted = ending_text halted ++ codes "\n"

abbrev pub trace_text_of : List Stamped → Bool → List ℕ
trace_text_of events halted = flat_map (λ s. event_line s.stamp s.event) events ++ end_line halted
