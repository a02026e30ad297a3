-- Lines, comments and words (this project's profile).
use Rattle.std.specs.Prelude.{ℕ, Bool, true, false, ◌||◌, ◌==◌, if◌then◌else◌, List, [], ◌∷◌, filter}
use Rattle.std.specs.List.{before_first, slice_split, onto_first, list_all}
use Rattle.std.specs.Char.{is_ascii}
use Rattle.lt_assembler.specs.Words.{Word}

-- A line ends with a line feed; the last may lack it.
unfoldable pub lines : List ℕ → List (List ℕ)
lines [] = []
lines (byte ∷ text) = if byte == 10 then [] ∷ lines text else onto_first byte (lines text)

-- A ';' begins a comment, which extends to the end of the line.
abbrev pub is_semicolon : ℕ → Bool
is_semicolon byte = byte == 59

unfoldable pub uncommented : List ℕ → List ℕ
uncommented line = before_first is_semicolon line

-- Spaces and tabs separate words.
abbrev pub is_blank : ℕ → Bool
is_blank byte = (byte == 32) || (byte == 9)

abbrev pub has_bytes : List ℕ → Bool
has_bytes [] = false
has_bytes (byte ∷ bytes) = true

unfoldable pub pieces : List ℕ → List Word
pieces text = filter has_bytes (slice_split is_blank text)

abbrev pub words : List ℕ → List Word
words line = pieces (uncommented line)

-- no byte is above 127, not even in a comment
abbrev pub is_ascii_line : List ℕ → Bool
is_ascii_line line = list_all is_ascii line
