-- For the proofs and for private clauses only: the parts of a text's first line, found from its beginning on. (This
-- project's profile.)
use Rattle.std.specs.Prelude.{ℕ, Bool, ◌&&◌, not, ◌==◌, List, take, drop}
use Rattle.std.specs.List.{prefix_len}
use Rattle.std.specs.Char.{is_ascii}
use Rattle.lt_assembler.specs.Words.{Word}
use Rattle.lt_assembler.specs.Lines.{is_blank, is_semicolon, words}

-- how many bytes come before the first line feed
abbrev pub line_len : List ℕ → ℕ
line_len text = prefix_len (λ byte. not (byte == 10)) text

abbrev pub first_line : List ℕ → List ℕ
first_line text = take (line_len text) text

abbrev pub line_words : List ℕ → List Word
line_words text = words (first_line text)

abbrev pub behind_line : List ℕ → List ℕ
behind_line text = drop 1 (drop (line_len text) text)

-- an ASCII byte that neither separates words nor ends them
abbrev pub is_part : ℕ → Bool
is_part byte = not (is_blank byte) && (not (is_semicolon byte) && (not (byte == 10) && is_ascii byte))

-- an ASCII byte that doesn't end the line
abbrev pub is_comment : ℕ → Bool
is_comment byte = not (byte == 10) && is_ascii byte
