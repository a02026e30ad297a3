-- Which of the files that words name are `-`.
use Rattle.std.specs.Prelude.{ℕ, ◌+◌, false, List, [], ◌∷◌, Option, Some, None, if◌then◌else◌}
use Rattle.std.specs.Str.{bytes_eq}
use Rattle.command_words.specs.Pairs.{Pair}
use Rattle.command_words.specs.Verbs.{Works, asked_work}
use Rattle.ghost_front.specs.declared.dashes.Dashes.{Dashes}
use Rattle.ghost_front.specs.Streams.{dash}

-- how many of the names are `-`
abbrev pub dashes_among : List (List ℕ) → ℕ
dashes_among [] = 0
dashes_among (name ∷ names) = (if bytes_eq name dash then 1 else 0) + dashes_among names

-- of a call that reads these files and writes none, and of one that reads them and writes the output
abbrev pub reads : List (List ℕ) → Dashes
reads names = record { read = dashes_among names; written = false }

abbrev pub writes : List (List ℕ) → List ℕ → Dashes
writes names output = record { read = dashes_among names; written = bytes_eq output dash }

abbrev pub names_of : List Pair → List (List ℕ)
names_of [] = []
names_of (pair ∷ pairs) = pair.object ∷ pair.input ∷ names_of pairs

-- of each verb's call
abbrev pub dashes : Works Dashes
dashes = record {
  check = λ object. reads (object ∷ []);
  trace = λ object input cycles seed paths recursive. reads (object ∷ input ∷ []);
  run = λ object input output cycles. writes (object ∷ input ∷ []) output;
  assemble = λ text output. writes (text ∷ []) output;
  disassemble = λ object output. writes (object ∷ []) output;
  evaluate = λ source input output turns procs. writes (source ∷ input ∷ []) output;
  compile = λ source output block_log window fast procs. writes (source ∷ []) output;
  sample = λ fast items output. writes [] output;
  bus = λ pairs cycles. reads (names_of pairs);
  infer = λ object output. writes (object ∷ []) output;
}

-- of the call that the words are, and none if they are no call of a verb of `ghost_cli`
abbrev pub or_no_dashes : Option Dashes → Dashes
or_no_dashes (Some found) = found
or_no_dashes None = reads []

abbrev pub dashes_in : List (List ℕ) → Dashes
dashes_in words = or_no_dashes (asked_work dashes words)
