-- What a verb's words ask for, by what is found for its names, options and flags. What the work on them is, is the
-- caller's choice: it may be of any type.
use Rattle.std.specs.Prelude.{ℕ, Bool, List, codes, Option, option_and_then}
use Rattle.std.specs.Option.{option_map}
use Rattle.clap.specs.Words.{App, Row, Text, all_of, first_of}
use Rattle.command_words.specs.declared.windows.Window.{Window}
use Rattle.command_words.specs.Options.{asked_by, block_log_given, flag_given, items_given, number_given, seed_given, two_named}
use Rattle.command_words.specs.Pairs.{Pair, pairs_of}
use Rattle.command_words.specs.VerbRows.{bus_row, command_of}
use Rattle.command_words.specs.Windows.{window_given}

abbrev pub check_asks : {W : Type 0} → (Text → W) → List Row → Option W
check_asks work_on rows = option_map work_on (first_of (codes "OBJ") rows)

-- two names
abbrev pub two_asks : {W : Type 0} → Text → Text → (Text → Text → W) → List Row → Option W
two_asks first second work_on rows = two_named work_on (first_of first rows) (first_of second rows)

abbrev pub assemble_asks : {W : Type 0} → (Text → Text → W) → List Row → Option W
assemble_asks work_on rows = two_asks (codes "TEXT") (codes "OUT") work_on rows

abbrev pub disassemble_asks : {W : Type 0} → (Text → Text → W) → List Row → Option W
disassemble_asks work_on rows = two_asks (codes "OBJ") (codes "OUT") work_on rows

abbrev pub infer_asks : {W : Type 0} → (Text → Text → W) → List Row → Option W
infer_asks work_on rows = two_asks (codes "OBJ") (codes "OUT") work_on rows

-- ---- `trace`: the cycles, the seed, and the flags `--paths` and `--recursive`

abbrev pub trace_named : {W : Type 0} → (Text → Text → ℕ → ℕ → Bool → Bool → W)
    → (object input cycles seed paths recursive : Option Text) → Option W
trace_named work_on object input cycles seed paths recursive =
    option_and_then (λ o. option_and_then (λ i. option_and_then
    (λ n. option_map (λ s. work_on o i n s (flag_given paths) (flag_given recursive)) (seed_given seed))
    (number_given cycles)) input) object

abbrev pub trace_asks : {W : Type 0} → (Text → Text → ℕ → ℕ → Bool → Bool → W) → List Row → Option W
trace_asks work_on rows =
    trace_named work_on (first_of (codes "OBJ") rows) (first_of (codes "INPUT") rows) (first_of (codes "cycles") rows)
    (first_of (codes "seed") rows) (first_of (codes "paths") rows) (first_of (codes "recursive") rows)

-- ---- `run`: the cycles. The work is the same for every seed, and whether the banks are recursive.

abbrev pub run_named : {W : Type 0} → (Text → Text → Text → ℕ → W)
    → (object input output cycles seed : Option Text) → Option W
run_named work_on object input output cycles seed =
    option_and_then (λ o. option_and_then (λ i. option_and_then
    (λ out. option_and_then (λ n. option_map (λ s. work_on o i out n) (seed_given seed)) (number_given cycles)) output)
    input) object

abbrev pub run_asks : {W : Type 0} → (Text → Text → Text → ℕ → W) → List Row → Option W
run_asks work_on rows =
    run_named work_on (first_of (codes "OBJ") rows) (first_of (codes "INPUT") rows) (first_of (codes "OUT") rows)
    (first_of (codes "cycles") rows) (first_of (codes "seed") rows)

-- ---- `eval`: the turns, and the flag `--procs`

abbrev pub evaluate_named : {W : Type 0} → (Text → Text → Text → ℕ → Bool → W)
    → (source input output turns procs : Option Text) → Option W
evaluate_named work_on source input output turns procs =
    option_and_then (λ s. option_and_then (λ i. option_and_then
    (λ out. option_map (λ n. work_on s i out n (flag_given procs)) (number_given turns)) output) input) source

abbrev pub evaluate_asks : {W : Type 0} → (Text → Text → Text → ℕ → Bool → W) → List Row → Option W
evaluate_asks work_on rows =
    evaluate_named work_on (first_of (codes "SRC") rows) (first_of (codes "INPUT") rows) (first_of (codes "OUT") rows)
    (first_of (codes "turns") rows) (first_of (codes "procs") rows)

-- ---- `compile`: the logarithm of a block's words, the window, and the flags `--fast` and `--procs`

abbrev pub compile_named : {W : Type 0} → (Text → Text → ℕ → Window → Bool → Bool → W)
    → (source output block_log window fast procs : Option Text) → Option W
compile_named work_on source output block_log window fast procs =
    option_and_then (λ s. option_and_then (λ out. option_and_then (λ w.
    option_map (λ at. work_on s out w at (flag_given fast) (flag_given procs)) (window_given window))
    (block_log_given block_log)) output) source

abbrev pub compile_asks : {W : Type 0} → (Text → Text → ℕ → Window → Bool → Bool → W) → List Row → Option W
compile_asks work_on rows =
    compile_named work_on (first_of (codes "SRC") rows) (first_of (codes "OUT") rows)
    (first_of (codes "block-log") rows) (first_of (codes "window") rows) (first_of (codes "fast") rows)
    (first_of (codes "procs") rows)

-- ---- `sample`: the flag `--fast`, the items and the name. The work is the same for every seed.

abbrev pub sample_named : {W : Type 0} → (Bool → ℕ → Text → W)
    → (items output seed fast : Option Text) → Option W
sample_named work_on items output seed fast =
    option_and_then (λ text. option_and_then
    (λ out. option_and_then (λ n. option_map (λ s. work_on (flag_given fast) n out) (seed_given seed))
    (items_given text)) output) items

abbrev pub sample_asks : {W : Type 0} → (Bool → ℕ → Text → W) → List Row → Option W
sample_asks work_on rows =
    sample_named work_on (first_of (codes "N") rows) (first_of (codes "OUT") rows) (first_of (codes "seed") rows)
    (first_of (codes "fast") rows)

-- ---- `bus`: the pairs and the cycles. The work is the same for every seed.

abbrev pub bus_named_on : {W : Type 0} → (List Pair → ℕ → W) → List Pair → (cycles seed : Option Text) → Option W
bus_named_on work_on pairs cycles seed =
    option_and_then (λ n. option_map (λ s. work_on pairs n) (seed_given seed)) (number_given cycles)

abbrev pub bus_named : {W : Type 0} → (List Pair → ℕ → W) → Option (List Text) → (cycles seed : Option Text)
    → Option W
bus_named work_on names cycles seed =
    option_and_then (λ texts. option_and_then (λ pairs. bus_named_on work_on pairs cycles seed) (pairs_of texts)) names

abbrev pub bus_asks : {W : Type 0} → (List Pair → ℕ → W) → List Row → Option W
bus_asks work_on rows =
    bus_named work_on (all_of (codes "NAMES") rows) (first_of (codes "cycles") rows) (first_of (codes "seed") rows)

unfoldable pub bus_app : App
bus_app = command_of bus_row

unfoldable pub bus_of : {W : Type 0} → (List Pair → ℕ → W) → List Text → Option W
bus_of work_on words = asked_by bus_app (bus_asks work_on) words
