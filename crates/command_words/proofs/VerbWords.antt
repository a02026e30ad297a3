-- The words of each verb ask exactly for the work that they say.
use Rattle.std.proofs.Common.{◌≡◌, ◌∙◌, inl, inr, refl, sym, ap, subst, ℕ, Bool, false, cond, List, [], ◌∷◌, Option, Some, None}
use Rattle.std.specs.Prelude.{codes, option_and_then}
use Rattle.std.specs.Option.{option_map}
use Rattle.std.specs.Str.{bytes_eq}
use Rattle.clap.specs.Walk.{Row, Text, first_of}
use Rattle.command_words.specs.Prelude.{check_asks, compile_asks, compile_named, evaluate_asks, evaluate_named, run_asks, run_named, sample_asks, sample_named, trace_asks, trace_named, two_asks, AreTexts, IsAmong, Part, Says, compile_options, has_flag, names_in, run_options, value_in, asked_by, block_log_given, flag_given, items_given, number_given, seed_given, two_named, VerbRow, check_row, command_of, compile_row, evaluate_row, row_of_two, run_row, sample_row, trace_row, Works, asked_for, asked_work, verb_named, window_given, AskExactly, AsksByOne, AsksByTwo, AsksToCompile, AsksToEvaluate, AsksToRun, AsksToSample, AsksToTrace, WordsAsk, verb_names}
use Rattle.command_words.specs.declared.windows.Window.{Window}
use Rattle.command_words.specs.declared.verbs.Verb.TheVariants.{Check, Trace, Run, Assemble, Disassemble, Evaluate, Compile, Sample, Infer}
use Rattle.command_words.proofs.BusWords.{bus-words}
use Rattle.command_words.proofs.VerbCommands.{IsVerbRow, verb-row}
use Rattle.command_words.proofs.WordsAsked.{SameLength, SaysAll, asked-says, flag-said, name-said, rows_behind, says-asked, two-given, value-said}
use Rattle.command_words.proofs.WordsFound.{name_at}
use Rattle.command_words.proofs.WordsRead.{same-text}
use Rattle.command_words.proofs.WordsUsed.{false-or, text-is}

-- ---- what is given

one-given : {A C : Type 0} (f : A → C) (c : C) (a : Option A) → option_map f a ≡ Some c
    → (x : A) × (a ≡ Some x) × (c ≡ f x)
one-given {C = C} f c None e = absurd (let g : ◌≡◌ {A = Option C} None (Some c) = e in cc)
one-given {C = C} f c (Some x) e = (x, refl, (let g : ◌≡◌ {A = Option C} (Some (f x)) (Some c) = e in cc))

-- ---- names

one-name : (names : List Text) (a : Text) → SameLength names (a ∷ []) → (t : Text) × (names ≡ t ∷ [])
one-name [] a same = absurd same
one-name (t ∷ []) a same = (t, refl)
one-name (t ∷ u ∷ names) a same = absurd same

two-names : (names : List Text) (a b : Text) → SameLength names (a ∷ b ∷ [])
    → (t : Text) × (u : Text) × (names ≡ t ∷ u ∷ [])
two-names [] a b same = absurd same
two-names (t ∷ []) a b same = absurd same
two-names (t ∷ u ∷ []) a b same = (t, u, refl)
two-names (t ∷ u ∷ v ∷ names) a b same = absurd same

three-names : (names : List Text) (a b c : Text) → SameLength names (a ∷ b ∷ c ∷ [])
    → (t : Text) × (u : Text) × (v : Text) × (names ≡ t ∷ u ∷ v ∷ [])
three-names [] a b c same = absurd same
three-names (t ∷ []) a b c same = absurd same
three-names (t ∷ u ∷ []) a b c same = absurd same
three-names (t ∷ u ∷ v ∷ []) a b c same = (t, u, v, refl)
three-names (t ∷ u ∷ v ∷ w ∷ names) a b c same = absurd same

-- ---- by a row

some-work : {W : Type 0} (a b : W) → ◌≡◌ {A = Option W} (Some a) (Some b) → b ≡ a
some-work a b e = cc

module _ (row : VerbRow) where
  -- the work that words request after the row's verb, and what is found if they consist of these parts
  abbrev asked_behind : {W : Type 0} → (List Row → Option W) → List Text → Option W
  asked_behind asks words = asked_by (command_of row) asks (row.name ∷ words)

  abbrev found_by : List Part → List Row
  found_by parts = rows_behind (command_of row) row.options row.flags row.places parts

  -- words that say all that the row wants
  abbrev SaysRow : List Text → List Part → Type 0
  SaysRow words parts = SaysAll (command_of row) row.options row.flags row.places words parts

  -- words that say names say all
  says-all : (words names : List Text) (parts : List Part) → Says row.options row.flags words names parts
      → SameLength names row.places → SaysRow words parts
  says-all words names parts says same = record {
    line = says.line;
    once = says.once;
    names = subst (λ (l : List Text). SameLength l row.places) (sym says.are) same;
  }

  all-says : (words names : List Text) (parts : List Part) → SaysRow words parts → names_in parts ≡ names
      → Says row.options row.flags words names parts
  all-says words names parts says are = record { line = says.line; once = says.once; are = are }

  module _ (is : IsVerbRow row) where
    asked-row : {W : Type 0} (asks : List Row → Option W) (words : List Text) (work : W) → AreTexts words
        → asked_behind asks words ≡ Some work
        → (parts : List Part) × SaysRow words parts × (asks (found_by parts) ≡ Some work)
    asked-row asks words work texts asked =
        asked-says (command_of row) row.options row.flags row.places row.name is asks words work texts asked

    row-asked : {W : Type 0} (asks : List Row → Option W) (words : List Text) (parts : List Part) → SaysRow words parts
        → asked_behind asks words ≡ asks (found_by parts)
    row-asked asks words parts says =
        says-asked (command_of row) row.options row.flags row.places row.name is asks words parts says

    module _ (words : List Text) (parts : List Part) (says : SaysRow words parts) where
      name-of : (names : List Text) → names_in parts ≡ names → (x : Text) → IsAmong row.places x
          → first_of x (found_by parts) ≡ name_at x row.places names
      name-of names are x among =
          name-said (command_of row) row.options row.flags row.places row.name is words parts says x among
          ∙ ap (name_at x row.places) are

      value-of : (x : Text) → IsAmong row.options x → first_of x (found_by parts) ≡ value_in x parts
      value-of x among =
          value-said (command_of row) row.options row.flags row.places row.name is words parts says x among

      flag-of : (x : Text) → IsAmong row.flags x → flag_given (first_of x (found_by parts)) ≡ has_flag x parts
      flag-of x among =
          flag-said (command_of row) row.options row.flags row.places row.name is words parts says x among

module _ {W : Type 0} (works : Works W) where
  -- ---- verbs without options

  check-made : (words : List Text) (parts : List Part) (t : Text) → Says [] [] words (t ∷ []) parts
      → asked_behind check_row (check_asks works.check) words ≡ Some (works.check t)
  check-made words parts t given =
      let says = says-all check_row words (t ∷ []) parts given tt in
      row-asked check_row (verb-row Check refl) (check_asks works.check) words parts says
      ∙ ap (option_map works.check)
      (name-of check_row (verb-row Check refl) words parts says (t ∷ []) given.are (codes "OBJ") (inl refl))

  check-words : AskExactly works (codes "check") (AsksByOne works.check)
  unfolding verb_named asked_for
  check-words words work texts = (
    (λ asked.
        let found = asked-row check_row (verb-row Check refl) (check_asks works.check) words work texts asked in
        let one = one-name (names_in found.0) (codes "OBJ") found.1.names in
        let says = all-says check_row words (one.0 ∷ []) found.0 found.1 one.1 in
        record {
          name = one.0;
          parts = found.0;
          says = says;
          is = some-work (works.check one.0) work (sym (check-made words found.0 one.0 says) ∙ asked);
        }),
    (λ asks. check-made words asks.parts asks.name asks.says ∙ ap Some (sym asks.is)),
  )

  -- two names
  module _ (verb a b : Text) (differ : bytes_eq a b ≡ false) (work_on : Text → Text → W)
      (is : IsVerbRow (row_of_two verb a b)) where
    abbrev of_two : VerbRow
    of_two = row_of_two verb a b

    two-made : (words : List Text) (parts : List Part) (t u : Text) → Says [] [] words (t ∷ u ∷ []) parts
        → asked_behind of_two (two_asks a b work_on) words ≡ Some (work_on t u)
    two-made words parts t u given =
        let says = says-all of_two words (t ∷ u ∷ []) parts given tt in
        let name = name-of of_two is words parts says (t ∷ u ∷ []) given.are in
        let first : first_of a (found_by of_two parts) ≡ Some t =
        name a (inl refl) ∙ ap (λ (e : Bool). cond e (Some t) (name_at a (b ∷ []) (u ∷ []))) (same-text a) in
        let second : first_of b (found_by of_two parts) ≡ Some u =
        name b (inr (inl refl)) ∙ ap (λ (e : Bool). cond e (Some t) (name_at b (b ∷ []) (u ∷ []))) differ
        ∙ ap (λ (e : Bool). cond e (Some u) None) (same-text b) in
        row-asked of_two is (two_asks a b work_on) words parts says ∙ (λ k. two_named work_on (first k) (second k))

    two-asked : (words : List Text) (work : W) → AreTexts words
        → asked_behind of_two (two_asks a b work_on) words ≡ Some work
        → AsksByTwo work_on words work
    two-asked words work texts asked =
        let found = asked-row of_two is (two_asks a b work_on) words work texts asked in
        let two = two-names (names_in found.0) a b found.1.names in
        let says = all-says of_two words (two.0 ∷ two.1 ∷ []) found.0 found.1 two.2 in
        record {
          first = two.0;
          second = two.1;
          parts = found.0;
          says = says;
          is = some-work (work_on two.0 two.1) work (sym (two-made words found.0 two.0 two.1 says) ∙ asked);
        }

    asked-two : (words : List Text) (work : W) → AsksByTwo work_on words work
        → asked_behind of_two (two_asks a b work_on) words ≡ Some work
    asked-two words work by = two-made words by.parts by.first by.second by.says ∙ ap Some (sym by.is)

  assemble-words : AskExactly works (codes "asm") (AsksByTwo works.assemble)
  unfolding verb_named asked_for
  assemble-words words work texts = (
    two-asked (codes "asm") (codes "TEXT") (codes "OUT") refl works.assemble (verb-row Assemble refl) words work texts,
    asked-two (codes "asm") (codes "TEXT") (codes "OUT") refl works.assemble (verb-row Assemble refl) words work,
  )

  disassemble-words : AskExactly works (codes "dis") (AsksByTwo works.disassemble)
  unfolding verb_named asked_for
  disassemble-words words work texts = (
    two-asked (codes "dis") (codes "OBJ") (codes "OUT") refl works.disassemble (verb-row Disassemble refl) words work
        texts,
    asked-two (codes "dis") (codes "OBJ") (codes "OUT") refl works.disassemble (verb-row Disassemble refl) words work,
  )

  infer-words : AskExactly works (codes "infer") (AsksByTwo works.infer)
  unfolding verb_named asked_for
  infer-words words work texts = (
    two-asked (codes "infer") (codes "OBJ") (codes "OUT") refl works.infer (verb-row Infer refl) words work texts,
    asked-two (codes "infer") (codes "OBJ") (codes "OUT") refl works.infer (verb-row Infer refl) words work,
  )

  -- ---- `trace`

  trace-made : (words : List Text) (parts : List Part) (t u : Text)
      → Says run_options (codes "paths" ∷ codes "recursive" ∷ []) words (t ∷ u ∷ []) parts
      → asked_behind trace_row (trace_asks works.trace) words
      ≡ option_and_then (λ n. option_map (λ s.
      works.trace t u n s (has_flag (codes "paths") parts) (has_flag (codes "recursive") parts))
      (seed_given (value_in (codes "seed") parts))) (number_given (value_in (codes "cycles") parts))
  trace-made words parts t u given =
      let says = says-all trace_row words (t ∷ u ∷ []) parts given tt in
      let rows = found_by trace_row parts in
      let name = name-of trace_row (verb-row Trace refl) words parts says (t ∷ u ∷ []) given.are in
      let first : first_of (codes "OBJ") rows ≡ Some t = name (codes "OBJ") (inl refl) in
      let second : first_of (codes "INPUT") rows ≡ Some u = name (codes "INPUT") (inr (inl refl)) in
      let cycles = value-of trace_row (verb-row Trace refl) words parts says (codes "cycles") (inl refl) in
      let seed = value-of trace_row (verb-row Trace refl) words parts says (codes "seed") (inr (inl refl)) in
      let paths = flag-of trace_row (verb-row Trace refl) words parts says (codes "paths") (inl refl) in
      let recursive = flag-of trace_row (verb-row Trace refl) words parts says (codes "recursive") (inr (inl refl)) in
      row-asked trace_row (verb-row Trace refl) (trace_asks works.trace) words parts says
      ∙ (λ k. trace_named works.trace (first k) (second k) (cycles k) (seed k) (first_of (codes "paths") rows)
      (first_of (codes "recursive") rows))
      ∙ (λ k. option_and_then (λ n. option_map (λ s. works.trace t u n s (paths k) (recursive k))
      (seed_given (value_in (codes "seed") parts))) (number_given (value_in (codes "cycles") parts)))

  -- what the options of words give that say two names and ask for work
  pub trace-given : (words : List Text) (object input : Text) (parts : List Part) (work : W)
      → Says run_options (codes "paths" ∷ codes "recursive" ∷ []) words (object ∷ input ∷ []) parts
      → asked_work works (codes "trace" ∷ words) ≡ Some work
      → (cycles : ℕ) × (seed : ℕ) × (number_given (value_in (codes "cycles") parts) ≡ Some cycles)
      × (seed_given (value_in (codes "seed") parts) ≡ Some seed)
      × (work ≡ works.trace object input cycles seed (has_flag (codes "paths") parts)
      (has_flag (codes "recursive") parts))
  unfolding verb_named asked_for
  trace-given words object input parts work says asked =
      two-given
      (λ n s. works.trace object input n s (has_flag (codes "paths") parts) (has_flag (codes "recursive") parts))
      work (number_given (value_in (codes "cycles") parts)) (seed_given (value_in (codes "seed") parts))
      (sym (trace-made words parts object input says) ∙ asked)

  trace-words : AskExactly works (codes "trace") (AsksToTrace works)
  unfolding verb_named asked_for
  trace-words words work texts = (
    (λ asked.
        let found = asked-row trace_row (verb-row Trace refl) (trace_asks works.trace) words work texts asked in
        let two = two-names (names_in found.0) (codes "OBJ") (codes "INPUT") found.1.names in
        let says = all-says trace_row words (two.0 ∷ two.1 ∷ []) found.0 found.1 two.2 in
        let given = trace-given words two.0 two.1 found.0 work says asked in
        record {
          object = two.0;
          input = two.1;
          parts = found.0;
          says = says;
          cycles = given.0;
          seed = given.1;
          cycles_given = given.2;
          seed_is = given.3;
          is = given.4;
        }),
    (λ asks.
        trace-made words asks.parts asks.object asks.input asks.says
        ∙ (λ k. option_and_then (λ n. option_map (λ s. works.trace asks.object asks.input n s
        (has_flag (codes "paths") asks.parts) (has_flag (codes "recursive") asks.parts)) (asks.seed_is k))
        (asks.cycles_given k)) ∙ ap Some (sym asks.is)),
  )

  -- ---- `run`

  run-made : (words : List Text) (parts : List Part) (t u v : Text)
      → Says run_options (codes "recursive" ∷ []) words (t ∷ u ∷ v ∷ []) parts
      → asked_behind run_row (run_asks works.run) words
      ≡ option_and_then (λ n. option_map (λ s. works.run t u v n) (seed_given (value_in (codes "seed") parts)))
      (number_given (value_in (codes "cycles") parts))
  run-made words parts t u v given =
      let says = says-all run_row words (t ∷ u ∷ v ∷ []) parts given tt in
      let rows = found_by run_row parts in
      let name = name-of run_row (verb-row Run refl) words parts says (t ∷ u ∷ v ∷ []) given.are in
      let first : first_of (codes "OBJ") rows ≡ Some t = name (codes "OBJ") (inl refl) in
      let second : first_of (codes "INPUT") rows ≡ Some u = name (codes "INPUT") (inr (inl refl)) in
      let third : first_of (codes "OUT") rows ≡ Some v = name (codes "OUT") (inr (inr (inl refl))) in
      let cycles = value-of run_row (verb-row Run refl) words parts says (codes "cycles") (inl refl) in
      let seed = value-of run_row (verb-row Run refl) words parts says (codes "seed") (inr (inl refl)) in
      row-asked run_row (verb-row Run refl) (run_asks works.run) words parts says
      ∙ (λ k. run_named works.run (first k) (second k) (third k) (cycles k) (seed k))

  pub run-given : (words : List Text) (object input output : Text) (parts : List Part) (work : W)
      → Says run_options (codes "recursive" ∷ []) words (object ∷ input ∷ output ∷ []) parts
      → asked_work works (codes "run" ∷ words) ≡ Some work
      → (cycles : ℕ) × (seed : ℕ) × (number_given (value_in (codes "cycles") parts) ≡ Some cycles)
      × (seed_given (value_in (codes "seed") parts) ≡ Some seed) × (work ≡ works.run object input output cycles)
  unfolding verb_named asked_for
  run-given words object input output parts work says asked =
      two-given (λ n (s : ℕ). works.run object input output n) work (number_given (value_in (codes "cycles") parts))
      (seed_given (value_in (codes "seed") parts))
      (sym (run-made words parts object input output says) ∙ asked)

  run-words : AskExactly works (codes "run") (AsksToRun works)
  unfolding verb_named asked_for
  run-words words work texts = (
    (λ asked.
        let found = asked-row run_row (verb-row Run refl) (run_asks works.run) words work texts asked in
        let names = three-names (names_in found.0) (codes "OBJ") (codes "INPUT") (codes "OUT") found.1.names in
        let parts = found.0 in
        let says = all-says run_row words (names.0 ∷ names.1 ∷ names.2 ∷ []) parts found.1 names.3 in
        let given = run-given words names.0 names.1 names.2 parts work says asked in
        record {
          object = names.0;
          input = names.1;
          output = names.2;
          parts = parts;
          says = says;
          cycles = given.0;
          seed = given.1;
          cycles_given = given.2;
          seed_is = given.3;
          is = given.4;
        }),
    (λ asks.
        run-made words asks.parts asks.object asks.input asks.output asks.says
        ∙ (λ k. option_and_then (λ n. option_map (λ s. works.run asks.object asks.input asks.output n) (asks.seed_is k))
        (asks.cycles_given k)) ∙ ap Some (sym asks.is)),
  )

  -- ---- `eval`

  evaluate-made : (words : List Text) (parts : List Part) (t u v : Text)
      → Says (codes "turns" ∷ []) (codes "procs" ∷ []) words (t ∷ u ∷ v ∷ []) parts
      → asked_behind evaluate_row (evaluate_asks works.evaluate) words
      ≡ option_map (λ n. works.evaluate t u v n (has_flag (codes "procs") parts))
      (number_given (value_in (codes "turns") parts))
  evaluate-made words parts t u v given =
      let says = says-all evaluate_row words (t ∷ u ∷ v ∷ []) parts given tt in
      let rows = found_by evaluate_row parts in
      let name = name-of evaluate_row (verb-row Evaluate refl) words parts says (t ∷ u ∷ v ∷ []) given.are in
      let first : first_of (codes "SRC") rows ≡ Some t = name (codes "SRC") (inl refl) in
      let second : first_of (codes "INPUT") rows ≡ Some u = name (codes "INPUT") (inr (inl refl)) in
      let third : first_of (codes "OUT") rows ≡ Some v = name (codes "OUT") (inr (inr (inl refl))) in
      let turns = value-of evaluate_row (verb-row Evaluate refl) words parts says (codes "turns") (inl refl) in
      let procs = flag-of evaluate_row (verb-row Evaluate refl) words parts says (codes "procs") (inl refl) in
      row-asked evaluate_row (verb-row Evaluate refl) (evaluate_asks works.evaluate) words parts says
      ∙ (λ k. evaluate_named works.evaluate (first k) (second k) (third k) (turns k) (first_of (codes "procs") rows))
      ∙ (λ k. option_map (λ n. works.evaluate t u v n (procs k)) (number_given (value_in (codes "turns") parts)))

  pub evaluate-given : (words : List Text) (source input output : Text) (parts : List Part) (work : W)
      → Says (codes "turns" ∷ []) (codes "procs" ∷ []) words (source ∷ input ∷ output ∷ []) parts
      → asked_work works (codes "eval" ∷ words) ≡ Some work
      → (turns : ℕ) × (number_given (value_in (codes "turns") parts) ≡ Some turns)
      × (work ≡ works.evaluate source input output turns (has_flag (codes "procs") parts))
  unfolding verb_named asked_for
  evaluate-given words source input output parts work says asked =
      one-given (λ n. works.evaluate source input output n (has_flag (codes "procs") parts)) work
      (number_given (value_in (codes "turns") parts))
      (sym (evaluate-made words parts source input output says) ∙ asked)

  evaluate-words : AskExactly works (codes "eval") (AsksToEvaluate works)
  unfolding verb_named asked_for
  evaluate-words words work texts = (
    (λ asked.
        let found =
        asked-row evaluate_row (verb-row Evaluate refl) (evaluate_asks works.evaluate) words work texts asked in
        let names = three-names (names_in found.0) (codes "SRC") (codes "INPUT") (codes "OUT") found.1.names in
        let parts = found.0 in
        let says = all-says evaluate_row words (names.0 ∷ names.1 ∷ names.2 ∷ []) parts found.1 names.3 in
        let given = evaluate-given words names.0 names.1 names.2 parts work says asked in
        record {
          source = names.0;
          input = names.1;
          output = names.2;
          parts = parts;
          says = says;
          turns = given.0;
          turns_given = given.1;
          is = given.2;
        }),
    (λ asks.
        evaluate-made words asks.parts asks.source asks.input asks.output asks.says
        ∙ (λ k. option_map
        (λ n. works.evaluate asks.source asks.input asks.output n (has_flag (codes "procs") asks.parts))
        (asks.turns_given k)) ∙ ap Some (sym asks.is)),
  )

  -- ---- `compile`

  compile-made : (words : List Text) (parts : List Part) (t u : Text)
      → Says compile_options (codes "procs" ∷ codes "fast" ∷ []) words (t ∷ u ∷ []) parts
      → asked_behind compile_row (compile_asks works.compile) words
      ≡ option_and_then (λ w. option_map (λ at.
      works.compile t u w at (has_flag (codes "fast") parts) (has_flag (codes "procs") parts))
      (window_given (value_in (codes "window") parts))) (block_log_given (value_in (codes "block-log") parts))
  compile-made words parts t u given =
      let says = says-all compile_row words (t ∷ u ∷ []) parts given tt in
      let rows = found_by compile_row parts in
      let name = name-of compile_row (verb-row Compile refl) words parts says (t ∷ u ∷ []) given.are in
      let first : first_of (codes "SRC") rows ≡ Some t = name (codes "SRC") (inl refl) in
      let second : first_of (codes "OUT") rows ≡ Some u = name (codes "OUT") (inr (inl refl)) in
      let block_log = value-of compile_row (verb-row Compile refl) words parts says (codes "block-log") (inl refl) in
      let window = value-of compile_row (verb-row Compile refl) words parts says (codes "window") (inr (inl refl)) in
      let procs = flag-of compile_row (verb-row Compile refl) words parts says (codes "procs") (inl refl) in
      let fast = flag-of compile_row (verb-row Compile refl) words parts says (codes "fast") (inr (inl refl)) in
      row-asked compile_row (verb-row Compile refl) (compile_asks works.compile) words parts says
      ∙ (λ k. compile_named works.compile (first k) (second k) (block_log k) (window k) (first_of (codes "fast") rows)
      (first_of (codes "procs") rows))
      ∙ (λ k. option_and_then (λ w. option_map (λ at. works.compile t u w at (fast k) (procs k))
      (window_given (value_in (codes "window") parts))) (block_log_given (value_in (codes "block-log") parts)))

  pub compile-given : (words : List Text) (source output : Text) (parts : List Part) (work : W)
      → Says compile_options (codes "procs" ∷ codes "fast" ∷ []) words (source ∷ output ∷ []) parts
      → asked_work works (codes "compile" ∷ words) ≡ Some work
      → (block_log : ℕ) × (window : Window) × (block_log_given (value_in (codes "block-log") parts) ≡ Some block_log)
      × (window_given (value_in (codes "window") parts) ≡ Some window)
      × (work ≡ works.compile source output block_log window (has_flag (codes "fast") parts)
      (has_flag (codes "procs") parts))
  unfolding verb_named asked_for
  compile-given words source output parts work says asked =
      two-given
      (λ w at. works.compile source output w at (has_flag (codes "fast") parts) (has_flag (codes "procs") parts)) work
      (block_log_given (value_in (codes "block-log") parts)) (window_given (value_in (codes "window") parts))
      (sym (compile-made words parts source output says) ∙ asked)

  compile-words : AskExactly works (codes "compile") (AsksToCompile works)
  unfolding verb_named asked_for
  compile-words words work texts = (
    (λ asked.
        let found = asked-row compile_row (verb-row Compile refl) (compile_asks works.compile) words work texts asked in
        let two = two-names (names_in found.0) (codes "SRC") (codes "OUT") found.1.names in
        let says = all-says compile_row words (two.0 ∷ two.1 ∷ []) found.0 found.1 two.2 in
        let given = compile-given words two.0 two.1 found.0 work says asked in
        record {
          source = two.0;
          output = two.1;
          parts = found.0;
          says = says;
          block_log = given.0;
          window = given.1;
          block_log_is = given.2;
          window_is = given.3;
          is = given.4;
        }),
    (λ asks.
        compile-made words asks.parts asks.source asks.output asks.says
        ∙ (λ k. option_and_then (λ w. option_map (λ at. works.compile asks.source asks.output w at
        (has_flag (codes "fast") asks.parts) (has_flag (codes "procs") asks.parts)) (asks.window_is k))
        (asks.block_log_is k)) ∙ ap Some (sym asks.is)),
  )

  -- ---- `sample`

  sample-made : (words : List Text) (parts : List Part) (t u : Text)
      → Says (codes "seed" ∷ []) (codes "fast" ∷ []) words (t ∷ u ∷ []) parts
      → asked_behind sample_row (sample_asks works.sample) words
      ≡ option_and_then (λ n. option_map (λ s. works.sample (has_flag (codes "fast") parts) n u)
      (seed_given (value_in (codes "seed") parts)))
      (items_given t)
  sample-made words parts t u given =
      let says = says-all sample_row words (t ∷ u ∷ []) parts given tt in
      let rows = found_by sample_row parts in
      let name = name-of sample_row (verb-row Sample refl) words parts says (t ∷ u ∷ []) given.are in
      let first : first_of (codes "N") rows ≡ Some t = name (codes "N") (inl refl) in
      let second : first_of (codes "OUT") rows ≡ Some u = name (codes "OUT") (inr (inl refl)) in
      let seed = value-of sample_row (verb-row Sample refl) words parts says (codes "seed") (inl refl) in
      let fast = flag-of sample_row (verb-row Sample refl) words parts says (codes "fast") (inl refl) in
      row-asked sample_row (verb-row Sample refl) (sample_asks works.sample) words parts says
      ∙ (λ k. sample_named works.sample (first k) (second k) (seed k) (first_of (codes "fast") rows))
      ∙ (λ k. option_and_then (λ n. option_map (λ s. works.sample (fast k) n u)
      (seed_given (value_in (codes "seed") parts)))
      (items_given t))

  sample-words : AskExactly works (codes "sample") (AsksToSample works)
  unfolding verb_named asked_for
  sample-words words work texts = (
    (λ asked.
        let found = asked-row sample_row (verb-row Sample refl) (sample_asks works.sample) words work texts asked in
        let two = two-names (names_in found.0) (codes "N") (codes "OUT") found.1.names in
        let says = all-says sample_row words (two.0 ∷ two.1 ∷ []) found.0 found.1 two.2 in
        let given =
        two-given (λ n s. works.sample (has_flag (codes "fast") found.0) n two.1) work (items_given two.0)
        (seed_given (value_in (codes "seed") found.0)) (sym (sample-made words found.0 two.0 two.1 says) ∙ asked) in
        record {
          number = two.0;
          output = two.1;
          parts = found.0;
          says = says;
          items = given.0;
          seed = given.1;
          items_are = given.2;
          seed_is = given.3;
          is = given.4;
        }),
    (λ asks.
        sample-made words asks.parts asks.number asks.output asks.says
        ∙ (λ k. option_and_then (λ n. option_map (λ s. works.sample (has_flag (codes "fast") asks.parts) n asks.output)
        (asks.seed_is k)) (asks.items_are k))
        ∙ ap Some (sym asks.is)),
  )

  -- a word that isn't a verb
  no-verb : (first : Text) (words : List Text) → (IsAmong verb_names first → ⊥)
      → asked_work works (first ∷ words) ≡ None
  unfolding verb_named
  no-verb first words none =
      rw (
        unlike (codes "check") (λ is. none (inl is)),
        unlike (codes "trace") (λ is. none (inr (inl is))),
        unlike (codes "run") (λ is. none (inr (inr (inl is)))),
        unlike (codes "asm") (λ is. none (inr (inr (inr (inl is))))),
        unlike (codes "dis") (λ is. none (inr (inr (inr (inr (inl is)))))),
        unlike (codes "eval") (λ is. none (inr (inr (inr (inr (inr (inl is))))))),
        unlike (codes "compile") (λ is. none (inr (inr (inr (inr (inr (inr (inl is)))))))),
        unlike (codes "sample") (λ is. none (inr (inr (inr (inr (inr (inr (inr (inl is))))))))),
        unlike (codes "bus") (λ is. none (inr (inr (inr (inr (inr (inr (inr (inr (inl is)))))))))),
        unlike (codes "infer") (λ is. none (inr (inr (inr (inr (inr (inr (inr (inr (inr (inl is))))))))))),
      ) refl
    where
      unlike : (verb : Text) → (first ≡ verb → ⊥) → bytes_eq verb first ≡ false
      unlike verb other = false-or (bytes_eq verb first) (λ is. other (sym (text-is verb first is)))

  pub words-ask : WordsAsk works
  words-ask = record {
    check = check-words;
    trace = trace-words;
    run = run-words;
    assemble = assemble-words;
    disassemble = disassemble-words;
    evaluate = evaluate-words;
    compile = compile-words;
    sample = sample-words;
    bus = bus-words works;
    infer = infer-words;
    no_words = refl;
    no_verb = no-verb;
  }
