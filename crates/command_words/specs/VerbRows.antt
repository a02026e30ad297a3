-- A verb's row: all that its command is made of.
use Rattle.std.specs.Prelude.{true, List, [], ◌∷◌, codes, map, fold, Some}
use Rattle.clap.specs.Words.{App, Rule, Text, new_app, new_rule, with_rule}
use Rattle.clap.specs.declared.builder.action.ArgAction.TheVariants.{SetTrue}
use Rattle.command_words.specs.declared.verbs.Argument.{Argument}
use Rattle.command_words.specs.declared.verbs.Argument.TheVariants.{Word, Words, Valued, Flag}

-- A word that is required at its position; 2 to 16 adjacent words under one name; an option with a value; and an option
-- without one.
abbrev pub rule_for : Argument → Text → Rule
rule_for Word name = record (new_rule name) { required = true }
rule_for Words name = record (new_rule name) {
  required = true;
  range = Some (record { start_inclusive = 2; end_inclusive = 16 });
}
rule_for Valued name = record (new_rule name) { long = Some name }
rule_for Flag name = record (new_rule name) { long = Some name; action = Some SetTrue }

-- the verb's name; its positional words and their names; its options with a value; and its options without one
pub record VerbRow : Type 0 where
  pub name : Text
  pub place : Argument
  pub places : List Text
  pub options : List Text
  pub flags : List Text

-- the row of a verb whose positional words are each under a name of its own
abbrev pub row_with : Text → List Text → List Text → List Text → VerbRow
row_with name places options flags = record {
  name = name;
  place = Word;
  places = places;
  options = options;
  flags = flags;
}

-- the row of a verb with two names and nothing else
abbrev pub row_of_two : Text → Text → Text → VerbRow
row_of_two name first second = row_with name (first ∷ second ∷ []) [] []

-- a command with these arguments more
abbrev pub with_all : App → Argument → List Text → App
with_all app kind names = fold with_rule app (map (rule_for kind) names)

-- the command of a verb's words
abbrev pub command_of : VerbRow → App
command_of row =
    with_all (with_all (with_all (new_app row.name) row.place row.places) Valued row.options) Flag row.flags

-- ---- the verbs

abbrev pub check_row : VerbRow
check_row = row_with (codes "check") (codes "OBJ" ∷ []) [] []

abbrev pub trace_row : VerbRow
trace_row =
    row_with (codes "trace") (codes "OBJ" ∷ codes "INPUT" ∷ []) (codes "cycles" ∷ codes "seed" ∷ [])
    (codes "paths" ∷ codes "recursive" ∷ [])

abbrev pub run_row : VerbRow
run_row =
    row_with (codes "run") (codes "OBJ" ∷ codes "INPUT" ∷ codes "OUT" ∷ []) (codes "cycles" ∷ codes "seed" ∷ [])
    (codes "recursive" ∷ [])

abbrev pub assemble_row : VerbRow
assemble_row = row_of_two (codes "asm") (codes "TEXT") (codes "OUT")

abbrev pub disassemble_row : VerbRow
disassemble_row = row_of_two (codes "dis") (codes "OBJ") (codes "OUT")

abbrev pub evaluate_row : VerbRow
evaluate_row =
    row_with (codes "eval") (codes "SRC" ∷ codes "INPUT" ∷ codes "OUT" ∷ []) (codes "turns" ∷ [])
    (codes "procs" ∷ [])

abbrev pub compile_row : VerbRow
compile_row =
    row_with (codes "compile") (codes "SRC" ∷ codes "OUT" ∷ []) (codes "block-log" ∷ codes "window" ∷ [])
    (codes "procs" ∷ codes "fast" ∷ [])

abbrev pub sample_row : VerbRow
sample_row = row_with (codes "sample") (codes "N" ∷ codes "OUT" ∷ []) (codes "seed" ∷ []) (codes "fast" ∷ [])

abbrev pub bus_row : VerbRow
bus_row = record {
  name = codes "bus";
  place = Words;
  places = codes "NAMES" ∷ [];
  options = codes "cycles" ∷ codes "seed" ∷ [];
  flags = [];
}

abbrev pub infer_row : VerbRow
infer_row = row_of_two (codes "infer") (codes "OBJ") (codes "OUT")
