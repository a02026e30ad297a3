-- How an evaluation ends: with the final values of the variables, or spent. (This project's profile.)
use Rattle.std.specs.Prelude.{List, Option, Some, None}
use Rattle.gr_word.specs.declared.variables.Want.{Want}
use Rattle.gr_word.specs.Fitting.{FitsWants}
use Rattle.src_tree.specs.Meaning.{Store}
use Rattle.source_meaning.specs.declared.evaluation.Outcome.{Outcome}
use Rattle.source_meaning.specs.declared.evaluation.Outcome.TheVariants.{Done, Spent}

-- the store that is left, or nothing if the evaluation is spent
abbrev pub left_of : Outcome → Option Store
left_of (Done values) = Some values
left_of Spent = None

-- the final values are a list of words for each variable, of the variable's length
abbrev pub LeftFits : List Want → Outcome → Type 0
LeftFits wants (Done values) = FitsWants wants values
LeftFits wants Spent = Unit {0}
