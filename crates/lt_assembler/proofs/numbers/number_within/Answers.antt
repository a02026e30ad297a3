use Rattle.std.proofs.Common.{sym, ◌∙◌}
use Rattle.lt_assembler.proofs.Digits.{number_word}
use Rattle.lt_assembler.proofs.numbers.number_within.Goals as goal

pub digits_value-number-requires-clause-digits : goal.digits_value-number-requires-clause-digits
digits_value-number-requires-clause-digits c =
    (number_word c.args.word.now (sym c.is_number.ensures ∙ c.if-not-is_number.false)).digits

pub digits_value-number-requires-clause-short : goal.digits_value-number-requires-clause-short
digits_value-number-requires-clause-short c =
    (number_word c.args.word.now (sym c.is_number.ensures ∙ c.if-not-is_number.false)).fits
