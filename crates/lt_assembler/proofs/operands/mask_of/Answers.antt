use Rattle.std.proofs.Common.{sym, ◌∙◌, arith}
use Rattle.lt_assembler.proofs.Digits.{AllDigits-hex, mask_fits}
use Rattle.lt_assembler.proofs.operands.mask_of.Goals as goal

pub digits_value-requires-clause-digits : goal.digits_value-requires-clause-digits
digits_value-requires-clause-digits c = AllDigits-hex c.args.word.now (sym c.are_hex.ensures ∙ c.if-not-are_hex.false)

pub overflow_cast-result : goal.overflow_cast-result
overflow_cast-result c =
    let fits = mask_fits c.args.word.now c.if-word-ne8.false (sym c.are_hex.ensures ∙ c.if-not-are_hex.false) in
    omega (arith, fits, c.digits_value.ensures.value)
