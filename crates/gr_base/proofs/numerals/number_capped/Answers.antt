use Rattle.std.proofs.Common.{arith}
use Rattle.std.proofs.lemmas.Int.Digits.{digits_value_more}
use Rattle.gr_base.proofs.Digits.{AllDigits-at, AllDigits-test}
use Rattle.gr_base.proofs.numerals.number_capped.Goals as goal

pub digit_value-requires : goal.digit_value-requires
digit_value-requires c =
    omega (
      arith,
      AllDigits-at 10 c.args.digits.now c.loop-digit.digit-index
          (AllDigits-test c.args.digits.now c.requires) c.loop-digit-test.true,
    )

pub loop-digit-preserved : goal.loop-digit-preserved
loop-digit-preserved c =
    let more = digits_value_more 10 c.args.digits.now c.loop-digit.digit-index c.loop-digit-test.true in
    let value = c.digit_value.ensures in
    let before = c.loop-digit.invariant in
    let capped = c.capped-number.ensures in
    omega arith
