use Rattle.std.proofs.Common.{ap, arith, sym}
use Rattle.std.specs.Str.Parse.{digits_value}
use Rattle.std.proofs.lemmas.Int.Digits.{digits_value-lt, digits_value_more}
use Rattle.std.proofs.lemmas.List.{take_all}
use Rattle.gr_base.proofs.Digits.{digits_fit, AllDigits-at}
use Rattle.gr_base.proofs.numerals.digits_value.Goals as goal

pub digit_value-requires : goal.digit_value-requires
digit_value-requires c = omega (
  arith,
  AllDigits-at c.args.radix c.args.digits.now c.loop-digit.digit-index c.requires.digits c.loop-digit-test.true,
)

pub overflow_mul-value : goal.overflow_mul-value
overflow_mul-value c =
    let fits =
    digits_fit c.args.radix c.args.digits.now c.loop-digit.digit-index c.requires.digits c.requires.short
    c.loop-digit-test.true in
    let fits' = rw (← c.loop-digit.invariant) at fits in
    omega (arith, fits')

pub overflow_add-value : goal.overflow_add-value
overflow_add-value c =
    let fits =
    digits_fit c.args.radix c.args.digits.now c.loop-digit.digit-index c.requires.digits c.requires.short
    c.loop-digit-test.true in
    let fits' = rw (← c.loop-digit.invariant, ← c.digit_value.ensures) at fits in
    omega (arith, fits')

pub loop-digit-preserved : goal.loop-digit-preserved
loop-digit-preserved c =
    let more = digits_value_more c.args.radix c.args.digits.now c.loop-digit.digit-index c.loop-digit-test.true in
    rw (c.loop-digit.invariant, c.digit_value.ensures) (sym more)

pub returns-clause-below : goal.returns-clause-below
returns-clause-below c =
    let whole = ap (digits_value c.args.radix) (take_all c.loop-digit.digit-index c.args.digits.now (omega arith)) in
    omega (arith, c.loop-digit.invariant, whole, digits_value-lt c.args.radix c.args.digits.now c.requires.digits)
