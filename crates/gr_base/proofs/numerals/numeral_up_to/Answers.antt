use Rattle.std.proofs.Common.{◌≡◌, true, sym, ◌∙◌, arith}
use Rattle.std.proofs.lemmas.Bool.{false≢true}
use Rattle.gr_base.specs.Prelude.{is_canonical_numeral}
use Rattle.gr_base.proofs.Digits.{canonical_from_test, one_numeral}
use Rattle.gr_base.proofs.numerals.numeral_up_to.Goals as goal

pub returns-then-not-is_canonical_numeral-clause-none : goal.returns-then-not-is_canonical_numeral-clause-none
returns-then-not-is_canonical_numeral-clause-none c = λ n within is.
    false≢true (sym c.if-not-is_canonical_numeral.true ∙ c.is_canonical_numeral.ensures
    ∙ ((one_numeral n c.args.text.now (omega (arith, c.requires))).1 is).0)

pub number_capped-number-requires : goal.number_capped-number-requires
number_capped-number-requires c =
    (canonical_from_test c.args.text.now
    (sym c.is_canonical_numeral.ensures ∙ c.if-not-is_canonical_numeral.false)).tested

pub returns-then-number-most-clause-none : goal.returns-then-number-most-clause-none
returns-then-number-most-clause-none c = λ n within is.
    let value = ((one_numeral n c.args.text.now (omega (arith, c.requires))).1 is).1 in
    omega (arith, value, c.number_capped-number.ensures, c.if-number-most.true)

pub returns-else-number-most-clause-some : goal.returns-else-number-most-clause-some
returns-else-number-most-clause-some c =
    let canonical : is_canonical_numeral c.args.text.now ≡ true =
    sym c.is_canonical_numeral.ensures ∙ c.if-not-is_canonical_numeral.false in (
      omega (arith, c.if-number-most.false),
      (one_numeral c.number_capped-number.result c.args.text.now (omega (arith, c.requires, c.if-number-most.false))).0
          (canonical, omega (arith, c.number_capped-number.ensures, c.if-number-most.false)),
    )
