use Rattle.gr_base.proofs.Digits.{one_numeral}
use Rattle.gr_base.proofs.numerals.numeral_laws.Goals as goal

pub returns : goal.returns
returns c = record { one_numeral = one_numeral }
