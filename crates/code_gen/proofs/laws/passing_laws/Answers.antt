use Rattle.stretches.proofs.PassedCode.{checked-start, checked-on, checked-accepted}
use Rattle.code_gen.proofs.laws.passing_laws.Goals as goal

pub returns : goal.returns
returns c = record { starts = checked-start; carried = checked-on; accepted = checked-accepted }
