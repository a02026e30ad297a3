use Rattle.src_lexer.proofs.OneReading.{one_reading}
use Rattle.src_lexer.proofs.laws.one_reading.Goals as goal

pub returns : goal.returns
returns c = one_reading
