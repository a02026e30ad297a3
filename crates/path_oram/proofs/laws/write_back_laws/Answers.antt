use Rattle.path_oram.proofs.Left.{takes_what_is_left}
use Rattle.path_oram.proofs.laws.write_back_laws.Goals as goal

pub returns : goal.returns
returns c = record { takes_what_is_left = takes_what_is_left }
