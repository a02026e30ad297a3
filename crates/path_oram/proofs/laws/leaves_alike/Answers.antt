use Rattle.path_oram.proofs.AlikeLeaves.{leaves_alike as alike}
use Rattle.path_oram.proofs.laws.leaves_alike.Goals as goal

pub returns : goal.returns
returns c = alike
