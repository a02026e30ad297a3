use Rattle.call_laws.proofs.Safe.{promises-follow}
use Rattle.call_laws.proofs.laws.promises_follow.Goals as goal

pub returns : goal.returns
returns c = promises-follow
