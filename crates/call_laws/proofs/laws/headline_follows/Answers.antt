use Rattle.call_laws.proofs.HeadlineAll.{headline-follows}
use Rattle.call_laws.proofs.laws.headline_follows.Goals as goal

pub returns : goal.returns
returns c = headline-follows
