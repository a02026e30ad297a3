use Rattle.path_oram.proofs.ShownAlike.{shows_the_same}
use Rattle.path_oram.proofs.laws.word_laws.Goals as goal

pub returns-clause-shows_the_same : goal.returns-clause-shows_the_same
returns-clause-shows_the_same c = shows_the_same
