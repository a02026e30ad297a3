-- The branches that may join are listed; each turn takes one.
use Rattle.std.proofs.Common.{[], length}
use Rattle.note_infer.specs.Prelude.{ListsJoiners}
use Rattle.note_infer.proofs.growth.next_to_join.Given as goal

abbrev pub invariant-taking : goal.invariant-taking
invariant-taking l = ListsJoiners l.object l.crossed.list l.states [] l.joiners

abbrev pub decreases-taking : goal.decreases-taking
decreases-taking l = length l.joiners
