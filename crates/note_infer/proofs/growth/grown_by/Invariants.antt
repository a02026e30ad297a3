-- The branches so far grew, the states are the least under them, and those are listed that may join; fewer places are
-- left with each that joins.
use Rattle.std.proofs.Common.{[]}
use Rattle.note_infer.specs.Prelude.{GrowthHolds, places_left, ListsJoiners}
use Rattle.note_infer.proofs.growth.grown_by.Given as goal

abbrev pub invariant-growing : goal.invariant-growing
invariant-growing l = record {
  holds : GrowthHolds l.object l.crossed.size l.crossed.list l.states.items;
  listed : ListsJoiners l.object l.crossed.list l.states.items [] l.joiners;
}

abbrev pub decreases-growing : goal.decreases-growing
decreases-growing l = places_left l.crossed.size l.crossed.list
