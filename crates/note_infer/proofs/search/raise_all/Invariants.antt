-- The states are under way, and the branches that may join are listed or wait; each turn has less work left.
use Rattle.note_infer.specs.Prelude.{LoopHolds, work_left, ListsJoiners}
use Rattle.note_infer.proofs.search.raise_all.Given as goal

abbrev pub invariant-looking : goal.invariant-looking
invariant-looking l = record {
  holds : LoopHolds l.object l.crossed.list l.states l.stack.items;
  listed : ListsJoiners l.object l.crossed.list l.states l.stack.items l.joiners;
}

abbrev pub decreases-looking : goal.decreases-looking
decreases-looking l = work_left l.states l.stack.items
