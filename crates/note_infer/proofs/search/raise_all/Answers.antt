-- One turn of the loop.
use Rattle.std.proofs.Common.{ℕ, List, subst}
use Rattle.note_infer.specs.Prelude.{LoopHolds, ListsJoiners}
use Rattle.note_infer.proofs.Turns.{loop_turn, loop_place}
use Rattle.note_infer.proofs.JoinersListed.{listed_turn}
use Rattle.note_infer.proofs.search.raise_all.Goals as goal

-- src/search.rt:23:15
pub list_joiner-requires-clause-inside : goal.list_joiner-requires-clause-inside
list_joiner-requires-clause-inside c =
    loop_place c.args.object.now c.args.crossed.now.list c.looking.states c.pop.new.self.items c.in-Some.place
    (subst (LoopHolds c.args.object.now c.args.crossed.now.list c.looking.states) c.in-Some.ensures.items
    c.looking.invariant.holds)

-- src/search.rt:23:15
pub look_at-requires-clause-inside : goal.look_at-requires-clause-inside
look_at-requires-clause-inside c =
    loop_place c.args.object.now c.args.crossed.now.list c.looking.states c.pop.new.self.items c.in-Some.place
    (subst (LoopHolds c.args.object.now c.args.crossed.now.list c.looking.states) c.in-Some.ensures.items
    c.looking.invariant.holds)

-- src/search.rt:22:5
pub looking-preserved : goal.looking-preserved
looking-preserved c =
    let o = c.args.object.now in
    let list = c.args.crossed.now.list in
    let states = c.looking.states in
    let stack = c.pop.new.self.items in
    let place = c.in-Some.place in record {
      holds = loop_turn o list states stack place c.look_at.new.states c.look_at.new.stack.items c.requires.range
          (subst (LoopHolds o list states) c.in-Some.ensures.items c.looking.invariant.holds)
          c.in-Ok-look_at.ensures;
      listed = listed_turn o list states stack place c.look_at.new.states c.look_at.new.stack.items c.looking.joiners
          c.list_joiner.new.joiners
          (subst (λ (x : List ℕ). ListsJoiners o list states x c.looking.joiners) c.in-Some.ensures.items
          c.looking.invariant.listed)
          c.in-Ok.ensures.keeps c.in-Ok.ensures.here c.in-Ok-look_at.ensures;
    }
