-- The lowest of those that are listed is taken.
use Rattle.std.proofs.Common.{subst}
use Rattle.note_infer.specs.Prelude.{AnswersJoin}
use Rattle.note_infer.proofs.JoinersListed.{listed_fewer, taken_shorter, lowest_found, others_listed, none_listed}
use Rattle.note_infer.proofs.growth.next_to_join.Goals as goal

pub taking-preserved : goal.taking-preserved
taking-preserved c =
    let o = c.args.object.now in
    let list = c.args.crossed.now.list in
    let states = c.args.states.now in
    listed_fewer o list states c.taking.joiners c.pop.new.self c.in-Some.place c.taking.invariant
    c.in-Some.ensures.taken
    (subst (AnswersJoin o list states c.in-Some.place) c.in-Ok-None.field-0-is c.in-Ok-None.ensures)

pub taking-smaller : goal.taking-smaller
taking-smaller c = taken_shorter c.taking.joiners c.pop.new.self c.in-Some.place c.in-Some.ensures.taken

pub returns-in-Ok-Some-clause-found : goal.returns-in-Ok-Some-clause-found
returns-in-Ok-Some-clause-found c =
    let o = c.args.object.now in
    let list = c.args.crossed.now.list in
    let states = c.args.states.now in
    lowest_found o list states c.taking.joiners c.pop.new.self c.in-Some.place c.taking.invariant
    c.in-Some.ensures.taken c.in-Ok-Some.join c.in-Some.ensures.lowest
    (subst (AnswersJoin o list states c.in-Some.place) c.in-Ok-Some.field-0-is c.in-Ok-Some.ensures)

pub returns-in-Ok-Some-clause-others : goal.returns-in-Ok-Some-clause-others
returns-in-Ok-Some-clause-others c =
    others_listed c.args.object.now c.args.crossed.now.list c.args.states.now c.taking.joiners c.pop.new.self
    c.in-Some.place c.taking.invariant c.in-Some.ensures.taken

pub returns-in-None-clause-found : goal.returns-in-None-clause-found
returns-in-None-clause-found c =
    none_listed c.args.object.now c.args.crossed.now.list c.args.states.now c.taking.joiners c.taking.invariant
    c.in-None.ensures.none
