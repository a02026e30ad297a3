-- What is known after the instruction is brought to the next place.
use Rattle.std.proofs.Common.{◌+◌, sym, subst}
use Rattle.std.proofs.lemmas.Result.{on_ok_weaker}
use Rattle.trace_patterns.specs.Prelude.{Known}
use Rattle.note_infer.specs.Prelude.{IsFull, BringsInside}
use Rattle.note_infer.proofs.Looking.{looks_on, full_behind}
use Rattle.note_infer.proofs.looks.look_on.Goals as goal

-- src/looks.rt:47:5
pub bring_inside-requires-clause-next : goal.bring_inside-requires-clause-next
bring_inside-requires-clause-next c =
    let spot = c.args.spot in
    subst IsFull (sym c.known_behind-next.ensures)
    (full_behind spot.known.now c.args.instr (c.requires.spot.full spot.place spot.known.now c.requires.spot.at))

-- src/looks.rt:29:1
pub returns : goal.returns
returns c =
    let spot = c.args.spot in
    let is = c.requires.spot in
    on_ok_weaker c.bring_inside.result
    (λ (h : BringsInside c.args.states.now c.args.stack.now.items (spot.place + 1) c.known_behind-next.result
    c.bring_inside.new.states c.bring_inside.new.stack.items).
    looks_on spot.object.now spot.crossed.now.list spot.place spot.known.now c.args.states.now
    c.args.stack.now.items is.at
    (is.full spot.place spot.known.now is.at) is.size is.inside c.args.instr
    c.bring_inside.new.states c.bring_inside.new.stack.items c.requires.code c.requires.goes
    (subst (λ (x : Known). BringsInside c.args.states.now c.args.stack.now.items (spot.place + 1) x
    c.bring_inside.new.states c.bring_inside.new.stack.items) c.known_behind-next.ensures h)) c.bring_inside.ensures
