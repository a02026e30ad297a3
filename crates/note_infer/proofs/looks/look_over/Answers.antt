-- What is carried over the region is brought to its join.
use Rattle.std.proofs.Common.{ℕ, ℤ, subst}
use Rattle.std.proofs.lemmas.Result.{on_ok_weaker}
use Rattle.lt_isa.proofs.Offsets.{handed_on}
use Rattle.trace_patterns.specs.Prelude.{Known, JoinsIn}
use Rattle.region_walk.specs.Prelude.{IsCarriedTo}
use Rattle.note_infer.specs.Prelude.{BringsInside}
use Rattle.note_infer.proofs.Looking.{looks_over_at, looks_nowhere_at, full_joined}
use Rattle.note_infer.proofs.looks.look_over.Goals.{In-Joins}
use Rattle.note_infer.proofs.looks.look_over.Goals as goal

carried : (c : In-Joins) → IsCarriedTo c.args.spot.object.now c.args.spot.place c.args.offset c.args.spot.known.now
    c.in-Joins.join c.in-Joins.next
carried c =
    let spot = c.args.spot in
    subst (λ (z : ℤ). IsCarriedTo spot.object.now spot.place z spot.known.now c.in-Joins.join c.in-Joins.next)
    (handed_on c.args.offset c.requires.offset) c.in-Joins.ensures

-- src/looks.rt:137:49
pub bring_inside-requires-clause-next : goal.bring_inside-requires-clause-next
bring_inside-requires-clause-next c =
    let spot = c.args.spot in
    full_joined spot.object.now spot.place c.args.offset spot.known.now c.in-Joins.join c.in-Joins.next
    (c.requires.spot.full spot.place spot.known.now c.requires.spot.at)
    (carried (goal.at.bring_inside-requires-clause-next c).In-Joins).joins

-- src/looks.rt:112:1
pub returns-in-Unshaped : goal.returns-in-Unshaped
returns-in-Unshaped c =
    let spot = c.args.spot in
    let is = c.requires.spot in
    looks_nowhere_at spot.object.now spot.crossed.now.list spot.place spot.known.now c.args.states.now
    c.args.stack.now.items is.at (is.full spot.place spot.known.now is.at) is.size
    is.inside c.args.offset c.requires.code c.requires.among
    (subst (λ (z : ℤ). (join : ℕ) (next : Known)
    → JoinsIn spot.object.now spot.place z spot.known.now join next → ⊥)
    (handed_on c.args.offset c.requires.offset) c.in-Unshaped.ensures)

-- src/looks.rt:112:1
pub returns-in-Joins : goal.returns-in-Joins
returns-in-Joins c =
    let spot = c.args.spot in
    let is = c.requires.spot in
    on_ok_weaker c.bring_inside.result
    (λ (h : BringsInside c.args.states.now c.args.stack.now.items c.in-Joins.join c.in-Joins.next
    c.bring_inside.new.states c.bring_inside.new.stack.items).
    looks_over_at spot.object.now spot.crossed.now.list spot.place spot.known.now c.args.states.now
    c.args.stack.now.items is.at (is.full spot.place spot.known.now is.at) is.size
    is.inside c.args.offset c.in-Joins.join c.in-Joins.next c.bring_inside.new.states
    c.bring_inside.new.stack.items c.requires.code c.requires.among
    (carried (goal.at.returns-in-Joins c).In-Joins) h) c.bring_inside.ensures
