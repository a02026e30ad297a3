-- The target is brought what is known at the jump.
use Rattle.std.proofs.Common.{ℕ, sym, subst, ◌∙◌, rules, ◌≡◌, to_z, of_z, w32, ap}
use Rattle.std.proofs.lemmas.Int.{to_z-of_z}
use Rattle.std.proofs.lemmas.Result.{on_ok_weaker}
use Rattle.lt_isa.specs.Prelude.{target_of}
use Rattle.trace_patterns.specs.Prelude.{Known}
use Rattle.note_infer.specs.Prelude.{IsFull, BringsInside}
use Rattle.note_infer.proofs.Looking.{looks_jump}
use Rattle.note_infer.proofs.looks.look_jump.Goals as goal

-- src/looks.rt:76:5
pub bring_inside-requires-clause-next : goal.bring_inside-requires-clause-next
bring_inside-requires-clause-next c =
    let spot = c.args.spot in
    subst IsFull (sym c.copied.ensures) (c.requires.spot.full spot.place spot.known.now c.requires.spot.at)

-- src/looks.rt:59:1
pub returns : goal.returns
returns c =
    let spot = c.args.spot in
    let is = c.requires.spot in
    let kept : to_z w32 (of_z w32 c.args.offset) ≡ c.args.offset = search (rules, to_z-of_z) in
    on_ok_weaker c.bring_inside.result
    (λ (h : BringsInside c.args.states.now c.args.stack.now.items c.target_of-target.result c.copied.result
    c.bring_inside.new.states c.bring_inside.new.stack.items).
    looks_jump spot.object.now spot.crossed.now.list spot.place spot.known.now c.args.states.now
    c.args.stack.now.items is.at
    (is.full spot.place spot.known.now is.at) is.size is.inside c.args.offset
    c.bring_inside.new.states c.bring_inside.new.stack.items c.requires.code
    (subst (λ (q : ℕ). BringsInside c.args.states.now c.args.stack.now.items q spot.known.now
    c.bring_inside.new.states c.bring_inside.new.stack.items) (c.target_of-target.ensures
    ∙ ap (λ z. target_of spot.object.now spot.place z) kept)
    (subst (λ (x : Known). BringsInside c.args.states.now c.args.stack.now.items c.target_of-target.result x
    c.bring_inside.new.states c.bring_inside.new.stack.items) c.copied.ensures h))) c.bring_inside.ensures
