-- Both ends are brought what is known at the branch.
use Rattle.std.proofs.Common.{◌+◌, ℕ, sym, subst, ◌∙◌, rules, ◌≡◌, to_z, of_z, w32, ap}
use Rattle.std.proofs.lemmas.Int.{to_z-of_z}
use Rattle.std.proofs.lemmas.Result.{on_ok_weaker}
use Rattle.lt_isa.specs.Prelude.{target_of}
use Rattle.trace_patterns.specs.Prelude.{Known}
use Rattle.note_infer.specs.Prelude.{IsFull, BringsInside}
use Rattle.note_infer.proofs.Looking.{looks_branch_at, full_brought}
use Rattle.note_infer.proofs.looks.look_branch.Goals as goal

-- src/looks.rt:97:11
pub bring_inside-requires-clause-next : goal.bring_inside-requires-clause-next
bring_inside-requires-clause-next c =
    let spot = c.args.spot in
    subst IsFull (sym c.copied.ensures) (c.requires.spot.full spot.place spot.known.now c.requires.spot.at)

-- src/looks.rt:99:19
pub bring_inside-requires-in-Ok-clause-full : goal.bring_inside-requires-in-Ok-clause-full
bring_inside-requires-in-Ok-clause-full c =
    let spot = c.args.spot in
    let is = c.requires.spot in
    full_brought c.args.states.now c.args.stack.now.items (spot.place + 1) c.copied.result c.bring_inside.new.states
    c.bring_inside.new.stack.items is.full
    (subst IsFull (sym c.copied.ensures) (is.full spot.place spot.known.now is.at)) c.in-Ok.ensures

-- src/looks.rt:99:19
pub bring_inside-requires-in-Ok-clause-next : goal.bring_inside-requires-in-Ok-clause-next
bring_inside-requires-in-Ok-clause-next c =
    let spot = c.args.spot in
    subst IsFull (sym c.copied-in-Ok.ensures) (c.requires.spot.full spot.place spot.known.now c.requires.spot.at)

-- src/looks.rt:80:1
pub returns-in-Ok : goal.returns-in-Ok
returns-in-Ok c =
    let spot = c.args.spot in
    let is = c.requires.spot in
    let kept : to_z w32 (of_z w32 c.args.offset) ≡ c.args.offset = search (rules, to_z-of_z) in
    on_ok_weaker c.bring_inside-in-Ok.result
    (λ (h : BringsInside c.bring_inside.new.states c.bring_inside.new.stack.items c.target_of-target.result
    c.copied-in-Ok.result c.bring_inside-in-Ok.new.states c.bring_inside-in-Ok.new.stack.items).
    looks_branch_at spot.object.now spot.crossed.now.list spot.place spot.known.now c.args.states.now
    c.args.stack.now.items
    is.at (is.full spot.place spot.known.now is.at) is.size is.inside
    c.args.offset c.bring_inside.new.states c.bring_inside.new.stack.items c.bring_inside-in-Ok.new.states
    c.bring_inside-in-Ok.new.stack.items c.requires.code
    c.requires.apart (subst (λ (x : Known). BringsInside c.args.states.now c.args.stack.now.items (spot.place + 1) x
    c.bring_inside.new.states c.bring_inside.new.stack.items) c.copied.ensures c.in-Ok.ensures)
    (subst (λ (q : ℕ). BringsInside c.bring_inside.new.states c.bring_inside.new.stack.items q spot.known.now
    c.bring_inside-in-Ok.new.states c.bring_inside-in-Ok.new.stack.items) (c.target_of-target.ensures
    ∙ ap (λ z. target_of spot.object.now spot.place z) kept)
    (subst (λ (x : Known). BringsInside c.bring_inside.new.states c.bring_inside.new.stack.items
    c.target_of-target.result x c.bring_inside-in-Ok.new.states c.bring_inside-in-Ok.new.stack.items)
    c.copied-in-Ok.ensures h))) c.bring_inside-in-Ok.ensures
