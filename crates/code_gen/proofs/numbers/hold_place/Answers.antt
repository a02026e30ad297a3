use Rattle.std.proofs.Common.{◌≡◌, Bool, pos, sym, ap, ◌∙◌, rules, w64, to_z, of_z}
use Rattle.std.specs.Prelude.{if◌then◌else◌}
use Rattle.std.proofs.lemmas.Bool.{ne_eqb}
use Rattle.std.proofs.lemmas.Int.{wraps}
use Rattle.std.proofs.lemmas.Result.{on_ok_weaker}
use Rattle.held_registers.specs.Prelude.{with_number}
use Rattle.compiled_objects.specs.Prelude.{reducer_at}
use Rattle.code_gen.proofs.numbers.hold_place.Goals as goal

pub returns-clause-held : goal.returns-clause-held
returns-clause-held c =
    let before = c.args.held.now.items in
    let place = c.args.place in
    let one : to_z w64 (of_z w64 c.reducer_at.result) ≡ c.reducer_at.result = search (rules, wraps) in
    let two : to_z w64 (of_z w64 c.from.result) ≡ pos c.args.place.word = search (rules, wraps) in
    let first = c.in_ok-hold_number.ensures ∙ ap (with_number before) (one ∙ c.reducer_at.ensures 0) in
    on_ok_weaker c.hold_number-2.result
    (λ held. held ∙ (λ k. with_number (first k) (two k))
    ∙ sym (ap (λ (b : Bool).
    if b then before else with_number (with_number before (reducer_at place)) (pos place.word))
    (ne_eqb place.length 1 c.if-place-eq1.false)))
    c.hold_number-2.ensures
