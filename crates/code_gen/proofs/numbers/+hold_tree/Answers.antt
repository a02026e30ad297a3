use Rattle.std.proofs.Common.{◌≡◌, sym, ap, ◌∙◌, rules, w64, to_z, of_z}
use Rattle.std.proofs.lemmas.Int.{wraps}
use Rattle.std.proofs.lemmas.Result.{on_ok_weaker}
use Rattle.src_tree.specs.Prelude.{expr_tree}
use Rattle.held_registers.specs.Prelude.{with_number}
use Rattle.compiled_objects.specs.Prelude.{with_tree}
use Rattle.code_gen.proofs.numbers.+hold_tree.Goals as goal

pub returns-in-Num-clause-held : goal.returns-in-Num-clause-held
returns-in-Num-clause-held t c =
    let same : to_z w64 (of_z w64 c.in-Num.value) ≡ c.in-Num.value = search (rules, wraps) in
    on_ok_weaker c.hold_number.result
    (λ held. held ∙ ap (with_number c.args.held.now.items) same
    ∙ ap (λ e. with_tree c.args.held.now.items (expr_tree e)) (sym c.in-Num.is))
    c.hold_number.ensures
