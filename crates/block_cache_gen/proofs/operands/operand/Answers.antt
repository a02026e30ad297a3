use Rattle.std.proofs.Common.{◌≡◌, sym, ap, ◌∙◌, rules, w64, to_z, of_z}
use Rattle.std.proofs.lemmas.Int.{wraps}
use Rattle.src_tree.specs.Prelude.{expr_tree}
use Rattle.held_registers.specs.Prelude.{register_of_number}
use Rattle.block_cache_gen.specs.Prelude.{operand}
use Rattle.block_cache_gen.proofs.operands.operand.Goals as goal

pub returns-in-Num-clause-register : goal.returns-in-Num-clause-register
returns-in-Num-clause-register c =
    let same : to_z w64 (of_z w64 c.in-Num.value) ≡ c.in-Num.value = search (rules, wraps) in
    c.number_held.ensures
    ∙ ap (register_of_number c.args.emitter.now.held) same
    ∙ ap (λ e. operand c.args.emitter.now (expr_tree e)) (sym c.in-Num.is)
