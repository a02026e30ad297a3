use Rattle.std.proofs.Common.{◌≡◌, ℕ, ◌+◌, ◌-◌, drop, length, map, subst, arith}
use Rattle.procs_tree.specs.Prelude.{parameter_of}
use Rattle.procs_pruning.specs.Prelude.{argument_of, arguments_under, trees_seen}
use Rattle.procs_pruning.proofs.HandedOn.{one_before}
use Rattle.procs_pruning.proofs.handing.by_name.Goals as goal

pub loop-i-preserved : goal.loop-i-preserved
loop-i-preserved c =
    let params = c.args.params.now in
    let arguments = c.args.arguments.now in
    let i = c.loop-i.i in
    let test = c.loop-i-test.true in
    let same = c.requires in
    let at = length params - 1 - i in
    let up : length params - i ≡ at + 1 = omega (arith, test) in
    let down : at ≡ length params - (i + 1) = omega (arith, test) in
    subst (λ (m : ℕ). arguments_under c.give.new.given
    ≡ argument_of (map parameter_of (drop m params)) (trees_seen (drop m arguments))) down
    (one_before params arguments at c.index-params-at.result c.index-arguments-at.result
    c.parameter_name.result.now (arguments_under c.loop-i.given) (arguments_under c.give.new.given)
    (omega (arith, test)) (omega (arith, test, same)) c.index-params-at.is c.index-arguments-at.is
    c.parameter_name.ensures
    (subst (λ (m : ℕ). arguments_under c.loop-i.given
    ≡ argument_of (map parameter_of (drop m params)) (trees_seen (drop m arguments))) up c.loop-i.invariant)
    c.in_ok-give.ensures)
