use Rattle.std.proofs.Common.{◌≡◌, ℤ, to_z, of_z, w64, subst, rules}
use Rattle.std.proofs.lemmas.Int.{wraps}
use Rattle.symbolic_values.specs.Prelude.{Const}
use Rattle.region_walk.specs.Prelude.{FindsNumber}
use Rattle.region_walk.proofs.HeldBehind.{li-behind}
use Rattle.region_walk.proofs.behind.hold_constant.Goals as goal

pub returns : goal.returns
returns c = λ o.
    let old = c.args.values.now in
    let new = c.number_for.new.values in
    let number = c.in_ok-number.number in
    let same : to_z w64 (of_z w64 c.args.word) ≡ c.args.word = search (rules, wraps) in
    rw c.hold.ensures
    (li-behind o old new c.args.state.now c.requires.fits c.args.register c.args.word number
    (subst (λ (z : ℤ). FindsNumber 1 old new (Const z) number) same c.in_ok-number.ensures))
