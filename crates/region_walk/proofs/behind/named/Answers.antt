use Rattle.std.proofs.Common.{◌≡◌, ℤ, pos, to_z, of_z, w64, ◌∙◌, subst, rules}
use Rattle.std.proofs.lemmas.Int.{wraps}
use Rattle.std.proofs.lemmas.Result.{IfOk-weaker}
use Rattle.symbolic_values.specs.Prelude.{Const}
use Rattle.region_walk.specs.Prelude.{FindsNumber}
use Rattle.region_walk.proofs.TableGrowth.{found-both, named-found}
use Rattle.region_walk.proofs.behind.named.Goals as goal

pub number_for-requires-in-Ok-clause-names : goal.number_for-requires-in-Ok-clause-names
number_for-requires-in-Ok-clause-names c = found-both _ _ _ _ _ _ c.requires.number c.in-Ok.ensures

pub returns-in-Ok : goal.returns-in-Ok
returns-in-Ok c =
    let old = c.args.values.now in
    let mid = c.number_for.new.values in
    let word : c.from.result ≡ pos c.args.count = c.from.ensures in
    let same : to_z w64 (of_z w64 c.from.result) ≡ c.from.result = search (rules, wraps) in
    let first : FindsNumber 1 old mid (Const (pos c.args.count)) c.in-Ok.count = subst
    (λ (z : ℤ). FindsNumber 1 old mid (Const z) c.in-Ok.count) (same ∙ word) c.in-Ok.ensures in
    IfOk-weaker c.number_for-in-Ok.result _ _
    (λ i h. named-found old mid c.number_for-in-Ok.new.values c.args.number c.args.count c.in-Ok.count i
    c.requires.number first h) c.number_for-in-Ok.ensures
