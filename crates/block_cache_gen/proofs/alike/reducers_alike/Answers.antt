use Rattle.std.proofs.Common.{◌≡◌, ◌∙◌, rules, w64, to_z, of_z}
use Rattle.std.proofs.lemmas.Int.{wraps}
use Rattle.block_cache_gen.specs.Prelude.{numbers_alike}
use Rattle.block_cache_gen.proofs.alike.reducers_alike.Goals as goal

pub returns : goal.returns
returns c =
    let one : to_z w64 (of_z w64 c.reducer.result) ≡ c.reducer.result = search (rules, wraps) in
    let other : to_z w64 (of_z w64 c.reducer-2.result) ≡ c.reducer-2.result = search (rules, wraps) in
    let first = one ∙ c.reducer.ensures in
    let second = other ∙ c.reducer-2.ensures in
    c.numbers_alike.ensures ∙ (λ k. numbers_alike c.args.emitter.now (first k) (second k))
