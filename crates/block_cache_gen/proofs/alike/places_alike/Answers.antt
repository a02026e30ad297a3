use Rattle.std.proofs.Common.{◌≡◌, pos, ◌∙◌, rules, w64, to_z, of_z}
use Rattle.std.proofs.lemmas.Int.{wraps}
use Rattle.block_cache_gen.specs.Prelude.{numbers_alike}
use Rattle.block_cache_gen.proofs.alike.places_alike.Goals as goal

pub returns : goal.returns
returns c =
    let one : to_z w64 (of_z w64 c.from.result) ≡ pos c.args.one = search (rules, wraps) in
    let other : to_z w64 (of_z w64 c.from-2.result) ≡ pos c.args.other = search (rules, wraps) in
    c.numbers_alike.ensures ∙ (λ k. numbers_alike c.args.emitter.now (one k) (other k))
