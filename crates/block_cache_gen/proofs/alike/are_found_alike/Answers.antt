use Rattle.std.proofs.Common.{Bool, ◌&&◌, pos, sym, ap, ◌∙◌}
use Rattle.block_cache_gen.specs.Prelude.{numbers_alike}
use Rattle.block_cache_gen.proofs.alike.are_found_alike.Goals as goal

pub returns-then-reducers_alike : goal.returns-then-reducers_alike
returns-then-reducers_alike c =
    let blocks = numbers_alike c.args.emitter.now (pos c.args.one.place.block) (pos c.args.other.place.block) in
    c.places_alike.ensures
    ∙ ap (λ (b : Bool). b && blocks) (sym c.if-reducers_alike.true ∙ c.reducers_alike.ensures)

pub returns-else-reducers_alike : goal.returns-else-reducers_alike
returns-else-reducers_alike c =
    let blocks = numbers_alike c.args.emitter.now (pos c.args.one.place.block) (pos c.args.other.place.block) in
    c.if-reducers_alike.false
    ∙ ap (λ (b : Bool). b && blocks) (sym c.if-reducers_alike.false ∙ c.reducers_alike.ensures)
