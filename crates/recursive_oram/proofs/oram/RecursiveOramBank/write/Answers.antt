use Rattle.std.proofs.Common.{◌≡◌, ◌++◌, ◌∷◌, take, drop, length, sym, ap, subst, arith}
use Rattle.path_oram.proofs.Written.{overwritten}
use Rattle.recursive_oram.specs.Prelude.{IsDescent, shown_ahead, levels_of, all_trees}
use Rattle.recursive_oram.proofs.ComingDown.{descent-shown}
use Rattle.recursive_oram.proofs.oram.RecursiveOramBank.write.Goals as goal

pub returns-clause-shown : goal.returns-clause-shown
returns-clause-shown g c later =
    let below = c.self.inside.tree in
    let items = c.self.inside.above.items in
    let others = c.lead-way.new.above in
    let after = c.store.new.self in
    let words = g.R.Rng.stream c.self.inside.words in
    let left = g.R.Rng.stream c.lead-way.new.words in
    let way : IsDescent below items others c.lead-way.new.last words left c.args.at c.lead-way.result.was
    c.lead-way.result.becomes c.lead-way.result.shown =
    subst (λ ts. IsDescent below ts others c.lead-way.new.last words left c.args.at c.lead-way.result.was
    c.lead-way.result.becomes c.lead-way.result.shown) c.as_mut_slice.ensures.value c.lead-way.ensures in
    let over : take c.self.inside.above.len (others ++ drop (length others) items) ≡ others =
    overwritten c.self.inside.above.len others items c.self.inside.above.ok.0
    (omega (arith, c.lead-way.auto.above, ap length c.as_mut_slice.ensures.value)) in
    subst (λ o. shown_ahead (levels_of (all_trees o)) (g.R.Rng.stream o.words) (c.args.at ∷ later)
    ≡ c.lead-way.result.shown ∷ shown_ahead
    (levels_of (after ∷ take c.self.inside.above.len (others ++ drop (length others) items))) left later) c.self.view_is
    (subst (λ ts. shown_ahead (levels_of (below ∷ items)) words (c.args.at ∷ later)
    ≡ c.lead-way.result.shown ∷ shown_ahead (levels_of (after ∷ ts)) left later) (sym over)
    (descent-shown below after items others c.lead-way.new.last words left c.args.at c.lead-way.result.was
    c.lead-way.result.becomes c.lead-way.result.shown way c.store.ensures.moved later))
