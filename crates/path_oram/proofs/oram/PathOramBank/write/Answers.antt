use Rattle.std.proofs.Common.{◌≡◌, ap, get_or, ◌∙◌}
use Rattle.banks.specs.Prelude.{one_leaf}
use Rattle.rand_core.specs.Stream.{next_u64}
use Rattle.path_oram.specs.Prelude.{by-word, comes-one, MovesBy}
use Rattle.path_oram.proofs.Ahead.{ahead-step}
use Rattle.path_oram.proofs.oram.PathOramBank.write.Given.{Over}
use Rattle.path_oram.proofs.oram.PathOramBank.write.Goals as goal

moved : (g : Over) (c : goal.After-one g) → MovesBy c.args.self.now.places c.args.at
    (next_u64 (g.R.Rng.stream c.args.self.now.words)).0 c.store.new.self.places
moved g c =
    by-word c.args.self.now.places c.self.inside.tree.places c.store.new.self.places c.args.at
    c.leaves_of-old.result.0 c.leaves_of-old.result.1 (next_u64 (g.R.Rng.stream c.args.self.now.words)).0
    (ap (λ o. o.places) c.self.view_is ∙ c.leaves_of-old.ensures.places) c.leaves_of-old.ensures.old
    c.leaves_of-old.ensures.new c.store.ensures.moved

drawn : (g : Over) (c : goal.After-one g) → g.R.Rng.stream c.self.inside.words
    ≡ (next_u64 (g.R.Rng.stream c.args.self.now.words)).1
drawn g c = ap (λ o. g.R.Rng.stream o.words) c.self.view_is ∙ c.leaves_of-old.ensures.drawn

shown : (g : Over) (c : goal.After-one g) → c.one.result ≡ one_leaf (get_or c.args.self.now.places.leaves c.args.at 0)
shown g c = c.one.ensures.one ∙ ap one_leaf c.leaves_of-old.ensures.old

pub returns-clause-now : goal.returns-clause-now
returns-clause-now g c = shown g c

pub returns-clause-drawn : goal.returns-clause-drawn
returns-clause-drawn g c = drawn g c

pub returns-clause-new_leaf : goal.returns-clause-new_leaf
returns-clause-new_leaf g c = (moved g c).leaves

pub returns-clause-written_back : goal.returns-clause-written_back
returns-clause-written_back g c = (moved g c).path

pub returns-clause-whole : goal.returns-clause-whole
returns-clause-whole g c = c.store.ensures.tree.whole

pub returns-clause-shown : goal.returns-clause-shown
returns-clause-shown g c later =
    ahead-step c.args.self.now.places c.store.new.self.places (g.R.Rng.stream c.args.self.now.words)
    (g.R.Rng.stream c.self.inside.words) c.args.at c.one.result later (moved g c) (drawn g c)
    (shown g c)

pub returns-clause-came : goal.returns-clause-came
returns-clause-came g c =
    comes-one c.args.self.now.places c.store.new.self.places (g.R.Rng.stream c.args.self.now.words)
    (g.R.Rng.stream c.self.inside.words) c.args.at (moved g c) (drawn g c)
