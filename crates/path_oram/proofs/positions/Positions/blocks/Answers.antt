use Rattle.std.proofs.Common.{ap, length, sym, ◌∙◌}
use Rattle.path_oram.proofs.Found.{places_count}
use Rattle.path_oram.proofs.positions.Positions.blocks.Goals as goal

pub returns-clause-count : goal.returns-clause-count
returns-clause-count c =
    sym (places_count c.self.inside.count c.self.inside.height c.self.inside.stash.items c.self.inside.tree.items)
    ∙ ap (λ p. length p.leaves) c.self.view_is
