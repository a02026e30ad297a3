use Rattle.symbolic_values.specs.contracts.nodes.NodePartialEq.TheImpl.{ghosts}
use Rattle.symbolic_values.specs.contracts.nodes.NodeEq.TheImpl.Laws.{laws-law}
use Rattle.symbolic_values.proofs.NodeEquality.{same_node}
use Rattle.symbolic_values.proofs.TableLaws.{inserted}
use Rattle.symbolic_values.proofs.values.insert.Goals as goal

pub returns-clause-place : goal.returns-clause-place
returns-clause-place c =
    let stored = c.in_ok-place.ensures.stored in
    inserted ghosts.eq laws-law same_node _ _ _ _ stored.0 c.in_ok-place.ensures.keys stored.1 stored.2
