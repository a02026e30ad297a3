use Rattle.src_tree.specs.Prelude.{source_of}
use Rattle.flow_types.proofs.Distinct.{made-are-variables}
use Rattle.flow_types.proofs.typing.Typed.wants.Goals as goal

pub returns-clause-variables : goal.returns-clause-variables
returns-clause-variables c =
    made-are-variables c.declared_wants.result
    (source_of c.self.inside.program) _ c.as_slice.ensures.value c.self.invariant.0 c.declared_wants.ensures
