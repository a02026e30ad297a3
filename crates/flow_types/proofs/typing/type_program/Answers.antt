use Rattle.src_tree.specs.Prelude.{source_of}
use Rattle.src_tree.proofs.Faultless.{fine}
use Rattle.flow_types.proofs.typing.type_program.Goals as goal

pub invariant_of-result : goal.invariant_of-result
invariant_of-result c =
    let f = fine (source_of c.args.p) c.in_ok-weight.ensures.faultless in
    (f.typed, (f.within, c.in_ok-weight.ensures.accepted))

pub returns-clause-typed : goal.returns-clause-typed
returns-clause-typed c = (fine (source_of c.args.p) c.in_ok-weight.ensures.faultless).typed

pub returns-clause-within : goal.returns-clause-within
returns-clause-within c = (fine (source_of c.args.p) c.in_ok-weight.ensures.faultless).within
