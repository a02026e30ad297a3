use Rattle.src_tree.specs.Prelude.{source_of}
use Rattle.compile_step.proofs.Compiling.{room-refuses}
use Rattle.compile_step.proofs.compiled_object.object_of.Goals as goal

pub returns-in-Err-clause-refused : goal.returns-in-Err-clause-refused
returns-in-Err-clause-refused c =
    room-refuses (source_of c.args.program.now) c.args.target.now c.in-Err.fault _ c.in-Err.ensures.refused
    c.no_room.ensures
