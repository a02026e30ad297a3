use Rattle.procs_tree.proofs.RoomForInputs.{room_for}
use Rattle.procs_tree.proofs.laws.room_for_inputs.Goals as goal

pub returns : goal.returns
returns c = room_for
