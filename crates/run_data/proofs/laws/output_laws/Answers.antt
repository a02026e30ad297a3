use Rattle.run_data.proofs.OutputOrder.{members_in_order}
use Rattle.run_data.proofs.laws.output_laws.Goals as goal

pub returns : goal.returns
returns c = record { in_order = members_in_order }
