use Rattle.module_lowering.proofs.Shapes.{prepared_shape}
use Rattle.module_lowering.proofs.laws.shape_law.Goals as goal

pub returns : goal.returns
returns c = λ all is_scalar light needs_name n s plain is. prepared_shape all is_scalar needs_name plain light n s is
