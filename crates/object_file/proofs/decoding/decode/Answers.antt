use Rattle.std.proofs.Common.{arith}
use Rattle.object_file.proofs.ObjectLaws.{is_found, is_only}
use Rattle.object_file.proofs.FaultLaws.{is_first}
use Rattle.object_file.proofs.decoding.decode.Goals as goal

pub returns-clause-found : goal.returns-clause-found
returns-clause-found c =
    is_found c.args.bytes.now c.read_object.result (λ i. omega (arith, c.type_inv.bytes i)) c.read_object.ensures

pub returns-clause-only : goal.returns-clause-only
returns-clause-only c =
    λ o in_range spelled. is_only c.args.bytes.now c.read_object.result o in_range spelled c.read_object.ensures

pub returns-clause-first : goal.returns-clause-first
returns-clause-first c =
    is_first c.args.bytes.now c.read_object.result (λ i. omega (arith, c.type_inv.bytes i)) c.read_object.ensures
