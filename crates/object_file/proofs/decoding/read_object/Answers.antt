use Rattle.std.proofs.Common.{length, arith}
use Rattle.object_file.proofs.ObjectLaws.{object_read}
use Rattle.object_file.proofs.decoding.read_object.Goals as goal

pub of_parts-requires : goal.of_parts-requires
of_parts-requires c =
    ((object_read (length c.args.bytes.now) c.args.bytes.now (λ i. omega (arith, c.type_inv.bytes i))).then _
    c.in_ok-profile.ensures).1
