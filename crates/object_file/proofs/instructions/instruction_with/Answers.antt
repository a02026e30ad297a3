use Rattle.std.proofs.Common.{arith, w32, w64}
use Rattle.std.proofs.lemmas.Int.{of_z-to_z}
use Rattle.object_file.proofs.AtOnce.{whole_read}
use Rattle.object_file.proofs.instructions.instruction_with.Goals as goal

pub returns : goal.returns
returns c = λ all.
    let offset = of_z-to_z w32 c.read_u32-offset.result (omega (arith, c.read_u32-offset.type_inv)) in
    let constant = of_z-to_z w64 c.read_u64-constant.result (omega (arith, c.read_u64-constant.type_inv)) in
    let made = rw (c.cast_signed.ensures, c.cast_signed-2.ensures, offset, constant) at c.instruction_of.ensures in
    whole_read all c.args.bytes.now c.args.banks c.args.kind c.instruction_of.result c.limits_of-most.result
    c.byte-a.result c.byte-b.result c.byte-c.result c.read_u32-offset.result c.read_u64-constant.result
    c.requires.long c.requires.named c.limits_of-most.ensures
    c.byte-a.ensures c.byte-b.ensures c.byte-c.ensures c.read_u32-offset.ensures c.read_u64-constant.ensures
    (omega (arith, c.if-most-a.false)) (omega (arith, c.if-most-b.false)) (omega (arith, c.if-most-c.false))
    (omega (arith, c.if-most-offset.false)) (omega (arith, c.if-most-constant.false))
    made
