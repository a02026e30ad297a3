use Rattle.std.proofs.Common.{ap}
use Rattle.bank_alloc.proofs.KnownNames.{one_more}
use Rattle.bank_alloc.proofs.names.gather.Goals as goal

pub loop-decl-preserved : goal.loop-decl-preserved
loop-decl-preserved c =
    one_more c.args.decls.now c.loop-decl.decl-index c.decl-item.result c.loop-decl.names c.insert.new.self
    c.bytes.result _ c.requires
    c.loop-decl-test.true c.decl-item.is c.bytes.ensures.bytes
    (ap (λ shape. (c.decl-item.result.label, shape)) c.shape_of.ensures)
    c.loop-decl.invariant c.in_ok-insert.ensures.updates.0
