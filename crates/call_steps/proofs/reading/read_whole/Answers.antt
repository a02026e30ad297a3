use Rattle.std.proofs.Common.{ap, inl, inr, Err, arith}
use Rattle.call_steps.specs.Prelude.{stage}
use Rattle.call_steps.proofs.Progressing.{read-leads, read-long, read-missing, read-failed, read-starved}
use Rattle.call_steps.proofs.Reaching.{bytes-read, unread-stopped}
use Rattle.call_steps.proofs.reading.read_whole.Goals as goal

pub returns-then-len-limit-clause-stopped : goal.returns-then-len-limit-clause-stopped
returns-then-len-limit-clause-stopped g c next =
    unread-stopped
    (read-long (stage (g.F.Shelf.seen c.args.shelf.now) (g.F.Shelf.log c.args.shelf.now)) _ _ _ _ c.in-Ok.ensures.bytes
    (omega (arith, c.if-len-limit.true, c.len.ensures)) c.in-Ok.ensures.calm c.in-Ok.ensures.logged next)

pub returns-else-len-limit-clause-found : goal.returns-else-len-limit-clause-found
returns-else-len-limit-clause-found g c =
    bytes-read
    (read-leads (g.F.Shelf.seen c.args.shelf.now) _ _ _ c.in-Ok.ensures.bytes
    (omega (arith, c.if-len-limit.false, c.len.ensures))) c.in-Ok.ensures.calm c.in-Ok.ensures.logged
    (omega (arith, c.if-len-limit.false, c.len.ensures))

pub returns-in-Err-Missing-clause-stopped : goal.returns-in-Err-Missing-clause-stopped
returns-in-Err-Missing-clause-stopped g c next =
    unread-stopped
    (read-missing (stage (g.F.Shelf.seen c.args.shelf.now) (g.F.Shelf.log c.args.shelf.now)) _ _ _
    (c.in-Err-Missing.ensures.missing (ap Err c.in-Err-Missing.field-0-is))
    (record {
      only = (c.in-Err-Missing.ensures.others, c.in-Err-Missing.ensures.read_count);
      named = c.in-Err-Missing.ensures.named (inl (ap Err c.in-Err-Missing.field-0-is));
    })
    c.in-Err-Missing.ensures.logged next)

pub returns-in-Err-Failed-clause-stopped : goal.returns-in-Err-Failed-clause-stopped
returns-in-Err-Failed-clause-stopped g c next =
    unread-stopped
    (read-failed (stage (g.F.Shelf.seen c.args.shelf.now) (g.F.Shelf.log c.args.shelf.now)) _ _ _
    (c.in-Err-Failed.ensures.failed (ap Err c.in-Err-Failed.field-0-is))
    (record {
      only = (c.in-Err-Failed.ensures.others, c.in-Err-Failed.ensures.read_count);
      named = c.in-Err-Failed.ensures.named (inr (ap Err c.in-Err-Failed.field-0-is));
    })
    c.in-Err-Failed.ensures.logged next)

pub returns-in-Err-Memory-clause-stopped : goal.returns-in-Err-Memory-clause-stopped
returns-in-Err-Memory-clause-stopped g c next =
    unread-stopped
    (read-starved (stage (g.F.Shelf.seen c.args.shelf.now) (g.F.Shelf.log c.args.shelf.now)) _ _ _
    (c.in-Err-Memory.ensures.starved (ap Err c.in-Err-Memory.field-0-is)) c.in-Err-Memory.ensures.logged next)
