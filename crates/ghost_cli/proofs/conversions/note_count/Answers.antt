use Rattle.std.proofs.Common.{length, ap, arith}
use Rattle.ghost_cli.proofs.conversions.note_count.Goals as goal

pub overflow_cast-result : goal.overflow_cast-result
overflow_cast-result c =
    omega (arith, ap length c.notes-notes.ensures.value, c.notes-notes.ensures.in_range.note_count)

pub returns-clause-count : goal.returns-clause-count
returns-clause-count c = omega (arith, ap length c.notes-notes.ensures.value)
