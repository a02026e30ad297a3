use Rattle.lt_isa.proofs.NotePlaces.{notes-inside}
use Rattle.lt_checker.proofs.checks.first_refusal.Goals as goal

pub table_of-requires-clause-inside : goal.table_of-requires-clause-inside
table_of-requires-clause-inside c =
    rw (c.notes.ensures.value, c.code.ensures.value) (notes-inside c.args.object.now c.notes.ensures.in_range)
