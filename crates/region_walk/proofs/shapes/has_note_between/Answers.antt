use Rattle.std.proofs.Common.{nat_le, rules, of_calls}
use Rattle.std.proofs.lemmas.List.Sorted.{IsPartitionPoint-from_clause}
use Rattle.lt_isa.specs.declared.symbols.Note.{Note}
use Rattle.region_walk.proofs.NotesBetween.{between-found, between-missed, notes-parted}
use Rattle.region_walk.proofs.shapes.has_note_between.Goals as goal

pub returns-then-next-notes : goal.returns-then-next-notes
returns-then-next-notes c =
    let notes = c.notes-notes.result.now in
    let point = IsPartitionPoint-from_clause (λ (n : Note). nat_le n.pc c.args.low) notes c.partition_point-next.result
    c.partition_point-next.ensures.partitioned
    (notes-parted c.args.object.now c.requires notes c.notes-notes.ensures.value c.args.low)
    (λ a r f k. search (rules, of_calls)) in
    between-found c.args.object.now c.requires notes c.notes-notes.ensures.value c.args.low c.args.high
    c.partition_point-next.result point _ c.if-next-notes.true

pub returns-else-next-notes : goal.returns-else-next-notes
returns-else-next-notes c =
    let notes = c.notes-notes.result.now in
    let point = IsPartitionPoint-from_clause (λ (n : Note). nat_le n.pc c.args.low) notes c.partition_point-next.result
    c.partition_point-next.ensures.partitioned
    (notes-parted c.args.object.now c.requires notes c.notes-notes.ensures.value c.args.low)
    (λ a r f k. search (rules, of_calls)) in
    between-missed c.args.object.now c.requires notes c.notes-notes.ensures.value c.args.low c.args.high
    c.partition_point-next.result point c.if-next-notes.false
