use Rattle.std.proofs.Common.{[]}
use Rattle.std.proofs.lemmas.Result.{err_from_is_err_and}
use Rattle.object_file.specs.Prelude.{items_at, note_at}
use Rattle.object_file.proofs.Loops.{goes_on, ends, is_done}
use Rattle.object_file.proofs.notes.note_list.Goals as goal

pub returns-in_err-note : goal.returns-in_err-note
returns-in_err-note c =
    let p = err_from_is_err_and c.from_residual-in_err-note.result c.from_residual-in_err-note.ensures.1 in
    let here = rw c.deref.ensures.value at c.in_err-note.ensures in
    rw (p.1, p.2) (ends (note_at c.args.banks c.args.all) c.args.count c.loop.counter c.loop.notes.items c.loop.rest.now
    (items_at (note_at c.args.banks c.args.all) c.args.count [] c.args.bytes.now) _
    c.loop-test.true here c.loop.invariant)

pub loop-preserved : goal.loop-preserved
loop-preserved c =
    let here = rw c.deref.ensures.value at c.in_ok-note.ensures in
    rw c.in_ok-push.ensures.items (goes_on (note_at c.args.banks c.args.all) c.args.count c.loop.counter
    c.loop.notes.items c.loop.rest.now (items_at (note_at c.args.banks c.args.all) c.args.count [] c.args.bytes.now)
    c.in_ok-note.note c.in_ok-note.after.now c.loop-test.true here c.loop.invariant)

pub returns : goal.returns
returns c =
    is_done (note_at c.args.banks c.args.all) c.args.count c.loop.counter c.loop.notes.items c.loop.rest.now
    (items_at (note_at c.args.banks c.args.all) c.args.count [] c.args.bytes.now) c.loop-test.false c.loop.invariant
