-- One more note.
use Rattle.std.proofs.Common.{◌<◌, ◌^◌}
use Rattle.note_infer.specs.Prelude.{at_places}
use Rattle.note_infer.proofs.Noted.{notes_push}
use Rattle.note_infer.proofs.noting.note_more.Goals as goal

-- src/noting.rt:37:1
pub returns-in-Ok : goal.returns-in-Ok
returns-in-Ok c =
    let small : c.args.place < 2 ^ 32 = c.ranges.place.fits in
    rw c.in-Ok.ensures.items
    (notes_push c.args.object.now c.args.marks.now (at_places c.args.states.now) c.args.place c.args.notes.now.items
    c.in-Some.note small (λ k e. c.requires.sound c.args.place k e) c.in-Some.ensures c.requires.below)
