-- The targets of a place that is reached are marked too.
use Rattle.std.proofs.Common.{◌∙◌, get_or, None, sym}
use Rattle.note_infer.specs.Prelude.{at_places}
use Rattle.note_infer.proofs.Noted.{known_if}
use Rattle.note_infer.proofs.Marking.{marks_more}
use Rattle.note_infer.proofs.targets.mark_place.Goals as goal

-- src/targets.rt:41:1
pub returns-then-not-is_unknown : goal.returns-then-not-is_unknown
returns-then-not-is_unknown c =
    let known = known_if (get_or c.args.states.now c.args.place None)
    (sym c.is_unknown.ensures ∙ c.if-not-is_unknown.true) in
    marks_more c.args.object.now c.args.crossed.now.list (at_places c.args.states.now) c.args.place known.0
    c.args.marks.now.items c.mark_from.new.marks.items known.1 c.requires.below c.mark_from.ensures
