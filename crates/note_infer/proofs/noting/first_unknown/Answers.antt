-- Something is known at one more place.
use Rattle.note_infer.proofs.Noted.{known_more}
use Rattle.std.proofs.Common.{sym, ◌∙◌}
use Rattle.note_infer.proofs.noting.first_unknown.Goals as goal

-- src/noting.rt:59:5
pub loop-place-preserved : goal.loop-place-preserved
loop-place-preserved c =
    known_more c.args.states.now c.loop-place.place c.loop-place.invariant
    (sym c.is_unknown.ensures ∙ c.if-is_unknown.false)
