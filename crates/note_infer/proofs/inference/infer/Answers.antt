-- The object without notes is in range, and what is wrong with it is wrong with the object.
use Rattle.std.proofs.Common.{◌∙◌, ap, subst}
use Rattle.lt_isa.specs.Prelude.{Parts}
use Rattle.note_infer.specs.Prelude.{with_notes, WhyNoNotes}
use Rattle.note_infer.proofs.Inferring.{bare_in_range, why_whole}
use Rattle.note_infer.proofs.inference.infer.Goals as goal

pub copy_with-requires : goal.copy_with-requires
copy_with-requires c = λ range. rw c.new.ensures.items (bare_in_range c.args.object.now range)

pub returns-in-Err-found_notes-clause-why : goal.returns-in-Err-found_notes-clause-why
returns-in-Err-found_notes-clause-why c =
    why_whole c.args.object.now c.in-Err-found_notes.error
    (subst (λ (b : Parts). WhyNoNotes b c.in-Err-found_notes.error)
    (c.in-Ok.ensures ∙ ap (with_notes c.args.object.now) c.new.ensures.items) c.in-Err-found_notes.ensures.why)
