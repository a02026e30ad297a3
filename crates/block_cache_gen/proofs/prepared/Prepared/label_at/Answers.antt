use Rattle.std.proofs.Common.{◌∙◌, sym}
use Rattle.block_cache_gen.proofs.FrameParts.{frame_label, frame_no_label}
use Rattle.block_cache_gen.proofs.prepared.Prepared.label_at.Goals as goal

pub returns-in-Some : goal.returns-in-Some
returns-in-Some c =
    frame_label c.self.inside.frame c.args.self.now c.args.name.now c.in-Some.variable c.self.view_is
    (sym (c.self.invariant.1.1.1.1 c.args.name.now) ∙ sym c.variable_at.ensures ∙ c.in-Some.is)

pub returns-in-None : goal.returns-in-None
returns-in-None c =
    frame_no_label c.self.inside.frame c.args.self.now c.args.name.now c.self.invariant.0 c.self.view_is
    (sym (c.self.invariant.1.1.1.1 c.args.name.now) ∙ sym c.variable_at.ensures ∙ c.in-None.is)
