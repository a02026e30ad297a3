use Rattle.std.proofs.Common.{◌∙◌, sym}
use Rattle.block_cache_gen.proofs.FrameParts.{frame_few, frame_held, frame_home, frame_label, frame_length, frame_declared}
use Rattle.block_cache_gen.proofs.prepared.Prepared.variable.Goals as goal

pub unreachable-requires : goal.unreachable-requires
unreachable-requires c =
    frame_declared c.self.inside.frame c.args.self.now c.args.name.now c.self.invariant.0 c.self.view_is c.requires
    (sym (c.self.invariant.1.1.1.1 c.args.name.now) ∙ sym c.variable_at.ensures ∙ c.in-None.is)

pub returns : goal.returns
returns c =
    let frame = c.self.inside.frame in
    let found = sym (c.self.invariant.1.1.1.1 c.args.name.now) ∙ sym c.variable_at.ensures ∙ c.in-Some.is in
    record {
      home = frame_home frame c.args.self.now c.args.name.now c.in-Some.variable c.self.view_is found;
      label = frame_label frame c.args.self.now c.args.name.now c.in-Some.variable c.self.view_is found;
      held = frame_held frame c.args.self.now c.args.name.now c.in-Some.variable c.self.view_is found;
      length = frame_length frame c.args.name.now c.in-Some.variable c.self.invariant.0 found;
      few = frame_few frame c.args.name.now c.in-Some.variable found;
    }
