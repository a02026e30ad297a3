use Rattle.call_steps.proofs.Beginnings.{begins-made}
use Rattle.call_steps.proofs.oblivious.SeededOramSeeded.over_blocks.Goals as goal

pub returns : goal.returns
returns c = λ o inputs seed core b drawn blocks.
    begins-made o inputs seed core b c.args.blocks blocks c.args.words drawn c.over.result c.over.ensures.contents
    c.over.ensures.width
    c.over.ensures.height c.over.ensures.first c.over.ensures.words c.over.ensures.shown
