use Rattle.call_steps.proofs.Beginnings.{recursive-made}
use Rattle.call_steps.proofs.oblivious.SeededRecursiveSeeded.over_blocks.Goals as goal

pub returns : goal.returns
returns c = λ o inputs seed core b drawn blocks.
    recursive-made o inputs seed core b c.args.blocks blocks c.args.words drawn c.over.result c.over.ensures.contents
    c.over.ensures.width
    c.over.ensures.sizes c.over.ensures.shown
