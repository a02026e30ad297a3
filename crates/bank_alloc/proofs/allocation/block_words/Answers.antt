use Rattle.bank_alloc.proofs.PlacedBehind.{shifted_range}
use Rattle.bank_alloc.proofs.allocation.block_words.Goals as goal

pub returns-clause-range : goal.returns-clause-range
returns-clause-range c = shifted_range c.args.w c.requires
