use Rattle.std.proofs.Common.{◌∙◌, sym}
use Rattle.block_cache_gen.proofs.ServedBlocks.{served-at, served-none}
use Rattle.block_cache_gen.proofs.prepared.block_of_first.Goals as goal

pub returns-in-Some : goal.returns-in-Some
returns-in-Some c pins w =
    served-at pins w c.args.places.now c.args.slots.now c.args.slot c.in-Some.number _ c.requires
    (sym c.first_served.ensures ∙ c.in-Some.is)

pub returns-in-None : goal.returns-in-None
returns-in-None c pins w =
    served-none pins w c.args.places.now c.args.slots.now c.args.slot (sym c.first_served.ensures ∙ c.in-None.is)
