use Rattle.std.proofs.Common.{arith}
use Rattle.spread_alloc.proofs.SoundSpread.{some_last}
use Rattle.spread_alloc.proofs.spreading.last_bank.Goals as goal

pub loop-place-init : goal.loop-place-init
loop-place-init c = let some = some_last c.args.places.now in (omega (arith, some), omega arith)
