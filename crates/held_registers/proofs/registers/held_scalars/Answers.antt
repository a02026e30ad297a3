use Rattle.std.proofs.Common.{rules}
use Rattle.held_registers.proofs.Sound.{scalars-begin}
use Rattle.held_registers.proofs.registers.held_scalars.Goals as goal

pub loop-i-init : goal.loop-i-init
loop-i-init c = scalars-begin c.args.decls.now c.push-2.new.self.items (search rules)
