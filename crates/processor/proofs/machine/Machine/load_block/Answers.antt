use Rattle.processor.proofs.Executed.{load_executes}
use Rattle.processor.proofs.machine.Machine.load_block.Goals as goal

pub returns : goal.returns
returns g c =
    load_executes g.B.Bank.shows g.B.Bank.comes c.args.self.now c.bind-leaves.new.self c.end_access.new.self c.args.slot
    c.args.bank c.args.reg
    c.block_named-block.result c.cost-cost.result c.bind-leaves.result c.requires c.block_named-block.ensures.value
    c.cost-cost.ensures c.bind-leaves.ensures.bound c.end_access.ensures c.bind-leaves.ensures.accessed
