use Rattle.std.proofs.Common.{get_or, ap, sym, ◌∙◌, false}
use Rattle.lt_isa.specs.Prelude.{Unbound, cost_of}
use Rattle.lt_isa.specs.declared.instructions.Instr.TheVariants.{Stb}
use Rattle.processor.proofs.Executed.{store_executes}
use Rattle.processor.proofs.machine.Machine.store_block.Goals as goal

pub returns : goal.returns
returns g c =
    let held = c.in-Some.held in
    store_executes g.B.Bank.shows g.B.Bank.comes c.args.self.now _ c.end_access.new.self c.args.slot held.bank
    held.block c.cost-latency.result held.words.now
    c.write-leaves.new.self.banks c.write-leaves.new.self.orams c.write-leaves.result c.requires
    (sym (c.in-Some.ensures.value ∙ ap (λ m. get_or m.state.slots c.args.slot Unbound) c.self.view_is))
    (c.cost-latency.ensures ∙ ap (λ m. cost_of m.object (Stb c.args.slot) false held.bank) c.self.view_is)
    c.self.view_is
    (ap (λ m. m.banks) c.write-leaves.ensures.written)
    c.end_access.ensures
    c.write-leaves.ensures.accessed
