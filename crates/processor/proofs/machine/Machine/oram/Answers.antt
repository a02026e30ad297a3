use Rattle.std.proofs.Common.{◌<◌, length, sym, ap, ◌∙◌, subst}
use Rattle.processor.proofs.BankLists.{bank_behind}
use Rattle.processor.proofs.machine.Machine.oram.Goals as goal

pub returns-clause-contents : goal.returns-clause-contents
returns-clause-contents g c =
    let bank = c.args.bank in
    let within =
    subst (λ m. bank < length m.state.banks) c.self.view_is
    (subst (λ n. bank < n) (sym c.self.invariant.sound.shaped.bank_count)
    (subst (λ m. bank < length m.object.banks) (sym c.self.view_is) c.requires.exists)) in
    sym (bank_behind g.B.Bank.contents _ bank
    (ap (λ m. m.banks.banks) c.self-inside.view_is ∙ ap (λ m. m.state.banks) c.self.view_is)
    c.requires.oblivious within c.index.ensures)
