use Rattle.std.proofs.Common.{◌<◌, length, set, sym, ap, ◌∙◌, subst, arith}
use Rattle.processor.proofs.BankLists.{bank_behind, bank_put, same_memories}
use Rattle.processor.proofs.memories.Banks.write.Goals as goal

pub write-requires-in_default-clause-exists : goal.write-requires-in_default-clause-exists
write-requires-in_default-clause-exists g c =
    subst (λ blocks. c.args.at < length blocks)
    (bank_behind g.B.Bank.contents c.self.inside.orams.items c.args.bank (ap (λ m. m.banks) c.self.view_is)
    (omega arith) c.requires.bank_exists c.index_mut-oram.ensures.value) c.requires.block_exists

pub returns-in_default-clause-written : goal.returns-in_default-clause-written
returns-in_default-clause-written g c =
    let was =
    bank_behind g.B.Bank.contents c.self.inside.orams.items c.args.bank (ap (λ m. m.banks) c.self.view_is)
    (omega arith) c.requires.bank_exists c.index_mut-oram.ensures.value in
    same_memories _ _ _ _ _ (ap (λ m. m.words) c.self.view_is)
    (bank_put g.B.Bank.contents _ _ c.self.inside.orams.items _ c.args.bank c.write-in_default.new.self _
    (ap (λ m. m.banks) c.self.view_is) (omega arith)
    (c.write-in_default.ensures.contents ∙ ap (λ blocks. set blocks c.args.at c.args.from.now) (sym was)))
