use Rattle.std.proofs.Common.{◌<◌, length, sym, ap, ◌∙◌, subst, arith}
use Rattle.banks.specs.Prelude.{block_numbered}
use Rattle.processor.proofs.BankLists.{bank_behind, bank_kept, same_memories}
use Rattle.processor.proofs.memories.Banks.read.Goals as goal

pub read-requires-in_default-clause-exists : goal.read-requires-in_default-clause-exists
read-requires-in_default-clause-exists g c =
    subst (λ blocks. c.args.at < length blocks)
    (bank_behind g.B.Bank.contents c.self.inside.orams.items c.args.bank (ap (λ m. m.banks) c.self.view_is)
    (omega arith) c.requires.bank_exists c.index_mut-oram.ensures.value) c.requires.block_exists

pub returns-in_default-clause-filled : goal.returns-in_default-clause-filled
returns-in_default-clause-filled g c =
    c.read-in_default.ensures.filled
    ∙ ap (λ blocks. block_numbered blocks c.args.at)
    (sym (bank_behind g.B.Bank.contents c.self.inside.orams.items c.args.bank (ap (λ m. m.banks) c.self.view_is)
    (omega arith) c.requires.bank_exists c.index_mut-oram.ensures.value))

pub returns-in_default-clause-stays : goal.returns-in_default-clause-stays
returns-in_default-clause-stays g c =
    same_memories _ _ _ _ _ (ap (λ m. m.words) c.self.view_is)
    (bank_kept g.B.Bank.contents _ _ c.self.inside.orams.items _ _ c.index_mut-oram.result.now
    c.read-in_default.new.self
    (ap (λ m. m.banks) c.self.view_is) c.index_mut-oram.ensures.value c.read-in_default.ensures.contents)
