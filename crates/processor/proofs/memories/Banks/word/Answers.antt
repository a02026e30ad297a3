use Rattle.std.proofs.Common.{◌≡◌, ◌<◌, length, sym, ap, ◌∙◌, subst, arith, rules}
use Rattle.std.proofs.lemmas.Int.{wraps}
use Rattle.lt_isa.specs.Prelude.{word_in}
use Rattle.banks.specs.Prelude.{block_numbered}
use Rattle.processor.specs.Prelude.{bank_numbered}
use Rattle.processor.proofs.BankLists.{bank_behind}
use Rattle.processor.proofs.memories.Banks.word.Goals as goal

pub word-requires-in_default-clause-exists : goal.word-requires-in_default-clause-exists
word-requires-in_default-clause-exists g c =
    subst (λ blocks. c.args.at < length blocks)
    (bank_behind g.B.Bank.contents c.self.inside.orams.items c.args.bank (ap (λ m. m.banks) c.self.view_is)
    (omega arith) c.requires.bank_exists c.index-oram.ensures) c.requires.block_exists

pub returns-in_default : goal.returns-in_default
returns-in_default g c =
    let word : c.word-in_default.result
    ≡ word_in (block_numbered (bank_numbered c.args.self.now.banks c.args.bank) c.args.at) c.args.index =
    c.word-in_default.ensures
    ∙ ap (λ blocks. word_in (block_numbered blocks c.args.at) c.args.index)
    (sym (bank_behind g.B.Bank.contents c.self.inside.orams.items c.args.bank (ap (λ m. m.banks) c.self.view_is)
    (omega arith) c.requires.bank_exists c.index-oram.ensures))
    in
    search (rules, wraps)
