use Rattle.std.proofs.Common.{◌≡◌, length, sym, ap, ◌∙◌, arith}
use Rattle.banks.proofs.Blocks.{exists_in, bank_replaced}
use Rattle.banks.proofs.plain_bank.PlainBankBank.write.Goals as goal

pub first_word_number-start-requires-clause-exists : goal.first_word_number-start-requires-clause-exists
first_word_number-start-requires-clause-exists c = exists_in _ _ _ _ c.args.at c.self.view_is c.requires.exists

pub returns-clause-written : goal.returns-clause-written
returns-clause-written c =
    let size : length c.args.from.now ≡ c.self.inside.block_words =
    c.requires.size ∙ sym (ap (λ b. b.width) c.self.view_is) in
    bank_replaced c.self.inside.block_words c.self.inside.count c.self.inside.words.items c.self.invariant.within _
    c.self.view_is c.args.at c.requires.exists
    c.first_word_number-start.result c.first_word_number-start.ensures.start c.write_at.new.words.items c.args.from.now
    (c.write_at.ensures.within _ c.self.invariant.within
    (omega (arith, size, c.first_word_number-start.ensures.inside)))
    c.requires.size c.write_at.ensures.words
