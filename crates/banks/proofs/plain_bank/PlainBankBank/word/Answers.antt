use Rattle.std.proofs.Common.{rules, ◌≡◌, ◌+◌, pos, get_or, ap, ◌∙◌, w64, to_z, of_z}
use Rattle.std.proofs.lemmas.Int.{wraps}
use Rattle.lt_isa.specs.Prelude.{word_in}
use Rattle.banks.specs.Prelude.{block_numbered}
use Rattle.banks.proofs.Blocks.{exists_in, word_of_bank}
use Rattle.banks.proofs.plain_bank.PlainBankBank.word.Goals as goal

pub first_word_number-start-requires-clause-exists : goal.first_word_number-start-requires-clause-exists
first_word_number-start-requires-clause-exists c = exists_in _ _ _ _ c.args.at c.self.view_is c.requires.exists

pub returns : goal.returns
returns c =
    let same : to_z w64 (of_z w64 c.word_at.result) ≡ c.word_at.result = search (rules, wraps) in
    let is : c.word_at.result ≡ word_in (block_numbered c.args.self.now.contents c.args.at) c.args.index =
    c.word_at.ensures
    ∙ (ap (λ list. get_or list (c.first_word_number-start.result + c.args.index) (pos 0)) c.as_slice.ensures.value
    ∙ word_of_bank c.self.inside.block_words c.self.inside.count c.self.inside.words.items c.self.invariant.within _
    c.self.view_is c.args.at c.requires.exists
    c.first_word_number-start.result c.first_word_number-start.ensures.start c.args.index c.requires.within) in
    same ∙ is
