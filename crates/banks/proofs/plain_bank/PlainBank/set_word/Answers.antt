use Rattle.std.proofs.Common.{rules, ◌≡◌, ◌+◌, [], ◌∷◌, refl, ap, subst, arith, w64, to_z, of_z}
use Rattle.std.proofs.lemmas.Int.{wraps}
use Rattle.banks.proofs.Blocks.{IsReplaced, exists_in, word_replaced}
use Rattle.banks.proofs.plain_bank.PlainBank.set_word.Goals as goal

pub first_word_number-start-requires-clause-exists : goal.first_word_number-start-requires-clause-exists
first_word_number-start-requires-clause-exists c = exists_in _ _ _ _ c.args.at c.self.view_is c.requires.exists

pub returns : goal.returns
returns c =
    let start = c.first_word_number-start.result in
    let same : to_z w64 (of_z w64 c.args.word) ≡ c.args.word = search (rules, wraps) in
    word_replaced c.self.inside.block_words c.self.inside.count c.self.inside.words.items c.self.invariant.within _
    c.self.view_is c.args.at c.requires.exists
    start c.first_word_number-start.ensures.start c.write_at.new.words.items c.args.index (start + c.args.index)
    c.args.word refl c.requires.within
    (c.write_at.ensures.within _ c.self.invariant.within
    (omega (arith, c.first_word_number-start.ensures.inside, c.requires.within, ap (λ b. b.width) c.self.view_is)))
    (subst (λ w. IsReplaced c.write_at.new.words.items c.self.inside.words.items (start + c.args.index) (w ∷ [])) same
    c.write_at.ensures.words)
