use Rattle.std.proofs.Common.{◌≡◌, ◌++◌, ◌∷◌, [], map, sym, ap, ◌∙◌, arith, rules}
use Rattle.std.specs.Int.{w64, cast_signed, cast_unsigned}
use Rattle.std.specs.List.{range_with_len}
use Rattle.std.proofs.lemmas.Int.{wraps}
use Rattle.std.proofs.lemmas.List.FromFn.{map-range_with_len_more}
use Rattle.lt_isa.specs.Prelude.{symbol_word, symbol_words}
use Rattle.processor.proofs.machine.Machine.words_of.Goals as goal

pub loop-index-preserved : goal.loop-index-preserved
loop-index-preserved g c =
    let word = symbol_word c.args.self.now.object c.args.self.now.state c.args.symbol.now in
    let read : c.word_of.result ≡ word c.loop-index.index = c.word_of.ensures in
    let item : cast_signed w64 (cast_unsigned w64 c.word_of.result) ≡ word c.loop-index.index = search (rules, wraps) in
    let more = map-range_with_len_more word 0 c.loop-index.index c.loop-index.index (omega arith) in
    c.in_ok-push.ensures.items
    ∙ ap (λ l. l ++ cast_signed w64 (cast_unsigned w64 c.word_of.result) ∷ []) c.loop-index.invariant
    ∙ ap (λ x. map word (range_with_len 0 c.loop-index.index) ++ x ∷ []) item
    ∙ sym more

pub returns : goal.returns
unfolding symbol_words
returns g c =
    c.loop-index.invariant
    ∙ ap (λ n. map (symbol_word c.args.self.now.object c.args.self.now.state c.args.symbol.now) (range_with_len 0 n))
    (omega arith)
