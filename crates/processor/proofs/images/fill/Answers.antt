use Rattle.std.proofs.Common.{◌*◌, ◌^◌, ◌≤◌, ◌∙◌, length, ap, arith}
use Rattle.lt_isa.specs.Prelude.{block_words, blocks_of, end_word}
use Rattle.processor.proofs.StartImages.{IsFilled-none, has_words, words-length, ends_inside, filled_on}
use Rattle.processor.proofs.images.fill.Goals as goal

pub loop-i-init : goal.loop-i-init
loop-i-init c =
    rw c.symbols-symbols.ensures.value
    (record {
      filled = IsFilled-none _ c.args.object.now.symbols c.args.inputs.now c.args.bank
          c.args.words.now.items c.requires.empty;
      within = omega (arith, ap length c.requires.empty);
      enough = c.requires.room;
    })

pub words-requires : goal.words-requires
words-requires c =
    has_words c.args.object.now c.args.inputs.now c.symbols-symbols.result.now c.symbols-symbols.ensures.value
    c.loop-i.i c.loop-i-test.true c.loop-i.auto.i
    c.index-symbols-i.result c.index-symbols-i.is c.requires.fits

pub place-requires-clause-size : goal.place-requires-clause-size
place-requires-clause-size c =
    words-length c.args.object.now c.args.inputs.now c.symbols-symbols.result.now c.symbols-symbols.ensures.value
    c.loop-i.i c.loop-i-test.true c.loop-i.auto.i
    c.index-symbols-i.result c.index-symbols-i.is c.requires.fits c.words.result.now c.words.ensures

pub place-requires-clause-room : goal.place-requires-clause-room
place-requires-clause-room c = λ lies.
    let inside : end_word c.block_words-width.result c.index-symbols-i.result
    ≤ blocks_of c.args.object.now c.args.bank * block_words c.args.object.now =
    ends_inside c.args.object.now c.args.inputs.now c.symbols-symbols.result.now c.symbols-symbols.ensures.value
    c.loop-i.i c.loop-i-test.true c.loop-i.auto.i
    c.index-symbols-i.result c.index-symbols-i.is c.symbols-symbols.ensures.in_range c.block_words-width.result
    c.args.bank
    (c.block_words-width.ensures.words ∙ ap (λ p. 2 ^ p.block_log) c.profile.ensures.value) lies in
    omega (arith, inside, c.loop-i.invariant.enough)

pub loop-i-preserved : goal.loop-i-preserved
loop-i-preserved c = record {
  filled =
      filled_on c.args.object.now c.args.inputs.now c.symbols-symbols.result.now c.symbols-symbols.ensures.value
      c.loop-i.i c.loop-i-test.true c.loop-i.auto.i
      c.index-symbols-i.result c.index-symbols-i.is c.requires.fits c.block_words-width.result c.args.bank
      c.loop-i.words.items c.place.new.words.items c.words.result.now
      (c.block_words-width.ensures.words ∙ ap (λ p. 2 ^ p.block_log) c.profile.ensures.value)
      c.words.ensures c.loop-i.invariant.filled c.place.ensures.words;
  within =
      c.place.ensures.within _ c.loop-i.invariant.within
      (λ lies.
      ends_inside c.args.object.now c.args.inputs.now c.symbols-symbols.result.now c.symbols-symbols.ensures.value
      c.loop-i.i c.loop-i-test.true c.loop-i.auto.i
      c.index-symbols-i.result c.index-symbols-i.is c.symbols-symbols.ensures.in_range c.block_words-width.result
      c.args.bank
      (c.block_words-width.ensures.words ∙ ap (λ p. 2 ^ p.block_log) c.profile.ensures.value) lies);
  enough = omega (arith, c.loop-i.invariant.enough, c.place.ensures.capacity);
}
