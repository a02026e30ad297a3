use Rattle.processor.proofs.StartImages.{image-words, image-blocks, image-size}
use Rattle.processor.proofs.images.start_image.Goals as goal

pub returns-clause-words : goal.returns-clause-words
returns-clause-words c =
    image-words c.args.a.now c.object-object.result.now c.object-object.ensures.object c.args.inputs.now c.args.bank
    c.in_ok-image.image.items c.in_ok-image.ensures.within c.in_ok-image.ensures.words
    c.bank_words.result c.bank_words.ensures c.fill_up.new.words.items c.fill_up.ensures.items

pub returns-clause-blocks : goal.returns-clause-blocks
returns-clause-blocks c =
    image-blocks c.args.a.now c.object-object.result.now c.object-object.ensures.object c.args.inputs.now c.args.bank
    c.in_ok-image.image.items c.in_ok-image.ensures.within c.in_ok-image.ensures.words
    c.bank_words.result c.bank_words.ensures c.fill_up.new.words.items c.fill_up.ensures.items

pub returns-clause-size : goal.returns-clause-size
returns-clause-size c =
    image-size c.args.a.now c.object-object.result.now c.object-object.ensures.object c.args.inputs.now c.args.bank
    c.in_ok-image.image.items c.in_ok-image.ensures.within c.in_ok-image.ensures.words
    c.bank_words.result c.bank_words.ensures c.fill_up.new.words.items c.fill_up.ensures.items
