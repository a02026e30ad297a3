use Rattle.std.proofs.Common.{◌*◌}
use Rattle.std.specs.Prelude.{vec_capacity}
use Rattle.lt_isa.specs.Prelude.{block_words, blocks_of}
use Rattle.processor.proofs.StartImages.{IsFilling}
use Rattle.processor.proofs.images.fill.Given as goal

abbrev pub invariant-loop-i : goal.invariant-loop-i
invariant-loop-i l =
    IsFilling (block_words l.object) l.object.symbols l.inputs l.bank l.i
    (blocks_of l.object l.bank * block_words l.object) l.words.items (vec_capacity l.words)
