use Rattle.std.proofs.Common.{length, ap, arith}
use Rattle.gr_word.specs.declared.variables.Label.TheVariants.{Public}
use Rattle.src_tree.specs.Prelude.{context_of, block_weight, block_of_all}
use Rattle.block_cache_gen.specs.Prelude.{no_notes, Setting}
use Rattle.block_cache_gen.proofs.Emitting.{appended_length}
use Rattle.code_gen.specs.Prelude.{beginning}
use Rattle.code_gen.proofs.RangesOfPrograms.{beginning_short}
use Rattle.code_gen.proofs.programs.program_code.Goals as goal

pub put_block-requires-clause-room : goal.put_block-requires-clause-room
put_block-requires-clause-room c =
    let f = c.args.emitter.now in
    let frame = c.requires.frame in
    omega (
      arith,
      c.requires.light,
      ap length c.new-out.ensures.code,
      appended_length c.new-out.result c.put_beginning.new.out (beginning f) no_notes c.in_ok-put_beginning.ensures,
      beginning_short f,
      ap length (ap (λ (g : Setting). g.held) c.requires.same),
      (let sound = frame.held in sound.few),
      ap (λ (g : Setting). block_weight (context_of g.decls) Public (block_of_all c.args.body.now)) c.at.ensures,
    )
