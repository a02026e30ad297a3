use Rattle.src_tree.specs.Prelude.{guard_holds, run_of_block}
use Rattle.src_tree.proofs.Loops.{block_falls, loop_again, loop_ends, loop_spent}
use Rattle.source_meaning.proofs.laws.loop_laws.Goals as goal

pub returns : goal.returns
returns c = record {
  ends = λ decls guard body store turns fails.
      loop_ends (λ s. guard_holds decls s guard) (run_of_block decls body) store turns fails;
  spent = λ decls guard body store holds.
      loop_spent (λ s. guard_holds decls s guard) (run_of_block decls body) store holds;
  again = λ decls guard body store turns holds.
      loop_again (λ s. guard_holds decls s guard) (run_of_block decls body) (block_falls decls body) store turns holds;
}
