use Rattle.std.proofs.Common.{◌≡◌, ◌+◌, ◌*◌, ◌≤◌, length, drop}
use Rattle.src_tree.specs.Prelude.{context_of, block_weight, statement_weight, block_of_all, statement_of}
use Rattle.branch_padding.specs.Prelude.{cycles_of_all}
use Rattle.gr_word.specs.declared.variables.Label.TheVariants as label
use Rattle.branch_padding.proofs.cycles.+cycles.Given as goal

abbrev pub decreases-statement_cycles : goal.decreases-statement_cycles
decreases-statement_cycles l =
    2 * statement_weight (context_of l.emitter.now.decls) label.Secret (statement_of l.s.now)

abbrev pub decreases-block_cycles : goal.decreases-block_cycles
decreases-block_cycles l =
    2 * block_weight (context_of l.emitter.now.decls) label.Secret (block_of_all l.block.now) + 1

abbrev pub invariant-block_cycles-loop-from : goal.invariant-block_cycles-loop-from
invariant-block_cycles-loop-from l = record {
  within : l.from ≤ length l.block;
  made : l.cycles ≡ cycles_of_all l.emitter (block_of_all (drop l.from l.block));
}

abbrev pub decreases-block_cycles-loop-from : goal.decreases-block_cycles-loop-from
decreases-block_cycles-loop-from l = l.from
