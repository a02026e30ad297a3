use Rattle.std.proofs.Common.{◌≡◌, ◌+◌, ◌*◌, ◌≤◌, drop, length}
use Rattle.gr_word.specs.declared.variables.Label.TheVariants.{Public}
use Rattle.src_tree.specs.Prelude.{context_of, LowBlock, block_weight, statement_weight, block_of_all, statement_of, test_of, Loop, TypedBlock}
use Rattle.block_cache_gen.specs.declared.frames.CodeBuf.{CodeBuf}
use Rattle.block_cache_gen.specs.Prelude.{ranged, BlockHasWords}
use Rattle.branch_padding.specs.Prelude.{choice_of}
use Rattle.code_gen.specs.Prelude.{EmitsBlock, noted_behind, block_ends_noted}
use Rattle.code_gen.proofs.statements.+statements.Given as goal

abbrev pub invariant-put_block-loop-statement : goal.invariant-put_block-loop-statement
invariant-put_block-loop-statement l = record {
  typed : TypedBlock (context_of l.emitter.decls) Public (block_of_all (drop l.statement-index l.statements));
  low : LowBlock (block_of_all (drop l.statement-index l.statements));
  emitted : (last : CodeBuf)
      → EmitsBlock (ranged l.emitter l.known.items) (block_of_all (drop l.statement-index l.statements)) l.out last
      → EmitsBlock l.emitter (block_of_all l.statements) l.fn.out last;
  words : BlockHasWords (block_of_all (drop l.statement-index l.statements))
      → BlockHasWords (block_of_all l.statements);
  noted : noted_behind l.emitter.decls l.noted (block_of_all (drop l.statement-index l.statements))
      ≡ block_ends_noted l.emitter.decls (block_of_all l.statements);
  least : block_weight (context_of l.emitter.decls) Public (block_of_all (drop l.statement-index l.statements))
      ≤ block_weight (context_of l.emitter.decls) Public (block_of_all l.statements);
  short : length l.out.code.items
      + 120 * block_weight (context_of l.emitter.decls) Public (block_of_all (drop l.statement-index l.statements))
      ≤ length l.fn.out.code.items + 120 * block_weight (context_of l.emitter.decls) Public (block_of_all l.statements);
}

abbrev pub decreases-put_statement : goal.decreases-put_statement
decreases-put_statement l = 8 * statement_weight (context_of l.emitter.now.decls) Public (statement_of l.s.now) + 2

abbrev pub decreases-put_if : goal.decreases-put_if
decreases-put_if l =
    8 * statement_weight (context_of l.emitter.now.decls) Public
    (choice_of l.guard.now l.first.now l.second.now) + 1

abbrev pub decreases-put_choice : goal.decreases-put_choice
decreases-put_choice l =
    8 * statement_weight (context_of l.emitter.now.decls) Public
    (choice_of l.guard.now l.first.now l.second.now)

abbrev pub decreases-put_loop : goal.decreases-put_loop
decreases-put_loop l =
    8 * statement_weight (context_of l.emitter.now.decls) Public (Loop (test_of l.guard.now) (block_of_all l.body.now))

abbrev pub decreases-put_block : goal.decreases-put_block
decreases-put_block l = 8 * block_weight (context_of l.emitter.now.decls) Public (block_of_all l.statements.now) + 3
