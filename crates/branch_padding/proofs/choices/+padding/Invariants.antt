use Rattle.std.proofs.Common.{◌+◌, ◌*◌, ◌≤◌}
use Rattle.src_tree.specs.Prelude.{context_of, block_weight, statement_weight, block_of_all, statement_of}
use Rattle.block_cache_gen.specs.Prelude.{Appended, no_notes}
use Rattle.branch_padding.specs.Prelude.{both_weights, padded_codes, HaveWords, row_between}
use Rattle.gr_word.specs.declared.variables.Label.TheVariants as label
use Rattle.branch_padding.proofs.choices.+padding.Given as goal

abbrev pub decreases-put_padded : goal.decreases-put_padded
decreases-put_padded l = 5 * statement_weight (context_of l.emitter.now.decls) label.Secret (statement_of l.s.now)

abbrev pub decreases-put_row : goal.decreases-put_row
decreases-put_row l = 5 * block_weight (context_of l.emitter.now.decls) label.Secret (block_of_all l.part.now) + 1

abbrev pub decreases-put_idling : goal.decreases-put_idling
decreases-put_idling l = 5 * block_weight (context_of l.emitter.now.decls) label.Secret (block_of_all l.part.now) + 2

abbrev pub decreases-put_untaken : goal.decreases-put_untaken
decreases-put_untaken l =
    5 * both_weights l.emitter.now (block_of_all l.p.now.first.now) (block_of_all l.p.now.second.now) + 3

abbrev pub decreases-put_taken : goal.decreases-put_taken
decreases-put_taken l =
    5 * both_weights l.emitter.now (block_of_all l.p.now.first.now) (block_of_all l.p.now.second.now) + 3

abbrev pub decreases-put_choice : goal.decreases-put_choice
decreases-put_choice l =
    5 * both_weights l.emitter.now (block_of_all l.first.now) (block_of_all l.second.now) + 4

abbrev pub invariant-put_row-loop-i : goal.invariant-put_row-loop-i
invariant-put_row-loop-i l = record {
  behind : l.from ≤ l.i;
  made : Appended l.fn.out l.out
      (row_between l.from l.i (padded_codes l.emitter l.mode (block_of_all l.part))) no_notes;
  words : HaveWords l.from l.i l.part;
}
