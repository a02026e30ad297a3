use Rattle.std.proofs.Common.{◌≡◌, ◌+◌, ◌-◌, ◌^◌, ◌≤◌, ◌||◌, min, drop}
use Rattle.src_tree.specs.Prelude.{block_weight, block_of_all}
use Rattle.gr_base.specs.Prelude.{found_under}
use Rattle.flow_types.specs.Prelude.{is_faulty_block}
use Rattle.flow_types.proofs.surveys.+surveys.Given as goal

abbrev pub invariant-survey_block-loop-statement : goal.invariant-survey_block-loop-statement
invariant-survey_block-loop-statement l = record {
  weight : min (l.weight
      + block_weight (found_under l.names) l.code (block_of_all (drop l.statement-index l.statements))) (2 ^ 64 - 1)
      ≡ min (block_weight (found_under l.names) l.code (block_of_all l.statements)) (2 ^ 64 - 1);
  fits : l.weight ≤ 2 ^ 64 - 1;
  faulty : (l.faulty
      || is_faulty_block (found_under l.names) l.code (block_of_all (drop l.statement-index l.statements)))
      ≡ is_faulty_block (found_under l.names) l.code (block_of_all l.statements);
}
