use Rattle.std.proofs.Common.{◌≡◌, length}
use Rattle.std.specs.Prelude.{reverse}
use Rattle.module_calls.specs.Tails.{tails}
use Rattle.module_passes.specs.Owned.{block_of_all}
use Rattle.module_passes.specs.BeforeRest.{all_before}
use Rattle.module_passes.proofs.returns.+moving.Given as goal

abbrev pub invariant-tails-loop-statement : goal.invariant-tails-loop-statement
invariant-tails-loop-statement l = record {
  no_deeper : goal.no_deeper-tails-loop-statement l;
  moved : all_before l.left.items (block_of_all (reverse l.rest.items)) ≡ tails (block_of_all l.fn.statements.items);
}

abbrev pub decreases-tails-loop-statement : goal.decreases-tails-loop-statement
decreases-tails-loop-statement l = length l.left.items
