use Rattle.std.proofs.Common.{◌≡◌, drop}
use Rattle.module_calls.specs.Tails.{always_in}
use Rattle.module_passes.specs.Owned.{block_of_all}
use Rattle.module_passes.proofs.returns.+returning.Given as goal

abbrev pub invariant-always_return-loop-statement : goal.invariant-always_return-loop-statement
invariant-always_return-loop-statement l =
    always_in (block_of_all (drop l.statement-index l.statements)) ≡ always_in (block_of_all l.statements)
