use Rattle.std.proofs.Common.{◌≡◌, ◌++◌, map, length}
use Rattle.std.specs.Prelude.{reverse}
use Rattle.module_calls.specs.Tails.{tailed_all}
use Rattle.module_passes.specs.Owned.{function_of}
use Rattle.module_passes.proofs.returns.tailed.Given as goal

abbrev pub invariant-loop-function : goal.invariant-loop-function
invariant-loop-function l =
    tailed_all (map function_of l.left.items) ++ map function_of (reverse l.made.items)
    ≡ tailed_all (map function_of l.fn.functions.items)

abbrev pub decreases-loop-function : goal.decreases-loop-function
decreases-loop-function l = length l.left.items
