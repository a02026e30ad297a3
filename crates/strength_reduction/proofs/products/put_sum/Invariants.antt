use Rattle.std.proofs.Common.{◌≡◌, ◌++◌, ◌≤◌, drop}
use Rattle.strength_reduction.specs.Prelude.{sum_steps, code_of}
use Rattle.strength_reduction.proofs.products.put_sum.Given as goal

abbrev pub invariant-loop-i : goal.invariant-loop-i
invariant-loop-i l =
    (l.held ≤ 1)
    × (l.code.items ++ code_of l.to (sum_steps l.held (drop l.i l.bits))
    ≡ l.fn.code.items ++ code_of l.to (sum_steps l.sum l.bits))
