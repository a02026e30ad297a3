use Rattle.std.proofs.Common.{◌≡◌, length}
use Rattle.flat_passes.specs.Values.{with_locals}
use Rattle.flat_code.specs.Limits.{needs_name}
use Rattle.flat_code.specs.Owned.{statement_of, terms_of}
use Rattle.flat_code.proofs.variables.with_locals.Given as goal

abbrev pub invariant-loop-value : goal.invariant-loop-value
invariant-loop-value l =
    with_locals needs_name l.n (terms_of l.left.items) (statement_of l.made)
    ≡ with_locals needs_name l.n (terms_of l.fn.before.items) (statement_of l.fn.s)

abbrev pub decreases-loop-value : goal.decreases-loop-value
decreases-loop-value l = length l.left.items
