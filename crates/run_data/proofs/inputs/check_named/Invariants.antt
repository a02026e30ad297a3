use Rattle.std.proofs.Common.{◌≡◌, drop}
use Rattle.run_data.specs.Prelude.{given_view, given_named_fault}
use Rattle.run_data.proofs.inputs.check_named.Given as goal

abbrev pub invariant-loop-want : goal.invariant-loop-want
invariant-loop-want l =
    given_named_fault (drop l.want-index l.wants) l.name (given_view l.given)
    ≡ given_named_fault l.wants l.name (given_view l.given)
