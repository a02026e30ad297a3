use Rattle.std.proofs.Common.{◌≡◌}
use Rattle.run_data.specs.Prelude.{entries_view, first_given_fault}
use Rattle.run_data.proofs.inputs.check_members.Given as goal

abbrev pub invariant-loop-name : goal.invariant-loop-name
invariant-loop-name l =
    first_given_fault l.wants (entries_view l.name-iterator) ≡ first_given_fault l.wants (entries_view l.members.entries)
