use Rattle.std.proofs.Common.{◌≡◌, None, rules}
use Rattle.run_data.specs.Prelude.{entries_view, first_given_fault}
use Rattle.run_data.proofs.LeastMembers.{few_members}
use Rattle.run_data.proofs.inputs.check_members.Goals as goal

pub returns-clause-few : goal.returns-clause-few
returns-clause-few c =
    let entries = c.args.members.now.entries in
    let none : first_given_fault c.args.wants.now (entries_view entries) ≡ None = search rules in
    few_members c.args.wants.now entries c.into_iter-name-iterator.ensures.into_iter_gives.5 none
