use Rattle.std.proofs.Common.{◌≡◌, drop}
use Rattle.serde_json.specs.Data.{no_members}
use Rattle.run_data.specs.Prelude.{members_with, members_seen, HaveNames}
use Rattle.run_data.proofs.outputs.ordered_members.Given as goal

abbrev pub invariant-loop-i : goal.invariant-loop-i
invariant-loop-i l = record {
  seen : members_with (members_seen l.members.entries) (drop l.i l.wants) (drop l.i l.values)
      ≡ members_with no_members l.wants l.values;
  names : HaveNames l.members.entries;
}
