use Rattle.std.proofs.Common.{◌≡◌, ◌∷◌, ◌++◌, not, false}
use Rattle.serde_json.specs.Written.{members_text}
use Rattle.run_data.specs.Prelude.{members_seen, HaveNames}
use Rattle.run_data.proofs.outputs.add_object.Given as goal

abbrev pub invariant-loop-name : goal.invariant-loop-name
invariant-loop-name l = record {
  text : l.text.items ++ members_text (not l.is_first) (members_seen l.name-iterator)
      ≡ l.fn.text.items ++ (123 ∷ members_text false (members_seen l.members.entries));
  names : HaveNames l.name-iterator;
}
