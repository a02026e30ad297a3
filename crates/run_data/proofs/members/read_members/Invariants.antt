use Rattle.std.proofs.Common.{◌≡◌, ℕ, ◌≤◌, length}
use Rattle.json.specs.Json.{members, value}
use Rattle.serde_json.specs.Data.{Members, no_members}
use Rattle.serde_json.specs.Read.{of_members, converted}
use Rattle.run_data.specs.Prelude.{least_given, entries_view}
use Rattle.run_data.proofs.members.read_members.Given as goal

abbrev pub invariant-members : goal.invariant-members
invariant-members l =
    (n : ℕ) × (old : Members) × (length l.reader ≤ n)
    × (converted (λ js. of_members js no_members) (members (value l.depth) (length l.initial.reader) l.initial.reader)
    ≡ converted (λ js. of_members js old) (members (value l.depth) n l.reader))
    × (least_given l.most old ≡ entries_view l.found.entries)

abbrev pub decreases-members : goal.decreases-members
decreases-members l = length l.reader
