use Rattle.std.proofs.Common.{◌<◌, ℕ, get_or, drop, vec_len, None}
use Rattle.std.specs.Prelude.{All}
use Rattle.lt_checker.specs.Prelude.{IsEntry}
use Rattle.lt_checker.proofs.tables.table_of.Given as goal

abbrev pub invariant-loop-index : goal.invariant-loop-index
invariant-loop-index l = record {
  inside : All (λ n. n.pc < vec_len l.table) l.notes;
  entries : (p : ℕ) → p < vec_len l.table → IsEntry l.notes (drop l.index l.notes) p (get_or l.table.items p None);
}
