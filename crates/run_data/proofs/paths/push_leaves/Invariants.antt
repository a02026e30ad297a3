use Rattle.std.proofs.Common.{◌≡◌, ◌≤◌, ◌+◌, ◌*◌, ◌++◌, length, take}
use Rattle.run_data.specs.Prelude.{leaves_text}
use Rattle.run_data.proofs.paths.push_leaves.Given as goal

abbrev pub invariant-loop-leaf : goal.invariant-loop-leaf
invariant-loop-leaf l = record {
  items : l.line.items ≡ l.fn.line.items ++ leaves_text (take l.leaf-index l.leaves);
  most : length l.line.items ≤ length l.fn.line.items + 11 * l.leaf-index;
}
