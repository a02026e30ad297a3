use Rattle.std.proofs.Common.{ℕ, ◌<◌, get_or}
use Rattle.std.specs.Prelude.{Contains}
use Rattle.path_oram.specs.Prelude.{held, on_path}
use Rattle.path_oram.proofs.positions.Positions.level.Given as goal

abbrev pub invariant-loop-level : goal.invariant-loop-level
invariant-loop-level l =
    (level : ℕ) → level < l.level
    → Contains (held l.self.tree (on_path l.self.height (get_or l.self.leaves l.block 0) level)) l.block → ⊥
