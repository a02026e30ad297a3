use Rattle.std.proofs.Common.{◌≡◌, drop}
use Rattle.held_registers.specs.Prelude.{held_scalars, scalars_behind}
use Rattle.held_registers.proofs.registers.held_scalars.Given as goal

abbrev pub invariant-loop-i : goal.invariant-loop-i
invariant-loop-i l = scalars_behind l.held.items l.i (drop l.i l.decls) ≡ held_scalars l.decls
