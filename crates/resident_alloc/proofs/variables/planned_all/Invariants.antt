use Rattle.std.proofs.Common.{◌≡◌, [], ◌++◌, take, drop}
use Rattle.resident_alloc.specs.Prelude.{planned_behind}
use Rattle.resident_alloc.proofs.variables.planned_all.Given as goal

abbrev pub invariant-loop-i : goal.invariant-loop-i
invariant-loop-i l =
    l.of_all.items ++ planned_behind l.size l.all (take l.i l.all) (drop l.i l.all) ≡ planned_behind l.size l.all [] l.all
