use Rattle.std.proofs.Common.{◌≡◌, Some, map, subst}
use Rattle.std.specs.Prelude.{IfOk, IfSome}
use Rattle.procs_pruning.specs.Prelude.{Arguments, handed, trees_seen}
use Rattle.procs_pruning.proofs.handing.handed_arguments.Goals as goal

pub returns : goal.returns
returns c =
    subst (λ (g : Arguments). IfOk c.all_handed.result (λ r. IfSome r (λ all. map Some (trees_seen all.items)
    ≡ map (handed g) (trees_seen c.args.own.now)))) c.in_ok-given.ensures c.all_handed.ensures
