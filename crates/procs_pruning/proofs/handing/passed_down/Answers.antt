use Rattle.std.proofs.Common.{map, reverse, take}
use Rattle.std.specs.Prelude.{IfSome}
use Rattle.std.proofs.lemmas.Option.{IfSome_then}
use Rattle.std.proofs.lemmas.Result.{IfOk-weaker}
use Rattle.procs_tree.specs.Prelude.{procedure_of, Call, Nothing, Then}
use Rattle.procs_pruning.specs.Prelude.{SameCode, SameStatement, live_block, live_of, trees_seen}
use Rattle.procs_pruning.proofs.HandedOn.{one_same}
use Rattle.procs_pruning.proofs.handing.passed_down.Goals as goal

pub returns-in-Some : goal.returns-in-Some
returns-in-Some c =
    let qs = reverse (take c.args.callable (map procedure_of c.args.procs.now)) in
    let s = Call c.in-Some.call.name.now (trees_seen c.in-Some.call.arguments.now) in
    let b = live_block c.args.statements.now in
    IfOk-weaker c.passed_on.result (λ o. IfSome o (λ l. SameStatement qs (live_of l) s))
    (λ o. IfSome o (λ l. SameCode qs (Then (live_of l) Nothing) b))
    (λ o some. IfSome_then o some (λ l h. one_same qs (live_of l) s b c.in-Some.ensures h)) c.passed_on.ensures
