use Rattle.std.proofs.Common.{sym, ap, ◌∙◌}
use Rattle.std.specs.Option.{option_map}
use Rattle.src_tree.specs.Prelude.{expr_tree}
use Rattle.procs_pruning.specs.Prelude.{argument_seen, arguments_under, handed}
use Rattle.procs_pruning.proofs.HandedOn.{handed_so}
use Rattle.procs_pruning.proofs.handing.handed.Goals as goal

pub returns-in-Some : goal.returns-in-Some
returns-in-Some c =
    handed_so c.args.given.now c.bytes.result.now c.in-Var.name c.in-Some.argument
    (option_map argument_seen c.bare.result) c.bytes.ensures.bytes (sym c.in-Some.is ∙ c.argument_named.ensures)
    c.bare.ensures
    ∙ ap (λ e. handed (arguments_under c.args.given.now) (expr_tree e)) (sym c.in-Var.is)
