use Rattle.std.proofs.Common.{sym, ap, ◌∙◌}
use Rattle.std.proofs.lemmas.Bool.{not-true}
use Rattle.std.specs.Option.{option_or}
use Rattle.src_tree.specs.Prelude.{source_of, weight_fault}
use Rattle.gr_base.specs.Prelude.{found_under}
use Rattle.flow_types.proofs.Surveyed.{none_faulty}
use Rattle.flow_types.proofs.typing.fault_in.Goals as goal

pub returns-in-Some : goal.returns-in-Some
returns-in-Some c =
    ap (λ e. option_or e (weight_fault c.args.survey.weight)) c.in-Some.ensures
    ∙ none_faulty (found_under c.args.names.now) c.args.survey.weight (source_of c.args.p.now)
    (sym c.requires ∙ not-true c.args.survey.faulty c.if-not-survey.true)

pub returns-in-None : goal.returns-in-None
returns-in-None c =
    c.weight_fault.ensures
    ∙ ap (λ e. option_or e (weight_fault c.args.survey.weight)) c.in-None.ensures
    ∙ none_faulty (found_under c.args.names.now) c.args.survey.weight (source_of c.args.p.now)
    (sym c.requires ∙ not-true c.args.survey.faulty c.if-not-survey.true)
