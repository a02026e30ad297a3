use Rattle.std.proofs.Common.{◌≡◌, Ok, sym, subst, ◌∙◌, ap}
use Rattle.gr_word.specs.declared.variables.Label.TheVariants.{Public}
use Rattle.src_tree.specs.Prelude.{source_of, block_of_all, block_weight, shown_number}
use Rattle.gr_base.specs.Prelude.{found_under}
use Rattle.flow_types.specs.Prelude.{names_gathered, nothing_known, IsRefusal}
use Rattle.flow_types.proofs.Judged.{declarations_refused, explained, IsJudged, first_found, weight_exact, weight_named}
use Rattle.flow_types.proofs.typing.judge.Goals.{After-fault_in}
use Rattle.flow_types.proofs.typing.judge.Goals as goal

pub returns-in-Err-clause-refused : goal.returns-in-Err-clause-refused
returns-in-Err-clause-refused c =
    declarations_refused (source_of c.args.p.now) c.in-Err.fault
    (subst (λ ds. IsRefusal c.in-Err.fault
    (names_gathered nothing_known 0 ds)) c.as_slice.ensures.value c.in-Err.ensures.refused)

-- the names and the weight by which errors are found
judged : (c : After-fault_in)
    → IsJudged (source_of c.args.p.now) (found_under c.in-Ok.names) c.survey_block-survey.result.weight
judged c = record {
  names = subst (λ ds. names_gathered nothing_known 0 ds ≡ Ok (found_under c.in-Ok.names)) c.as_slice.ensures.value
      c.in-Ok.ensures.gathered;
  weight = c.survey_block-survey.ensures.weight
      ∙ ap (λ ss. shown_number (block_weight (found_under c.in-Ok.names) Public (block_of_all ss)))
      c.as_slice-in-Ok.ensures.value;
}

pub returns-in-Some-clause-refused : goal.returns-in-Some-clause-refused
returns-in-Some-clause-refused c =
    let found = first_found (judged (goal.at.returns-in-Some-clause-refused c).After-fault_in) in
    explained (source_of c.args.p.now) c.in-Some.fault (sym found ∙ sym c.in-Some.ensures)

pub returns-clause-accepted : goal.returns-clause-accepted
returns-clause-accepted c =
    let all = judged (goal.at.returns-clause-accepted c).After-fault_in in
    weight_exact (source_of c.args.p.now) c.survey_block-survey.result.weight (weight_named all)
    (sym (first_found all) ∙ sym c.in-None.ensures)

pub returns-clause-faultless : goal.returns-clause-faultless
returns-clause-faultless c =
    sym (first_found (judged (goal.at.returns-clause-faultless c).After-fault_in)) ∙ sym c.in-None.ensures
