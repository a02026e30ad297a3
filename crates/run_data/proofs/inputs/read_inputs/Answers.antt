use Rattle.std.proofs.Common.{◌≡◌, ◌+◌, length, Some, option_map, sym, ap, ◌∙◌, subst, All, map, arith}
use Rattle.std.proofs.lemmas.Result.{IfOk-weaker, IfErr-weaker}
use Rattle.serde_json.specs.Data.{Members}
use Rattle.serde_json.specs.Find.{as_object}
use Rattle.gr_word.specs.Prelude.{AreWords, FitsWants}
use Rattle.run_data.specs.Prelude.{inputs_in, inputs_of, json_of, least_given, entries_view, first_given_fault, given_words}
use Rattle.run_data.proofs.Fits.{given_fits}
use Rattle.run_data.proofs.Given.{object_kept, inputs_at, faulty_inputs, faultless_inputs, first_fault_kept, all_words_kept}
use Rattle.run_data.proofs.LeastMembers.{all_kept, least_fault}
use Rattle.run_data.proofs.inputs.read_inputs.Goals as goal

-- the object's members, of which those with the least names were kept
members_kept : (c : goal.After-drop-members) → (ms : Members) × (as_object c.in-Ok.ensures.given.0 ≡ Some ms)
    × (least_given (length c.args.wants.now + 1) ms ≡ entries_view c.in-Some.members.entries)
members_kept c =
    object_kept (length c.args.wants.now + 1) c.in-Ok.ensures.given.0 (entries_view c.in-Some.members.entries)
    (c.in-Ok.ensures.given.2 ∙ ap (option_map (λ m. entries_view m.entries)) c.in-Some.is)

inputs_are : (c : goal.After-drop-members)
    → inputs_of c.args.wants.now (json_of c.args.json.now) ≡ inputs_in c.args.wants.now (members_kept c).0
inputs_are c =
    let kept = members_kept c in
    ap (inputs_of c.args.wants.now) c.in-Ok.ensures.given.1
    ∙ inputs_at c.args.wants.now c.in-Ok.ensures.given.0 kept.0 kept.1

pub returns-clause-read : goal.returns-clause-read
returns-clause-read c =
    let wants = c.args.wants.now in
    let kept = members_kept c in
    IfOk-weaker c.inputs_from.result _ _
    (λ inputs found.
    let whole = all_kept (length wants + 1) kept.0 c.in-Some.members.entries kept.2 (omega (arith, found.3)) in
    inputs_are c
    ∙ faultless_inputs wants kept.0 inputs (ap (first_given_fault wants) whole ∙ found.0)
    (found.1 ∙ ap (λ ms. map (given_words ms) wants) (sym whole)))
    c.inputs_from.ensures.given

pub returns-clause-first : goal.returns-clause-first
returns-clause-first c =
    let wants = c.args.wants.now in
    let kept = members_kept c in
    IfErr-weaker c.inputs_from.result _ _
    (λ e first other. inputs_are c ∙ faulty_inputs wants kept.0 e (least_fault wants (length wants + 1) kept.0 (entries_view c.in-Some.members.entries) e kept.2 (first other)))
    c.inputs_from.ensures.first

pub returns-clause-fits : goal.returns-clause-fits
returns-clause-fits c =
    let wants = c.args.wants.now in
    let kept = members_kept c in
    IfOk-weaker c.inputs_from.result _ _
    (λ inputs found variables.
    let whole = all_kept (length wants + 1) kept.0 c.in-Some.members.entries kept.2 (omega (arith, found.3)) in
    let none = sym (first_fault_kept wants kept.0) ∙ ap (first_given_fault wants) whole ∙ found.0 in
    let words_are = found.1 ∙ ap (λ ms. map (given_words ms) wants) (sym whole) ∙ all_words_kept kept.0 wants in
    subst (FitsWants wants) (sym words_are)
    (given_fits wants kept.0 variables none (subst (All AreWords) words_are found.2)))
    c.inputs_from.ensures.given
