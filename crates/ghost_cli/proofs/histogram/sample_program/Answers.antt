use Rattle.std.proofs.Common.{◌≡◌, false, ◌≤◌, ◌∙◌, length, subst, ℕ, List, sym}
use Rattle.std.proofs.lemmas.Result.{IfErr-weaker, IfOk-weaker}
use Rattle.src_tree.specs.Prelude.{source_of}
use Rattle.call_steps.specs.Prelude.{sample_text, SpellsTyped}
use Rattle.call_laws.proofs.SampleMade.{sample-short, text-starved}
use Rattle.ghost_cli.proofs.histogram.sample_program.Goals as goal

pub source_in-requires : goal.source_in-requires
source_in-requires c =
    let is : c.as_bytes.result.now ≡ sample_text c.args.items = c.as_bytes.ensures.value ∙ c.in_ok-text.ensures in
    subst (λ (t : List ℕ). length t ≤ 1048576) (sym is) (sample-short c.args.items c.requires.1)

pub returns-clause-spells : goal.returns-clause-spells
returns-clause-spells c =
    IfOk-weaker c.source_in.result _ _
    (λ p. subst (λ (t : List ℕ). SpellsTyped false t (source_of p)) (c.as_bytes.ensures.value ∙ c.in_ok-text.ensures))
    c.source_in.ensures.found

pub returns-clause-starved : goal.returns-clause-starved
returns-clause-starved c =
    IfErr-weaker c.source_in.result _ _
    (λ reply. text-starved c.args.items c.requires _ (c.as_bytes.ensures.value ∙ c.in_ok-text.ensures) _)
    c.source_in.ensures.refused
