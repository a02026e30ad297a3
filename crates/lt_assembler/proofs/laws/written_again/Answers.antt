use Rattle.std.proofs.Common.{subst, sym, ◌∙◌}
use Rattle.lt_assembler.specs.Prelude.{SpellsInText}
use Rattle.lt_assembler.proofs.CanonicalSpells.{canonical-spells}
use Rattle.lt_assembler.proofs.laws.written_again.Goals as goal

pub returns : goal.returns
returns c =
    c.assemble.ensures.only c.args.object.now
    (subst (λ text. SpellsInText text c.args.object.now) (sym (c.deref.ensures.value ∙ c.in_ok-text.ensures.text))
    (canonical-spells c.args.object.now c.in_ok-text.ensures.in_range))
