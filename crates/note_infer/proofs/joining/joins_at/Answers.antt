-- A branch whose region isn't shaped doesn't join, and one whose region is shaped joins.
use Rattle.std.proofs.Common.{ℕ, ℤ, subst, length}
use Rattle.lt_isa.proofs.Offsets.{handed_on}
use Rattle.lt_isa.specs.Prelude.{InstrFits, IsOffset}
use Rattle.lt_isa.proofs.Steps.{instruction-fits}
use Rattle.lt_isa.specs.declared.instructions.Instr.TheVariants.{Br}
use Rattle.trace_patterns.specs.Prelude.{Known, JoinsIn}
use Rattle.region_walk.specs.Prelude.{IsCarriedTo}
use Rattle.note_infer.proofs.Growing.{unshaped_stays, carried_joins}
use Rattle.note_infer.proofs.joining.joins_at.Goals as goal

-- src/joining.rt:52:1
pub returns-in-Unshaped : goal.returns-in-Unshaped
returns-in-Unshaped c =
    let o = c.args.object.now in
    let b = c.args.branch in
    let fits : InstrFits (length o.banks) (Br c.requires.candidate.stands.cmp b.ra b.rb b.offset) =
    instruction-fits o c.requires.range c.args.place
    (Br c.requires.candidate.stands.cmp b.ra b.rb b.offset) c.requires.candidate.stands.at in
    let small : IsOffset b.offset = fits.2 in
    let same = handed_on b.offset small in
    unshaped_stays o c.args.crossed.now.list c.args.states.now c.args.place c.args.known.now b c.requires.candidate.reached
    c.requires.candidate.stands
    (subst (λ (z : ℤ). (join : ℕ) (next : Known) → JoinsIn o c.args.place z c.args.known.now join next → ⊥) same
    c.in-Unshaped.ensures)

pub returns-in-Joins : goal.returns-in-Joins
returns-in-Joins c =
    let o = c.args.object.now in
    let b = c.args.branch in
    let h = c.requires.candidate in
    let fits : InstrFits (length o.banks) (Br h.stands.cmp b.ra b.rb b.offset) =
    instruction-fits o c.requires.range c.args.place
    (Br h.stands.cmp b.ra b.rb b.offset) h.stands.at in
    let small : IsOffset b.offset = fits.2 in
    let same = handed_on b.offset small in
    carried_joins o c.args.crossed.now.list c.args.states.now c.args.place c.args.known.now b c.in-Joins.join c.in-Joins.known
    h.reached h.apart h.stands h.secret
    (subst (λ (z : ℤ). IsCarriedTo o c.args.place z c.args.known.now c.in-Joins.join c.in-Joins.known) same c.in-Joins.ensures)
