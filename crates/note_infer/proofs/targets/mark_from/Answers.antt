-- The targets of a jump, and of a branch that isn't crossed.
use Rattle.std.proofs.Common.{◌≡◌, ◌∙◌, ℕ, length, false, Some, sym, ap, subst}
use Rattle.lt_isa.proofs.Offsets.{handed_on}
use Rattle.lt_isa.specs.Prelude.{InstrFits, IsOffset, target_of}
use Rattle.lt_isa.specs.declared.instructions.Instr.TheVariants.{Jmp, Br}
use Rattle.lt_isa.proofs.Steps.{instruction-fits}
use Rattle.note_infer.specs.Prelude.{is_crossed, Marks}
use Rattle.note_infer.proofs.Marking.{marks_jumps, marks_branches}
use Rattle.note_infer.proofs.targets.mark_from.Goals as goal

pub returns-in-Jumps : goal.returns-in-Jumps
returns-in-Jumps c =
    let o = c.args.object.now in
    let offset = c.in-Jumps.offset in
    let code = c.requires.code ∙ ap Some c.in-Jumps.ensures in
    let small : IsOffset offset = instruction-fits o c.requires.range c.args.place (Jmp offset) code in
    let same = handed_on offset small in
    marks_jumps o c.args.crossed.now.list c.args.place offset c.args.marks.now.items c.mark.new.marks.items
    c.requires.size code
    (subst (λ (q : ℕ). Marks q c.args.marks.now.items c.mark.new.marks.items)
    (c.target_of.ensures ∙ ap (target_of o c.args.place) same) c.mark.ensures)

pub returns-then-not-has : goal.returns-then-not-has
returns-then-not-has c =
    let o = c.args.object.now in
    let offset = c.in-Branches.offset in
    let is = c.in-Branches.ensures in
    let code = c.requires.code ∙ ap Some is.3 in
    let fits : InstrFits (length o.banks) (Br is.0 is.1 is.2 offset) =
    instruction-fits o c.requires.range c.args.place (Br is.0 is.1 is.2 offset) code in
    let small : IsOffset offset = fits.2 in
    let same = handed_on offset small in
    let apart : is_crossed c.args.crossed.now.list c.args.place ≡ false =
    sym c.has.ensures ∙ c.if-not-has.true in
    marks_branches o c.args.crossed.now.list c.args.place is.0 is.1 is.2 offset c.args.marks.now.items
    c.mark-then-not-has.new.marks.items c.requires.size code apart
    (subst (λ (q : ℕ). Marks q c.args.marks.now.items c.mark-then-not-has.new.marks.items)
    (c.target_of-then-not-has.ensures ∙ ap (target_of o c.args.place) same) c.mark-then-not-has.ensures)
