-- The places that one instruction lists.
use Rattle.std.proofs.Common.{◌∙◌, ℕ, length, Some, ap, subst}
use Rattle.lt_isa.proofs.Offsets.{handed_on}
use Rattle.lt_isa.specs.Prelude.{InstrFits, IsOffset, target_of}
use Rattle.lt_isa.specs.declared.instructions.Instr.TheVariants.{Jmp, Br}
use Rattle.lt_isa.proofs.Steps.{instruction-fits}
use Rattle.note_infer.specs.Prelude.{TellsOne}
use Rattle.note_infer.proofs.Looking.{br_not, jmp_not}
use Rattle.note_infer.proofs.OriginTables.{origins_told, origins_none, other_none, halt_none, jump_only, branch_only}
use Rattle.note_infer.proofs.origins.tell_from.Goals as goal

pub returns-in-Goes : goal.returns-in-Goes
returns-in-Goes c =
    origins_none c.args.object.now c.args.place c.args.last.now.items c.args.before.now.items c.requires.below
    (other_none c.args.object.now c.args.place c.args.instr c.requires.code
    (λ offset e. jmp_not offset c.args.instr e c.in-Goes.ensures)
    (λ cmp ra rb offset e. br_not cmp ra rb offset c.args.instr e c.in-Goes.ensures))

pub returns-in-Halts : goal.returns-in-Halts
returns-in-Halts c =
    origins_none c.args.object.now c.args.place c.args.last.now.items c.args.before.now.items c.requires.below
    (halt_none c.args.object.now c.args.place (c.requires.code ∙ ap Some c.in-Halts.ensures))

pub returns-in-Jumps : goal.returns-in-Jumps
returns-in-Jumps c =
    let o = c.args.object.now in
    let offset = c.in-Jumps.offset in
    let code = c.requires.code ∙ ap Some c.in-Jumps.ensures in
    let small : IsOffset offset = instruction-fits o c.requires.range c.args.place (Jmp offset) code in
    let same = handed_on offset small in
    let last = c.args.last.now.items in
    let before = c.args.before.now.items in
    let last_after = c.tell.new.last.items in
    let before_after = c.tell.new.before.items in
    origins_told o c.args.place last before c.requires.below (target_of o c.args.place offset)
    (jump_only o c.args.place offset code) c.requires.inside last_after before_after
    (subst (λ (q : ℕ). TellsOne c.args.place q last before last_after before_after)
    (c.target_of.ensures ∙ ap (target_of o c.args.place) same) c.tell.ensures)

pub returns-in-Branches : goal.returns-in-Branches
returns-in-Branches c =
    let o = c.args.object.now in
    let offset = c.in-Branches.offset in
    let is = c.in-Branches.ensures in
    let code = c.requires.code ∙ ap Some is.3 in
    let fits : InstrFits (length o.banks) (Br is.0 is.1 is.2 offset) =
    instruction-fits o c.requires.range c.args.place (Br is.0 is.1 is.2 offset) code in
    let small : IsOffset offset = fits.2 in
    let same = handed_on offset small in
    let last = c.args.last.now.items in
    let before = c.args.before.now.items in
    let last_after = c.tell-in-Branches.new.last.items in
    let before_after = c.tell-in-Branches.new.before.items in
    origins_told o c.args.place last before c.requires.below (target_of o c.args.place offset)
    (branch_only o c.args.place is.0 is.1 is.2 offset code) c.requires.inside last_after before_after
    (subst (λ (q : ℕ). TellsOne c.args.place q last before last_after before_after)
    (c.target_of-in-Branches.ensures ∙ ap (target_of o c.args.place) same) c.tell-in-Branches.ensures)
