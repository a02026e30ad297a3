use Rattle.std.proofs.Common.{◌≡◌, length, ℤ, to_z, of_z, w64, refl, subst, rules}
use Rattle.std.specs.Prelude.{OnOk}
use Rattle.std.proofs.lemmas.Int.{wraps}
use Rattle.lt_isa.specs.declared.instructions.Instr.TheVariants.{Li}
use Rattle.lt_isa.specs.Prelude.{InstrFits}
use Rattle.gr_word.specs.Prelude.{IsWord}
use Rattle.trace_patterns.specs.Prelude.{held_behind}
use Rattle.region_walk.specs.Prelude.{HoldsBehind}
use Rattle.region_walk.proofs.HeldBehind.{same-behind}
use Rattle.region_walk.proofs.behind.hold_behind.Goals as goal

pub returns-in-Li : goal.returns-in-Li
returns-in-Li c =
    let value = c.in-Li.value in
    let rd = c.in-Li.rd in
    let o = c.args.object.now in
    let made = c.hold_constant in
    let fits : InstrFits (length o.banks) (Li rd value) = subst
    (InstrFits (length o.banks)) c.in-Li.is c.requires.operands in
    let word : IsWord value = fits.1 in
    let same : to_z w64 (of_z w64 value) ≡ value = search (rules, wraps) in
    rw c.in-Li.is (subst (λ (z : ℤ). OnOk made.result
    (HoldsBehind o c.args.values.now c.args.state.now (Li rd z) made.new.values made.new.state)) same (made.ensures o))

pub returns-in-Alu : goal.returns-in-Alu
returns-in-Alu c = rw c.in-Alu.is (c.hold_operation.ensures c.args.object.now)

pub returns-in-Idb : goal.returns-in-Idb
returns-in-Idb c =
    rw c.in-Idb.is
    (c.hold_block_number.ensures c.args.object.now c.args.values.now c.requires.table c.requires.fits)

pub returns-in-Nop : goal.returns-in-Nop
unfolding held_behind
returns-in-Nop c = same-behind _ _ _ _ c.requires.table c.requires.fits (rw c.in-Nop.is refl)

pub returns-in-Halt : goal.returns-in-Halt
unfolding held_behind
returns-in-Halt c = same-behind _ _ _ _ c.requires.table c.requires.fits (rw c.in-Halt.is refl)

pub returns-in-Stb : goal.returns-in-Stb
unfolding held_behind
returns-in-Stb c = same-behind _ _ _ _ c.requires.table c.requires.fits (rw c.in-Stb.is refl)

pub returns-in-Stw : goal.returns-in-Stw
unfolding held_behind
returns-in-Stw c = same-behind _ _ _ _ c.requires.table c.requires.fits (rw c.in-Stw.is refl)

pub returns-in-Jmp : goal.returns-in-Jmp
unfolding held_behind
returns-in-Jmp c = same-behind _ _ _ _ c.requires.table c.requires.fits (rw c.in-Jmp.is refl)

pub returns-in-Br : goal.returns-in-Br
unfolding held_behind
returns-in-Br c = same-behind _ _ _ _ c.requires.table c.requires.fits (rw c.in-Br.is refl)
