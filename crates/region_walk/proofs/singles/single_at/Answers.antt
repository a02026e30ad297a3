use Rattle.std.proofs.Common.{◌≡◌, ◌∙◌, length, ℤ, to_z, of_z, w64, refl, sym, ap, subst, arith, rules}
use Rattle.std.specs.Prelude.{Ok, OnOk}
use Rattle.std.proofs.lemmas.Int.{wraps}
use Rattle.lt_isa.proofs.Offsets.{handed_on}
use Rattle.lt_isa.specs.declared.instructions.Instr.TheVariants.{Nop, Li, Alu, Idb, Ldw, Stw, Br}
use Rattle.lt_isa.specs.Prelude.{InstrFits, IsOffset}
use Rattle.gr_word.specs.Prelude.{IsWord}
use Rattle.trace_patterns.specs.Prelude.{jump_refused, single, held_behind}
use Rattle.region_walk.specs.Prelude.{HoldsBehind, if_bound, if_stored, IsBranch}
use Rattle.region_walk.proofs.HeldBehind.{same-behind}
use Rattle.region_walk.proofs.SingleSteps.{quiet-single, bound-single, stored-single, load-single, store-single, alu-few, word-few}
use Rattle.region_walk.proofs.singles.single_at.Goals as goal

pub returns-in-Nop : goal.returns-in-Nop
unfolding single held_behind
returns-in-Nop c =
    let o = c.args.object.now in
    let old = c.args.values.now in
    let s = c.args.state.now in
    rw (c.quiet.ensures, c.in-Nop.is)
    (quiet-single o old old s s Nop (Ok tt) refl (omega arith)
    (same-behind o old s Nop c.requires.table c.requires.fits refl))

pub returns-in-Halt : goal.returns-in-Halt
unfolding single
returns-in-Halt c = rw c.in-Halt.is refl

pub returns-in-Li : goal.returns-in-Li
unfolding single held_behind
returns-in-Li c =
    let value = c.in-Li.value in
    let rd = c.in-Li.rd in
    let o = c.args.object.now in
    let old = c.args.values.now in
    let new = c.hold_constant-held.new.values in
    let s = c.args.state.now in
    let behind = c.hold_constant-held.new.state in
    let held = c.hold_constant-held.result in
    let fits : InstrFits (length o.banks) (Li rd value) = subst
    (InstrFits (length o.banks)) c.in-Li.is c.requires.operands in
    let word : IsWord value = fits.1 in
    let same : to_z w64 (of_z w64 value) ≡ value = search (rules, wraps) in
    rw (c.quiet-in-Li.ensures, c.in-Li.is)
    (quiet-single o old new s behind (Li rd value) held refl (omega arith)
    (subst (λ (z : ℤ). OnOk held (HoldsBehind o old s (Li rd z) new behind)) same (c.hold_constant-held.ensures o)))

pub returns-in-Alu : goal.returns-in-Alu
unfolding single held_behind
returns-in-Alu c =
    let o = c.args.object.now in
    let op = c.in-Alu.op in
    let rd = c.in-Alu.rd in
    let ra = c.in-Alu.ra in
    let rb = c.in-Alu.rb in
    rw (c.quiet-in-Alu.ensures, c.in-Alu.is)
    (quiet-single o c.args.values.now c.hold_operation-held.new.values c.args.state.now
    c.hold_operation-held.new.state (Alu op rd ra rb) c.hold_operation-held.result refl
    (alu-few o c.requires.range op rd ra rb) (c.hold_operation-held.ensures o))

pub returns-in-Ldb : goal.returns-in-Ldb
returns-in-Ldb c =
    let k = c.in-Ldb.slot in
    rw (c.loaded.ensures, c.in-Ldb.is)
    (load-single c.args.object.now c.args.values.now c.bind_block-held.new.values c.args.state.now
    c.bind_block-held.new.state k c.in-Ldb.bank c.in-Ldb.reg c.bind_block-held.result c.slot.result c.requires.fits
    (search rules) c.slot.ensures c.bind_block-held.ensures)

pub returns-in-Stb : goal.returns-in-Stb
returns-in-Stb c =
    rw (c.stored.ensures, c.in-Stb.is)
    (store-single c.args.object.now c.args.values.now c.args.state.now c.requires.table c.requires.fits c.in-Stb.slot
    c.slot-in-Stb.result c.slot-in-Stb.ensures)

pub returns-in-Idb : goal.returns-in-Idb
unfolding single held_behind
returns-in-Idb c =
    let o = c.args.object.now in
    let old = c.args.values.now in
    let s = c.args.state.now in
    let rd = c.in-Idb.rd in
    let k = c.in-Idb.slot in
    let bound = c.slot-bound.result in
    rw (c.if_bound.ensures ∙ ap (if_bound bound) c.quiet-in-Idb.ensures, c.in-Idb.is)
    (bound-single o old old s c.hold_block_number.new.state (Idb rd k) (Ok tt) k bound c.slot-bound.ensures refl
    (omega arith) (c.hold_block_number.ensures o old c.requires.table c.requires.fits))

pub returns-in-Ldw : goal.returns-in-Ldw
unfolding single held_behind
returns-in-Ldw c =
    let o = c.args.object.now in
    let rd = c.in-Ldw.rd in
    let k = c.in-Ldw.slot in
    let bound = c.slot-bound-in-Ldw.result in
    rw (c.if_bound-in-Ldw.ensures ∙ ap (if_bound bound) c.quiet-in-Ldw.ensures, c.in-Ldw.is)
    (bound-single o c.args.values.now c.hold_word-held.new.values c.args.state.now c.hold_word-held.new.state
    (Ldw rd k c.in-Ldw.off) c.hold_word-held.result k bound c.slot-bound-in-Ldw.ensures refl
    (word-few o c.requires.range) c.hold_word-held.ensures)

pub returns-in-Stw : goal.returns-in-Stw
unfolding single held_behind
returns-in-Stw c =
    let o = c.args.object.now in
    let old = c.args.values.now in
    let s = c.args.state.now in
    let k = c.in-Stw.slot in
    let bound = c.slot-in-Stw.result in
    let stw = Stw c.in-Stw.rs k c.in-Stw.off in
    rw (c.if_stored.ensures ∙ ap (if_stored bound) c.quiet-in-Stw.ensures, c.in-Stw.is)
    (stored-single o old old s s stw (Ok tt) k bound c.slot-in-Stw.ensures refl (word-few o c.requires.range)
    (same-behind o old s stw c.requires.table c.requires.fits refl))

pub returns-in-Jmp : goal.returns-in-Jmp
unfolding single
returns-in-Jmp c =
    let offset = c.in-Jmp.offset in
    let fits : IsOffset offset = subst
    (InstrFits (length c.args.object.now.banks)) c.in-Jmp.is c.requires.operands in
    rw (c.in-Jmp.is, c.jump_refused.ensures ∙ ap jump_refused (handed_on offset fits)) refl

pub returns-in-Br : goal.returns-in-Br
unfolding single
returns-in-Br c =
    let o = c.args.object.now in
    let old = c.args.values.now in
    let s = c.args.state.now in
    let offset = c.in-Br.offset in
    let fits : InstrFits (length o.banks) (Br c.in-Br.cmp c.in-Br.ra c.in-Br.rb offset) = subst
    (InstrFits (length o.banks)) c.in-Br.is c.requires.operands in
    let small : IsOffset offset = fits.2 in
    subst (λ (z : ℤ). IsBranch o old s c.args.instr z old s) (sym (handed_on offset small)) (record {
      branches = rw c.in-Br.is refl;
      offset_fits = small;
      nodes = refl;
      state = refl;
    })
