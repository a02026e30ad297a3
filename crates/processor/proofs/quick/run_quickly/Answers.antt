use Rattle.std.proofs.Common.{◌<◌, None, Some, get_or, length, refl, sym, ◌∙◌, subst, arith}
use Rattle.std.proofs.lemmas.Option.{slice_get-get_or}
use Rattle.lt_isa.specs.declared.instructions.Instr.TheVariants.{Nop}
use Rattle.lt_isa.specs.Prelude.{State}
use Rattle.lt_isa.proofs.Steps.{instruction-fits}
use Rattle.processor.specs.declared.flat.Flat.TheVariants.{Access}
use Rattle.processor.specs.Prelude.{IsFlatForm, instr_of, PassesQuickly, StandsForStep, state_at, Pad}
use Rattle.processor.proofs.FlatCode.{flat-fits, flat-left, flat-passes, left-here}
use Rattle.processor.proofs.QuickRuns.{came-none, came-on}
use Rattle.processor.proofs.quick.run_quickly.Goals as goal

pub quick-init : goal.quick-init
quick-init c = record {
  alike = came-none c.args.object.now c.args.cycles c.args.registers.now c.args.pad.now.slots c.args.from;
  words = refl;
  later = omega arith;
  far = c.requires.far;
}

pub pass_quickly-requires-clause-fits : goal.pass_quickly-requires-clause-fits
pass_quickly-requires-clause-fits c =
    let o = c.args.object.now in
    let there : c.quick.now.place < length o.code = omega (arith, c.if-now-flats.false, c.requires.flat.count) in
    flat-fits (length o.banks) (get_or c.args.flats.now c.quick.now.place Access) (get_or o.code c.quick.now.place Nop)
    (c.requires.flat.each c.quick.now.place c.if-now-flats.false)
    (instruction-fits o c.code.ensures.in_range c.quick.now.place (get_or o.code c.quick.now.place Nop)
    (slice_get-get_or o.code c.quick.now.place Nop there))

pub quick-preserved : goal.quick-preserved
quick-preserved c =
    let o = c.args.object.now in
    let f = get_or c.args.flats.now c.quick.now.place Access in
    let there : c.quick.now.place < length o.code = omega (arith, c.if-now-flats.false, c.requires.flat.count) in
    let stands : IsFlatForm f (get_or o.code c.quick.now.place Nop) =
    c.requires.flat.each c.quick.now.place c.if-now-flats.false in
    let flat_passes : PassesQuickly o (instr_of f) c.quick.registers c.quick.pad c.quick.now
    (Some c.in-Some.next) c.pass_quickly.new.registers c.pass_quickly.new.pad =
    subst (λ next. PassesQuickly o (instr_of f) c.quick.registers c.quick.pad c.quick.now next
    c.pass_quickly.new.registers
    c.pass_quickly.new.pad) c.in-Some.is c.pass_quickly.ensures in
    let passes =
    flat-passes o f (get_or o.code c.quick.now.place Nop) c.quick.registers c.quick.pad c.quick.now c.in-Some.next
    c.pass_quickly.new.registers c.pass_quickly.new.pad stands flat_passes in
    let later : c.quick.now.cycle < c.in-Some.next.cycle = passes.1 in
    record {
      alike =
          came-on o c.code.ensures.in_range c.args.cycles c.args.registers.now c.args.pad.now.slots c.args.from
          c.quick.registers c.quick.pad c.quick.now Nop
          c.pass_quickly.new.registers c.pass_quickly.new.pad c.in-Some.next c.quick.invariant.alike there
          (omega arith) passes;
      words = passes.0 ∙ c.quick.invariant.words;
      later = omega arith;
      far = passes.2;
    }

pub returns-in-None-clause-left : goal.returns-in-None-clause-left
returns-in-None-clause-left c = λ early banks.
    let o = c.args.object.now in
    let f = get_or c.args.flats.now c.quick.now.place Access in
    let there : c.quick.now.place < length o.code = omega (arith, c.if-now-flats.false, c.requires.flat.count) in
    let stands : IsFlatForm f (get_or o.code c.quick.now.place Nop) =
    c.requires.flat.each c.quick.now.place c.if-now-flats.false in
    let kept : PassesQuickly o (instr_of f) c.quick.registers c.quick.pad c.quick.now None
    c.pass_quickly.new.registers c.pass_quickly.new.pad =
    subst (λ next. PassesQuickly o (instr_of f) c.quick.registers c.quick.pad c.quick.now next
    c.pass_quickly.new.registers
    c.pass_quickly.new.pad) c.in-None.is c.pass_quickly.ensures in
    let s : State = state_at c.quick.registers c.quick.pad.slots banks c.quick.now in
    let left : StandsForStep o s =
    left-here o s Nop there (flat-left o s f (get_or o.code c.quick.now.place Nop) stands (kept.2 banks)) in
    subst (λ registers. StandsForStep o (state_at registers c.pass_quickly.new.pad.slots banks c.quick.now))
    (sym kept.0)
    (subst (λ (pad : Pad). StandsForStep o (state_at c.quick.registers pad.slots banks c.quick.now)) (sym kept.1) left)
