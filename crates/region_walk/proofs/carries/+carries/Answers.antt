use Rattle.std.proofs.Common.{◌≡◌, ℕ, ◌+◌, ◌-◌, ◌∙◌, ℤ, Some, length, ap, subst, sym, arith}
use Rattle.lt_isa.specs.declared.instructions.Instr.TheVariants.{Br}
use Rattle.lt_isa.specs.Prelude.{InstrFits}
use Rattle.lt_isa.proofs.Offsets.{handed_on}
use Rattle.lt_isa.proofs.Steps.{instruction-fits}
use Rattle.trace_patterns.specs.Prelude.{Arms, shape, SymState, common, CarriesTo, CarriesOver}
use Rattle.trace_patterns.proofs.Shapes.{IsRegion, shape-arms}
use Rattle.region_walk.specs.Prelude.{sym_of, StateIsReady, IsLedOver}
use Rattle.region_walk.proofs.TableGrowth.{keeps-then}
use Rattle.region_walk.proofs.Numbered.{sym_of-keeps}
use Rattle.region_walk.proofs.CommonStates.{sym_of-common}
use Rattle.region_walk.proofs.WalkSteps.{read-at}
use Rattle.region_walk.proofs.CarriedOn.{leads-then, along-leads, branch-leads, second-unshaped, both-over, arm-carries, ready-more, ready-grown, alike-ready}
use Rattle.region_walk.proofs.carries.+carries.Goals.{carry_over-In-Arms}
use Rattle.region_walk.proofs.carries.+carries.Goals as goal

pub carry_to-loop-place-preserved : goal.carry_to-loop-place-preserved
carry_to-loop-place-preserved t c =
    let l = c.loop-place in
    leads-then c.args.arm.now.object.now c.args.arm.now.depth c.args.arm.now.end c.args.start l.place c.in-Reaches.next c.args.values.now
    l.values c.carry_on.new.values c.args.state.now l.state c.carry_on.new.state l.invariant c.in-Reaches.ensures.0

pub carry_to-returns-in-Unshaped : goal.carry_to-returns-in-Unshaped
carry_to-returns-in-Unshaped t c =
    let l = c.loop-place in
    record {
      nothing = λ u h. c.in-Unshaped.ensures.nothing u (l.invariant.alone u h);
      keeps = keeps-then c.args.values.now l.values c.carry_on.new.values l.invariant.keeps c.in-Unshaped.ensures.keeps;
    }

pub carry_on-returns-in-Ok : goal.carry_on-returns-in-Ok
carry_on-returns-in-Ok t c =
    let o = c.args.arm.now.object.now in (
      along-leads o c.args.arm.now.depth c.args.arm.now.end c.args.place c.args.values.now c.hold_behind.new.values c.args.state.now
          c.hold_behind.new.state _ c.requires.ready c.requires.order
          (read-at o c.code.result.now c.args.place c.code.ensures.value (omega arith)) c.in-Goes.ensures
          c.in-Ok.ensures,
      omega arith,
    )

pub carry_on-returns-in-Branches : goal.carry_on-returns-in-Branches
carry_on-returns-in-Branches t c =
    let o = c.args.arm.now.object.now in
    let d = c.args.arm.now.depth in
    let end = c.args.arm.now.end in
    let old = c.args.values.now in
    let s = c.args.state.now in
    let offset = c.in-Branches.offset in
    let here = c.in-Branches.ensures in
    let at = read-at o c.code.result.now c.args.place c.code.ensures.value (omega arith) ∙ ap Some here.3 in
    let i = Br here.0 here.1 here.2 offset in
    let fits : InstrFits (length o.banks) i = instruction-fits o c.requires.arm.range c.args.place i at in
    branch-leads o d end c.args.place offset old c.carry_over.new.values s c.carry_over.new.state
    c.carry_over.result c.requires.order (record {
      cmp = here.0;
      ra = here.1;
      rb = here.2;
      at = at;
    })
    (subst (λ (z : ℤ). IsLedOver o d end c.args.place z old s c.carry_over.result c.carry_over.new.values
    c.carry_over.new.state) (handed_on offset fits.2) c.carry_over.ensures)

-- the arms that were found are the arms of the branch
arms : (t : ℕ) (c : carry_over-In-Arms t)
    → shape c.args.arm.now.object.now c.args.arm.now.depth c.args.arm.now.end c.args.place c.args.offset ≡ Arms c.in-Arms.second c.in-Arms.join
arms t c =
    ap (shape c.args.arm.now.object.now c.args.arm.now.depth c.args.arm.now.end c.args.place)
    (sym (handed_on c.args.offset c.requires.offset))
    ∙ sym c.in-Arms.ensures

region : (t : ℕ) (c : carry_over-In-Arms t)
    → IsRegion c.args.arm.now.object.now c.args.arm.now.depth c.args.arm.now.end c.args.place c.args.offset c.in-Arms.second c.in-Arms.join
region t c = shape-arms _ _ _ _ _ _ _ (arms t c)

pub carry_over-overflow_sub-first_arm : goal.carry_over-overflow_sub-first_arm
carry_over-overflow_sub-first_arm t c =
    let around = region t (goal.at.carry_over-overflow_sub-first_arm t c).In-Arms in
    omega (arith, around.first)

pub carry_over-carry_to-requires : goal.carry_over-carry_to-requires
carry_over-carry_to-requires t c =
    let around = region t (goal.at.carry_over-carry_to-requires t c).In-Arms in (
      omega (arith, around.first, around.second, around.ends),
      (
        record {
          range = c.requires.arm.range;
          inside = omega (arith, around.first, around.second, around.in_code);
          around = omega (arith, around.around);
        },
        (
          c.requires.bare,
          (
            ready-more c.args.place (c.args.place + 1) c.args.values.now c.args.state.now
                (omega arith) c.requires.ready,
            omega (arith, around.first),
          ),
        ),
      ),
    )

pub carry_over-carry_to-requires-in-Reaches : goal.carry_over-carry_to-requires-in-Reaches
carry_over-carry_to-requires-in-Reaches t c =
    let around = region t (goal.at.carry_over-carry_to-requires-in-Reaches t c).In-Arms in
    let old = c.args.values.now in
    let mid = c.carry_to.new.values in
    let walked = c.in-Reaches.ensures in (
      omega (arith, around.first, around.second, around.ends),
      (
        record {
          range = c.requires.arm.range;
          inside = omega (arith, around.in_code);
          around = omega (arith, around.around);
        },
        (
          c.requires.bare,
          (
            ready-grown c.args.place c.in-Arms.second old mid c.args.state.now c.carry_to.new.state walked.0.keeps
                c.requires.ready
                (ready-more c.in-Reaches.field-0 c.in-Arms.second mid c.carry_to.new.state
                (omega (arith, walked.1, around.first)) walked.0.ready),
            omega (arith, around.second),
          ),
        ),
      ),
    )

pub carry_over-returns-in-Unshaped-carry_to : goal.carry_over-returns-in-Unshaped-carry_to
carry_over-returns-in-Unshaped-carry_to t c =
    let past = goal.at.carry_over-returns-in-Unshaped-carry_to t c in
    let o = c.args.arm.now.object.now in
    let old = c.args.values.now in
    let mid = c.carry_to.new.values in
    let s = c.args.state.now in
    let join = c.in-Arms.join in
    let same = sym_of-keeps old mid c.in-Reaches.ensures.0.keeps s c.requires.ready.state in
    let none = c.in-Unshaped-carry_to.ensures in
    record {
      nothing = second-unshaped o c.args.arm.now.depth c.args.arm.now.end c.args.place c.args.offset (sym_of old s) c.in-Arms.second
          join c.requires.bare (arms t past.In-Arms)
          (λ u h. none.nothing u
          (subst (λ (x : SymState). CarriesTo o (c.args.arm.now.depth + 1) join c.in-Arms.second x u) (sym same) h));
      keeps = keeps-then old mid c.carry_to-in-Reaches.new.values c.in-Reaches.ensures.0.keeps none.keeps;
    }

pub carry_over-returns-in-Reaches-carry_to : goal.carry_over-returns-in-Reaches-carry_to
carry_over-returns-in-Reaches-carry_to t c =
    let past = goal.at.carry_over-returns-in-Reaches-carry_to t c in
    let around = region t past.In-Arms in
    let o = c.args.arm.now.object.now in
    let d = c.args.arm.now.depth in
    let p = c.args.place in
    let second = c.in-Arms.second in
    let join = c.in-Arms.join in
    let old = c.args.values.now in
    let s = c.args.state.now in
    let mid = c.carry_to.new.values in
    let one = c.carry_to.new.state in
    let new = c.carry_to-in-Reaches.new.values in
    let two = c.carry_to-in-Reaches.new.state in
    let both = c.keep_common.new.self in
    let h = c.in-Reaches.ensures in
    let g = c.in-Reaches-carry_to.ensures in
    let same = sym_of-keeps old mid h.0.keeps s c.requires.ready.state in
    let left = arm-carries o (d + 1) (second - 1) (p + 1) c.in-Reaches.field-0 old mid s one h.0 h.1 in
    let right = subst (λ (x : SymState). CarriesTo o (d + 1) join second x (sym_of new two)) same
    (arm-carries o (d + 1) join second c.in-Reaches-carry_to.field-0 mid new s two g.0 g.1) in
    let ready : StateIsReady join new two =
    subst (λ (q : ℕ). StateIsReady q new two) g.1 g.0.ready in
    let first : StateIsReady join new one = ready-grown c.in-Reaches.field-0 join mid new one two g.0.keeps h.0.ready
    ready in
    let made = sym_of-common new ready.table one two both first.state ready.state c.keep_common.ensures in
    let kept = sym_of-keeps mid new g.0.keeps one h.0.ready.state in
    record {
      behind = omega (arith, around.first, around.second);
      within = around.ends;
      inside = around.in_code;
      ready = alike-ready join new one two both first c.keep_common.ensures;
      keeps = keeps-then old mid new h.0.keeps g.0.keeps;
      over = subst (λ (x : SymState). CarriesOver o d c.args.arm.now.end p c.args.offset (sym_of old s) join x) (sym made)
          (subst (λ (x : SymState). CarriesOver o d c.args.arm.now.end p c.args.offset (sym_of old s) join
          (common x (sym_of new two))) (sym kept)
          (both-over o d c.args.arm.now.end p c.args.offset (sym_of old s) second join c.requires.bare (arms t past.In-Arms)
          (sym_of mid one) (sym_of new two) left right));
    }
