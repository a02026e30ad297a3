use Rattle.std.proofs.Common.{◌≡◌, ◌≤◌, ◌∙◌, length, Some, None, refl, sym, ap, arith}
use Rattle.symbolic_values.specs.Prelude.{tree_of}
use Rattle.trace_patterns.specs.Prelude.{named_block, RamSlot, EramSlot}
use Rattle.region_walk.specs.Prelude.{FindsNumber, known_tree, number_in}
use Rattle.region_walk.specs.declared.states.Origin.TheVariants.{Loaded}
use Rattle.region_walk.specs.declared.states.Slot.TheVariants.{Any, Ram, Eram, Oram}
use Rattle.region_walk.proofs.TableGrowth.{gains-own}
use Rattle.region_walk.proofs.HeldBehind.{ldb-behind, oram-loaded, any-loaded, ram-loaded, eram-loaded}
use Rattle.region_walk.proofs.behind.bind_block.Goals.{In-Ok}
use Rattle.trace_patterns.specs.SymStates as trees
use Rattle.region_walk.proofs.behind.bind_block.Goals as goal

pub returns-then-is_oblivious : goal.returns-then-is_oblivious
returns-then-is_oblivious c =
    let o = c.args.object.now in
    let old = c.args.values.now in
    let s = c.args.state.now in
    let v = number_in s c.args.register in
    let operands = c.requires.operands in
    let few : length o.banks ≤ 10 = c.requires.range.bank_count.1 in
    rw c.bind.ensures
    (ldb-behind o old old s c.requires.fits c.args.slot c.args.bank c.args.register 0 v (Oram c.args.bank) refl
    (oram-loaded o c.args.bank (known_tree old v) (c.is_oblivious.ensures.oblivious c.if-is_oblivious.true))
    (omega arith) (gains-own old c.requires.table) (omega (arith, operands.1, few)))

pub returns-in-None : goal.returns-in-None
returns-in-None c =
    let o = c.args.object.now in
    let old = c.args.values.now in
    rw c.bind-in-None.ensures
    (ldb-behind o old old c.args.state.now c.requires.fits c.args.slot c.args.bank c.args.register 0 None Any
    (sym c.in-None.is ∙ c.number.ensures)
    (any-loaded o c.args.bank (c.is_oblivious.ensures.other c.if-is_oblivious.false)) (omega arith)
    (gains-own old c.requires.table) tt)

found : (c : In-Ok)
    → FindsNumber 2 c.args.values.now c.named.new.values
    (named_block c.args.object.now c.args.bank (tree_of c.args.values.now c.in-Some.number)) c.in-Ok.block
found c = rw (← c.banks.ensures.value) c.in-Ok.ensures

pub returns-then-is_plain : goal.returns-then-is_plain
returns-then-is_plain c =
    let h = found (goal.at.returns-then-is_plain c).In-Ok in
    let o = c.args.object.now in
    let old = c.args.values.now in
    let number = c.in-Some.number in
    rw c.bind-then-is_plain.ensures
    (ldb-behind o old c.named.new.values c.args.state.now c.requires.fits c.args.slot c.args.bank c.args.register 2
    (Some number) (Ram c.in-Ok.block Loaded) (sym c.in-Some.is ∙ c.number.ensures)
    (ram-loaded o c.args.bank (tree_of old number) (c.is_plain.ensures.plain c.if-is_plain.true)
    ∙ ap (λ t. RamSlot t trees.Loaded) (sym h.number.tree)) (omega arith) h.gains h.number.inside)

pub returns-else-is_plain : goal.returns-else-is_plain
returns-else-is_plain c =
    let h = found (goal.at.returns-else-is_plain c).In-Ok in
    let o = c.args.object.now in
    let old = c.args.values.now in
    let number = c.in-Some.number in
    let one : c.args.bank ≡ 1 =
    omega (arith, c.is_oblivious.ensures.other c.if-is_oblivious.false, c.is_plain.ensures.other c.if-is_plain.false) in
    rw c.bind-else-is_plain.ensures
    (ldb-behind o old c.named.new.values c.args.state.now c.requires.fits c.args.slot c.args.bank c.args.register 2
    (Some number) (Eram c.in-Ok.block) (sym c.in-Some.is ∙ c.number.ensures)
    (eram-loaded o c.args.bank (tree_of old number) one ∙ ap EramSlot (sym h.number.tree)) (omega arith) h.gains
    h.number.inside)
