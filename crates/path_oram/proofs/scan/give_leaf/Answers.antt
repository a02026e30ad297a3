use Rattle.std.proofs.Common.{◌≡◌, ◌+◌, suc, length, set, get_or, refl, sym, ap, ◌∙◌, subst, arith}
use Rattle.path_oram.specs.Prelude.{with_leaf}
use Rattle.path_oram.proofs.Slots.{changed_all, changed_before, changed_length, changed_none, changed_one}
use Rattle.path_oram.proofs.scan.give_leaf.Goals as goal

pub loop-place-init : goal.loop-place-init
loop-place-init c = record {
  slots = sym (changed_none (with_leaf c.args.block c.args.leaf) c.args.stash.now.items);
  capacity = refl;
}

pub loop-place-preserved : goal.loop-place-preserved
loop-place-preserved c =
    let change = with_leaf c.args.block c.args.leaf in
    let old = c.args.stash.now.items in
    let place = c.loop-place.place in
    let one : suc place ≡ place + 1 = omega arith in
    let long : length c.loop-place.stash.items ≡ length old =
    ap length c.loop-place.invariant.slots ∙ changed_length change old place in
    record {
      slots =
          ap (λ slot. set c.loop-place.stash.items place slot) c.given.ensures
          ∙ ap (λ l. set l place (change c.index.result.now)) c.loop-place.invariant.slots
          ∙ changed_one change old place c.index.result.now
          (omega (arith, long, c.loop-place-test.true, c.loop-place.auto.place-end, c.loop-place.stash.ok.0))
          (subst (λ l. c.index.result.now ≡ get_or l place c.index.result.now) c.loop-place.invariant.slots
          c.index.ensures)
          ∙ ap (changed_before change old) one;
      capacity = c.loop-place.invariant.capacity;
    }

pub returns-clause-slots : goal.returns-clause-slots
returns-clause-slots c =
    let change = with_leaf c.args.block c.args.leaf in
    let last : c.loop-place.place ≡ length c.args.stash.now.items =
    omega (
      arith,
      c.loop-place-test.false,
      c.loop-place.auto.place-end,
      c.len-place-end.ensures,
      c.args.stash.now.ok.0,
    ) in
    c.loop-place.invariant.slots ∙ ap (changed_before change c.args.stash.now.items) last
    ∙ changed_all change c.args.stash.now.items
