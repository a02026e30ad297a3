use Rattle.std.proofs.Common.{◌≡◌, [], take, arith}
use Rattle.std.proofs.lemmas.List.{take_more_set, take_all, length-set}
use Rattle.std.proofs.lemmas.Result.{err_from_is_err_and}
use Rattle.lt_isa.specs.Prelude.{is_slot_claim}
use Rattle.object_file.specs.Prelude.{items_at, field_at, slots_at}
use Rattle.object_file.proofs.Loops.{goes_on, ends, is_done}
use Rattle.object_file.proofs.notes.slots.Goals as goal

pub returns-in_err-claim : goal.returns-in_err-claim
unfolding slots_at
returns-in_err-claim c =
    let p = err_from_is_err_and c.from_residual.result c.from_residual.ensures.1 in
    rw (p.1, p.2)
    (ends (λ before. field_at 1 c.args.all (is_slot_claim c.args.banks)) 8 c.loop-i.i (take c.loop-i.i c.loop-i.slots)
    c.loop-i.rest.now (items_at (λ before. field_at 1 c.args.all (is_slot_claim c.args.banks)) 8 [] c.args.bytes.now) _
    c.loop-i-test.true c.in_err-claim.ensures c.loop-i.invariant.1)

pub loop-i-preserved : goal.loop-i-preserved
loop-i-preserved c = (
  omega (arith, length-set c.loop-i.slots c.loop-i.i c.in_ok-claim.claim, c.loop-i.invariant.0),
  rw (take_more_set c.loop-i.slots c.loop-i.i c.in_ok-claim.claim
      (omega (arith, c.loop-i.invariant.0, c.loop-i-test.true)))
      (goes_on (λ before. field_at 1 c.args.all (is_slot_claim c.args.banks)) 8 c.loop-i.i
      (take c.loop-i.i c.loop-i.slots) c.loop-i.rest.now
      (items_at (λ before. field_at 1 c.args.all (is_slot_claim c.args.banks)) 8 [] c.args.bytes.now)
      c.in_ok-claim.claim c.in_ok-claim.after.now c.loop-i-test.true c.in_ok-claim.ensures c.loop-i.invariant.1),
)

pub returns : goal.returns
unfolding slots_at
returns c =
    let whole : take c.loop-i.i c.loop-i.slots ≡ c.loop-i.slots =
    take_all c.loop-i.i c.loop-i.slots (omega (arith, c.loop-i.invariant.0, c.loop-i-test.false)) in
    let done =
    is_done (λ before. field_at 1 c.args.all (is_slot_claim c.args.banks)) 8 c.loop-i.i (take c.loop-i.i c.loop-i.slots)
    c.loop-i.rest.now (items_at (λ before. field_at 1 c.args.all (is_slot_claim c.args.banks)) 8 [] c.args.bytes.now)
    c.loop-i-test.false c.loop-i.invariant.1 in
    rw whole at done
