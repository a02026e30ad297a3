use Rattle.std.proofs.Common.{[], arith}
use Rattle.std.proofs.lemmas.Result.{err_from_is_err_and}
use Rattle.object_file.specs.Prelude.{items_at, bank_at}
use Rattle.object_file.proofs.Loops.{goes_on, ends, is_done}
use Rattle.object_file.proofs.header.bank_list.Goals as goal

pub returns-in_err-bank-clause-read : goal.returns-in_err-bank-clause-read
returns-in_err-bank-clause-read c =
    let p = err_from_is_err_and c.from_residual.result c.from_residual.ensures.1 in
    let here = rw c.deref.ensures.value at c.in_err-bank.ensures in
    rw (p.1, p.2) (ends (bank_at c.args.all) c.args.count c.loop.counter c.loop.banks.items c.loop.rest.now
    (items_at (bank_at c.args.all) c.args.count [] c.args.bytes.now) _ c.loop-test.true here c.loop.invariant.1)

pub loop-preserved : goal.loop-preserved
loop-preserved c =
    let here = rw c.deref.ensures.value at c.in_ok-bank.ensures in (
      omega (arith, c.in_ok-push.ensures.len, c.loop.invariant.0),
      rw c.in_ok-push.ensures.items (goes_on (bank_at c.args.all) c.args.count c.loop.counter c.loop.banks.items
          c.loop.rest.now (items_at (bank_at c.args.all) c.args.count [] c.args.bytes.now) c.in_ok-bank.bank
          c.in_ok-bank.after.now c.loop-test.true here c.loop.invariant.1),
    )

pub returns-clause-read : goal.returns-clause-read
returns-clause-read c =
    is_done (bank_at c.args.all) c.args.count c.loop.counter c.loop.banks.items c.loop.rest.now
    (items_at (bank_at c.args.all) c.args.count [] c.args.bytes.now) c.loop-test.false c.loop.invariant.1
