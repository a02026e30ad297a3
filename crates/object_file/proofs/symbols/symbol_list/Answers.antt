use Rattle.std.proofs.Common.{[], arith}
use Rattle.std.proofs.lemmas.Result.{err_from_is_err_and}
use Rattle.object_file.specs.Prelude.{items_at, symbol_at}
use Rattle.std.proofs.lemmas.List.Sums.{sum_by_push}
use Rattle.object_file.proofs.Loops.{goes_on, ends, is_done}
use Rattle.object_file.proofs.symbols.symbol_list.Goals as goal

pub returns-in_err-symbol : goal.returns-in_err-symbol
returns-in_err-symbol c =
    let p = err_from_is_err_and c.from_residual.result c.from_residual.ensures.1 in
    let here = rw c.deref.ensures.value at c.in_err-symbol.ensures.read in
    rw (p.1, p.2)
    (ends (symbol_at c.args.words c.args.banks.now c.args.all) c.args.count c.loop.counter c.loop.symbols.items
    c.loop.rest.now (items_at (symbol_at c.args.words c.args.banks.now c.args.all) c.args.count [] c.args.bytes.now) _
    c.loop-test.true here c.loop.invariant.1)

pub loop-preserved : goal.loop-preserved
loop-preserved c =
    let here = rw c.deref.ensures.value at c.in_ok-symbol.ensures.read in
    let known = rw c.deref.ensures.value at c.in_ok-symbol.ensures.named in (
      rw c.in_ok-push.ensures.items (omega (
        arith,
        sum_by_push (λ s. s.length) c.loop.symbols.items c.in_ok-symbol.symbol,
        c.saturating_sub-room.ensures,
        c.loop.invariant.0,
      )),
      rw c.in_ok-push.ensures.items (goes_on (symbol_at c.args.words c.args.banks.now c.args.all) c.args.count
          c.loop.counter c.loop.symbols.items c.loop.rest.now
          (items_at (symbol_at c.args.words c.args.banks.now c.args.all) c.args.count [] c.args.bytes.now)
          c.in_ok-symbol.symbol c.in_ok-symbol.after.now c.loop-test.true here c.loop.invariant.1),
      rw c.in_ok-push.ensures.items known,
    )

pub returns : goal.returns
returns c =
    is_done (symbol_at c.args.words c.args.banks.now c.args.all) c.args.count c.loop.counter c.loop.symbols.items
    c.loop.rest.now (items_at (symbol_at c.args.words c.args.banks.now c.args.all) c.args.count [] c.args.bytes.now)
    c.loop-test.false c.loop.invariant.1
