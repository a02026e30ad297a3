use Rattle.std.proofs.Common.{◌++◌, false}
use Rattle.word_selection.specs.Prelude.{exchanges_steps, code_of}
use Rattle.word_selection.proofs.AppendedCode.{exchanges_more, exchanges_all}
use Rattle.word_selection.proofs.writes.put_exchanges.Goals as goal

pub loop-i-preserved : goal.loop-i-preserved
loop-i-preserved c =
    exchanges_more
    (c.args.code.now.items
    ++ code_of c.args.w.to (exchanges_steps c.args.w.effect c.args.w.size c.args.w.value 1 false c.args.slots.now))
    c.loop-i.code.items c.put_next_mask.new.code.items c.put_exchange.new.code.items c.args.w.to c.args.w.size c.args.w.value
    c.mask_register.result c.args.w.effect c.loop-i.turn c.args.slots.now c.loop-i.i c.loop-i.invariant
    c.loop-i-test.true c.in_ok-put_next_mask.ensures c.mask_register.ensures.value c.in_ok-put_exchange.ensures

pub returns : goal.returns
returns c =
    exchanges_all
    (c.args.code.now.items
    ++ code_of c.args.w.to (exchanges_steps c.args.w.effect c.args.w.size c.args.w.value 1 false c.args.slots.now))
    c.loop-i.code.items c.args.w.to c.args.w.size c.args.w.value c.args.w.effect c.loop-i.turn c.args.slots.now c.loop-i.i
    c.loop-i.invariant c.loop-i-test.false
