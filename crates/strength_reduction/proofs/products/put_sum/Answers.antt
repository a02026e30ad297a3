use Rattle.std.proofs.Common.{◌++◌, arith}
use Rattle.strength_reduction.specs.Prelude.{sum_steps, code_of}
use Rattle.strength_reduction.proofs.Codes.{sum_more, sum_all}
use Rattle.strength_reduction.proofs.products.put_sum.Goals as goal

pub loop-i-preserved : goal.loop-i-preserved
loop-i-preserved c = (
  omega arith,
  sum_more (c.args.code.now.items ++ code_of c.args.to (sum_steps c.args.sum c.args.bits.now)) c.loop-i.code.items
      c.put_term.new.code.items c.args.to c.loop-i.held c.sum_register-next.result c.args.bits.now c.loop-i.i
      c.loop-i.invariant.1 c.loop-i-test.true c.sum_register-next.ensures.value c.in_ok-put_term.ensures,
)

pub returns : goal.returns
returns c =
    sum_all (c.args.code.now.items ++ code_of c.args.to (sum_steps c.args.sum c.args.bits.now)) c.loop-i.code.items
    c.args.to c.loop-i.held c.args.bits.now c.loop-i.i c.loop-i.invariant.1 c.loop-i-test.false
