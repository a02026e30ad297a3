use Rattle.std.proofs.Common.{◌+◌, ◌≤◌, length, arith, sym, subst}
use Rattle.src_lexer.proofs.TokenByToken.{Stands, few_enough, skips_from, takes_from, fault_from}
use Rattle.src_lexer.proofs.lexer.read_from.Goals as goal

pub overflow_add-end : goal.overflow_add-end
overflow_add-end c =
    let s = skips_from c.loop-end.invariant.0 c.loop-end-test.true c.rest.ensures
    (rw c.in-Ok-Skipped.field-0-is at c.in-Ok-Skipped.ensures.piece) in
    omega (arith, s.inside)

pub loop-end-preserved-in-Ok-Skipped : goal.loop-end-preserved-in-Ok-Skipped
loop-end-preserved-in-Ok-Skipped c = (
  skips_from c.loop-end.invariant.0 c.loop-end-test.true c.rest.ensures
      (rw c.in-Ok-Skipped.field-0-is at c.in-Ok-Skipped.ensures.piece),
  c.loop-end.invariant.1,
)

pub overflow_cast-token-in-Ok-Known : goal.overflow_cast-token-in-Ok-Known
overflow_cast-token-in-Ok-Known c =
    let s = takes_from c.loop-end.invariant.0 c.loop-end-test.true c.rest.ensures
    (rw c.in-Ok-Known.field-0-is at c.in-Ok-Known.ensures.piece) in
    omega (arith, s.inside)

pub overflow_add-end-in-Ok-Known : goal.overflow_add-end-in-Ok-Known
overflow_add-end-in-Ok-Known c =
    let s = takes_from c.loop-end.invariant.0 c.loop-end-test.true c.rest.ensures
    (rw c.in-Ok-Known.field-0-is at c.in-Ok-Known.ensures.piece) in
    omega (arith, s.inside)

pub loop-end-preserved : goal.loop-end-preserved
loop-end-preserved c = (
  subst (λ z. Stands c.args.text.now c.args.at (c.loop-end.end + c.in-Ok-Known.size) z)
      (sym c.in_ok-push-in-Ok-Known.ensures.items)
      (takes_from c.loop-end.invariant.0 c.loop-end-test.true c.rest.ensures
      (rw c.in-Ok-Known.field-0-is at c.in-Ok-Known.ensures.piece)),
  subst (λ z. length z ≤ c.args.most) (sym c.in_ok-push-in-Ok-Known.ensures.items)
      (few_enough c.loop-end.tokens.items _ (omega (arith, c.len.ensures, c.loop-end.tokens.ok, c.if-len-most.true))),
)

pub returns-in-Err-clause-fault : goal.returns-in-Err-clause-fault
returns-in-Err-clause-fault c =
    fault_from c.in-Err.error c.loop-end.invariant.0 c.loop-end-test.true c.rest.ensures c.in-Err.ensures.fault
