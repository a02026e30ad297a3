use Rattle.std.proofs.Common.{[]}
use Rattle.std.proofs.lemmas.Result.{err_from_is_err_and}
use Rattle.object_file.specs.Prelude.{items_at, instruction_at}
use Rattle.object_file.proofs.AtOnce.{behind_whole}
use Rattle.object_file.proofs.Loops.{goes_on, ends, is_done}
use Rattle.object_file.proofs.instructions.instruction_list.Goals.{in-Some+in_ok-push-in-Some, in-None+in_ok-instr-in-None+in_ok-push-in-None}
use Rattle.object_file.proofs.instructions.instruction_list.Goals as goal

pub returns-in_err-instr-in-None : goal.returns-in_err-instr-in-None
returns-in_err-instr-in-None c =
    let p =
    err_from_is_err_and c.from_residual-in_err-instr-in-None.result c.from_residual-in_err-instr-in-None.ensures.1 in
    rw (p.1, p.2) (ends (λ before. instruction_at c.args.banks c.args.all) c.args.count c.loop.counter c.loop.code.items
    c.loop.rest.now (items_at (λ before. instruction_at c.args.banks c.args.all) c.args.count [] c.args.bytes.now) _
    c.loop-test.true c.in_err-instr-in-None.ensures c.loop.invariant)

pub loop-preserved : goal.loop-preserved
loop-preserved c = elim c.match-whole_instruction.branch [
  | in-Some+in_ok-push-in-Some w ↦ rw (w.code-is, w.rest-is, w.in_ok-push-in-Some.ensures.items)
      (goes_on (λ before. instruction_at c.args.banks c.args.all) c.args.count c.loop.counter c.loop.code.items
      c.loop.rest.now (items_at (λ before. instruction_at c.args.banks c.args.all) c.args.count [] c.args.bytes.now)
      w.in-Some.instr _ c.loop-test.true
      (behind_whole c.args.all c.args.banks c.loop.rest.now w.in-Some.instr (w.in-Some.ensures.read c.args.all))
      c.loop.invariant)
  | in-None+in_ok-instr-in-None+in_ok-push-in-None w ↦ rw (w.code-is, w.rest-is, w.in_ok-push-in-None.ensures.items)
      (goes_on (λ before. instruction_at c.args.banks c.args.all) c.args.count c.loop.counter c.loop.code.items
      c.loop.rest.now (items_at (λ before. instruction_at c.args.banks c.args.all) c.args.count [] c.args.bytes.now)
      w.in_ok-instr-in-None.instr w.in_ok-instr-in-None.after.now c.loop-test.true w.in_ok-instr-in-None.ensures
      c.loop.invariant)
]

pub returns : goal.returns
returns c =
    is_done (λ before. instruction_at c.args.banks c.args.all) c.args.count c.loop.counter c.loop.code.items
    c.loop.rest.now (items_at (λ before. instruction_at c.args.banks c.args.all) c.args.count [] c.args.bytes.now)
    c.loop-test.false c.loop.invariant
