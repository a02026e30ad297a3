use Rattle.std.proofs.Common.{◌++◌}
use Rattle.word_selection.specs.Prelude.{choices_steps, code_of}
use Rattle.word_selection.proofs.AppendedCode.{choices_more, choices_all}
use Rattle.word_selection.proofs.reads.put_choices.Goals as goal

pub loop-i-preserved : goal.loop-i-preserved
loop-i-preserved c =
    choices_more (c.args.code.now.items ++ code_of c.args.to (choices_steps c.args.size 1 c.args.slots.now))
    c.loop-i.code.items c.put_choice.new.code.items c.args.to c.args.size c.left_register-left.result c.args.slots.now
    c.loop-i.i c.loop-i.invariant c.loop-i-test.true c.left_register-left.ensures.value c.in_ok-put_choice.ensures

pub returns : goal.returns
returns c =
    choices_all (c.args.code.now.items ++ code_of c.args.to (choices_steps c.args.size 1 c.args.slots.now))
    c.loop-i.code.items c.args.to c.args.size c.args.slots.now c.loop-i.i c.loop-i.invariant c.loop-i-test.false
