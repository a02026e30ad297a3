use Rattle.src_tree.specs.Prelude.{expr_tree, SetVariable}
use Rattle.code_gen.proofs.EmittedParts.{puts-short, variable-short}
use Rattle.code_gen.proofs.statements.put_variable.Goals as goal

pub returns : goal.returns
returns c =
    puts-short c.args.emitter.now (SetVariable c.args.name.now (expr_tree c.args.value.now)) c.args.out.now
    c.put_set_variable.new.out c.put_set_variable.result
    (variable-short c.args.emitter.now c.args.name.now (expr_tree c.args.value.now) c.args.out.now
    c.put_set_variable.new.out)
    c.put_set_variable.ensures.emitted c.put_set_variable.ensures.words
