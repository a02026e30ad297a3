use Rattle.src_tree.specs.Prelude.{expr_tree, SetElement}
use Rattle.code_gen.proofs.EmittedParts.{puts-short, element-short}
use Rattle.code_gen.proofs.statements.put_element.Goals as goal

pub returns : goal.returns
returns c =
    puts-short c.args.emitter.now (SetElement c.args.name.now (expr_tree c.args.index.now) (expr_tree c.args.value.now)) c.args.out.now
    c.put_set_element.new.out c.put_set_element.result
    (element-short c.args.emitter.now c.args.name.now (expr_tree c.args.index.now) (expr_tree c.args.value.now) c.args.out.now
    c.put_set_element.new.out)
    c.put_set_element.ensures.emitted c.put_set_element.ensures.words
