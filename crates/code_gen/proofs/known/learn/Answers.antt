use Rattle.std.proofs.Common.{length, sym, ap, ◌∙◌, eqb-true}
use Rattle.src_tree.specs.Prelude.{statement_of}
use Rattle.code_gen.proofs.AtStart.{after-empty}
use Rattle.code_gen.proofs.known.learn.Goals as goal

pub returns-then-is_empty : goal.returns-then-is_empty
returns-then-is_empty c =
    after-empty c.args.emitter.now.decls c.args.known.now.items (statement_of c.args.s.now)
    (ap length (sym c.as_slice.ensures.value)
    ∙ eqb-true (length c.as_slice.result.now) 0 (sym c.is_empty.ensures ∙ c.if-is_empty.true))
