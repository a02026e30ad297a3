use Rattle.std.proofs.Common.{length, sym, ap, ◌∙◌, eqb-true}
use Rattle.src_tree.specs.Prelude.{block_of_all}
use Rattle.code_gen.proofs.AtStart.{forgotten-empty}
use Rattle.code_gen.proofs.known.known_behind.Goals as goal

pub returns-then-is_empty : goal.returns-then-is_empty
returns-then-is_empty c =
    c.new.ensures.items
    ∙ forgotten-empty c.args.emitter.now.decls c.args.emitter.now.ranges (block_of_all c.args.body.now)
    (ap length (sym c.known-known.ensures)
    ∙ eqb-true (length c.known-known.result.now) 0 (sym c.is_empty.ensures ∙ c.if-is_empty.true))
