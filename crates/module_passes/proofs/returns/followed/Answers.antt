use Rattle.std.proofs.Common.{sym, ap, ◌∙◌, arith}
use Rattle.std.specs.Prelude.{reverse}
use Rattle.std.proofs.lemmas.Bool.{eqb-false}
use Rattle.module_passes.specs.Owned.{block_of_all}
use Rattle.module_passes.proofs.Onto.{followed_reversed, block_tree}
use Rattle.module_passes.proofs.returns.followed.Goals as goal

pub returns : goal.returns
returns c =
    followed_reversed (block_of_all c.args.block.items) c.args.rest.items c.reverse.new.self.items _
    (c.reverse.ensures.items ∙ ap reverse c.in_ok-push.ensures.items) (block_tree c.args.block)
    (λ e.
    eqb-false c.args.rest.len 0 (sym c.is_empty.ensures ∙ c.if-is_empty.false) (omega (arith, e, c.args.rest.ok)))
