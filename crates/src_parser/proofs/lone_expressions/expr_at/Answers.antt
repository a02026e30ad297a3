use Rattle.std.proofs.Common.{◌≡◌, ◌+◌, ◌-◌, arith, drop, subst}
use Rattle.src_tree.specs.Prelude.{expr_tree}
use Rattle.src_parser.specs.Prelude.{FoundExpression}
use Rattle.src_parser.proofs.lone_expressions.expr_at.Goals as goal

pub returns-in-Ok-clause-found : goal.returns-in-Ok-clause-found
returns-in-Ok-clause-found c =
    let e : c.in-Ok.count ≡ c.args.from + c.in-Ok.count - c.args.from = omega arith in
    subst (λ n. FoundExpression (drop c.args.from c.args.tokens.now) c.args.opened c.args.used
    (expr_tree c.in-Ok.tree) n) e
    (subst (λ ts. FoundExpression ts c.args.opened c.args.used (expr_tree c.in-Ok.tree) c.in-Ok.count)
    c.split_at.ensures.back c.in-Ok.ensures.found)
