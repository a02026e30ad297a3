use Rattle.std.proofs.Common.{◌-◌, drop, length, take, subst}
use Rattle.std.specs.Prelude.{IfSome}
use Rattle.src_lexer.specs.declared.tokens.Kind.TheVariants.{Semi}
use Rattle.src_tree.specs.Prelude.{expr_tree}
use Rattle.src_parser.specs.Prelude.{EndedBy, token_kinds}
use Rattle.src_parser.proofs.AssignmentTokens.{assigned_at}
use Rattle.src_parser.proofs.assignments.assigned.Goals as goal

pub returns-in-Some-clause-is : goal.returns-in-Some-clause-is
returns-in-Some-clause-is c =
    assigned_at c.args.tokens.now c.sign-item.result c.args.used c.in-Some.inside (expr_tree c.in-Some.value)
    c.in-len1-up.len_at_least c.sign-item.is (c.assigns.ensures c.if-not-assigns.false)
    (subst (λ o. IfSome o (λ r. EndedBy Semi 0 c.args.used
    (token_kinds (take r.1 (take (length c.args.tokens.now - 1) (drop 1 c.args.tokens.now)))) (expr_tree r.0)))
    c.in-Some.is c.in_ok-value-in-len1-up.ensures.is)
