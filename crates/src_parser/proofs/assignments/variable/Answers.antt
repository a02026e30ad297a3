use Rattle.std.proofs.Common.{take, subst}
use Rattle.std.specs.Prelude.{IfSome}
use Rattle.src_lexer.specs.declared.tokens.Kind.TheVariants.{Semi}
use Rattle.src_tree.specs.Prelude.{expr_tree, statement_of}
use Rattle.src_parser.specs.Prelude.{EndedBy, token_kinds}
use Rattle.src_parser.proofs.AssignmentTokens.{variable_at}
use Rattle.src_parser.proofs.assignments.variable.Goals as goal

pub returns-in-Some-clause-adds : goal.returns-in-Some-clause-adds
returns-in-Some-clause-adds c =
    variable_at c.args.name.now c.in_ok-name.name (token_kinds (take c.in-Some.count c.args.tokens.now))
    (expr_tree c.in-Some.value) (statement_of c.variable_set.result) c.in_ok-name.ensures c.variable_set.ensures
    (subst (λ o. IfSome o (λ r. EndedBy Semi 0 0 (token_kinds (take r.1 c.args.tokens.now)) (expr_tree r.0)))
    c.in-Some.is c.in_ok-value.ensures.is)
