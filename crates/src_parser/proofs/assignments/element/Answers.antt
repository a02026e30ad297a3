use Rattle.std.proofs.Common.{◌≤◌, length, take, subst}
use Rattle.std.specs.Prelude.{IfSome}
use Rattle.src_lexer.specs.declared.tokens.Kind.TheVariants.{RBracket}
use Rattle.src_tree.specs.Prelude.{expr_tree, statement_of}
use Rattle.src_parser.specs.Assignments.{Assigned}
use Rattle.src_parser.specs.Prelude.{EndedBy, token_kinds}
use Rattle.src_parser.proofs.AssignmentTokens.{element_at}
use Rattle.src_parser.proofs.assignments.element.Goals as goal

pub returns-clause-adds : goal.returns-clause-adds
returns-clause-adds c =
    let within : c.in-Some.inside ≤ length c.args.tokens.now =
    subst (λ o. IfSome o (λ r. r.1 ≤ length c.args.tokens.now)) c.in-Some.is c.in_ok-index.ensures.within in
    let index : EndedBy RBracket 1 0 (token_kinds (take c.in-Some.inside c.args.tokens.now)) (expr_tree c.in-Some.index) =
    subst (λ o. IfSome o (λ r. EndedBy RBracket 1 0 (token_kinds (take r.1 c.args.tokens.now)) (expr_tree r.0)))
    c.in-Some.is c.in_ok-index.ensures.is in
    let value : Assigned c.in-Some.inside (token_kinds (take c.in-Some-2.count c.split_at.result.1.now))
    (expr_tree c.in-Some-2.value) =
    subst (λ o. IfSome o (λ r. Assigned c.in-Some.inside (token_kinds (take r.1 c.split_at.result.1.now)) (expr_tree r.0)))
    c.in-Some-2.is c.in_ok-value.ensures.is in
    element_at c.args.name.now c.args.tokens.now c.split_at.result.1.now c.in-Some.inside c.in-Some-2.count
    (expr_tree c.in-Some.index) (expr_tree c.in-Some-2.value) (statement_of c.in_ok-statement.statement)
    c.in_ok-statement.ensures within c.split_at.ensures.back index value
