use Rattle.std.proofs.Common.{◌-◌, ◌∷◌, drop, length, take, subst}
use Rattle.std.specs.Prelude.{IfSome}
use Rattle.src_lexer.specs.declared.tokens.Kind.TheVariants.{Word}
use Rattle.src_tree.specs.Prelude.{statement_of}
use Rattle.src_parser.specs.Prelude.{Adds, token_kinds}
use Rattle.src_parser.proofs.AssignmentTokens.{assignment_at}
use Rattle.src_parser.proofs.assignments.assignment.Goals as goal

pub returns-in-Some-clause-adds : goal.returns-in-Some-clause-adds
returns-in-Some-clause-adds c =
    assignment_at c.args.tokens.now c.word-item.result c.sign-item.result c.in-Word.name
    c.in-Some.count (statement_of c.in-Some.statement) c.in-len2-up.len_at_least c.word-item.is c.sign-item.is
    c.in-Word.is
    (subst (λ o. IfSome o (λ r. Adds (Word c.in-Word.name ∷ c.sign-item.result.kind
    ∷ token_kinds (take r.1 (take (length c.args.tokens.now - 2) (drop 2 c.args.tokens.now)))) (statement_of r.0))) c.in-Some.is
    c.in_ok-statement-in-len2-up.ensures.adds)
