use Rattle.std.proofs.Common.{◌≡◌, subst, sym}
use Rattle.src_tree.specs.Prelude.{expr_tree}
use Rattle.src_parser.specs.Parts.{behind_expression}
use Rattle.src_parser.specs.Seen.{asked_seen, part_of, part_advance_of}
use Rattle.src_parser.proofs.parts.end.Goals as goal

pub returns-in-Value : goal.returns-in-Value
returns-in-Value c =
    subst
    (λ asked. part_advance_of c.end_variable.result (part_of c.args.part.now)
    ≡ behind_expression (asked_seen asked) (expr_tree c.args.tree) c.args.used c.args.kind.now)
    (sym c.in-Value.is) (c.end_variable.ensures c.args.part.now c.args.used)

pub returns-in-Stored : goal.returns-in-Stored
returns-in-Stored c =
    subst
    (λ asked. part_advance_of c.end_element.result (part_of c.args.part.now)
    ≡ behind_expression (asked_seen asked) (expr_tree c.args.tree) c.args.used c.args.kind.now)
    (sym c.in-Stored.is) (c.end_element.ensures c.args.part.now c.args.used)

pub returns-in-Right : goal.returns-in-Right
returns-in-Right c =
    subst
    (λ asked. part_advance_of c.end_guard.result (part_of c.args.part.now)
    ≡ behind_expression (asked_seen asked) (expr_tree c.args.tree) c.args.used c.args.kind.now)
    (sym c.in-Right.is) (c.end_guard.ensures c.args.part.now c.args.used)
