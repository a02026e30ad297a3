use Rattle.std.proofs.Common.{sym, ◌∙◌, map}
use Rattle.std.proofs.lemmas.Result.{IfOk-weaker}
use Rattle.src_tree.specs.Prelude.{test_of}
use Rattle.src_parser.specs.Prelude.{outers_of}
use Rattle.src_parser.proofs.ProgramSteps.{without_else}
use Rattle.src_parser.proofs.statements.may_else.Goals as goal

pub returns-in_default : goal.returns-in_default
returns-in_default g c =
    IfOk-weaker c.end_choice.result _ _
    (λ t e. e ∙ sym (without_else g.L.Language.makers (outers_of g.L.Language.seen c.args.blocks.now.outer.items)
    (map g.L.Language.seen c.args.blocks.now.here.items) (test_of c.args.guard)
    (map g.L.Language.seen c.args.first.items) c.args.kind.now c.in_default.not-Else))
    c.end_choice.ensures
