use Rattle.std.proofs.Common.{◌≡◌, subst, sym}
use Rattle.std.proofs.lemmas.Result.{IfOk-weaker}
use Rattle.src_tree.specs.Prelude.{statement_of}
use Rattle.src_parser.specs.Prelude.{limits, Doing, advanced, advance_of, among, phase_of, state_of}
use Rattle.src_parser.proofs.ProgramSteps.{in_program}
use Rattle.src_parser.proofs.parsing.take.Goals as goal

pub returns-in-Doing : goal.returns-in-Doing
returns-in-Doing c =
    IfOk-weaker c.perform.result _ _
    (λ t e.
    subst
    (λ state. advance_of t (Doing c.in-Doing._decls.items (among statement_of c.perform.new.blocks
    (phase_of statement_of c.perform.new.phase))) ≡ advanced limits (state_of state) c.args.kind.now)
    (sym c.in-Doing.is)
    (in_program t c.in-Doing._decls.items
    (among statement_of c.perform.new.blocks (phase_of statement_of c.perform.new.phase)) _ e))
    c.perform.ensures
