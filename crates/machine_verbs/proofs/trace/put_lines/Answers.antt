use Rattle.std.proofs.Common.{Some, None, refl, subst}
use Rattle.lt_isa.specs.Prelude.{trace_from}
use Rattle.processor.specs.Prelude.{run_shown}
use Rattle.processor.specs.declared.ends.End.{End}
use Rattle.machine_verbs.specs.Prelude.{PutsShown, kept}
use Rattle.machine_verbs.proofs.LinesAlone.{ended, cut}
use Rattle.machine_verbs.proofs.trace.put_lines.Goals as goal

pub returns-in-Some-Halted : goal.returns-in-Some-Halted
returns-in-Some-Halted g c =
    let m = c.args.machine.now in
    let put = subst (λ (e : End). PutsShown (g.O.Sink.seen c.args.out.now) (g.O.Sink.seen c.put_shown.new.out)
    (trace_from m.object m.state c.args.cycles)
    (kept c.args.paths (run_shown g.B.Bank.shows m.object m.state m.orams c.args.cycles)) (Some e))
    c.in-Some-Halted.field-0-is c.in-Some-Halted.ensures.put in
    ended (g.O.Sink.seen c.args.out.now) (g.O.Sink.seen c.put_shown.new.out) (g.O.Sink.seen c.put_text.new.out) _ _
    (Some c.in-Some-Halted.field-0-0) put.0.0 put.1 put.2 0 c.put_text.result c.args.halted.now c.requires.halted_line
    refl c.put_text.ensures

pub returns-in-Some-Spent : goal.returns-in-Some-Spent
returns-in-Some-Spent g c =
    let m = c.args.machine.now in
    let put = subst (λ (e : End). PutsShown (g.O.Sink.seen c.args.out.now) (g.O.Sink.seen c.put_shown.new.out)
    (trace_from m.object m.state c.args.cycles)
    (kept c.args.paths (run_shown g.B.Bank.shows m.object m.state m.orams c.args.cycles)) (Some e))
    c.in-Some-Spent.field-0-is c.in-Some-Spent.ensures.put in
    ended (g.O.Sink.seen c.args.out.now) (g.O.Sink.seen c.put_shown.new.out)
    (g.O.Sink.seen c.put_text-in-Some-Spent.new.out) _ _ None put.0 put.1 put.2 10 c.put_text-in-Some-Spent.result
    c.args.spent.now c.requires.spent_line refl c.put_text-in-Some-Spent.ensures

pub returns-in-None : goal.returns-in-None
returns-in-None g c =
    cut (g.O.Sink.seen c.args.out.now) (g.O.Sink.seen c.put_shown.new.out) (g.O.Sink.seen c.put_shown.new.out) _ _
    c.in-None.ensures.put
