use Rattle.std.proofs.Common.{Some, None, refl, subst, arith}
use Rattle.lt_isa.specs.Prelude.{trace_from}
use Rattle.processor.specs.Prelude.{run_shown}
use Rattle.processor.specs.declared.ends.End.{End}
use Rattle.machine_verbs.specs.Prelude.{PutsShown, kept}
use Rattle.machine_verbs.proofs.Shown.{shows}
use Rattle.machine_verbs.proofs.Tracing.{ended-put, cut-put}
use Rattle.machine_verbs.proofs.trace.put_trace.Goals as goal

pub returns-in-Some-Halted : goal.returns-in-Some-Halted
returns-in-Some-Halted g c =
    let m = c.args.machine.now in
    let put = subst (λ (e : End). PutsShown (g.O.Sink.seen c.args.out.now) (g.O.Sink.seen c.put_shown.new.out)
    (trace_from m.object m.state c.args.asked.cycles)
    (kept c.args.asked.paths (run_shown shows m.object m.state m.orams c.args.asked.cycles)) (Some e))
    c.in-Some-Halted.field-0-is c.in-Some-Halted.ensures.put in
    ended-put (g.O.Sink.seen c.args.out.now) (g.O.Sink.seen c.put_shown.new.out) (g.O.Sink.seen c.put_last.new.out)
    m.object m.state c.args.asked.cycles m.orams c.put_shown.new.machine.orams c.args.asked.paths _ _ c.requires.may_run
    (Some c.in-Some-Halted.field-0-0) put.0.0 put.1 put.2 c.in-Some-Halted.ensures.come c.args.banks 0 c.put_last.result
    c.args.halted.now c.requires.banks c.requires.halted_line refl (λ e. omega (arith, e)) c.put_last.ensures

pub returns-in-Some-Spent : goal.returns-in-Some-Spent
returns-in-Some-Spent g c =
    let m = c.args.machine.now in
    let put = subst (λ (e : End). PutsShown (g.O.Sink.seen c.args.out.now) (g.O.Sink.seen c.put_shown.new.out)
    (trace_from m.object m.state c.args.asked.cycles)
    (kept c.args.asked.paths (run_shown shows m.object m.state m.orams c.args.asked.cycles)) (Some e))
    c.in-Some-Spent.field-0-is c.in-Some-Spent.ensures.put in
    ended-put (g.O.Sink.seen c.args.out.now) (g.O.Sink.seen c.put_shown.new.out)
    (g.O.Sink.seen c.put_last-in-Some-Spent.new.out) m.object m.state c.args.asked.cycles m.orams
    c.put_shown.new.machine.orams c.args.asked.paths _ _ c.requires.may_run
    None put.0 put.1 put.2 c.in-Some-Spent.ensures.come c.args.banks 10 c.put_last-in-Some-Spent.result c.args.spent.now
    c.requires.banks c.requires.spent_line refl (λ e. omega (arith, e)) c.put_last-in-Some-Spent.ensures

pub returns-in-None : goal.returns-in-None
returns-in-None g c =
    let m = c.args.machine.now in
    cut-put (g.O.Sink.seen c.args.out.now) (g.O.Sink.seen c.put_shown.new.out) (g.O.Sink.seen c.put_shown.new.out)
    m.object m.state c.args.asked.cycles m.orams m.orams c.args.asked.paths _ _ c.requires.may_run c.in-None.ensures.put
