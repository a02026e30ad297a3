use Rattle.run_tools.proofs.CalmPuts.{put-calm, said-calm}
use Rattle.run_tools.proofs.reports.put_outcome.Goals as goal

pub returns-in-Ok : goal.returns-in-Ok
returns-in-Ok g c =
    put-calm (g.O.Sink.seen c.args.out.now) (g.O.Sink.seen c.put_text.new.out) _ _ c.put_text.ensures

pub returns-in-Err : goal.returns-in-Err
returns-in-Err g c =
    said-calm (g.O.Sink.seen c.args.out.now) (g.O.Sink.seen c.say.new.out) _ _ c.say.ensures
