use Rattle.std.proofs.Common.{List, ℕ, subst}
use Rattle.call_steps.specs.Prelude.{PutsSaid}
use Rattle.call_steps.proofs.putting.say_no_memory.Goals as goal

pub returns : goal.returns
returns g c =
    subst (λ (t : List ℕ). PutsSaid (g.O.Sink.seen c.args.out.now) (g.O.Sink.seen c.put_text.new.out)
    (record { status = 5; text = t }) c.put_text.result) c.as_bytes.ensures.value c.put_text.ensures
