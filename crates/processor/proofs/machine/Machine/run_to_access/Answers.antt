use Rattle.std.proofs.Common.{◌≡◌, subst}
use Rattle.lt_isa.specs.Prelude.{Parts, step_start}
use Rattle.processor.specs.Prelude.{StandsForStep}
use Rattle.processor.proofs.Pausing.{pauses}
use Rattle.processor.proofs.machine.Machine.run_to_access.Goals as goal

pub returns-clause-paused : goal.returns-clause-paused
returns-clause-paused g c =
    let t = c.next_access.new.self.state in
    pauses c.args.self.now.object c.args.self.now.state t c.args.cycles c.next_access.result c.next_access.ensures.alike
    (λ early. subst (λ (o : Parts). StandsForStep o t) c.next_access.ensures.object (c.next_access.ensures.left early))
    (subst (λ (o : Parts). c.next_access.result ≡ step_start o t) c.next_access.ensures.object
    c.next_access.ensures.start)
