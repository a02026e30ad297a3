use Rattle.processor.proofs.machine.Machine.hurry.Goals as goal

pub returns-clause-left : goal.returns-clause-left
returns-clause-left g c = λ early. c.run_quickly-to.ensures.left early c.self.inside.banks.banks
