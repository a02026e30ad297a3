use Rattle.lt_isa.proofs.Windows.{access_start-is, access_start-only, access_start-most, access_start-at_once, always_open, usual_open}
use Rattle.lt_isa.proofs.Steps.{step_start-least, step_start-most}
use Rattle.lt_isa.proofs.laws.window_laws.Goals as goal

pub returns-clause-starts : goal.returns-clause-starts
returns-clause-starts c = access_start-is

pub returns-clause-no_other_starts : goal.returns-clause-no_other_starts
returns-clause-no_other_starts c = access_start-only

pub returns-clause-waits : goal.returns-clause-waits
returns-clause-waits c = access_start-most

pub returns-clause-unit_period : goal.returns-clause-unit_period
returns-clause-unit_period c = always_open

pub returns-clause-no_wait : goal.returns-clause-no_wait
returns-clause-no_wait c = access_start-at_once

pub returns-clause-usual : goal.returns-clause-usual
returns-clause-usual c = usual_open

pub returns-clause-steps_not_before : goal.returns-clause-steps_not_before
returns-clause-steps_not_before c = step_start-least

pub returns-clause-steps_wait : goal.returns-clause-steps_wait
returns-clause-steps_wait c = λ o fits. step_start-most o fits.profile
