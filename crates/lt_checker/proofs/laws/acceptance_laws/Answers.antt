use Rattle.trace_patterns.proofs.Notes.{fits-claim}
use Rattle.trace_patterns.proofs.SymStateLaws.{join-common}
use Rattle.lt_checker.proofs.AcceptanceLaws.{accepted-or-refused, refused_is_not_accepted, first_refusal-once, known-once}
use Rattle.lt_checker.proofs.laws.acceptance_laws.Goals as goal

pub returns-clause-decided : goal.returns-clause-decided
returns-clause-decided c = accepted-or-refused

pub returns-clause-refused : goal.returns-clause-refused
returns-clause-refused c = refused_is_not_accepted

pub returns-clause-once : goal.returns-clause-once
returns-clause-once c = first_refusal-once

pub returns-clause-known : goal.returns-clause-known
returns-clause-known c = known-once

pub returns-clause-fits : goal.returns-clause-fits
returns-clause-fits c = fits-claim

pub returns-clause-joins : goal.returns-clause-joins
returns-clause-joins c = join-common
