use Rattle.lt_assembler.proofs.Answered.{one_object}
use Rattle.lt_assembler.proofs.CanonicalSpells.{canonical-spells}
use Rattle.lt_assembler.proofs.FirstFaulty.{first_fault, one_fault}
use Rattle.lt_assembler.proofs.Spelled.{assembled-spells}
use Rattle.lt_assembler.proofs.SpelledRead.{spells-assembled}
use Rattle.lt_assembler.proofs.laws.text_laws.Goals as goal

pub returns-clause-computes : goal.returns-clause-computes
returns-clause-computes c = λ text o. (assembled-spells text o, spells-assembled text o)

pub returns-clause-one_object : goal.returns-clause-one_object
returns-clause-one_object c = one_object

pub returns-clause-read_again : goal.returns-clause-read_again
returns-clause-read_again c = canonical-spells

pub returns-clause-first_fault : goal.returns-clause-first_fault
returns-clause-first_fault c = λ text e. (first_fault text e, one_fault text e)
