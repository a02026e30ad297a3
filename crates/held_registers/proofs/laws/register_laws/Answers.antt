use Rattle.held_registers.proofs.Sound.{nothing-sound, held_scalars-sound, with_number-sound}
use Rattle.held_registers.proofs.laws.register_laws.Goals as goal

pub returns-clause-none : goal.returns-clause-none
returns-clause-none c = λ decls. nothing-sound decls

pub returns-clause-scalars : goal.returns-clause-scalars
returns-clause-scalars c = λ decls. held_scalars-sound decls

pub returns-clause-number : goal.returns-clause-number
returns-clause-number c = λ decls held z some word sound. with_number-sound decls held z some word sound
