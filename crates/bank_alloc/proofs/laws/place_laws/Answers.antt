use Rattle.bank_alloc.proofs.EachPlace.{any_decl}
use Rattle.bank_alloc.proofs.Apart.{lies_within, variables_apart}
use Rattle.bank_alloc.proofs.Placed.{banks_need, placed_as, placed_so}
use Rattle.bank_alloc.proofs.laws.place_laws.Goals as goal

pub returns-clause-within : goal.returns-clause-within
returns-clause-within c = lies_within

pub returns-clause-apart : goal.returns-clause-apart
returns-clause-apart c = λ p w i j q fit less within. variables_apart p w i j any_decl q fit less within

pub returns-clause-placed : goal.returns-clause-placed
returns-clause-placed c = λ p w places. (placed_as p w places, placed_so p w places)

pub returns-clause-needed : goal.returns-clause-needed
returns-clause-needed c = banks_need
