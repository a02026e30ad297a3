use Rattle.banks.proofs.AccessBounds.{accesses-counted, blocks-exist}
use Rattle.banks.proofs.laws.access_laws.Goals as goal

pub returns-clause-shown : goal.returns-clause-shown
returns-clause-shown c = accesses-counted

pub returns-clause-exist : goal.returns-clause-exist
returns-clause-exist c = blocks-exist
