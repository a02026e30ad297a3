use Rattle.std.proofs.Common.{sym}
use Rattle.object_file.proofs.Numbers.{IsBytes-All}
use Rattle.object_file.proofs.ObjectLaws.{decoded-spelling, spelling-decoded, spelling-injective}
use Rattle.object_file.proofs.FaultLaws.{decoded-first, first-decoded, stays_refused, front_truncated}
use Rattle.object_file.proofs.laws.format_laws.Goals as goal

pub returns-clause-one_spelling : goal.returns-clause-one_spelling
returns-clause-one_spelling c = spelling-injective

pub returns-clause-encoded_again : goal.returns-clause-encoded_again
returns-clause-encoded_again c = decoded-spelling

pub returns-clause-decoded_again : goal.returns-clause-decoded_again
returns-clause-decoded_again c = λ bytes o fits read.
    let found = spelling-decoded bytes o (IsBytes-All bytes fits) read in
    (found.1, sym found.0)

pub returns-clause-first_fault : goal.returns-clause-first_fault
returns-clause-first_fault c = λ bytes e fits. (decoded-first bytes e (IsBytes-All bytes fits), first-decoded bytes e)

pub returns-clause-truncated : goal.returns-clause-truncated
returns-clause-truncated c = λ bytes place fits. (decoded-first bytes _ (IsBytes-All bytes fits), first-decoded bytes _)

pub returns-clause-trailing : goal.returns-clause-trailing
returns-clause-trailing c = λ bytes place fits. (decoded-first bytes _ (IsBytes-All bytes fits), first-decoded bytes _)

pub returns-clause-refused : goal.returns-clause-refused
returns-clause-refused c = stays_refused

pub returns-clause-shortened : goal.returns-clause-shortened
returns-clause-shortened c = front_truncated
