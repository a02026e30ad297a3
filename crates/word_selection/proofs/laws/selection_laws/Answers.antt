use Rattle.word_selection.proofs.ReadLaws.{runs-read}
use Rattle.word_selection.proofs.WriteLaws.{runs-write, runs-write_back}
use Rattle.word_selection.proofs.laws.selection_laws.Goals as goal

pub returns-clause-reads : goal.returns-clause-reads
returns-clause-reads c = λ o slots to n default s fits shaped room bound number inside at.
    runs-read o fits to room slots bound.0 s n default shaped bound.1 number inside at

pub returns-clause-writes : goal.returns-clause-writes
returns-clause-writes c = λ o slots to value n default word s fits shaped room apart bound is number inside at.
    runs-write o fits to value room apart slots bound.0 s shaped bound.1 word n default is number inside at

pub returns-clause-keeps : goal.returns-clause-keeps
returns-clause-keeps c = λ o slots to value s fits shaped room apart bound at.
    runs-write_back o fits to value room apart slots bound.0 s shaped bound.1 at
