-- What each error of typing says about the program. (This project's profile.)
use Rattle.src_tree.specs.Trees.{Source}
use Rattle.src_tree.specs.declared.faults.TypeError.{TypeError}
use Rattle.src_tree.specs.Causes.{IsFirstFault}
use Rattle.src_tree.specs.declared.faults.TypeError.TheVariants as error

-- the error is the program's first; out of memory says nothing
abbrev pub ExplainsProgram : TypeError → Source → Type 0
ExplainsProgram error.Memory p = Unit {0}
ExplainsProgram e p = IsFirstFault p e
