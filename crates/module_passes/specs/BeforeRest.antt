-- `tails`, from the last statement of a block to the first. (This file is only for proofs and private clauses.)
use Rattle.std.specs.Prelude.{List, [], ◌∷◌}
use Rattle.module_tree.specs.Trees.{Statement, Choice, Block, Then}
use Rattle.module_calls.specs.Tails.{always_in, choice_before, tails}
use Rattle.module_passes.specs.declared.trees.Stmt.{Stmt}
use Rattle.module_passes.specs.Owned.{statement_of}

-- a statement before others that are done
abbrev pub before_rest : Statement → Block → Block
before_rest (Choice t a b) rest = choice_before t (tails a) (tails b) (always_in a) (always_in b) rest
before_rest first rest = Then first rest

-- several statements before others that are done
abbrev pub all_before : List Stmt → Block → Block
all_before [] rest = rest
all_before (s ∷ statements) rest = before_rest (statement_of s) (all_before statements rest)
