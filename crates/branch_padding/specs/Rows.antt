-- For the proofs and for private clauses only: the code of some of a part's statements, and their numbers.
use Rattle.std.specs.Prelude.{ℕ, ◌-◌, ◌<◌, ◌≤◌, List, take, drop, get_or}
use Rattle.lt_isa.specs.declared.instructions.Instr.{Instr}
use Rattle.src_tree.specs.declared.trees.Stmt.{Stmt}
use Rattle.src_tree.specs.Trees.{statement_of}
use Rattle.block_cache_gen.specs.ProgramWords.{StatementHasWords}
use Rattle.branch_padding.specs.Padded.{in_a_row}

-- the pieces from one on up to another
abbrev pub row_between : (from to : ℕ) → List (List Instr) → List Instr
row_between from to codes = in_a_row (take (to - from) (drop from codes))

-- the numbers in the statements from one on up to another are words
abbrev pub HaveWords : (from to : ℕ) → List Stmt → Type 0
HaveWords from to part =
    (i : ℕ) (d : Stmt) → from ≤ i → i < to → StatementHasWords (statement_of (get_or part i d))
