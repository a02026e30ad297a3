-- For the proofs and for private clauses only: moving a path into the stash.
use Rattle.std.specs.Prelude.{ℕ, zero, suc, List, [], slice_set}

-- the tree after the buckets of a path on the first `levels` levels were emptied
abbrev pub poured : (ℕ → ℕ) → List (List ℕ) → ℕ → List (List ℕ)
poured path tree zero = tree
poured path tree (suc levels) = slice_set (poured path tree levels) (path levels) []
