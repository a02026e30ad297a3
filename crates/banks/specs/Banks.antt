-- Banks of memory as lists of blocks, and the paths that an access to an oblivious bank shows.
-- (Path ORAM, CCS 2013: an access shows one path of the tree; a recursive one shows a path of each tree.)
use Rattle.std.specs.Prelude.{◌≡◌, ℕ, ◌-◌, ◌≤◌, ℤ, List, [], ◌∷◌, ◌++◌, length, replicate, slice_index_or}
use Rattle.banks.specs.declared.bank.Leaves.{Leaves}

-- block number `at` of a bank
abbrev pub block_numbered : List (List ℤ) → ℕ → List ℤ
block_numbered blocks at = slice_index_or blocks at []

-- at most six leaves are listed, and the entries after them are 0
pub record AreLeaves (leaves : Leaves) : Type 0 where
  pub most : leaves.len ≤ 6
  pub rest : (i : ℕ) → leaves.len ≤ i → slice_index_or leaves.at i 0 ≡ 0

-- no path, and one path
abbrev pub no_leaves : Leaves
no_leaves = record { len = 0; at = replicate 6 0 }

abbrev pub one_leaf : ℕ → Leaves
one_leaf leaf = record { len = 1; at = leaf ∷ replicate 5 0 }

-- the leaves of some paths, at most six, in this order
abbrev pub listed_leaves : List ℕ → Leaves
listed_leaves leaves = record { len = length leaves; at = leaves ++ replicate (6 - length leaves) 0 }
