-- For the proofs and for private clauses only: how far the write-back has got.
use Rattle.std.specs.Prelude.{◌≡◌, ℕ, suc, ◌<◌, ◌≤◌, List, length, take, ◌++◌, ◌==◌, Bool, true, false, Option, Some, None}
use Rattle.std.specs.List.{All}
use Rattle.std.specs.List.Sorted.{IsPermutation}
use Rattle.path_oram.specs.Places.{index_on, on_path, held, passes_bucket, path_blocks, all_blocks}
use Rattle.path_oram.specs.GreedyPath.{IsOff}
use Rattle.path_oram.specs.Pouring.{poured}

-- the bucket of a path on a level has room
abbrev pub HasRoom : ℕ → ℕ → List (List ℕ) → ℕ → Type 0
HasRoom height leaf tree level = length (held tree (on_path height leaf level)) < 4

-- none of some blocks is allowed on a level
abbrev pub NonePasses : ℕ → List ℕ → ℕ → ℕ → List ℕ → Type 0
NonePasses height leaves leaf level blocks = All (λ block. passes_bucket height leaves leaf level block ≡ false) blocks

-- the path of a leaf `own` passes through the bucket of another leaf's path on a level
abbrev pub meets_on : ℕ → ℕ → ℕ → ℕ → Bool
meets_on height own leaf level = index_on height own level == index_on height leaf level

-- the deepest level that has room and where a block with the leaf `own` is allowed
pub record IsDeepest (height own leaf : ℕ) (tree : List (List ℕ)) (level : ℕ) : Type 0 where
  pub within : level ≤ height
  pub room : HasRoom height leaf tree level
  pub meets : meets_on height own leaf level ≡ true
  pub deepest : (deeper : ℕ) → level < deeper → deeper ≤ height → HasRoom height leaf tree deeper
      → meets_on height own leaf deeper ≡ false

-- no level from `from` on has room and allows a block with the leaf `own`
abbrev pub NoneFrom : ℕ → ℕ → ℕ → List (List ℕ) → ℕ → Type 0
NoneFrom height own leaf tree from =
    (level : ℕ) → from ≤ level → level ≤ height → HasRoom height leaf tree level
    → meets_on height own leaf level
    ≡ false

abbrev pub IsRoomFor : ℕ → ℕ → ℕ → List (List ℕ) → Option ℕ → Type 0
IsRoomFor height own leaf tree (Some level) = IsDeepest height own leaf tree level
IsRoomFor height own leaf tree None = NoneFrom height own leaf tree 0

-- what is true while the blocks of the hand, which is the stash `old`, go into the empty buckets of a path, and `kept`
-- of them have found no room
pub record IsSettled (height : ℕ) (leaves : List ℕ) (leaf : ℕ) (empty tree : List (List ℕ)) (old stash : List ℕ)
    (kept : ℕ) : Type 0 where
  pub size : length tree ≡ length empty
  pub off : (number : ℕ) → IsOff height leaf number → held tree number ≡ held empty number
  pub all : IsPermutation (all_blocks old empty) (all_blocks stash tree)
  pub hand : IsPermutation old (stash ++ path_blocks (on_path height leaf) tree (suc height))
  pub eligible :
      (level : ℕ) → level ≤ height
      → All (λ b. passes_bucket height leaves leaf level b ≡ true) (held tree (on_path height leaf level))
  pub most : All (λ bucket. length bucket ≤ 4) tree
  pub stayed : (level : ℕ) → level ≤ height → HasRoom height leaf tree level
      → NonePasses height leaves leaf level (take kept stash)
  pub above :
      (level higher : ℕ) → level ≤ height → higher < level → HasRoom height leaf tree level
      → NonePasses height leaves leaf level (held tree (on_path height leaf higher))

-- a path was moved into the stash, and then all blocks of the hand were tried
abbrev pub WritesBack : ℕ → List ℕ → ℕ → List (List ℕ) → List (List ℕ) → List ℕ → List ℕ → Type 0
WritesBack height leaves leaf before after old stash =
    IsSettled height leaves leaf (poured (on_path height leaf) before (suc height)) after
    (old ++ path_blocks (on_path height leaf) before (suc height)) stash (length stash)
