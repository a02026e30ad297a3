-- The greedy write-back from the leaf to the root, as the paper states it: on each level, the blocks of the hand that
-- no deeper bucket took and that are allowed there. (Stefanov et al., Path ORAM, CCS 2013, Access, lines 10 to 15.)
use Rattle.std.specs.Prelude.{◌≡◌, ℕ, suc, ◌+◌, ◌-◌, ◌≤◌, ◌<◌, ◌^◌, min, List, length, not, ◌&&◌, ◌==◌, Bool}
use Rattle.std.specs.List.{count_by, list_any}
use Rattle.path_oram.specs.Places.{Places, on_path, held, hand, path_blocks, passes_bucket}
use Rattle.path_oram.specs.GreedyPath.{GreedyPath}
use Rattle.path_oram.specs.Whole.{IsWhole}

-- the blocks in the buckets of a path below a level
abbrev pub deeper_blocks : Places → ℕ → ℕ → List ℕ
deeper_blocks places leaf level =
    path_blocks (λ more. on_path places.height leaf (suc level + more)) places.tree (places.height - level)

-- a block that no deeper bucket took, and that is allowed on a level
abbrev pub is_left_for : Places → ℕ → ℕ → ℕ → Bool
is_left_for after leaf level block =
    passes_bucket after.height after.leaves leaf level block && not
    (list_any (λ taken. taken == block) (deeper_blocks after leaf level))

-- each bucket of the path takes as many blocks of the hand as are left for it, at most four
abbrev pub TakesWhatIsLeft : Places → ℕ → Places → Type 0
TakesWhatIsLeft before shown after =
    (level : ℕ) → level ≤ after.height
    → length (held after.tree (on_path after.height shown level)) ≡ min 4
    (count_by (is_left_for after shown level) (hand before shown before.height))

abbrev pub TakesWhatIsLeftWhereWhole : Type 0
TakesWhatIsLeftWhereWhole =
    (before : Places) (block shown : ℕ) (after : Places)
    → IsWhole after → shown < 2 ^ after.height → GreedyPath before block shown after
    → TakesWhatIsLeft before shown after
