-- How many statements of two parts pair, counted from the first on.
use Rattle.std.proofs.Common.{◌≡◌, ℕ, ◌+◌, ◌≤◌, List, length, drop, refl, ap, ◌∙◌, arith}
use Rattle.std.proofs.Math.ListN.{drop_of_length-le}
use Rattle.src_tree.specs.declared.trees.Stmt.{Stmt}
use Rattle.src_tree.specs.Prelude.{Block, Nothing, Then, block_of_all}
use Rattle.block_cache_gen.specs.Prelude.{pair_count, Setting}

-- the statements from one on
abbrev pub from : ℕ → List Stmt → Block
from k ss = block_of_all (drop k ss)

none_left : (f : Setting) (b : Block) → pair_count f b Nothing ≡ 0
none_left f Nothing = refl
none_left f (Then s b) = refl

-- where the second part ends no more statements pair
pub second_ends : (f : Setting) (first second : List Stmt) (k whole : ℕ) → length second ≤ k
    → whole ≡ k + pair_count f (from k first) (from k second) → k ≡ whole
second_ends f first second k whole past so_far =
    let e = ap (λ ss. pair_count f (from k first) (block_of_all ss)) (drop_of_length-le second past)
    ∙ none_left f (from k first) in
    omega (arith, e, so_far)
