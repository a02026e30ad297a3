-- How many further slots a variable has.
use Rattle.std.proofs.Common.{◌≡◌, ℕ, ◌≤◌, List, length, take, arith}
use Rattle.std.specs.Prelude.{◌==◌}
use Rattle.std.proofs.lemmas.List.{length-take}

further-count : (n : ℕ) (more : List ℕ) → n ≤ 4 → length more ≡ 4 → n ≡ length (take 4 (take n more))
further-count n more few long =
    let one = length-take n more in
    let both = length-take 4 (take n more) in
    omega (arith, one, both, few, long)

-- two variables have as many if the numbers that say so are the same
pub as_many : (m n : ℕ) (one other : List ℕ) → m ≤ 4 → n ≤ 4 → length one ≡ 4 → length other ≡ 4
    → (m == n) ≡ (length (take 4 (take m one)) == length (take 4 (take n other)))
as_many m n one other low few long full =
    let first = further-count m one low long in
    let second = further-count n other few full in
    λ i. first i == second i
