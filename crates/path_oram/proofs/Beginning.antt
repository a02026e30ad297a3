-- Before the first access: the height, the blocks in the stash, and the empty tree.
use Rattle.std.proofs.Common.{◌≡◌, ℕ, zero, suc, ◌+◌, ◌*◌, ◌%◌, ◌^◌, ◌<◌, ◌≤◌, List, [], ◌∷◌, ◌++◌, length, replicate, refl, ap, subst, ◌∙◌, arith, ⊎_elim}
use Rattle.std.specs.List.{All, range_with_len}
use Rattle.std.proofs.lemmas.List.{append-nil, length-replicate, get_or-replicate, get_or_past}
use Rattle.std.proofs.lemmas.List.Sorted.{IsPermutation-refl}
use Rattle.std.proofs.lemmas.Bool.{cases_lt}
use Rattle.std.proofs.lemmas.Nat.{one_shl}
use Rattle.path_oram.specs.Prelude.{first_places, held, bucket_number, IsWhole, IsHeightFor}
use Rattle.path_oram.proofs.Moves.{everything}

-- one more number
pub range_more : (first n : ℕ) → range_with_len first (n + 1) ≡ range_with_len first n ++ (first + n) ∷ []
range_more first zero = ap (λ k. k ∷ []) (omega arith)
range_more first (suc n) =
    let next : suc n + 1 ≡ suc (n + 1) = omega arith in
    let sum : first + 1 + n ≡ first + suc n = omega arith in
    rw next (ap (λ l. first ∷ l)
    (subst (λ k. range_with_len (first + 1) (n + 1) ≡ range_with_len (first + 1) n ++ k ∷ []) sum
    (range_more (first + 1) n)))

pub empty_everything : (n : ℕ) → everything (replicate n []) ≡ []
empty_everything zero = refl
empty_everything (suc n) = empty_everything n

pub held_empty : (n number : ℕ) → held (replicate n []) number ≡ []
held_empty n number =
    ⊎_elim
    (λ within. get_or-replicate n number [] [] within)
    (λ past. get_or_past (replicate n []) number [] (omega (arith, length-replicate {A = List ℕ} n [])))
    (cases_lt number n)

-- at first each block is stored once, on its path
pub first_whole : (height : ℕ) (leaves : List ℕ) → IsHeightFor (length leaves) height
    → All (λ leaf. leaf < 2 ^ height) leaves → IsWhole (first_places height leaves)
first_whole height leaves tall below =
    let size = 2 ^ suc height in
    record {
      height = tall;
      leaves = below;
      buckets = length-replicate size [];
      unused = held_empty size 0;
      room = λ k d less. rw (get_or-replicate size k [] d (omega (arith, length-replicate {A = List ℕ} size [])))
          (omega arith);
      once = rw (empty_everything size, append-nil) (IsPermutation-refl (range_with_len 0 (length leaves)));
      placed = λ level index low less. rw (held_empty size (bucket_number level index))
          (λ k d within. absurd (omega arith));
    }

-- the numbers up to one more
pub range_from_zero : (n : ℕ) → range_with_len 0 (n + 1) ≡ range_with_len 0 n ++ n ∷ []
range_from_zero n =
    let sum : 0 + n ≡ n = omega arith in subst (λ k. range_with_len 0 (n + 1) ≡ range_with_len 0 n ++ k ∷ []) sum
    (range_more 0 n)

-- the number of buckets, as the code calculates it
pub tree_size : (height : ℕ) → height ≤ 12 → 1 * 2 ^ (height + 1) % 18446744073709551616 ≡ 2 ^ suc height
tree_size height low =
    let next : height + 1 ≡ suc height = omega arith in one_shl (height + 1) 64 (omega arith) ∙ ap (λ n. 2 ^ n) next
