-- The sample's numbers are words, its input fits, and the sums of its counts.
use Rattle.std.proofs.Common.{◌≡◌, ℕ, zero, suc, ◌+◌, ◌^◌, ◌<◌, Bool, true, false, cond, pos, List, [], ◌∷◌, ◌++◌, length, replicate, refl, sym, subst, arith}
use Rattle.std.specs.Prelude.{codes, bytes_eq}
use Rattle.std.proofs.lemmas.List.{length-replicate}
use Rattle.std.proofs.lemmas.List.Elements.{All-replicate}
use Rattle.std.proofs.lemmas.List.FromFn.{length-map-range_with_len, get_or-map-range_with_len, map-range_with_len_more}
use Rattle.gr_word.specs.Prelude.{AreWords, FitsWants, IsWord}
use Rattle.gr_word.specs.declared.variables.Want.{Want}
use Rattle.call_steps.specs.Prelude.{next_number, histogram_number, histogram_numbers, sample_inputs}

-- a number is below 2^31
pub number_at-small : (k : ℕ) → histogram_number k < 2 ^ 31
unfolding histogram_number
number_at-small zero = omega arith
number_at-small (suc k) = omega arith

-- the next number
pub number_at-next : (k : ℕ) → histogram_number (suc k) ≡ next_number (histogram_number k)
unfolding histogram_number
number_at-next k = refl

-- the first number
pub number_at-first : histogram_number 0 ≡ 1
unfolding histogram_number
number_at-first = refl

small-word : (n : ℕ) → n < 2 ^ 31 → IsWord (pos n)
small-word n small = omega (arith, small)

-- one number more
pub numbers-more : (n : ℕ) → histogram_numbers (n + 1) ≡ histogram_numbers n ++ pos (histogram_number (suc n)) ∷ []
numbers-more n = map-range_with_len_more (λ k. pos (histogram_number (suc k))) 0 n n (omega arith)

pub length-numbers : (n : ℕ) → length (histogram_numbers n) ≡ n
length-numbers n = length-map-range_with_len (λ k. pos (histogram_number (suc k))) 0 n

numbers-words : (n : ℕ) → AreWords (histogram_numbers n)
numbers-words n k d within =
    let below : k < n = omega (arith, within, length-numbers n) in
    subst IsWord (sym (get_or-map-range_with_len (λ i. pos (histogram_number (suc i))) 0 n k k d below (omega arith)))
    (small-word (histogram_number (suc k)) (number_at-small (suc k)))

-- the words of one variable
pick-fits : (b : Bool) (n : ℕ)
    → (length (cond b (histogram_numbers n) (replicate n (pos 0))) ≡ n)
    × AreWords (cond b (histogram_numbers n) (replicate n (pos 0)))
pick-fits true n = (length-numbers n, numbers-words n)
pick-fits false n = (length-replicate n (pos 0), All-replicate IsWord n (pos 0) (small-word 0 (omega arith)))

-- the sample's inputs fit what is wanted
pub sample-fit : (wants : List Want) → FitsWants wants (sample_inputs wants)
sample-fit [] = tt
sample-fit (want ∷ wants) =
    let first = pick-fits (bytes_eq want.name (codes "a")) want.length in (first.0, first.1, sample-fit wants)
