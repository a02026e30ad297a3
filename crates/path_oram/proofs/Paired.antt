-- A list that pairs the numbers of one order with those of another is an order too.
use Rattle.std.proofs.Common.{◌≡◌, ℕ, zero, suc, ◌+◌, ◌<◌, ◌≤◌, ◌≢◌, List, [], ◌∷◌, length, map, get_or, set, eqb, refl, sym, subst, ◌∙◌, arith, ⊎_elim, get_or-set_same, get_or-set_other}
use Rattle.std.specs.List.{range_with_len}
use Rattle.std.specs.List.Sorted.{IsPermutation}
use Rattle.std.proofs.lemmas.Bool.{cases_eq, eq-eqb}
use Rattle.std.proofs.lemmas.List.{ext_get_or, get_or-map, length-map}
use Rattle.std.proofs.lemmas.List.FromFn.{length-range_with_len, get_or-range_with_len, get_or-map-range_with_len, length-map-range_with_len}
use Rattle.std.proofs.lemmas.List.Sorted.{IsPermutation-map, IsPermutation-trans, IsPermutation-sym, sum_by-IsPermutation, length_permutation, All-permutation}
use Rattle.path_oram.proofs.Once.{unit, unit_true, times, times_first, times_range, times_item}

-- an item that is in a list once is at one place
pub one_place : (xs : List ℕ) (i j : ℕ) → ((b : ℕ) → times b xs ≤ 1) → i < j → j < length xs
    → get_or xs i 0 ≢ get_or xs j 0
one_place [] i j once less within same = absurd (omega arith)
one_place (x ∷ xs) zero zero once less within same = absurd (omega arith)
one_place (x ∷ xs) zero (suc j) once less within same =
    let there : 1 ≤ times x xs = subst (λ b. 1 ≤ times b xs) (sym same) (times_item xs j 0 (omega arith)) in
    omega (arith, once x, times_first x x xs, unit_true (eqb x x) (eq-eqb x x refl), there)
one_place (x ∷ xs) (suc i) zero once less within same = absurd (omega arith)
one_place (x ∷ xs) (suc i) (suc j) once less within same =
    one_place xs i j (λ b. omega (arith, once b, times_first b x xs)) (omega arith) (omega arith) same

pub order_once : (n : ℕ) (xs : List ℕ) → IsPermutation (range_with_len 0 n) xs → (b : ℕ) → times b xs ≤ 1
order_once n xs order b =
    let count : ℕ → ℕ = λ x. unit (eqb x b) in
    omega (arith, sum_by-IsPermutation count (range_with_len 0 n) xs order, times_range b 0 n)

-- each number of an order of n numbers is below n
pub order_below : (n : ℕ) (xs : List ℕ) → IsPermutation (range_with_len 0 n) xs → (i : ℕ) → i < length xs
    → get_or xs i 0 < n
order_below n xs order i within =
    All-permutation (λ b. b < n) (range_with_len 0 n) xs order
    (λ k d less. let small : k < n = omega (arith, length-range_with_len 0 n) in omega
    (arith, get_or-range_with_len 0 n k d small)) i 0 within

-- one more pair
pub pairs_more :
    (from pairs : List ℕ) (to : ℕ → ℕ) (place : ℕ) → IsPermutation
    (range_with_len 0 (length from)) from → length pairs ≡ length from → place < length from
    → ((i : ℕ) → i < place → get_or pairs (get_or from i 0) 0 ≡ to i)
    → (i : ℕ) → i < place + 1 → get_or (set pairs (get_or from place 0) (to place)) (get_or from i 0) 0 ≡ to i
pairs_more from pairs to place order size within so_far i less =
    let inside : get_or from place 0 < length pairs = omega
    (arith, size, order_below (length from) from order place within) in
    ⊎_elim
    (λ same. subst (λ k. get_or (set pairs (get_or from place 0) (to place)) (get_or from k 0) 0 ≡ to k) (sym same)
    (get_or-set_same pairs (get_or from place 0) (to place) 0 inside))
    (λ other.
    let before : i < place = omega arith in
    get_or-set_other pairs (get_or from place 0) (get_or from i 0) (to place) 0
    (one_place from i place (order_once (length from) from order) before within) ∙ so_far i before)
    (cases_eq i place)

-- the list that pairs two orders is an order
pub pairs_order :
    (n : ℕ) (from to pairs : List ℕ) → IsPermutation (range_with_len 0 n) from → IsPermutation
    (range_with_len 0 n) to → length pairs ≡ n
    → ((i : ℕ) → i < n → get_or pairs (get_or from i 0) 0 ≡ get_or to i 0)
    → IsPermutation (range_with_len 0 n) pairs
pairs_order n from to pairs first second size each =
    let read : ℕ → ℕ = λ k. get_or pairs k 0 in
    let from_long : length from ≡ n = length_permutation (range_with_len 0 n) from first ∙ length-range_with_len 0 n in
    let to_long : length to ≡ n = length_permutation (range_with_len 0 n) to second ∙ length-range_with_len 0 n in
    let all : map read (range_with_len 0 n) ≡ pairs =
    ext_get_or 0 (map read (range_with_len 0 n)) pairs (length-map-range_with_len read 0 n ∙ sym size)
    (λ i less.
    let small : i < n = omega (arith, less, length-map-range_with_len read 0 n) in
    let sum : 0 + i ≡ i = omega arith in
    get_or-map-range_with_len read 0 n i i 0 small sum) in
    let ordered : map read from ≡ to =
    ext_get_or 0 (map read from) to (length-map from read ∙ from_long ∙ sym to_long)
    (λ i less.
    let small : i < n = omega (arith, less, length-map from read, from_long) in
    let within : i < length from = omega (arith, small, from_long) in
    get_or-map read from i 0 0 within ∙ each i small) in
    IsPermutation-trans (range_with_len 0 n) to pairs second
    (IsPermutation-sym pairs to
    (subst (λ l. IsPermutation l to) all
    (subst (λ l. IsPermutation (map read (range_with_len 0 n)) l) ordered
    (IsPermutation-map read (range_with_len 0 n) from first))))

-- an order has each number once
pub order_length : (n : ℕ) (xs : List ℕ) → IsPermutation (range_with_len 0 n) xs → length xs ≡ n
order_length n xs order = length_permutation (range_with_len 0 n) xs order ∙ length-range_with_len 0 n
