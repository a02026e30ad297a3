-- A block is stored once: how often a number is in a list.
use Rattle.std.proofs.Common.{◌≡◌, ℕ, zero, suc, ◌+◌, ◌<◌, ◌≤◌, List, [], ◌∷◌, length, get_or, Bool, true, false, cond, eqb, refl, ◌∙◌, arith, ⊎_elim}
use Rattle.std.specs.List.{count_by, range_with_len, list_any}
use Rattle.std.proofs.lemmas.Bool.{eq-eqb, eqb-true, cases_Bool}
use Rattle.std.proofs.lemmas.List.Sums.{sum_by-cons}

-- how often a block is in a list
abbrev pub times : ℕ → List ℕ → ℕ
times block blocks = count_by (λ b. eqb b block) blocks

-- one if a test is true
abbrev pub unit : Bool → ℕ
unit b = cond b 1 0

-- the unit of a test that is true
pub unit_true : (b : Bool) → b ≡ true → unit b ≡ 1
unit_true b is_it = rw is_it refl

pub unit_false : (b : Bool) → b ≡ false → unit b ≡ 0
unit_false b is_not = rw is_not refl

-- how often a block is in a list, by the list's first item
pub times_first : (block x : ℕ) (xs : List ℕ) → times block (x ∷ xs) ≡ unit (eqb x block) + times block xs
times_first block x xs = sum_by-cons (λ b. cond (eqb b block) 1 0) x xs

-- a number below a range is not in it
pub times_below : (block first n : ℕ) → block < first → times block (range_with_len first n) ≡ 0
times_below block first zero below = refl
times_below block first (suc n) below =
    let rest : times block (range_with_len (first + 1) n) ≡ 0 = times_below block (first + 1) n (omega arith) in
    times_first block first (range_with_len (first + 1) n)
    ∙ ⊎_elim
    (λ is_it. absurd (omega (arith, eqb-true first block is_it, below)))
    (λ is_not. omega (arith, unit_false (eqb first block) is_not, rest))
    (cases_Bool (eqb first block))

-- each number is in a range at most once
pub times_range : (block first n : ℕ) → times block (range_with_len first n) ≤ 1
times_range block first zero = omega arith
times_range block first (suc n) =
    let head = times_first block first (range_with_len (first + 1) n) in
    ⊎_elim
    (λ is_it.
    let rest : times block (range_with_len (first + 1) n) ≡ 0 = times_below block (first + 1) n
    (omega (arith, eqb-true first block is_it)) in
    let one = unit_true (eqb first block) is_it in
    omega (arith, head, one, rest))
    (λ is_not.
    let none = unit_false (eqb first block) is_not in
    omega (arith, head, none, times_range block (first + 1) n))
    (cases_Bool (eqb first block))

-- an item of a list is there at least once
pub times_item : (xs : List ℕ) (k d : ℕ) → k < length xs → 1 ≤ times (get_or xs k d) xs
times_item [] k d within = absurd (omega arith)
times_item (x ∷ xs) zero d within =
    let one = unit_true (eqb x x) (eq-eqb x x refl) in omega (arith, times_first x x xs, one)
times_item (x ∷ xs) (suc k) d within = omega (arith, times_first (get_or xs k d) x xs, times_item xs k d (omega arith))

-- a block that isn't in a list
pub none_is : (block : ℕ) (xs : List ℕ) → times block xs ≡ 0 → list_any (λ taken. eqb taken block) xs ≡ false
none_is block [] none = refl
none_is block (x ∷ xs) none =
    let head = times_first block x xs in
    ⊎_elim
    (λ is_it. let one = unit_true (eqb x block) is_it in absurd (omega (arith, head, one, none)))
    (λ is_not. let nothing = unit_false (eqb x block) is_not in rw is_not
    (none_is block xs (omega (arith, head, nothing, none))))
    (cases_Bool (eqb x block))

-- a block that is an item of a list
pub some_is : (xs : List ℕ) (k d : ℕ) → k < length xs → list_any (λ taken. eqb taken (get_or xs k d)) xs ≡ true
some_is [] k d within = absurd (omega arith)
some_is (x ∷ xs) zero d within = rw (eq-eqb x x refl) refl
some_is (x ∷ xs) (suc k) d within =
    ⊎_elim
    (λ is_it. rw is_it refl)
    (λ is_not. rw is_not (some_is xs k d (omega arith)))
    (cases_Bool (eqb x (get_or xs k d)))
