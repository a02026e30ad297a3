-- The number of blocks of a list that are allowed on a level, if all of them are or none.
use Rattle.std.proofs.Common.{◌≡◌, suc, ◌+◌, List, [], ◌∷◌, ◌++◌, length, Bool, true, false, cond, refl, ◌∙◌, arith}
use Rattle.std.specs.List.{All, count_by}
use Rattle.std.proofs.lemmas.List.Sums.{sum_by-append, sum_by-cons}

-- if no item passes a test, none is counted
pub count_none : {X : Type 0} (p : X → Bool) (xs : List X) → All (λ x. p x ≡ false) xs → count_by p xs ≡ 0
count_none p [] none = refl
count_none p (x ∷ xs) none =
    sum_by-cons (λ y. cond (p y) 1 0) x xs
    ∙ (rw (none 0 x (omega arith)) (omega (arith, count_none p xs (λ k d below. none (suc k) d (omega arith)))))

-- if all items pass a test, all are counted
pub count_all : {X : Type 0} (p : X → Bool) (xs : List X) → All (λ x. p x ≡ true) xs → count_by p xs ≡ length xs
count_all p [] all = refl
count_all p (x ∷ xs) all =
    sum_by-cons (λ y. cond (p y) 1 0) x xs
    ∙ (rw (all 0 x (omega arith)) (omega (arith, count_all p xs (λ k d below. all (suc k) d (omega arith)))))

-- the count over two lists
pub count_append : {X : Type 0} (p : X → Bool) (xs ys : List X) → count_by p (xs ++ ys) ≡ count_by p xs + count_by p ys
count_append p xs ys = sum_by-append (λ y. cond (p y) 1 0) xs ys
