-- What tests mean: a number in a range, a test of each item of a list, one more item, and equal bytes.
use Rattle.std.proofs.Common.{◌≡◌, ◌≢◌, ℕ, zero, suc, ◌<◌, Bool, true, not, List, [], ◌∷◌, ◌++◌, length, get_or, refl, arith}
use Rattle.std.specs.Prelude.{All, bytes_eq}
use Rattle.std.specs.List.{list_all}
use Rattle.std.proofs.lemmas.Bool.{and_parts, and_from, leb-true, le-leb, not-true, false_from_ne_true, not_from_false, both_ways}
use Rattle.std.proofs.lemmas.List.Elements.{All-nil, All-cons, All-head, All-tail}
use Rattle.std.proofs.lemmas.Slice.Eq.{bytes_eq-Decides}
use Rattle.gr_base.specs.Prelude.{Within, is_within}

-- a number in a range
pub Within-is_within : (low high n : ℕ) → is_within low high n ≡ true → Within low high n
unfolding is_within
Within-is_within low high n e = let p = and_parts _ _ e in (leb-true _ _ p.0, leb-true _ _ p.1)

pub is_within-Within : (low high n : ℕ) → Within low high n → is_within low high n ≡ true
unfolding is_within
is_within-Within low high n h = and_from _ _ (le-leb _ _ h.0) (le-leb _ _ h.1)

-- an item of a list whose items all pass a test
pub list_all-get_or : {X : Type 0} (p : X → Bool) (xs : List X) (i : ℕ) (d : X) → list_all p xs ≡ true
    → i < length xs → p (get_or xs i d) ≡ true
list_all-get_or p [] i d all lt = absurd (omega arith)
list_all-get_or p (x ∷ xs) zero d all lt = (and_parts _ _ all).0
list_all-get_or p (x ∷ xs) (suc i) d all lt = list_all-get_or p xs i d (and_parts _ _ all).1 (omega arith)

-- one more item that passes
pub list_all-push : {X : Type 0} (p : X → Bool) (xs : List X) (x : X) → list_all p xs ≡ true → p x ≡ true
    → list_all p (xs ++ x ∷ []) ≡ true
list_all-push p [] x all one = and_from _ _ one refl
list_all-push p (y ∷ xs) x all one = let q = and_parts _ _ all in and_from _ _ q.0 (list_all-push p xs x q.1 one)

-- each item has a property if each passes a test of it
pub All-from_test : {X : Type 0} (P : X → Type 0) (p : X → Bool) → ((x : X) → p x ≡ true → P x)
    → (xs : List X) → list_all p xs ≡ true → All P xs
All-from_test P p says [] all = All-nil P
All-from_test P p says (x ∷ xs) all =
    let q = and_parts _ _ all in All-cons P x xs (says x q.0) (All-from_test P p says xs q.1)

-- each item passes a test if each has its property
pub test-from_All : {X : Type 0} (P : X → Type 0) (p : X → Bool) → ((x : X) → P x → p x ≡ true)
    → (xs : List X) → All P xs → list_all p xs ≡ true
test-from_All P p passes [] all = refl
test-from_All P p passes (x ∷ xs) all =
    and_from _ _ (passes x (All-head P x xs all)) (test-from_All P p passes xs (All-tail P x xs all))

-- bytes are equal to themselves
pub bytes_eq-own : (x : List ℕ) → bytes_eq x x ≡ true
bytes_eq-own x = (bytes_eq-Decides x x).1 refl

-- bytes differ if the test finds no equality
pub differ-from_test : (x y : List ℕ) → not (bytes_eq x y) ≡ true → x ≢ y
differ-from_test x y e same = both_ways (bytes_eq x y) (not-true _ e) ((bytes_eq-Decides x y).1 same)

-- the test finds no equality if bytes differ
pub test-from_differ : (x y : List ℕ) → x ≢ y → not (bytes_eq x y) ≡ true
test-from_differ x y differ = not_from_false _ (false_from_ne_true _ (λ e. differ ((bytes_eq-Decides x y).0 e)))
