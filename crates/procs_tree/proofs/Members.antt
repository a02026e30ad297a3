-- What lists contain: an item of a list with one more, of a map, of a reversed list; and what a test that not all items
-- pass says.
use Rattle.std.proofs.Common.{◌≡◌, zero, suc, ℕ, ◌<◌, Bool, true, false, ◌&&◌, List, [], ◌∷◌, ◌++◌, map, reverse, get_or, Contains, ◌⊎◌, ⊎_elim, inl, inr, refl, sym, ap, subst, arith}
use Rattle.std.specs.List.{list_all}
use Rattle.std.proofs.lemmas.List.{reverse-append}
use Rattle.std.proofs.lemmas.List.Elements.{Contains-append_cases, Contains-append_left, Contains-append_right, Contains-push, Contains-push_cases}

pub in-none : {X : Type 0} (x : X) → Contains [] x → ⊥
in-none x c = omega (arith, c.1)

in-one : {X : Type 0} (x y : X) → Contains (x ∷ []) y → x ≡ y
in-one {X = X} x y c = first c.0 c.1 c.2
  where
    first : (k : ℕ) → k < 1 → get_or (x ∷ []) k y ≡ y → x ≡ y
    first zero within is = is
    first (suc k) within is = absurd (omega arith)

pub in-cases : {X : Type 0} (x : X) (xs : List X) (y : X) → Contains (x ∷ xs) y → (x ≡ y) ⊎ Contains xs y
in-cases x xs y c = ⊎_elim (λ one. inl (in-one x y one)) (λ rest. inr rest) (Contains-append_cases (x ∷ []) xs y c)

pub in-here : {X : Type 0} (x : X) (xs : List X) → Contains (x ∷ xs) x
in-here x xs = Contains-append_left (x ∷ []) xs x (0, omega arith, refl)

pub in-there : {X : Type 0} (x : X) (xs : List X) (y : X) → Contains xs y → Contains (x ∷ xs) y
in-there x xs y c = Contains-append_right (x ∷ []) xs y c

-- ---- of a map

pub in-map : {X Y : Type 0} (f : X → Y) (xs : List X) (x : X) → Contains xs x → Contains (map f xs) (f x)
in-map f [] x c = absurd (in-none x c)
in-map f (y ∷ xs) x c =
    ⊎_elim
    (λ (is : y ≡ x). subst (λ z. Contains (f y ∷ map f xs) (f z)) is (in-here (f y) (map f xs)))
    (λ rest. in-there (f y) (map f xs) (f x) (in-map f xs x rest))
    (in-cases y xs x c)

-- ---- of a reversed list

pub in-reverse : {X : Type 0} (xs : List X) (x : X) → Contains xs x → Contains (reverse xs) x
in-reverse [] x c = absurd (in-none x c)
in-reverse (y ∷ xs) x c =
    subst (λ l. Contains l x) (sym (reverse-append (y ∷ []) xs))
    (⊎_elim
    (λ (is : y ≡ x). subst (Contains (reverse xs ++ y ∷ [])) is (Contains-push (reverse xs) y))
    (λ rest. Contains-append_left (reverse xs) (y ∷ []) x (in-reverse xs x rest))
    (in-cases y xs x c))

pub from-reverse : {X : Type 0} (xs : List X) (x : X) → Contains (reverse xs) x → Contains xs x
from-reverse [] x c = absurd (in-none x c)
from-reverse (y ∷ xs) x c =
    ⊎_elim
    (λ rest. in-there y xs x (from-reverse xs x rest))
    (λ (is : y ≡ x). subst (Contains (y ∷ xs)) is (in-here y xs))
    (Contains-push_cases (reverse xs) y x (subst (λ l. Contains l x) (reverse-append (y ∷ []) xs) c))

-- ---- a test

pub not-all : {X : Type 0} (test : X → Bool) (xs : List X) → list_all test xs ≡ false
    → (x : X) × Contains xs x × (test x ≡ false)
not-all test [] e = absurd cc
not-all {X = X} test (x ∷ xs) e = by (test x) refl e (not-all test xs)
  where
    by : (b : Bool) → test x ≡ b → (b && list_all test xs) ≡ false
        → (list_all test xs ≡ false → (y : X) × Contains xs y × (test y ≡ false))
        → (y : X) × Contains (x ∷ xs) y × (test y ≡ false)
    by false is e rest = (x, in-here x xs, is)
    by true is e rest_of =
        let rest = rest_of e in (rest.0, in-there x xs rest.0 rest.1, rest.2)

pub some-not : {X : Type 0} (test : X → Bool) (xs : List X) (x : X) → Contains xs x → test x ≡ false
    → list_all test xs ≡ false
some-not test [] x c fails = absurd (in-none x c)
some-not test (y ∷ xs) x c fails =
    ⊎_elim
    (λ (is : y ≡ x). ap (λ b. b && list_all test xs) (subst (λ z. test z ≡ false) (sym is) fails))
    (λ rest. last (test y) (list_all test xs) (some-not test xs x rest fails))
    (in-cases y xs x c)
  where
    last : (a b : Bool) → b ≡ false → (a && b) ≡ false
    last true b e = e
    last false b e = refl
