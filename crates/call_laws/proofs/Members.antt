-- Lists without an element twice: the elements of a list that pass a test are no more than those of another list to
-- which a function takes them one to one.
use Rattle.std.proofs.Common.{◌≡◌, suc, ◌≤◌, ◌⊎◌, inl, inr, Bool, true, false, List, [], ◌∷◌, ◌++◌, length, map, cond, refl, sym, ap, ◌∙◌, subst, arith, true≢false}
use Rattle.std.specs.List.{filter, flat_map}
use Rattle.std.proofs.lemmas.Bool.{cases_Bool}
use Rattle.std.proofs.lemmas.List.{length-map}

-- x is in the list
abbrev pub Has : {X : Type 0} → List X → X → Type 0
Has [] x = ⊥
Has (y ∷ ys) x = (y ≡ x) ⊎ Has ys x

-- no element is there twice
abbrev pub Apart : {X : Type 0} → List X → Type 0
Apart [] = Unit {0}
Apart (x ∷ xs) = (Has xs x → ⊥) × Apart xs

-- the list without one of its elements
pub record Without {X : Type 0} (ys : List X) (x : X) : Type 0 where
  pub rest : List X
  pub longer : length ys ≡ suc (length rest)
  pub others : (z : X) → Has ys z → (x ≡ z) ⊎ Has rest z

pub without : {X : Type 0} (ys : List X) (x : X) → Has ys x → Without ys x
without [] x has = absurd has
without (y ∷ ys) x (inl is) = record {
  rest = ys;
  longer = refl;
  others = λ z has. elim has [ inl same ↦ inl (sym is ∙ same) | inr later ↦ inr later ];
}
without (y ∷ ys) x (inr later) =
    let less = without ys x later in
    record {
      rest = y ∷ less.rest;
      longer = ap suc less.longer;
      others = λ z has. elim has [
        | inl same ↦ inr (inl same)
        | inr there ↦ elim (less.others z there) [ inl is ↦ inl is | inr rest ↦ inr (inr rest) ]
      ];
    }

-- a list whose elements are all in another is no longer
pub no-longer : {X : Type 0} (xs ys : List X) → Apart xs → ((x : X) → Has xs x → Has ys x) → length xs ≤ length ys
no-longer [] ys apart within = omega arith
no-longer (x ∷ xs) ys apart within =
    let less = without ys x (within x (inl refl)) in
    let rest = no-longer xs less.rest apart.1 (λ z has. elim (less.others z (within z (inr has))) [
      | inl is ↦ absurd (apart.0 (subst (λ y. Has xs y) (sym is) has))
      | inr there ↦ there
    ]) in
    omega (arith, rest, less.longer)

-- ---- filters

pub has-filter : {X : Type 0} (p : X → Bool) (xs : List X) (x : X) → Has xs x → p x ≡ true → Has (filter p xs) x
has-filter p [] x has passes = absurd has
has-filter p (y ∷ ys) x has passes = elim (cases_Bool (p y)) [
  | inl here ↦ rw here (elim has [ inl is ↦ inl is | inr later ↦ inr (has-filter p ys x later passes) ])
  | inr other ↦ rw other (elim has [
    | inl is ↦ absurd (true≢false (sym passes ∙ ap p (sym is) ∙ other))
    | inr later ↦ has-filter p ys x later passes
  ])
]

filter-first : {X : Type 0} (p : X → Bool) (y : X) (ys : List X) (x : X)
    → (Has (filter p ys) x → Has ys x × (p x ≡ true)) → (b : Bool) → p y ≡ b
    → Has (cond b (y ∷ filter p ys) (filter p ys)) x → Has (y ∷ ys) x × (p x ≡ true)
filter-first p y ys x rest true here (inl is) = (inl is, subst (λ z. p z ≡ true) is here)
filter-first p y ys x rest true here (inr later) = let r = rest later in (inr r.0, r.1)
filter-first p y ys x rest false other later = let r = rest later in (inr r.0, r.1)

pub filter-has : {X : Type 0} (p : X → Bool) (xs : List X) (x : X) → Has (filter p xs) x → Has xs x × (p x ≡ true)
filter-has p [] x has = absurd has
filter-has p (y ∷ ys) x has = filter-first p y ys x (filter-has p ys x) (p y) refl has

apart-first : {X : Type 0} (x : X) (xs : List X) → (Has xs x → ⊥) → Apart xs → (b : Bool) → Apart (cond b (x ∷ xs) xs)
apart-first x xs never apart true = (never, apart)
apart-first x xs never apart false = apart

pub apart-filter : {X : Type 0} (p : X → Bool) (xs : List X) → Apart xs → Apart (filter p xs)
apart-filter p [] apart = tt
apart-filter p (x ∷ xs) apart =
    apart-first x (filter p xs) (λ has. apart.0 (filter-has p xs x has).0) (apart-filter p xs apart.1) (p x)

-- ---- maps

pub map-has : {X Y : Type 0} (f : X → Y) (xs : List X) (y : Y) → Has (map f xs) y → (x : X) × Has xs x × (f x ≡ y)
map-has f [] y has = absurd has
map-has f (x ∷ xs) y (inl is) = (x, inl refl, is)
map-has f (x ∷ xs) y (inr later) = let rest = map-has f xs y later in (rest.0, inr rest.1, rest.2)

pub has-map : {X Y : Type 0} (f : X → Y) (xs : List X) (x : X) → Has xs x → Has (map f xs) (f x)
has-map f [] x has = absurd has
has-map f (y ∷ ys) x (inl is) = inl (ap f is)
has-map f (y ∷ ys) x (inr later) = inr (has-map f ys x later)

pub apart-map : {X Y : Type 0} (f : X → Y) (xs : List X) → Apart xs
    → ((x z : X) → Has xs x → Has xs z → f x ≡ f z → x ≡ z) → Apart (map f xs)
apart-map f [] apart once = tt
apart-map f (x ∷ xs) apart once = (
  λ has.
      let from = map-has f xs (f x) has in
      apart.0 (subst (λ z. Has xs z) (once from.0 x (inr from.1) (inl refl) from.2) from.1),
  apart-map f xs apart.1 (λ y z one two. once y z (inr one) (inr two)),
)

-- ---- lists one behind the other

pub append-has : {X : Type 0} (xs ys : List X) (x : X) → Has (xs ++ ys) x → Has xs x ⊎ Has ys x
append-has [] ys x has = inr has
append-has (z ∷ xs) ys x (inl is) = inl (inl is)
append-has (z ∷ xs) ys x (inr later) = elim (append-has xs ys x later) [ inl one ↦ inl (inr one) | inr two ↦ inr two ]

pub has-left : {X : Type 0} (xs ys : List X) (x : X) → Has xs x → Has (xs ++ ys) x
has-left [] ys x has = absurd has
has-left (z ∷ xs) ys x (inl is) = inl is
has-left (z ∷ xs) ys x (inr later) = inr (has-left xs ys x later)

pub has-right : {X : Type 0} (xs ys : List X) (x : X) → Has ys x → Has (xs ++ ys) x
has-right [] ys x has = has
has-right (z ∷ xs) ys x has = inr (has-right xs ys x has)

pub apart-append : {X : Type 0} (xs ys : List X) → Apart xs → Apart ys → ((x : X) → Has xs x → Has ys x → ⊥)
    → Apart (xs ++ ys)
apart-append [] ys one two never = two
apart-append (x ∷ xs) ys one two never = (
  λ has. elim (append-has xs ys x has) [ inl here ↦ one.0 here | inr there ↦ never x (inl refl) there ],
  apart-append xs ys one.1 two (λ z here there. never z (inr here) there),
)

pub flat-has : {X Y : Type 0} (f : X → List Y) (xs : List X) (y : Y) → Has (flat_map f xs) y
    → (x : X) × Has xs x × Has (f x) y
flat-has f [] y has = absurd has
flat-has f (x ∷ xs) y has = elim (append-has (f x) (flat_map f xs) y has) [
  | inl here ↦ (x, inl refl, here)
  | inr later ↦ let rest = flat-has f xs y later in (rest.0, inr rest.1, rest.2)
]

pub has-flat : {X Y : Type 0} (f : X → List Y) (xs : List X) (x : X) (y : Y) → Has xs x → Has (f x) y
    → Has (flat_map f xs) y
has-flat f [] x y has here = absurd has
has-flat f (z ∷ xs) x y (inl is) here =
    has-left (f z) (flat_map f xs) y (subst (λ w. Has (f w) y) (sym is) here)
has-flat f (z ∷ xs) x y (inr later) here = has-right (f z) (flat_map f xs) y (has-flat f xs x y later here)

pub apart-flat : {X Y : Type 0} (f : X → List Y) (xs : List X) → Apart xs → ((x : X) → Apart (f x))
    → ((x z : X) (y : Y) → Has (f x) y → Has (f z) y → x ≡ z) → Apart (flat_map f xs)
apart-flat f [] apart each once = tt
apart-flat f (x ∷ xs) apart each once =
    apart-append (f x) (flat_map f xs) (each x) (apart-flat f xs apart.1 each once)
    (λ y here there.
    let from = flat-has f xs y there in
    apart.0 (subst (λ z. Has xs z) (once from.0 x y from.2 here) from.1))

-- ---- what passes a test

-- The elements that pass p are taken one to one to elements of the other list that pass q.
pub no-more-pass : {X Y : Type 0} (f : X → Y) (p : X → Bool) (q : Y → Bool) (xs : List X) (ys : List Y) → Apart xs
    → ((x : X) → Has xs x → p x ≡ true → Has ys (f x) × (q (f x) ≡ true))
    → ((x z : X) → Has xs x → Has xs z → f x ≡ f z → x ≡ z)
    → length (filter p xs) ≤ length (filter q ys)
no-more-pass f p q xs ys apart takes once =
    let passing = filter p xs in
    let few = no-longer (map f passing) (filter q ys)
    (apart-map f passing (apart-filter p xs apart)
    (λ x z one two. once x z (filter-has p xs x one).0 (filter-has p xs z two).0))
    (λ y has.
    let from = map-has f passing y has in
    let of = filter-has p xs from.0 from.1 in
    let taken = takes from.0 of.0 of.1 in
    subst (λ z. Has (filter q ys) z) from.2 (has-filter q ys (f from.0) taken.0 taken.1)) in
    omega (arith, few, length-map passing f)
