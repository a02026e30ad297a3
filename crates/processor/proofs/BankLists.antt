-- The banks of a machine as a list: two of one kind, then the rest.
use Rattle.std.proofs.Common.{◌≡◌, ℕ, suc, ◌-◌, ◌<◌, ◌≤◌, ℤ, List, [], ◌∷◌, length, map, get_or, set, sym, ap, ◌∙◌, subst, arith}
use Rattle.std.proofs.lemmas.List.{get_or-map, length-map, map-set}
use Rattle.std.proofs.Math.Seq.{map-set_same}
use Rattle.processor.specs.Prelude.{bank_numbered, Memories}

-- bank number b, where it isn't one of the first two
pub bank_behind : {X : Type 0} (f : X → List (List ℤ)) {p q : List (List ℤ)} (xs : List X)
    {banks : List (List (List ℤ))} (b : ℕ) {x : X}
    → p ∷ q ∷ map f xs ≡ banks → 2 ≤ b → b < length banks → x ≡ get_or xs (b - 2) x → bank_numbered banks b ≡ f x
bank_behind f {p = p} {q = q} xs b {x = x} is two within read =
    let place : b ≡ suc (suc (b - 2)) = omega arith in
    let listed : b < length (p ∷ q ∷ map f xs) = subst (λ l. b < length l) (sym is) within in
    let inside : b - 2 < length xs = omega (arith, length-map xs f) in
    ap (λ l. get_or l b []) (sym is)
    ∙ ap (λ n. get_or (p ∷ q ∷ map f xs) n []) place
    ∙ get_or-map f xs (b - 2) x [] inside
    ∙ ap f (sym read)

-- a list with one bank replaced
pub bank_put : {X : Type 0} (f : X → List (List ℤ)) (p q : List (List ℤ)) (xs : List X) (banks : List (List (List ℤ)))
    (b : ℕ) (y : X) (blocks : List (List ℤ))
    → p ∷ q ∷ map f xs ≡ banks → 2 ≤ b → f y ≡ blocks → p ∷ q ∷ map f (set xs (b - 2) y) ≡ set banks b blocks
bank_put f p q xs banks b y blocks is two same =
    let place : suc (suc (b - 2)) ≡ b = omega arith in
    ap (λ l. p ∷ q ∷ l) (map-set f xs (b - 2) y ∙ ap (λ z. set (map f xs) (b - 2) z) same)
    ∙ ap (λ n. set (p ∷ q ∷ map f xs) n blocks) place
    ∙ ap (λ l. set l b blocks) is

-- a list with one bank replaced by one with the same blocks
pub bank_kept : {X : Type 0} (f : X → List (List ℤ)) (p q : List (List ℤ)) (xs : List X) (banks : List (List (List ℤ)))
    (i : ℕ) (x y : X) → p ∷ q ∷ map f xs ≡ banks → x ≡ get_or xs i x → f y ≡ f x → p ∷ q ∷ map f (set xs i y) ≡ banks
bank_kept f p q xs banks i x y is read same =
    ap (λ l. p ∷ q ∷ l) (map-set_same f xs i y x (same ∙ ap f read)) ∙ is

-- what banks are seen as
pub same_memories : {X : Type 0} (words words' : ℕ) (banks banks' : List (List (List ℤ))) (orams : List X)
    → words ≡ words' → banks ≡ banks'
    → ◌≡◌ {A = Memories X} (record { words = words; banks = banks; orams = orams })
    (record { words = words'; banks = banks'; orams = orams })
same_memories words words' banks banks' orams one two =
    ap (λ w. record { words = w; banks = banks; orams = orams }) one
    ∙ ap (λ l. record { words = words'; banks = l; orams = orams }) two
