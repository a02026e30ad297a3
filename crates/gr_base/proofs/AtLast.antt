-- The value of a function at the last item of a list.
use Rattle.std.proofs.Common.{◌≡◌, ℕ, zero, suc, ◌+◌, ◌-◌, ◌<◌, List, [], ◌∷◌, ◌++◌, length, get_or, refl, sym, ap, ◌∙◌, arith}
use Rattle.gr_base.specs.Prelude.{at_last}

-- the value at the last item, if one was just added
pub at_last-push : {X : Type 0} (f : X → ℕ) (xs : List X) (x : X) → at_last f (xs ++ x ∷ []) ≡ f x
at_last-push f [] x = refl
at_last-push f (y ∷ []) x = refl
at_last-push f (y ∷ z ∷ xs) x = at_last-push f (z ∷ xs) x

-- the value at the last item, by its index
pub at_last-get_or : {X : Type 0} (f : X → ℕ) (xs : List X) (k : ℕ) (d : X)
    → k + 1 ≡ length xs → at_last f xs ≡ f (get_or xs k d)
at_last-get_or f [] k d e = absurd (omega arith)
at_last-get_or f (x ∷ []) zero d e = refl
at_last-get_or f (x ∷ []) (suc k) d e = absurd (omega arith)
at_last-get_or f (x ∷ y ∷ xs) zero d e = absurd (omega arith)
at_last-get_or f (x ∷ y ∷ xs) (suc k) d e = at_last-get_or f (y ∷ xs) k d (omega arith)

-- the value at the last item, after it was read
pub at_last_read : {X : Type 0} (f : X → ℕ) (xs : List X) (x : X)
    → 0 < length xs → x ≡ get_or xs (length xs - 1) x → at_last f xs ≡ f x
at_last_read f xs x some read = at_last-get_or f xs (length xs - 1) x (omega arith) ∙ ap f (sym read)
