-- Lists in which each item fits after those before it: by index, and with one more item at the end.
use Rattle.std.proofs.Common.{◌≡◌, ℕ, zero, suc, ◌+◌, ◌<◌, List, [], ◌∷◌, ◌++◌, length, get_or, take, subst, sym, ⊎_elim, arith, append_assoc}
use Rattle.std.proofs.lemmas.List.{append-nil, get_or_read}
use Rattle.std.proofs.lemmas.Bool.{cases_eq}
use Rattle.gr_base.specs.Prelude.{EachAfter}

-- each of the first n items fits after those before it
abbrev pub EachBelow : {X : Type 0} → (List X → X → Type 0) → List X → ℕ → Type 0
EachBelow {X} Fits xs n = (k : ℕ) (d : X) → k < n → Fits (take k xs) (get_or xs k d)

-- if each item fits after those before it, so does the one at an index
pub EachAfter-at : {X : Type 0} (Fits : List X → X → Type 0) (before xs : List X)
    → EachAfter Fits before xs → (k : ℕ) (d : X) → k < length xs → Fits (before ++ take k xs) (get_or xs k d)
EachAfter-at Fits before [] each k d within = absurd (omega arith)
EachAfter-at Fits before (x ∷ xs) each zero d within = subst (λ l. Fits l x) (sym (append-nil before)) each.0
EachAfter-at Fits before (x ∷ xs) each (suc k) d within =
    subst (λ l. Fits l (get_or xs k d)) (append_assoc before (x ∷ []) (take k xs))
    (EachAfter-at Fits (before ++ x ∷ []) xs each.1 k d (omega arith))

pub EachAfter-from_at : {X : Type 0} (Fits : List X → X → Type 0) (before xs : List X)
    → ((k : ℕ) (d : X) → k < length xs → Fits (before ++ take k xs) (get_or xs k d)) → EachAfter Fits before xs
EachAfter-from_at Fits before [] at = tt
EachAfter-from_at Fits before (x ∷ xs) at = (
  subst (λ l. Fits l x) (append-nil before) (at 0 x (omega arith)),
  EachAfter-from_at Fits (before ++ x ∷ []) xs (λ k d within. subst (λ l. Fits l (get_or xs k d))
      (sym (append_assoc before (x ∷ []) (take k xs))) (at (suc k) d (omega arith))),
)

-- each item fits, if the item at each index does
pub EachAfter-from_below : {X : Type 0} (Fits : List X → X → Type 0) (xs : List X)
    → EachBelow Fits xs (length xs) → EachAfter Fits [] xs
EachAfter-from_below Fits xs below = EachAfter-from_at Fits [] xs below

-- the item at each index fits, if each item does
pub EachBelow-from_after : {X : Type 0} (Fits : List X → X → Type 0) (xs : List X)
    → EachAfter Fits [] xs → EachBelow Fits xs (length xs)
EachBelow-from_after Fits xs each = EachAfter-at Fits [] xs each

-- one more item at the end
pub EachAfter-push : {X : Type 0} (Fits : List X → X → Type 0) (before xs : List X) (x : X)
    → EachAfter Fits before xs → Fits (before ++ xs) x → EachAfter Fits before (xs ++ x ∷ [])
EachAfter-push Fits before [] x each fits = (subst (λ l. Fits l x) (append-nil before) fits, tt)
EachAfter-push Fits before (y ∷ xs) x each fits = (
  each.0,
  EachAfter-push Fits (before ++ y ∷ []) xs x each.1
      (subst (λ l. Fits l x) (sym (append_assoc before (y ∷ []) xs)) fits),
)

-- an item that was read
pub EachAfter-read : {X : Type 0} (Fits : List X → X → Type 0) (xs : List X) (k : ℕ) (x : X)
    → x ≡ get_or xs k x → k < length xs → EachAfter Fits [] xs → Fits (take k xs) x
EachAfter-read Fits xs k x read within each =
    subst (Fits (take k xs)) (sym read) (EachAfter-at Fits [] xs each k x within)

-- one more item, which was read
pub EachBelow-more : {X : Type 0} (Fits : List X → X → Type 0) (xs : List X) (i : ℕ) (x : X)
    → i < length xs → x ≡ get_or xs i x → EachBelow Fits xs i → Fits (take i xs) x → EachBelow Fits xs (i + 1)
EachBelow-more Fits xs i x within read below fits k d less =
    ⊎_elim
    (λ same. subst (λ j. Fits (take j xs) (get_or xs j d)) (sym same)
    (subst (Fits (take i xs)) (get_or_read xs i x within read d) fits))
    (λ other. below k d (omega arith))
    (cases_eq k i)
