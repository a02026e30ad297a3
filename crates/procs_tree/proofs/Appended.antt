-- A list that grows by one at its end for each element of another.
use Rattle.std.proofs.Common.{◌≡◌, ℕ, ◌+◌, ◌<◌, List, [], ◌∷◌, ◌++◌, length, drop, get_or, sym, ap, ◌∙◌, append_assoc}
use Rattle.std.proofs.lemmas.List.{drop_more}

pub one_appended : {X Y : Type 0} (F : List X → List Y) (xs : List X) (i : ℕ) (x : X) (y : Y)
    (before after total : List Y) → i < length xs → x ≡ get_or xs i x
    → F (x ∷ drop (i + 1) xs) ≡ y ∷ F (drop (i + 1) xs) → after ≡ before ++ y ∷ []
    → before ++ F (drop i xs) ≡ total → after ++ F (drop (i + 1) xs) ≡ total
one_appended F xs i x y before after total lt at step more known =
    ap (λ l. l ++ F (drop (i + 1) xs)) more
    ∙ (append_assoc before (y ∷ []) (F (drop (i + 1) xs))
    ∙ (ap (λ l. before ++ l)
    (sym step ∙ ap F (ap (λ z. z ∷ drop (i + 1) xs) at ∙ sym (drop_more xs i x lt)))
    ∙ known))
