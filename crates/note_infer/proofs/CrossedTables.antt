-- The table of the branches that are crossed: how it begins, and one more branch.
use Rattle.std.proofs.Common.{◌≡◌, ℕ, ◌<◌, ◌≤◌, ◌||◌, Bool, true, false, List, [], ◌∷◌, length, get_or, set, sym, ap, ◌∙◌, ⊎_elim, arith, get_or-set_same, get_or-set_other}
use Rattle.std.specs.Prelude.{replicate}
use Rattle.std.proofs.lemmas.Bool.{cases_eq, cases_lt, eq-eqb, ne_eqb}
use Rattle.std.proofs.lemmas.List.{get_or_past, get_or-replicate, length-replicate}
use Rattle.note_infer.specs.Prelude.{is_crossed, TellsCrossed}

pub tells_none : (n : ℕ) → TellsCrossed [] (replicate n false)
tells_none n p =
    ⊎_elim (λ (lt : p < n). get_or-replicate n p false false lt)
    (λ (le : n ≤ p). get_or_past (replicate n false) p false (omega (arith, length-replicate n false)))
    (cases_lt p n)

pub tells_more : (list : List ℕ) (among : List Bool) (place : ℕ) → place < length among → TellsCrossed list among
    → TellsCrossed (place ∷ list) (set among place true)
tells_more list among place inside h p =
    ⊎_elim
    (λ (e : p ≡ place).
    ap (λ (x : ℕ). get_or (set among place true) x false) e ∙ get_or-set_same among place true false inside
    ∙ sym (ap (λ (b : Bool). b || is_crossed list p) (eq-eqb place p (sym e))))
    (λ (ne : p ≡ place → ⊥).
    get_or-set_other among place p true false ne ∙ h p
    ∙ sym (ap (λ (b : Bool). b || is_crossed list p) (ne_eqb place p (λ e. ne (sym e)))))
    (cases_eq p place)
