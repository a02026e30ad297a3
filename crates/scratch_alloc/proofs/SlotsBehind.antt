-- The slots of variables, one more at a time; and the banks of which a slot holds blocks.
use Rattle.std.proofs.Common.{◌≡◌, ℕ, ◌+◌, ◌<◌, ◌≤◌, List, [], ◌∷◌, ◌++◌, length, take, drop, get_or, sym, ap, ◌∙◌, append_assoc}
use Rattle.std.proofs.lemmas.List.{append-nil, take_more, drop_more, drop_all}
use Rattle.bank_alloc.specs.declared.places.Place.{Place}
use Rattle.scratch_alloc.specs.Prelude.{slot_behind, slots_behind, slots_of}

-- the slots so far and those that are left are the slots of all
pub slots_more : (places : List Place) (i : ℕ) (d : Place) (slots more : List ℕ) (slot : ℕ) → i < length places
    → slot ≡ slot_behind (take i places) (get_or places i d) → more ≡ slots ++ slot ∷ []
    → slots ++ slots_behind (take i places) (drop i places) ≡ slots_of places
    → more ++ slots_behind (take (i + 1) places) (drop (i + 1) places) ≡ slots_of places
unfolding slots_behind
slots_more places i d slots more slot within is pushed so_far =
    let q = get_or places i d in
    ap (λ (m : List ℕ). m ++ slots_behind (take (i + 1) places) (drop (i + 1) places))
    (pushed ∙ ap (λ s. slots ++ s ∷ []) is)
    ∙ append_assoc slots (slot_behind (take i places) q ∷ []) (slots_behind (take (i + 1) places) (drop (i + 1) places))
    ∙ ap (λ (before : List Place). slots ++ (slot_behind (take i places) q ∷ slots_behind before (drop (i + 1) places)))
    (take_more places i d within)
    ∙ ap (λ (left : List Place). slots ++ slots_behind (take i places) left) (sym (drop_more places i d within))
    ∙ so_far

-- after the last place the slots so far are all
pub slots_all : (places : List Place) (i : ℕ) (slots : List ℕ) → length places ≤ i
    → slots ++ slots_behind (take i places) (drop i places) ≡ slots_of places → slots ≡ slots_of places
unfolding slots_behind
slots_all places i slots past so_far =
    sym (append-nil slots)
    ∙ ap (λ (left : List Place). slots ++ slots_behind (take i places) left) (sym (drop_all i places past))
    ∙ so_far
