-- Free slots: each holds no block for the whole run and serves no other variable, and no two are one.
use Rattle.std.proofs.Common.{◌≡◌, ◌≢◌, ℕ, zero, suc, ◌+◌, ◌-◌, ◌<◌, ◌≤◌, Bool, true, false, List, [], ◌∷◌, length, take, drop, get_or, set, Option, Some, None, ◌⊎◌, inl, inr, refl, sym, ap, ◌∙◌, ⊎_elim, arith}
use Rattle.std.specs.Prelude.{is_none, not, ◌==◌, ◌||◌}
use Rattle.std.specs.List.{list_any}
use Rattle.std.proofs.lemmas.Bool.{and_parts, cases_eq, cases_lt, cond_both, eq-eqb, false≢true}
use Rattle.std.proofs.lemmas.List.{get_or-drop, get_or-set_same, get_or-set_other, get_or-take, length-drop, length-set, length-take}
use Rattle.std.proofs.lemmas.List.Folds.{list_any_at}
use Rattle.scratch_alloc.specs.declared.plans.Pin.{Pin}
use Rattle.scratch_alloc.specs.Prelude.{Plan, pin_to, pin_of_slot, slot_at}
use Rattle.spread_alloc.specs.Prelude.{spread_slots, serves_other, is_free, free_among, free_slots, pinned_from}

-- a slot that may hold a block of variable number k
pub record IsFree (plan : Plan) (k slot : ℕ) : Type 0 where
  pub few : slot < 8
  pub apart : slot ≢ 6
  pub unpinned : pin_of_slot plan slot ≡ None
  pub only : (i : ℕ) → i < length plan.slots → i ≢ k → slot_at plan i ≢ slot

-- each slot is free, and above those before it
abbrev pub FreeFrom : Plan → ℕ → ℕ → List ℕ → Type 0
FreeFrom plan k low [] = Unit {0}
FreeFrom plan k low (slot ∷ slots) = (low ≤ slot) × IsFree plan k slot × FreeFrom plan k (slot + 1) slots

no_pin : (o : Option Pin) → is_none o ≡ true → o ≡ None
no_pin None is = refl
no_pin (Some q) is = absurd (false≢true is)

left_true : (a b : Bool) → a ≡ true → (a || b) ≡ true
left_true true b is = refl
left_true false b is = absurd (false≢true is)

right_true : (a b : Bool) → b ≡ true → (a || b) ≡ true
right_true true b is = refl
right_true false b is = is

not_true : (b : Bool) → not b ≡ true → b ≡ false
not_true true is = absurd (false≢true is)
not_true false is = refl

-- a variable that the slot serves is found
found : (slots : List ℕ) (k slot i : ℕ) → i < length slots → i ≢ k → get_or slots i 0 ≡ slot
    → serves_other slots k slot ≡ true
found slots k slot i within other same =
    ⊎_elim
    (λ less.
    left_true (list_any (λ s. s == slot) (take k slots)) (list_any (λ s. s == slot) (drop (k + 1) slots))
    (list_any_at (λ s. s == slot) (take k slots) i 0 (omega (arith, length-take k slots, within, less))
    (eq-eqb _ slot (get_or-take k slots i 0 less ∙ same))))
    (λ past.
    let at : i ≡ k + 1 + (i - (k + 1)) = omega (arith, past, other) in
    right_true (list_any (λ s. s == slot) (take k slots)) (list_any (λ s. s == slot) (drop (k + 1) slots))
    (list_any_at (λ s. s == slot) (drop (k + 1) slots) (i - (k + 1)) 0
    (omega (arith, length-drop (k + 1) slots, within, past, other))
    (eq-eqb _ slot (get_or-drop (k + 1) slots (i - (k + 1)) 0 ∙ ap (λ n. get_or slots n 0) (sym at) ∙ same))))
    (cases_lt i k)

is_free-is : (plan : Plan) (k slot : ℕ) → slot < 8 → slot ≢ 6 → is_free plan.pins plan.slots k slot ≡ true → IsFree plan k slot
is_free-is plan k slot few apart is =
    let parts = and_parts (is_none (pin_of_slot plan slot)) (not (serves_other plan.slots k slot)) is in
    record {
      few = few;
      apart = apart;
      unpinned = no_pin (pin_of_slot plan slot) parts.0;
      only = λ i within other same.
          false≢true (sym (not_true (serves_other plan.slots k slot) parts.1) ∙ found plan.slots k slot i within other same);
    }

-- slots that may hold blocks of spread arrays, each above those before it
abbrev Spares : ℕ → List ℕ → Type 0
Spares low [] = Unit {0}
Spares low (slot ∷ slots) = (low ≤ slot) × (slot < 8) × (slot ≢ 6) × Spares (slot + 1) slots

free-lower : (plan : Plan) (k low more : ℕ) (slots : List ℕ) → low ≤ more
    → FreeFrom plan k more slots → FreeFrom plan k low slots
free-lower plan k low more [] less h = h
free-lower plan k low more (slot ∷ slots) less h = (omega (arith, less, h.0), h.1, h.2)

free_among-is : (plan : Plan) (k low : ℕ) (slots : List ℕ) → Spares low slots
    → FreeFrom plan k low (free_among plan.pins plan.slots k slots)
free_among-is plan k low [] h = tt
free_among-is plan k low (slot ∷ slots) h =
    let rest = free_among-is plan k (slot + 1) slots h.3 in
    cond_both (is_free plan.pins plan.slots k slot) (slot ∷ free_among plan.pins plan.slots k slots) (free_among plan.pins plan.slots k slots)
    (FreeFrom plan k low)
    (λ free. (h.0, is_free-is plan k slot h.1 h.2 free, rest))
    (λ other. free-lower plan k low (slot + 1) (free_among plan.pins plan.slots k slots) (omega (arith, h.0)) rest)

pub free_slots-are : (plan : Plan) (k : ℕ) → FreeFrom plan k 2 (free_slots plan.pins plan.slots k)
free_slots-are plan k =
    free_among-is plan k 2 spread_slots
    ((
      omega arith,
      omega arith,
      omega arith,
      (
        omega arith,
        omega arith,
        omega arith,
        (
          omega arith,
          omega arith,
          omega arith,
          (
            omega arith,
            omega arith,
            omega arith,
            (omega arith, omega arith, omega arith, tt),
          ),
        ),
      ),
    ))

-- so are the first ones
pub first-free : (plan : Plan) (k low n : ℕ) (slots : List ℕ) → FreeFrom plan k low slots
    → FreeFrom plan k low (take n slots)
first-free plan k low zero slots h = tt
first-free plan k low (suc n) [] h = tt
first-free plan k low (suc n) (slot ∷ slots) h = (h.0, h.1, first-free plan k (slot + 1) n slots h.2)

-- one of them, by its number
pub free-at : (plan : Plan) (k low : ℕ) (slots : List ℕ) (j : ℕ) → FreeFrom plan k low slots → j < length slots
    → (low ≤ get_or slots j 0) × IsFree plan k (get_or slots j 0)
free-at plan k low [] j h within = absurd (omega (arith, within))
free-at plan k low (slot ∷ slots) zero h within = (h.0, h.1)
free-at plan k low (slot ∷ slots) (suc j) h within =
    let rest = free-at plan k (slot + 1) slots j h.2 (omega (arith, within)) in
    (omega (arith, h.0, rest.0), rest.1)

-- slots that aren't among them hold what they held
pub pinned-other : (pins : List (Option Pin)) (slots : List ℕ) (bank block t : ℕ)
    → ((j : ℕ) → j < length slots → get_or slots j 0 ≢ t)
    → get_or (pinned_from pins slots bank block) t None ≡ get_or pins t None
pinned-other pins [] bank block t other = refl
pinned-other pins (slot ∷ slots) bank block t other =
    pinned-other (set pins slot (Some (pin_to bank block))) slots bank (block + 1) t
    (λ j within. other (suc j) (omega (arith, within)))
    ∙ get_or-set_other pins slot t (Some (pin_to bank block)) None (λ same. other 0 (omega arith) (sym same))

-- and each of them holds its block
pub pinned-at : (plan : Plan) (pins : List (Option Pin)) (k low : ℕ) (slots : List ℕ) (bank block j : ℕ)
    → length pins ≡ 8 → FreeFrom plan k low slots → j < length slots
    → get_or (pinned_from pins slots bank block) (get_or slots j 0) None ≡ Some (pin_to bank (block + j))
pinned-at plan pins k low [] bank block j size h within = absurd (omega (arith, within))
pinned-at plan pins k low (slot ∷ slots) bank block zero size h within =
    let few = h.1.few in
    pinned-other (set pins slot (Some (pin_to bank block))) slots bank (block + 1) slot
    (λ j inside same. let at = (free-at plan k (slot + 1) slots j h.2 inside).0 in omega (arith, at, same))
    ∙ get_or-set_same pins slot (Some (pin_to bank block)) None (omega (arith, few, size))
    ∙ ap (λ n. Some (pin_to bank n)) (let e : block ≡ block + 0 = omega arith in e)
pinned-at plan pins k low (slot ∷ slots) bank block (suc j) size h within =
    pinned-at plan (set pins slot (Some (pin_to bank block))) k (slot + 1) slots bank (block + 1) j
    (length-set pins slot (Some (pin_to bank block)) ∙ size) h.2 (omega (arith, within))
    ∙ ap (λ n. Some (pin_to bank n)) (let e : block + 1 + j ≡ block + suc j = omega arith in e)

-- a slot that holds a block held it before, or is one of them
pub pinned-either : (pins : List (Option Pin)) (slots : List ℕ) (bank block t : ℕ)
    → ((j : ℕ) × (j < length slots) × (get_or slots j 0 ≡ t))
    ⊎ ((j : ℕ) → j < length slots → get_or slots j 0 ≢ t)
pinned-either pins [] bank block t = inr (λ j within same. omega (arith, within))
pinned-either pins (slot ∷ slots) bank block t = by (cases_eq slot t) (pinned-either pins slots bank block t)
  where
    by : (slot ≡ t) ⊎ (slot ≢ t)
        → ((j : ℕ) × (j < length slots) × (get_or slots j 0 ≡ t))
        ⊎ ((j : ℕ) → j < length slots → get_or slots j 0 ≢ t)
        → ((j : ℕ) × (j < length (slot ∷ slots)) × (get_or (slot ∷ slots) j 0 ≡ t))
        ⊎ ((j : ℕ) → j < length (slot ∷ slots) → get_or (slot ∷ slots) j 0 ≢ t)
    by (inl same) rest = inl (0, omega arith, same)
    by (inr other) (inl found) = inl (suc found.0, omega (arith, found.1), found.2)
    by (inr other) (inr none) = inr none_of
      where
        none_of : (j : ℕ) → j < length (slot ∷ slots) → get_or (slot ∷ slots) j 0 ≢ t
        none_of zero within same = other same
        none_of (suc j) within same = none j (omega (arith, within)) same

pub length-pinned : (pins : List (Option Pin)) (slots : List ℕ) (bank block : ℕ)
    → length (pinned_from pins slots bank block) ≡ length pins
length-pinned pins [] bank block = refl
length-pinned pins (slot ∷ slots) bank block =
    length-pinned (set pins slot (Some (pin_to bank block))) slots bank (block + 1)
    ∙ length-set pins slot (Some (pin_to bank block))
