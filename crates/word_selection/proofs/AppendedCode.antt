-- The code of steps for several slots, in a loop over the slots.
use Rattle.std.proofs.Common.{◌≡◌, ℕ, suc, ◌+◌, ◌-◌, ◌*◌, ◌<◌, ◌≤◌, Bool, not, List, ◌∷◌, ◌++◌, length, get_or, take, drop, sym, ap, ◌∙◌, arith, length-drop}
use Rattle.std.proofs.lemmas.List.{append_assoc, append-nil, drop_all, drop_more, take_all, map-append}
use Rattle.lt_isa.specs.declared.instructions.Instr.{Instr}
use Rattle.word_selection.specs.declared.effects.Effect.{Effect}
use Rattle.word_selection.specs.Prelude.{SlotStep, instruction_of, code_of, left_register, choice_steps, choices_steps, next_mask_steps, exchange_steps, exchanges_steps, mask_register}

code_of-append : (to : ℕ) (xs ys : List SlotStep) → code_of to (xs ++ ys) ≡ code_of to xs ++ code_of to ys
code_of-append to xs ys = map-append (instruction_of to) xs ys

-- the rest of a list as a loop sees it
rest-is : (slots : List ℕ) (i : ℕ) → take (length slots - (i + 1)) (drop (i + 1) slots) ≡ drop (i + 1) slots
rest-is slots i =
    take_all (length slots - (i + 1)) (drop (i + 1) slots) (omega (arith, length-drop (i + 1) slots))

-- one more choice
pub choices_more : (start before after : List Instr) (to size left : ℕ) (slots : List ℕ) (i : ℕ)
    → before ++ code_of to (choices_steps size (suc i) (drop i slots)) ≡ start
    → i < length slots
    → left ≡ left_register (take (length slots - (i + 1)) (drop (i + 1) slots))
    → after ≡ before ++ code_of to (choice_steps ((i + 1) * size) (get_or slots i 0) left)
    → after ++ code_of to (choices_steps size (suc (i + 1)) (drop (i + 1) slots)) ≡ start
choices_more start before after to size left slots i so-far inside is-left is-after =
    let rest = drop (i + 1) slots in
    let slot = get_or slots i 0 in
    let next : i + 1 ≡ suc i = omega arith in
    let follows : left ≡ left_register rest = is-left ∙ ap left_register (rest-is slots i) in
    let here : drop i slots ≡ slot ∷ rest = drop_more slots i 0 inside in
    ap (λ xs. xs ++ code_of to (choices_steps size (suc (i + 1)) rest)) is-after
    ∙ append_assoc before (code_of to (choice_steps ((i + 1) * size) slot left))
    (code_of to (choices_steps size (suc (i + 1)) rest))
    ∙ ap (λ x. before ++ (code_of to (choice_steps ((i + 1) * size) slot x)
    ++ code_of to (choices_steps size (suc (i + 1)) rest))) follows
    ∙ ap (λ m. before ++ (code_of to (choice_steps (m * size) slot (left_register rest))
    ++ code_of to (choices_steps size (suc m) rest))) next
    ∙ ap (λ xs. before ++ code_of to (choices_steps size (suc i) xs)) (sym here)
    ∙ so-far

-- all choices, at the end of the loop
pub choices_all : (start before : List Instr) (to size : ℕ) (slots : List ℕ) (i : ℕ)
    → before ++ code_of to (choices_steps size (suc i) (drop i slots)) ≡ start
    → length slots ≤ i
    → before ≡ start
choices_all start before to size slots i so-far past =
    sym (append-nil before)
    ∙ (sym (ap (λ xs. before ++ code_of to (choices_steps size (suc i) xs)) (drop_all i slots past)) ∙ so-far)

-- one more exchange
pub exchanges_more : (start before mid after : List Instr) (to size value mask : ℕ) (effect : Effect) (turn : Bool)
    (slots : List ℕ) (i : ℕ)
    → before ++ code_of to (exchanges_steps effect size value (suc i) turn (drop i slots)) ≡ start
    → i < length slots
    → mid
    ≡ before ++ code_of to (next_mask_steps size (i + 1) turn (take (length slots - (i + 1)) (drop (i + 1) slots)))
    → mask ≡ mask_register turn
    → after ≡ mid ++ code_of to (exchange_steps effect value (get_or slots i 0) mask)
    → after ++ code_of to (exchanges_steps effect size value (suc (i + 1)) (not turn) (drop (i + 1) slots)) ≡ start
exchanges_more start before mid after to size value mask effect turn slots i so-far inside is-mid is-mask is-after =
    let rest = drop (i + 1) slots in
    let slot = get_or slots i 0 in
    let next : i + 1 ≡ suc i = omega arith in
    let here : drop i slots ≡ slot ∷ rest = drop_more slots i 0 inside in
    let exchange = exchange_steps effect value slot (mask_register turn) in
    let more = exchanges_steps effect size value (suc (i + 1)) (not turn) rest in
    let masks = next_mask_steps size (i + 1) turn rest in
    let first : mid ≡ before ++ code_of to masks =
    is-mid ∙ ap (λ xs. before ++ code_of to (next_mask_steps size (i + 1) turn xs)) (rest-is slots i) in
    let second : after ≡ mid ++ code_of to exchange =
    is-after ∙ ap (λ m. mid ++ code_of to (exchange_steps effect value slot m)) is-mask in
    let joined : code_of to masks ++ (code_of to exchange ++ code_of to more) ≡ code_of to (masks ++ (exchange ++ more)) =
    ap (λ xs. code_of to masks ++ xs) (sym (code_of-append to exchange more))
    ∙ sym (code_of-append to masks (exchange ++ more)) in
    ap (λ xs. xs ++ code_of to more) (second ∙ ap (λ xs. xs ++ code_of to exchange) first)
    ∙ append_assoc (before ++ code_of to masks) (code_of to exchange) (code_of to more)
    ∙ append_assoc before (code_of to masks) (code_of to exchange ++ code_of to more)
    ∙ ap (λ xs. before ++ xs) joined
    ∙ ap (λ m. before ++ code_of to (next_mask_steps size m turn rest
    ++ (exchange ++ exchanges_steps effect size value (suc m) (not turn) rest))) next
    ∙ ap (λ xs. before ++ code_of to (exchanges_steps effect size value (suc i) turn xs)) (sym here)
    ∙ so-far

-- all exchanges, at the end of the loop
pub exchanges_all : (start before : List Instr) (to size value : ℕ) (effect : Effect) (turn : Bool) (slots : List ℕ)
    (i : ℕ)
    → before ++ code_of to (exchanges_steps effect size value (suc i) turn (drop i slots)) ≡ start
    → length slots ≤ i
    → before ≡ start
exchanges_all start before to size value effect turn slots i so-far past =
    sym (append-nil before)
    ∙ (sym
    (ap (λ xs. before ++ code_of to (exchanges_steps effect size value (suc i) turn xs)) (drop_all i slots past))
    ∙ so-far)
