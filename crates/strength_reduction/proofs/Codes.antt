-- Steps as instructions.
use Rattle.std.proofs.Common.{◌≡◌, ℕ, zero, suc, ◌+◌, ◌-◌, ◌<◌, ◌≤◌, List, ◌∷◌, ◌++◌, length, get_or, take, drop, refl, sym, ap, ◌∙◌, arith, length-drop}
use Rattle.std.proofs.lemmas.List.{append_assoc, append-nil, drop_all, drop_more, take_all}
use Rattle.lt_isa.specs.declared.instructions.Instr.{Instr}
use Rattle.strength_reduction.specs.Prelude.{numbered, code_of, sum_register, term_steps, sum_steps}

-- registers are counted by addition
pub numbered_is : (base i : ℕ) → numbered base i ≡ base + i
numbered_is base zero = omega arith
numbered_is base (suc i) = refl

-- one more term of a sum, in a loop over the bits
pub sum_more : (start before after : List Instr) (to held next : ℕ) (bits : List ℕ) (i : ℕ)
    → before ++ code_of to (sum_steps held (drop i bits)) ≡ start
    → i < length bits
    → next ≡ sum_register (take (length bits - (i + 1)) (drop (i + 1) bits))
    → after ≡ before ++ code_of to (term_steps next held (get_or bits i 0))
    → after ++ code_of to (sum_steps 1 (drop (i + 1) bits)) ≡ start
sum_more start before after to held next bits i so-far inside is-next is-after =
    let rest : take (length bits - (i + 1)) (drop (i + 1) bits) ≡ drop (i + 1) bits =
    take_all (length bits - (i + 1)) (drop (i + 1) bits) (omega (arith, length-drop (i + 1) bits)) in
    let follows : next ≡ sum_register (drop (i + 1) bits) = is-next ∙ ap sum_register rest in
    let here : drop i bits ≡ get_or bits i 0 ∷ drop (i + 1) bits = drop_more bits i 0 inside in
    ap (λ xs. xs ++ code_of to (sum_steps 1 (drop (i + 1) bits))) is-after
    ∙ (append_assoc before (code_of to (term_steps next held (get_or bits i 0)))
    (code_of to (sum_steps 1 (drop (i + 1) bits)))
    ∙ (ap (λ x. before ++ (code_of to (term_steps x held (get_or bits i 0))
    ++ code_of to (sum_steps 1 (drop (i + 1) bits)))) follows
    ∙ (ap (λ xs. before ++ code_of to (sum_steps held xs)) (sym here) ∙ so-far)))

-- the whole sum, where the loop ends
pub sum_all : (start before : List Instr) (to held : ℕ) (bits : List ℕ) (i : ℕ)
    → before ++ code_of to (sum_steps held (drop i bits)) ≡ start
    → length bits ≤ i
    → before ≡ start
sum_all start before to held bits i so-far past =
    sym (append-nil before)
    ∙ (sym (ap (λ xs. before ++ code_of to (sum_steps held xs)) (drop_all i bits past)) ∙ so-far)
