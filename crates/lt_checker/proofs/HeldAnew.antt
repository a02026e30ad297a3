-- What a state in a region holds after a change of a register or of a slot.
use Rattle.std.proofs.Common.{◌≡◌, ℕ, ◌<◌, ◌≤◌, length, set, Option, Some, None, sym, ◌∙◌, subst, ⊎_elim, arith, length-set, get_or-set_same}
use Rattle.std.proofs.lemmas.Bool.{cases_lt}
use Rattle.std.proofs.lemmas.List.{get_or_past}
use Rattle.symbolic_values.specs.Prelude.{Value}
use Rattle.trace_patterns.specs.Prelude.{SymSlot, AnySlot, SymState, tree_held, slot_held, hold_tree, hold_slot}

-- None isn't a tree
pub no_tree : {A : Type 0} (t : Value) → ◌≡◌ {A = Option Value} None (Some t) → A
no_tree t e = absurd cc

-- the tree of the register that was changed is the new one
pub tree_anew : (known : SymState) (r : ℕ) (value : Option Value) (t : Value)
    → tree_held (hold_tree known r value) r ≡ Some t → value ≡ Some t
tree_anew known r value t held =
    ⊎_elim
    (λ (lt : r < length known.registers). sym (get_or-set_same known.registers r value None lt) ∙ held)
    (λ (le : length known.registers ≤ r).
    no_tree t (sym (get_or_past (set known.registers r value) r None
    (omega (arith, length-set known.registers r value))) ∙ held))
    (cases_lt r (length known.registers))

-- what holds for an unknown slot and for the new one holds for the slot that was changed
pub slot_anew : (P : SymSlot → Type 0) (known : SymState) (k : ℕ) (bound : SymSlot) → P AnySlot → P bound
    → P (slot_held (hold_slot known k bound) k)
slot_anew P known k bound any new =
    ⊎_elim
    (λ (lt : k < length known.slots). subst P (sym (get_or-set_same known.slots k bound AnySlot lt)) new)
    (λ (le : length known.slots ≤ k). subst P
    (sym (get_or_past (set known.slots k bound) k AnySlot (omega (arith, length-set known.slots k bound)))) any)
    (cases_lt k (length known.slots))
