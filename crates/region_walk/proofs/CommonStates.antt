-- What two states know in common, over numbers and over trees.
use Rattle.std.proofs.Common.{◌≡◌, ℕ, List, length, Option, Some, None, refl, sym, ap, ◌∙◌, subst, ⊎_elim}
use Rattle.std.proofs.lemmas.List.{ext_get_or, length-map}
use Rattle.symbolic_values.specs.declared.nodes.Node.{Node}
use Rattle.symbolic_values.specs.Prelude.{Value, tree_of, IsTable}
use Rattle.trace_patterns.specs.Prelude.{SymSlot, AnySlot, RamSlot, EramSlot, OramSlot, tree_held, slot_held, common_tree, common_slot, common}
use Rattle.trace_patterns.proofs.SymStateLaws.{IsSized, own_tree, own_slot, tree-common, slot-common, sized-common, common_tree-cases, common_slot-cases}
use Rattle.region_walk.specs.declared.states.Origin.{Origin}
use Rattle.region_walk.specs.declared.states.Origin.TheVariants.{Entry, Loaded}
use Rattle.region_walk.specs.declared.states.Slot.{Slot}
use Rattle.region_walk.specs.declared.states.Slot.TheVariants.{Any, Ram, Eram, Oram}
use Rattle.region_walk.specs.declared.states.RegionState.{RegionState}
use Rattle.region_walk.specs.Prelude.{known_tree, origin_of, slot_of, NumberFits, NumberedSlotFits, IsCommonOf, number_in, slot_at, sym_of, StateFits, IsCommon}
use Rattle.region_walk.proofs.Numbered.{tree_held-sym, slot_held-sym, state-same}
use Rattle.trace_patterns.specs.SymStates as trees

-- what is known in common has the numbers of one of the states
common-fits : {X : Type 0} (Fits : X → Type 0) (nothing x y z : X) → Fits nothing → Fits x → IsCommonOf nothing x y z
    → Fits z
common-fits Fits nothing x y z none hx h =
    ⊎_elim
    (λ (same : (x ≡ y) × (z ≡ x)). subst Fits (sym same.1) hx)
    (λ (differs : (x ≡ y → ⊥) × (z ≡ nothing)). subst Fits (sym differs.1) none)
    h

-- what two states know in common fits if the first state fits
pub state_fits-common : (n : ℕ) (s t u : RegionState) → StateFits n s → IsCommon s t u → StateFits n u
state_fits-common n s t u hs h = record {
  register_count = h.register_count ∙ hs.register_count;
  slot_count = h.slot_count ∙ hs.slot_count;
  registers = λ r. common-fits (NumberFits n) None (number_in s r) (number_in t r) (number_in u r) tt (hs.registers r)
      (h.registers r);
  slots = λ k. common-fits (NumberedSlotFits n) Any (slot_at s k) (slot_at t k) (slot_at u k) tt (hs.slots k)
      (h.slots k);
}

-- equal trees have equal numbers
module _ (nodes : List Node) (table : IsTable nodes) where
  held-injective : (x y : Option ℕ) → NumberFits (length nodes) x → NumberFits (length nodes) y
      → known_tree nodes x ≡ known_tree nodes y → x ≡ y
  held-injective (Some i) (Some j) hx hy e =
      let f : ◌≡◌ {A = Option Value} (Some (tree_of nodes i)) (Some (tree_of nodes j)) = e in
      let same : tree_of nodes i ≡ tree_of nodes j = cc in
      ap (λ (k : ℕ). Some k) (table.distinct i j hx hy same)
  held-injective None None hx hy e = refl
  held-injective None (Some j) hx hy e = absurd (let f : ◌≡◌ {A = Option Value} None (Some (tree_of nodes j)) = e in cc)
  held-injective (Some i) None hx hy e = absurd (let f : ◌≡◌ {A = Option Value} (Some (tree_of nodes i)) None = e in cc)

  origin-injective : (x y : Origin) → origin_of x ≡ origin_of y → x ≡ y
  origin-injective (Entry j) (Entry k) e =
      let f : ◌≡◌ {A = trees.Origin} (trees.Entry j) (trees.Entry k) = e in
      let same : j ≡ k = cc in
      ap (λ (n : ℕ). Entry n) same
  origin-injective Loaded Loaded e = refl
  origin-injective (Entry j) Loaded e = absurd (let f : ◌≡◌ {A = trees.Origin} (trees.Entry j) trees.Loaded = e in cc)
  origin-injective Loaded (Entry k) e = absurd (let f : ◌≡◌ {A = trees.Origin} trees.Loaded (trees.Entry k) = e in cc)

  slot-injective : (x y : Slot) → NumberedSlotFits (length nodes) x → NumberedSlotFits (length nodes) y
      → slot_of nodes x ≡ slot_of nodes y → x ≡ y
  slot-injective Any Any hx hy e = refl
  slot-injective (Ram i origin) (Ram j origin') hx hy e =
      let f : ◌≡◌ {A = SymSlot} (RamSlot (tree_of nodes i) (origin_of origin))
      (RamSlot (tree_of nodes j) (origin_of origin')) = e in
      let same : tree_of nodes i ≡ tree_of nodes j = cc in
      let origins : origin_of origin ≡ origin_of origin' = cc in
      ap (λ (n : ℕ). Ram n origin) (table.distinct i j hx hy same)
      ∙ ap (Ram j) (origin-injective origin origin' origins)
  slot-injective (Eram i) (Eram j) hx hy e =
      let f : ◌≡◌ {A = SymSlot} (EramSlot (tree_of nodes i)) (EramSlot (tree_of nodes j)) = e in
      let same : tree_of nodes i ≡ tree_of nodes j = cc in
      ap (λ (n : ℕ). Eram n) (table.distinct i j hx hy same)
  slot-injective (Oram a) (Oram b) hx hy e =
      let f : ◌≡◌ {A = SymSlot} (OramSlot a) (OramSlot b) = e in
      let same : a ≡ b = cc in
      ap (λ (n : ℕ). Oram n) same
  slot-injective x y hx hy e = cc

  -- a value that is the same in two states, and one that isn't
  held-common : (x y z : Option ℕ) → NumberFits (length nodes) x → NumberFits (length nodes) y → IsCommonOf None x y z
      → known_tree nodes z ≡ common_tree (known_tree nodes x) (known_tree nodes y)
  held-common x y z hx hy h =
      ⊎_elim
      (λ (same : (x ≡ y) × (z ≡ x)).
      ap (known_tree nodes) same.1 ∙ sym (own_tree (known_tree nodes x))
      ∙ ap (λ (v : Option ℕ). common_tree (known_tree nodes x) (known_tree nodes v)) same.0)
      (λ (differs : (x ≡ y → ⊥) × (z ≡ None)).
      ap (known_tree nodes) differs.1 ∙ sym (⊎_elim
      (λ (none : common_tree (known_tree nodes x) (known_tree nodes y) ≡ None). none)
      (λ (equal : (known_tree nodes x ≡ known_tree nodes y)
      × (common_tree (known_tree nodes x) (known_tree nodes y) ≡ known_tree nodes x)).
      absurd (differs.0 (held-injective x y hx hy equal.0)))
      (common_tree-cases (known_tree nodes x) (known_tree nodes y))))
      h

  bound-common : (x y z : Slot) → NumberedSlotFits (length nodes) x → NumberedSlotFits (length nodes) y
      → IsCommonOf Any x y z
      → slot_of nodes z ≡ common_slot (slot_of nodes x) (slot_of nodes y)
  bound-common x y z hx hy h =
      ⊎_elim
      (λ (same : (x ≡ y) × (z ≡ x)).
      ap (slot_of nodes) same.1 ∙ sym (own_slot (slot_of nodes x))
      ∙ ap (λ (b : Slot). common_slot (slot_of nodes x) (slot_of nodes b)) same.0)
      (λ (differs : (x ≡ y → ⊥) × (z ≡ Any)).
      ap (slot_of nodes) differs.1 ∙ sym (⊎_elim
      (λ (any : common_slot (slot_of nodes x) (slot_of nodes y) ≡ AnySlot). any)
      (λ (equal : (slot_of nodes x ≡ slot_of nodes y) ×
      (common_slot (slot_of nodes x) (slot_of nodes y) ≡ slot_of nodes x)).
      absurd (differs.0 (slot-injective x y hx hy equal.0)))
      (common_slot-cases (slot_of nodes x) (slot_of nodes y))))
      h

  sized : (s : RegionState) → StateFits (length nodes) s → IsSized (sym_of nodes s)
  unfolding sym_of
  sized s h = record {
    registers = length-map s.registers (known_tree nodes) ∙ h.register_count;
    slots = length-map s.slots (slot_of nodes) ∙ h.slot_count;
  }

  -- what two states over numbers know in common represents the join of the states over trees
  pub sym_of-common : (s t u : RegionState) → StateFits (length nodes) s → StateFits (length nodes) t → IsCommon s t u
      → sym_of nodes u ≡ common (sym_of nodes s) (sym_of nodes t)
  sym_of-common s t u hs ht h =
      let first = sized s hs in
      let own = sized u (state_fits-common (length nodes) s t u hs h) in
      let whole = sized-common (sym_of nodes s) (sym_of nodes t) first (sized t ht) in
      state-same _ _ (ext_get_or None (sym_of nodes u).registers (common (sym_of nodes s) (sym_of nodes t)).registers
      (own.registers ∙ sym whole.registers)
      (λ r lt. tree_held-sym nodes u r
      ∙ held-common (number_in s r) (number_in t r) (number_in u r) (hs.registers r) (ht.registers r) (h.registers r)
      ∙ sym (tree-common (sym_of nodes s) (sym_of nodes t) r
      ∙ ap (λ (v : Option Value). common_tree v (tree_held (sym_of nodes t) r)) (tree_held-sym nodes s r)
      ∙ ap (common_tree (known_tree nodes (number_in s r))) (tree_held-sym nodes t r))))
      (ext_get_or AnySlot (sym_of nodes u).slots (common (sym_of nodes s) (sym_of nodes t)).slots
      (own.slots ∙ sym whole.slots)
      (λ k lt. slot_held-sym nodes u k
      ∙ bound-common (slot_at s k) (slot_at t k) (slot_at u k) (hs.slots k) (ht.slots k) (h.slots k)
      ∙ sym (slot-common (sym_of nodes s) (sym_of nodes t) k
      ∙ ap (λ (b : SymSlot). common_slot b (slot_held (sym_of nodes t) k)) (slot_held-sym nodes s k)
      ∙ ap (common_slot (slot_of nodes (slot_at s k))) (slot_held-sym nodes t k))))
