-- States over numbers and the states over trees that they represent.
use Rattle.std.proofs.Common.{◌≡◌, ℕ, suc, ◌+◌, ◌<◌, ◌≤◌, List, [], ◌∷◌, length, get_or, set, map, Option, Some, None, refl, sym, ap, ◌∙◌, subst, ⊎_elim, arith, length-set, get_or-set_same, get_or-set_other}
use Rattle.std.specs.Prelude.{is_none}
use Rattle.std.proofs.lemmas.Bool.{cases_eq, cases_lt}
use Rattle.std.proofs.lemmas.List.{map-set, get_or_past}
use Rattle.std.proofs.Math.ListN.{get_or-map}
use Rattle.symbolic_values.specs.declared.nodes.Node.{Node}
use Rattle.symbolic_values.specs.Prelude.{Value, KeepsTrees}
use Rattle.trace_patterns.specs.Prelude.{SymState, tree_held, slot_held, hold_tree, hold_slot, slot_bank, known_after}
use Rattle.region_walk.specs.declared.states.Slot.{Slot}
use Rattle.region_walk.specs.declared.states.Slot.TheVariants.{Any, Ram, Eram, Oram}
use Rattle.region_walk.specs.declared.states.RegionState.{RegionState}
use Rattle.region_walk.specs.Prelude.{known_tree, origin_of, slot_of, bank_of, NumberFits, NumberedSlotFits, number_in, slot_at, with_number, with_known_slot, sym_of, known_of, StateFits}
use Rattle.region_walk.proofs.TableGrowth.{keeps-tree}
use Rattle.trace_patterns.specs.SymStates as trees

-- numbers and slots keep what they represent in a table that grows
pub held-keeps : (old new : List Node) → KeepsTrees old new → (v : Option ℕ) → NumberFits (length old) v
    → known_tree new v ≡ known_tree old v
held-keeps old new keeps None h = refl
held-keeps old new keeps (Some i) h = ap (λ (t : Value). Some t) (keeps-tree old new keeps i h)

pub slot_of-keeps : (old new : List Node) → KeepsTrees old new → (b : Slot) → NumberedSlotFits (length old) b
    → slot_of new b ≡ slot_of old b
slot_of-keeps old new keeps Any h = refl
slot_of-keeps old new keeps (Ram block origin) h =
    ap (λ (t : Value). trees.RamSlot t (origin_of origin)) (keeps-tree old new keeps block h)
slot_of-keeps old new keeps (Eram block) h = ap (λ (t : Value). trees.EramSlot t) (keeps-tree old new keeps block h)
slot_of-keeps old new keeps (Oram bank) h = refl

pub number_fits-more : (m n : ℕ) (v : Option ℕ) → m ≤ n → NumberFits m v → NumberFits n v
number_fits-more m n None le h = tt
number_fits-more m n (Some i) le h = omega arith

pub slot_fits-more : (m n : ℕ) (b : Slot) → m ≤ n → NumberedSlotFits m b → NumberedSlotFits n b
slot_fits-more m n Any le h = tt
slot_fits-more m n (Ram block origin) le h = omega arith
slot_fits-more m n (Eram block) le h = omega arith
slot_fits-more m n (Oram bank) le h = h

-- a state whose numbers are below a count has them below a greater one
pub state_fits-more : (m n : ℕ) (s : RegionState) → m ≤ n → StateFits m s → StateFits n s
state_fits-more m n s le h = record {
  register_count = h.register_count;
  slot_count = h.slot_count;
  registers = λ r. number_fits-more m n (number_in s r) le (h.registers r);
  slots = λ k. slot_fits-more m n (slot_at s k) le (h.slots k);
}

-- a register of the state over trees
pub tree_held-sym : (nodes : List Node) (s : RegionState) (r : ℕ) → tree_held (sym_of nodes s) r
    ≡ known_tree nodes (number_in s r)
unfolding sym_of
tree_held-sym nodes s r = get_or-map (known_tree nodes) s.registers r None

-- a slot of the state over trees
pub slot_held-sym : (nodes : List Node) (s : RegionState) (k : ℕ) → slot_held (sym_of nodes s) k
    ≡ slot_of nodes (slot_at s k)
unfolding sym_of
slot_held-sym nodes s k = get_or-map (slot_of nodes) s.slots k Any

-- lists are mapped alike if each item is
mapped_alike : {X Y : Type 0} (f g : X → Y) (d : X) (xs : List X) → ((i : ℕ) → f (get_or xs i d) ≡ g (get_or xs i d))
    → map f xs ≡ map g xs
mapped_alike f g d [] h = refl
mapped_alike f g d (x ∷ xs) h =
    let first : f x ≡ g x = h 0 in
    let rest = mapped_alike f g d xs (λ i. h (suc i)) in
    λ i. first i ∷ rest i

-- states with equal registers and slots are equal
pub state-same : (s t : SymState) → s.registers ≡ t.registers → s.slots ≡ t.slots → s ≡ t
state-same s t registers slots = λ i. record { registers = registers i; slots = slots i }

-- a state represents the same in a table that has grown
pub sym_of-keeps : (old new : List Node) → KeepsTrees old new → (s : RegionState) → StateFits (length old) s
    → sym_of new s ≡ sym_of old s
unfolding sym_of
sym_of-keeps old new keeps s h =
    state-same _ _ (mapped_alike (known_tree new) (known_tree old) None s.registers
    (λ r. held-keeps old new keeps (number_in s r) (h.registers r)))
    (mapped_alike (slot_of new) (slot_of old) Any s.slots (λ k. slot_of-keeps old new keeps (slot_at s k) (h.slots k)))

-- a register is changed
pub sym_of-register : (nodes : List Node) (s : RegionState) (r : ℕ) (v : Option ℕ)
    → hold_tree (sym_of nodes s) r (known_tree nodes v) ≡ sym_of nodes (with_number s r v)
unfolding sym_of
sym_of-register nodes s r v = state-same _ _ (sym (map-set (known_tree nodes) s.registers r v)) refl

-- a slot is changed
pub sym_of-slot : (nodes : List Node) (s : RegionState) (k : ℕ) (b : Slot)
    → hold_slot (sym_of nodes s) k (slot_of nodes b) ≡ sym_of nodes (with_known_slot s k b)
unfolding sym_of
sym_of-slot nodes s k b = state-same _ _ refl (sym (map-set (slot_of nodes) s.slots k b))

-- a property of each item after one was changed
pub set_cases : {X : Type 0} (P : X → Type 0) (xs : List X) (i j : ℕ) (y d : X) → P y → P d → P (get_or xs j d)
    → P (get_or (set xs i y) j d)
set_cases P xs i j y d here none other =
    ⊎_elim
    (λ (same : j ≡ i). ⊎_elim
    (λ (lt : i < length xs). subst P
    (sym (ap (λ (k : ℕ). get_or (set xs i y) k d) same ∙ get_or-set_same xs i y d lt)) here)
    (λ (le : length xs ≤ i). subst P (sym (get_or_past (set xs i y) j d (omega (arith, length-set xs i y)))) none)
    (cases_lt i (length xs)))
    (λ (ne : j ≡ i → ⊥). subst P (sym (get_or-set_other xs i j y d ne)) other)
    (cases_eq j i)

-- a property of one more item, which was changed
pub known_more : {X : Type 0} (P : ℕ → X → Type 0) (xs : List X) (n : ℕ) (v d : X) → n < length xs
    → ((r : ℕ) → r < n → P r (get_or xs r d)) → P n v → (r : ℕ) → r < n + 1 → P r (get_or (set xs n v) r d)
known_more P xs n v d inside below here r lt =
    ⊎_elim
    (λ (same : r ≡ n). subst (λ (q : ℕ). P q (get_or (set xs n v) q d)) (sym same)
    (subst (P n) (sym (get_or-set_same xs n v d inside)) here))
    (λ (other : r ≡ n → ⊥). subst (P r) (sym (get_or-set_other xs n r v d other)) (below r (omega arith)))
    (cases_eq r n)

-- a register with a number below the count
pub state_fits-register : (n : ℕ) (s : RegionState) (r : ℕ) (v : Option ℕ) → StateFits n s → NumberFits n v
    → StateFits n (with_number s r v)
state_fits-register n s r v h hv = record {
  register_count = length-set s.registers r v ∙ h.register_count;
  slot_count = h.slot_count;
  registers = λ q. set_cases (NumberFits n) s.registers r q v None hv tt (h.registers q);
  slots = h.slots;
}

-- a slot with numbers below the count
pub state_fits-slot : (n : ℕ) (s : RegionState) (k : ℕ) (b : Slot) → StateFits n s → NumberedSlotFits n b
    → StateFits n (with_known_slot s k b)
state_fits-slot n s k b h hb = record {
  register_count = h.register_count;
  slot_count = length-set s.slots k b ∙ h.slot_count;
  registers = h.registers;
  slots = λ q. set_cases (NumberedSlotFits n) s.slots k q b Any hb tt (h.slots q);
}

-- the bank of a slot
bank-same : (nodes : List Node) (b : Slot) → slot_bank (slot_of nodes b) ≡ bank_of b
bank-same nodes Any = refl
bank-same nodes (Ram block origin) = refl
bank-same nodes (Eram block) = refl
bank-same nodes (Oram bank) = refl

none-same : (nodes : List Node) (v : Option ℕ) → is_none (known_tree nodes v) ≡ is_none v
none-same nodes None = refl
none-same nodes (Some i) = refl

mapped_twice : {X Y Z : Type 0} (f : X → Y) (g : Y → Z) (h : X → Z) (xs : List X) → ((x : X) → g (f x) ≡ h x)
    → map g (map f xs) ≡ map h xs
mapped_twice f g h [] same = refl
mapped_twice f g h (x ∷ xs) same =
    let first = same x in
    let rest = mapped_twice f g h xs same in
    λ i. first i ∷ rest i

-- what is known after a region
pub known_after-sym : (nodes : List Node) (s : RegionState) → known_after (sym_of nodes s) ≡ known_of s
unfolding sym_of known_of
known_after-sym nodes s =
    let secret = mapped_twice (known_tree nodes) is_none is_none s.registers (none-same nodes) in
    let banks = mapped_twice (slot_of nodes) slot_bank bank_of s.slots (bank-same nodes) in
    λ i. record { secret = secret i; banks = banks i }
