-- What a state in a region holds: at the entry, at a join, and after the join in public code.
use Rattle.std.proofs.Common.{◌≡◌, ℕ, zero, suc, ◌<◌, ◌≤◌, Bool, true, false, ◌&&◌, ◌==◌, ℤ, List, [], ◌∷◌, length, get_or, map, Option, Some, None, inl, inr, ◌⊎◌, ⊎_elim, refl, sym, ap, ◌∙◌, subst, arith, length-set}
use Rattle.std.specs.Prelude.{◌↔◌, if◌then◌else◌, is_none}
use Rattle.std.specs.List.{zip}
use Rattle.std.proofs.lemmas.Bool.{cases_lt, and_parts, and_from, eqb-true, eq-eqb}
use Rattle.std.proofs.lemmas.List.{get_or_past}
use Rattle.std.proofs.lemmas.List.FromFn.{get_or-map-range_with_len, length-map-range_with_len}
use Rattle.std.proofs.Math.ListN.{get_or-map}
use Rattle.lt_isa.specs.declared.instructions.Instr.{Instr}
use Rattle.lt_isa.specs.declared.instructions.Instr.TheVariants.{Nop, Halt, Li, Alu, Ldb, Stb, Idb, Ldw, Stw, Jmp, Br}
use Rattle.lt_isa.specs.Prelude.{Parts, is_ram, is_eram}
use Rattle.symbolic_values.specs.Prelude.{Value, Reg, same_tree}
use Rattle.symbolic_values.proofs.TreeEquality.{same_tree-true, same_tree-own}
use Rattle.trace_patterns.specs.declared.reasons.Reason.{Reason}
use Rattle.trace_patterns.specs.Prelude.{Shown, TreeEvent, Known, is_secret, bank_known, Origin, Entry, Loaded, SymSlot, AnySlot, RamSlot, EramSlot, OramSlot, SymState, tree_held, slot_held, hold_tree, hold_slot, entry_tree, entry_slot, entry_trees, entry_slots, at_entry, slot_bank, known_after, same_origin, common_tree, common_slot, common, IsJoin, Single, Refuses, Goes, Branches, at_tree, stores, if_bound, if_stored, single}

-- the numbers of registers and slots that the machine has
pub record IsSized (s : SymState) : Type 0 where
  pub registers : length s.registers ≡ 32
  pub slots : length s.slots ≡ 8

-- the tree of a register at the entry
pub tree-at_entry : (k : Known) (r : ℕ) → r < 32 → tree_held (at_entry k) r ≡ entry_tree k r
unfolding entry_trees
tree-at_entry k r inside = get_or-map-range_with_len (entry_tree k) 0 32 r r None inside (omega arith)

-- a slot at the entry of a region
pub slot-at_entry : (k : Known) (j : ℕ) → j < 8 → slot_held (at_entry k) j ≡ entry_slot (bank_known k j) j
unfolding entry_slots
slot-at_entry k j inside =
    get_or-map-range_with_len (λ i. entry_slot (bank_known k i) i) 0 8 j j AnySlot inside (omega arith)

-- the state at the entry has all registers and slots
pub sized-at_entry : (k : Known) → IsSized (at_entry k)
unfolding entry_trees entry_slots
sized-at_entry k = record {
  registers = length-map-range_with_len (entry_tree k) 0 32;
  slots = length-map-range_with_len (λ i. entry_slot (bank_known k i) i) 0 8;
}

-- a register with a tree at the entry is public, and its tree is the register itself
pub entry-tree : (k : Known) (r : ℕ) (t : Value) → tree_held (at_entry k) r ≡ Some t
    → (is_secret k r ≡ false) × (t ≡ Reg r)
entry-tree k r t e =
    ⊎_elim
    (λ (lt : r < 32). by (is_secret k r) refl (sym (tree-at_entry k r lt) ∙ e))
    (λ (le : 32 ≤ r).
    absurd (let f : ◌≡◌ {A = Option Value} None (Some t) = sym
    (get_or_past (at_entry k).registers r None (omega (arith, (sized-at_entry k).registers))) ∙ e in cc))
    (cases_lt r 32)
  where
    by : (secret : Bool) → is_secret k r ≡ secret → (if secret then None else Some (Reg r)) ≡ Some t
        → (is_secret k r ≡ false) × (t ≡ Reg r)
    by true is f = absurd (let g : ◌≡◌ {A = Option Value} None (Some t) = f in cc)
    by false is f = (is, let g : ◌≡◌ {A = Option Value} (Some (Reg r)) (Some t) = f in cc)

-- what a slot is bound to at the entry: nothing is known, or the bank that is known in public code
pub entry-slot : (k : Known) (j : ℕ) (known : SymSlot) → slot_held (at_entry k) j ≡ known
    → (known ≡ AnySlot) ⊎ ((j < 8) × (entry_slot (bank_known k j) j ≡ known))
entry-slot k j known e =
    ⊎_elim
    (λ (lt : j < 8). inr (lt, sym (slot-at_entry k j lt) ∙ e))
    (λ (le : 8 ≤ j). inl (sym e ∙ get_or_past (at_entry k).slots j AnySlot (omega (arith, (sized-at_entry k).slots))))
    (cases_lt j 8)

-- after a region, in public code, a register may hold a secret exactly if it has no tree
pub secret-after : (s : SymState) (r : ℕ) → is_secret (known_after s) r ≡ is_none (tree_held s r)
secret-after s r = get_or-map is_none s.registers r None

-- the bank of a slot after a region
pub bank-after : (s : SymState) (j : ℕ) → bank_known (known_after s) j ≡ slot_bank (slot_held s j)
bank-after s j = get_or-map slot_bank s.slots j AnySlot

-- two lists combined item by item: one item, and the length
zip_held : {X Z : Type 0} (f : X → X → Z) (d : X) (z : Z) → ((x : X) → f d x ≡ z) → ((x : X) → f x d ≡ z)
    → (xs ys : List X) (i : ℕ) → get_or (map (λ p. f p.0 p.1) (zip xs ys)) i z ≡ f (get_or xs i d) (get_or ys i d)
zip_held f d z left right [] ys i =
    get_or_past [] i z (omega arith) ∙ sym (left (get_or ys i d))
    ∙ ap (λ x. f x (get_or ys i d)) (sym (get_or_past [] i d (omega arith)))
zip_held f d z left right (x ∷ xs) [] i =
    get_or_past [] i z (omega arith) ∙ sym (right (get_or (x ∷ xs) i d))
    ∙ ap (f (get_or (x ∷ xs) i d)) (sym (get_or_past [] i d (omega arith)))
zip_held f d z left right (x ∷ xs) (y ∷ ys) zero = refl
zip_held f d z left right (x ∷ xs) (y ∷ ys) (suc i) = zip_held f d z left right xs ys i

length-zipped : {X Z : Type 0} (f : X × X → Z) (xs ys : List X) → length xs ≡ length ys
    → length (map f (zip xs ys)) ≡ length xs
length-zipped f [] [] e = refl
length-zipped f [] (y ∷ ys) e = absurd (omega arith)
length-zipped f (x ∷ xs) [] e = absurd (omega arith)
length-zipped f (x ∷ xs) (y ∷ ys) e = ap suc (length-zipped f xs ys (omega arith))

-- at a join a tree isn't known if one of the arms doesn't know it
pub none_left : (t : Option Value) → common_tree None t ≡ None
none_left None = refl
none_left (Some t) = refl

pub none_right : (t : Option Value) → common_tree t None ≡ None
none_right None = refl
none_right (Some t) = refl

pub any_left : (k : SymSlot) → common_slot AnySlot k ≡ AnySlot
any_left AnySlot = refl
any_left (RamSlot block origin) = refl
any_left (EramSlot block) = refl
any_left (OramSlot bank) = refl

pub any_right : (k : SymSlot) → common_slot k AnySlot ≡ AnySlot
any_right AnySlot = refl
any_right (RamSlot block origin) = refl
any_right (EramSlot block) = refl
any_right (OramSlot bank) = refl

-- a register at the join of two states
pub tree-common : (s t : SymState) (r : ℕ) → tree_held (common s t) r ≡ common_tree (tree_held s r) (tree_held t r)
unfolding common
tree-common s t r = zip_held common_tree None None none_left none_right s.registers t.registers r

-- a slot at the join of two states
pub slot-common : (s t : SymState) (j : ℕ) → slot_held (common s t) j ≡ common_slot (slot_held s j) (slot_held t j)
unfolding common
slot-common s t j = zip_held common_slot AnySlot AnySlot any_left any_right s.slots t.slots j

-- the state at a join has all registers and slots
pub sized-common : (s t : SymState) → IsSized s → IsSized t → IsSized (common s t)
unfolding common
sized-common s t hs ht = record {
  registers = length-zipped (λ p. common_tree p.0 p.1) s.registers t.registers (hs.registers ∙ sym ht.registers)
      ∙ hs.registers;
  slots = length-zipped (λ p. common_slot p.0 p.1) s.slots t.slots (hs.slots ∙ sym ht.slots) ∙ hs.slots;
}

-- a value that is kept if a test says that two are equal
tree_if : (x y : Option Value) (same : Bool) → (same ≡ true → x ≡ y)
    → ((if same then x else None) ≡ None) ⊎ ((x ≡ y) × ((if same then x else None) ≡ x))
tree_if x y true h = inr (h refl, refl)
tree_if x y false h = inl refl

-- two trees are joined to one of them only if they are equal
pub common_tree-cases : (x y : Option Value) → (common_tree x y ≡ None) ⊎ ((x ≡ y) × (common_tree x y ≡ x))
common_tree-cases (Some t) (Some u) = tree_if (Some t) (Some u) (same_tree t u) (λ e. ap Some (same_tree-true t u e))
common_tree-cases (Some t) None = inl refl
common_tree-cases None y = inl (none_left y)

same_origin-true : (x y : Origin) → same_origin x y ≡ true → x ≡ y
same_origin-true (Entry j) (Entry k) e = ap Entry (eqb-true j k e)
same_origin-true Loaded Loaded e = refl
same_origin-true (Entry j) Loaded e = absurd (let f : false ≡ true = e in cc)
same_origin-true Loaded (Entry k) e = absurd (let f : false ≡ true = e in cc)

slot_if : (x y : SymSlot) (same : Bool) → (same ≡ true → x ≡ y)
    → ((if same then x else AnySlot) ≡ AnySlot) ⊎ ((x ≡ y) × ((if same then x else AnySlot) ≡ x))
slot_if x y true h = inr (h refl, refl)
slot_if x y false h = inl refl

-- two slots are joined to one of them only if they are equal
pub common_slot-cases : (x y : SymSlot) → (common_slot x y ≡ AnySlot) ⊎ ((x ≡ y) × (common_slot x y ≡ x))
common_slot-cases AnySlot y = inl (any_left y)
common_slot-cases (RamSlot block origin) (RamSlot other origin') =
    slot_if _ _ (same_tree block other && same_origin origin origin') (λ e.
    let parts = and_parts (same_tree block other) (same_origin origin origin') e in
    ap (λ (t : Value). RamSlot t origin) (same_tree-true block other parts.0)
    ∙ ap (RamSlot other) (same_origin-true origin origin' parts.1))
common_slot-cases (EramSlot block) (EramSlot other) =
    slot_if _ _ (same_tree block other) (λ e. ap EramSlot (same_tree-true block other e))
common_slot-cases (OramSlot bank) (OramSlot other) =
    slot_if _ _ (bank == other) (λ e. ap OramSlot (eqb-true bank other e))
common_slot-cases (RamSlot block origin) (EramSlot other) = inl refl
common_slot-cases (RamSlot block origin) (OramSlot other) = inl refl
common_slot-cases (EramSlot block) (RamSlot other origin) = inl refl
common_slot-cases (EramSlot block) (OramSlot other) = inl refl
common_slot-cases other AnySlot = inl refl
common_slot-cases (OramSlot bank) (RamSlot other origin) = inl refl
common_slot-cases (OramSlot bank) (EramSlot other) = inl refl

-- a tree joined with itself
pub own_tree : (t : Option Value) → common_tree t t ≡ t
own_tree None = refl
own_tree (Some t) = ap (λ (b : Bool). let v : Option Value = if b then Some t else None in v) (same_tree-own t)

own_origin : (x : Origin) → same_origin x x ≡ true
own_origin (Entry j) = eq-eqb j j refl
own_origin Loaded = refl

-- a slot joined with itself
pub own_slot : (b : SymSlot) → common_slot b b ≡ b
own_slot AnySlot = refl
own_slot (RamSlot t origin) =
    ap (λ (c : Bool). if c then RamSlot t origin else AnySlot)
    (and_from (same_tree t t) (same_origin origin origin) (same_tree-own t) (own_origin origin))
own_slot (EramSlot t) = ap (λ (c : Bool). if c then EramSlot t else AnySlot) (same_tree-own t)
own_slot (OramSlot bank) = ap (λ (c : Bool). if c then OramSlot bank else AnySlot) (eq-eqb bank bank refl)

-- a join has what both arms leave, and nothing more
left_by_both : {X : Type 0} (nothing : X) (both : X → X → X) → ((x : X) → both x x ≡ x)
    → ((x y : X) → (both x y ≡ nothing) ⊎ ((x ≡ y) × (both x y ≡ x)))
    → (x y z : X) → ¬ (z ≡ nothing) → (both x y ≡ z) ↔ ((x ≡ z) × (y ≡ z))
left_by_both nothing both own cases x y z some = (
  λ e.
      ⊎_elim
      (λ (none : both x y ≡ nothing). absurd (some (sym e ∙ none)))
      (λ (same : (x ≡ y) × (both x y ≡ x)).
      let first : x ≡ z = sym same.1 ∙ e in
      (first, sym same.0 ∙ first))
      (cases x y),
  λ h. ap (λ v. both v y) h.0 ∙ ap (both z) h.1 ∙ own z,
)

-- the computed join is the join of the definition
pub join-common : (s t : SymState) → IsJoin s t (common s t)
join-common s t = record {
  registers = λ r u.
      let joins = left_by_both None common_tree own_tree common_tree-cases (tree_held s r) (tree_held t r) (Some u)
      (λ e. let f : ◌≡◌ {A = Option Value} (Some u) None = e in cc) in
      (λ e. joins.0 (sym (tree-common s t r) ∙ e), λ h. tree-common s t r ∙ joins.1 h);
  slots = λ k bound some.
      let joins = left_by_both AnySlot common_slot own_slot common_slot-cases (slot_held s k)
      (slot_held t k) bound some in
      (λ e. joins.0 (sym (slot-common s t k) ∙ e), λ h. slot-common s t k ∙ joins.1 h);
}

-- each kind of change keeps the numbers of registers and slots
module _ (s : SymState) (sized : IsSized s) where
  sized-tree : (r : ℕ) (value : Option Value) → IsSized (hold_tree s r value)
  sized-tree r value = record { registers = length-set s.registers r value ∙ sized.registers; slots = sized.slots }

  sized-slot : (j : ℕ) (bound : SymSlot) → IsSized (hold_slot s j bound)
  sized-slot j bound = record { registers = sized.registers; slots = length-set s.slots j bound ∙ sized.slots }

  -- if an instruction continues, the state after it has all registers and slots
  KeepsSize : Single → Type 0
  KeepsSize made = (pattern : Shown TreeEvent) (t : SymState) → made ≡ Goes pattern t → IsSized t

  sized_goes : (shown : Shown TreeEvent) (u : SymState) → IsSized u → KeepsSize (Goes shown u)
  unfolding KeepsSize
  sized_goes shown u h =
      λ pattern t e. subst IsSized (let f : ◌≡◌ {A = Single} (Goes shown u) (Goes pattern t) = e in cc) h

  sized_refuses : (reason : Reason) → KeepsSize (Refuses reason)
  unfolding KeepsSize
  sized_refuses reason = λ pattern t e. absurd (let f : ◌≡◌ {A = Single} (Refuses reason) (Goes pattern t) = e in cc)

  sized_branches : (offset : ℤ) → KeepsSize (Branches offset)
  unfolding KeepsSize
  sized_branches offset = λ pattern t e. absurd (let f : ◌≡◌ {A = Single} (Branches offset) (Goes pattern t) = e in cc)

  sized_if : (c : Bool) (x y : Single) → KeepsSize x → KeepsSize y → KeepsSize (if c then x else y)
  sized_if true x y hx hy = hx
  sized_if false x y hx hy = hy

  sized_at : (t : Option Value) (go : Value → Single) → ((u : Value) → KeepsSize (go u)) → KeepsSize (at_tree t go)
  sized_at None go h = sized_refuses _
  sized_at (Some t) go h = h t

  sized_stores : (bound : SymSlot) → KeepsSize (stores s bound)
  sized_stores AnySlot = sized_refuses _
  sized_stores (RamSlot block origin) = sized_refuses _
  sized_stores (EramSlot block) = sized_goes _ s sized
  sized_stores (OramSlot bank) = sized_goes _ s sized

  sized_bound : (bound : SymSlot) (go : Single) → KeepsSize go → KeepsSize (if_bound bound go)
  sized_bound AnySlot go h = sized_refuses _
  sized_bound other go h = h

  sized_stored : (bound : SymSlot) (go : Single) → KeepsSize go → KeepsSize (if_stored bound go)
  sized_stored AnySlot go h = sized_refuses _
  sized_stored (RamSlot block origin) go h = sized_refuses _
  sized_stored (EramSlot block) go h = h
  sized_stored (OramSlot bank) go h = h

  sized_single : (o : Parts) (i : Instr) → KeepsSize (single o s i)
  unfolding single
  sized_single o Nop = sized_goes _ s sized
  sized_single o Halt = sized_refuses _
  sized_single o (Li rd value) = sized_goes _ _ (sized-tree rd _)
  sized_single o (Alu op rd ra rb) = sized_goes _ _ (sized-tree rd _)
  sized_single o (Ldb k bank r) =
      sized_if (is_ram bank) _ _ (sized_at (tree_held s r) _ (λ t. sized_goes _ _ (sized-slot k _)))
      (sized_if (is_eram bank) _ _ (sized_at (tree_held s r) _ (λ t. sized_goes _ _ (sized-slot k _)))
      (sized_goes _ _ (sized-slot k _)))
  sized_single o (Stb k) = sized_stores (slot_held s k)
  sized_single o (Idb rd k) = sized_bound (slot_held s k) _ (sized_goes _ _ (sized-tree rd _))
  sized_single o (Ldw rd k ro) = sized_bound (slot_held s k) _ (sized_goes _ _ (sized-tree rd _))
  sized_single o (Stw rs k ro) = sized_stored (slot_held s k) _ (sized_goes _ s sized)
  sized_single o (Jmp offset) = sized_refuses _
  sized_single o (Br cmp ra rb offset) = sized_branches offset

  -- the state after an instruction has all registers and slots
  pub single-sized : (o : Parts) (i : Instr) (pattern : Shown TreeEvent) (t : SymState) → single o s i ≡ Goes pattern t
      → IsSized t
  unfolding KeepsSize
  single-sized o i = sized_single o i
