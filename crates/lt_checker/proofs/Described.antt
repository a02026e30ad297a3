-- What the state of a walk through a region says about the machine: it describes registers and slots by the state at
-- the entry.
use Rattle.std.proofs.Common.{◌≡◌, ℕ, ◌<◌, Bool, true, false, ℤ, pos, List, [], length, get_or, set, Option, Some, None, ◌⊎◌, inl, inr, refl, sym, ap, ◌∙◌, subst, ⊎_elim, get_or-set_same, get_or-set_other}
use Rattle.std.specs.Prelude.{if◌then◌else◌}
use Rattle.std.proofs.lemmas.Bool.{cases_eq, eqb-true, or_from}
use Rattle.lt_isa.specs.Prelude.{is_ram, is_eram, Slot, Unbound, Bound, State, register, slot, bank_blocks, block_at, set_register, set_slot, set_block, slot_words, slot_block}
use Rattle.symbolic_values.specs.Prelude.{Value, SlotAt, value_of}
use Rattle.trace_patterns.specs.Prelude.{Known, bank_known, Origin, Entry, Loaded, SymSlot, AnySlot, RamSlot, EramSlot, OramSlot, SymState, tree_held, slot_held, hold_tree, hold_slot, entry_slot, at_entry, common_tree, common_slot, common, shows_block}
use Rattle.trace_patterns.proofs.SymStateLaws.{entry-tree, entry-slot, tree-common, slot-common, common_tree-cases, common_slot-cases}
use Rattle.lt_checker.proofs.HeldAnew.{no_tree, tree_anew, slot_anew}

-- the words of a block of plain memory, by their origin
abbrev pub origin_words : State → ℕ → Origin → List ℤ
origin_words e block (Entry j) = slot_words (slot e j)
origin_words e block Loaded = block_at e 0 block

-- a slot is bound to the block of plain memory that a tree names
pub record HoldsRam (e : State) (block : Value) (origin : Origin) (x : Slot) : Type 0 where
  pub at : ℕ
  pub value : value_of e block ≡ pos at
  pub bound : x ≡ Bound 0 at (origin_words e at origin)

-- a slot holds the block of encrypted memory that a tree names
pub record HoldsEram (e : State) (block : Value) (x : Slot) : Type 0 where
  pub at : ℕ
  pub words : List ℤ
  pub value : value_of e block ≡ pos at
  pub bound : x ≡ Bound 1 at words

-- a slot holds a block of an oblivious bank
pub record HoldsOram (bank : ℕ) (x : Slot) : Type 0 where
  pub at : ℕ
  pub words : List ℤ
  pub bound : x ≡ Bound bank at words
  pub hidden : shows_block bank ≡ false

-- a slot holds what is known about it
abbrev pub Holds : State → SymSlot → Slot → Type 0
Holds e AnySlot x = Unit {0}
Holds e (RamSlot block origin) x = HoldsRam e block origin x
Holds e (EramSlot block) x = HoldsEram e block x
Holds e (OramSlot bank) x = HoldsOram bank x

-- a register with a tree holds the tree's value at the entry, slots are bound as is known, and plain memory is as at
-- the entry
pub record Describes (e : State) (known : SymState) (s : State) : Type 0 where
  pub registers : (r : ℕ) (t : Value) → tree_held known r ≡ Some t → register s r ≡ value_of e t
  pub slots : (j : ℕ) → Holds e (slot_held known j) (slot s j)
  pub ram : bank_blocks s 0 ≡ bank_blocks e 0

-- what describes a state describes it at any place and cycle
pub describes_moved : (e : State) (known : SymState) (s : State) (place cycle : ℕ) → Describes e known s
    → Describes e known (record s { place = place; cycle = cycle })
describes_moved e known s place cycle h = record { registers = h.registers; slots = h.slots; ram = h.ram }

-- a register is set to the value of its new tree
pub describes_register : (e : State) (known : SymState) (s : State) (r : ℕ) (value : Option Value) (word : ℤ)
    → r < length s.registers → Describes e known s → ((t : Value) → value ≡ Some t → word ≡ value_of e t)
    → Describes e (hold_tree known r value) (set_register s r word)
describes_register e known s r value word inside h is = record {
  registers = λ q t held.
      ⊎_elim
      (λ (same : q ≡ r).
      ap (λ (i : ℕ). get_or (set s.registers r word) i (pos 0)) same ∙ get_or-set_same s.registers r word (pos 0) inside
      ∙ is t (tree_anew known r value t
      (ap (λ (i : ℕ). get_or (set known.registers r value) i None) (sym same) ∙ held)))
      (λ (other : q ≡ r → ⊥).
      get_or-set_other s.registers r q word (pos 0) other
      ∙ h.registers q t (sym (get_or-set_other known.registers r q value None other) ∙ held))
      (cases_eq q r);
  slots = h.slots;
  ram = h.ram;
}

-- a slot is bound to another block
set_held : (e : State) (known : SymState) (s : State) (k : ℕ) (x : Slot) → k < length s.slots
    → ((j : ℕ) → Holds e (slot_held known j) (slot s j)) → Holds e (slot_held known k) x → (j : ℕ)
    → Holds e (slot_held known j) (slot (set_slot s k x) j)
set_held e known s k x inside slots h j =
    ⊎_elim
    (λ (same : j ≡ k).
    subst (λ (i : ℕ). Holds e (slot_held known i) (get_or (set s.slots k x) i Unbound)) (sym same)
    (subst (Holds e (slot_held known k)) (sym (get_or-set_same s.slots k x Unbound inside)) h))
    (λ (other : j ≡ k → ⊥). subst (Holds e (slot_held known j)) (sym (get_or-set_other s.slots k j x Unbound other))
    (slots j))
    (cases_eq j k)

-- other words in a slot that stays bound to its block
pub describes_words : (e : State) (known : SymState) (s : State) (k : ℕ) (x : Slot) → k < length s.slots
    → Describes e known s → Holds e (slot_held known k) x → Describes e known (set_slot s k x)
describes_words e known s k x inside h held =
    record { registers = h.registers; slots = set_held e known s k x inside h.slots held; ram = h.ram }

-- another block in a slot
pub describes_slot : (e : State) (known : SymState) (s : State) (k : ℕ) (bound : SymSlot) (x : Slot)
    → k < length s.slots → Describes e known s → Holds e bound x
    → Describes e (hold_slot known k bound) (set_slot s k x)
describes_slot e known s k bound x inside h held = record {
  registers = h.registers;
  slots = λ j.
      ⊎_elim
      (λ (same : j ≡ k).
      subst (λ (i : ℕ). Holds e (get_or (set known.slots k bound) i AnySlot) (get_or (set s.slots k x) i Unbound))
      (sym same) (subst (Holds e (get_or (set known.slots k bound) k AnySlot))
      (sym (get_or-set_same s.slots k x Unbound inside))
      (slot_anew (λ (y : SymSlot). Holds e y x) known k bound tt held)))
      (λ (other : j ≡ k → ⊥).
      subst (λ (y : SymSlot). Holds e y (get_or (set s.slots k x) j Unbound))
      (sym (get_or-set_other known.slots k j bound AnySlot other))
      (subst (Holds e (slot_held known j)) (sym (get_or-set_other s.slots k j x Unbound other)) (h.slots j)))
      (cases_eq j k);
  ram = h.ram;
}

-- a block of a bank other than plain memory is written
pub describes_block : (e : State) (known : SymState) (s : State) (b a : ℕ) (words : List ℤ) → (0 ≡ b → ⊥)
    → Describes e known s → Describes e known (set_block s b a words)
describes_block e known s b a words other h = record {
  registers = h.registers;
  slots = h.slots;
  ram = get_or-set_other s.banks b 0 (set (bank_blocks s b) a words) [] other ∙ h.ram;
}

-- a state that knows less describes all that the other one describes
describes_less : (e : State) (known less : SymState) (s : State)
    → ((r : ℕ) → (tree_held less r ≡ None) ⊎ (tree_held less r ≡ tree_held known r))
    → ((j : ℕ) → (slot_held less j ≡ AnySlot) ⊎ (slot_held less j ≡ slot_held known j)) → Describes e known s
    → Describes e less s
describes_less e known less s trees slots h = record {
  registers = λ r t held.
      ⊎_elim
      (λ (none : tree_held less r ≡ None). no_tree t (sym none ∙ held))
      (λ (same : tree_held less r ≡ tree_held known r). h.registers r t (sym same ∙ held))
      (trees r);
  slots = λ j.
      ⊎_elim
      (λ (any : slot_held less j ≡ AnySlot). subst (λ (y : SymSlot). Holds e y (slot s j)) (sym any) tt)
      (λ (same : slot_held less j ≡ slot_held known j). subst (λ (y : SymSlot). Holds e y (slot s j)) (sym same)
      (h.slots j))
      (slots j);
  ram = h.ram;
}

-- what is known at a join describes what the first arm leaves
pub describes_left : (e : State) (left right : SymState) (s : State) → Describes e left s
    → Describes e (common left right) s
describes_left e left right s h = describes_less e left (common left right) s
    (λ r. ⊎_elim (λ (none : common_tree (tree_held left r) (tree_held right r) ≡ None). inl
    (tree-common left right r ∙ none))
    (λ (both : (tree_held left r ≡ tree_held right r) ×
    (common_tree (tree_held left r) (tree_held right r) ≡ tree_held left r)). inr (tree-common left right r ∙ both.1))
    (common_tree-cases (tree_held left r) (tree_held right r)))
    (λ j. ⊎_elim (λ (any : common_slot (slot_held left j) (slot_held right j) ≡ AnySlot). inl
    (slot-common left right j ∙ any))
    (λ (both : (slot_held left j ≡ slot_held right j) ×
    (common_slot (slot_held left j) (slot_held right j) ≡ slot_held left j)). inr (slot-common left right j ∙ both.1))
    (common_slot-cases (slot_held left j) (slot_held right j)))
    h

-- what is known at a join describes what the second arm leaves
pub describes_right : (e : State) (left right : SymState) (s : State) → Describes e right s
    → Describes e (common left right) s
describes_right e left right s h = describes_less e right (common left right) s
    (λ r. ⊎_elim (λ (none : common_tree (tree_held left r) (tree_held right r) ≡ None). inl
    (tree-common left right r ∙ none))
    (λ (both : (tree_held left r ≡ tree_held right r) ×
    (common_tree (tree_held left r) (tree_held right r) ≡ tree_held left r)). inr
    (tree-common left right r ∙ both.1 ∙ both.0)) (common_tree-cases (tree_held left r) (tree_held right r)))
    (λ j. ⊎_elim (λ (any : common_slot (slot_held left j) (slot_held right j) ≡ AnySlot). inl
    (slot-common left right j ∙ any))
    (λ (both : (slot_held left j ≡ slot_held right j) ×
    (common_slot (slot_held left j) (slot_held right j) ≡ slot_held left j)). inr
    (slot-common left right j ∙ both.1 ∙ both.0)) (common_slot-cases (slot_held left j) (slot_held right j)))
    h

-- a slot is bound to a bank
pub record IsBoundTo (bank : ℕ) (x : Slot) : Type 0 where
  pub at : ℕ
  pub words : List ℤ
  pub is : x ≡ Bound bank at words

holds_bank : (e : State) (j bank : ℕ) (ram eram : Bool) → is_ram bank ≡ ram → is_eram bank ≡ eram
    → IsBoundTo bank (slot e j)
    → Holds e (if ram then RamSlot (SlotAt j) (Entry j) else (if eram then EramSlot (SlotAt j) else OramSlot bank))
    (slot e j)
holds_bank e j bank true eram ram_is eram_is h = record {
  at = h.at;
  value = ap (λ (x : Slot). pos (slot_block x)) h.is;
  bound = h.is ∙ ap (λ (b : ℕ). Bound b h.at h.words) (eqb-true bank 0 ram_is)
      ∙ ap (Bound 0 h.at) (sym (ap slot_words h.is));
}
holds_bank e j bank false true ram_is eram_is h = record {
  at = h.at;
  words = h.words;
  value = ap (λ (x : Slot). pos (slot_block x)) h.is;
  bound = h.is ∙ ap (λ (b : ℕ). Bound b h.at h.words) (eqb-true bank 1 eram_is);
}
holds_bank e j bank false false ram_is eram_is h = record {
  at = h.at;
  words = h.words;
  bound = h.is;
  hidden = or_from (is_ram bank) (is_eram bank) ram_is eram_is;
}

holds_entry : (e : State) (j : ℕ) (known : Option ℕ) → ((bank : ℕ) → known ≡ Some bank → IsBoundTo bank (slot e j))
    → Holds e (entry_slot known j) (slot e j)
holds_entry e j None bound = tt
holds_entry e j (Some bank) bound = holds_bank e j bank (is_ram bank) (is_eram bank) refl refl (bound bank refl)

-- the state at the entry of a region describes the machine there
pub describes_entry : (k : Known) (e : State) → ((j bank : ℕ) → bank_known k j ≡ Some bank → IsBoundTo bank (slot e j))
    → Describes e (at_entry k) e
describes_entry k e bound = record {
  registers = λ r t held. ap (value_of e) (sym (entry-tree k r t held).1);
  slots = λ j.
      ⊎_elim
      (λ (any : slot_held (at_entry k) j ≡ AnySlot). subst (λ (y : SymSlot). Holds e y (slot e j)) (sym any) tt)
      (λ (known : (j < 8) × (entry_slot (bank_known k j) j ≡ slot_held (at_entry k) j)).
      subst (λ (y : SymSlot). Holds e y (slot e j)) known.1 (holds_entry e j (bank_known k j) (bound j)))
      (entry-slot k j (slot_held (at_entry k) j) refl);
  ram = refl;
}
