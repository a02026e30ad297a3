-- What is known of registers and slots in an arm, as secret code of a setting continues.
use Rattle.std.proofs.Common.{◌≡◌, ℕ, ◌<◌, ◌≤◌, Bool, true, false, List, length, get_or, Option, Some, None, refl, sym, ap, ◌∙◌, subst, ⊎_elim, arith, length-set, get_or-set_same, get_or-set_other}
use Rattle.std.specs.Prelude.{if◌then◌else◌}
use Rattle.std.specs.Option.{option_or, unwrap_or}
use Rattle.std.proofs.lemmas.Bool.{cases_eq, eq-eqb, ne_eqb}
use Rattle.gr_base.specs.Prelude.{Within}
use Rattle.gr_word.specs.declared.variables.Label.{Label}
use Rattle.gr_word.specs.declared.variables.Label.TheVariants.{Public, Secret}
use Rattle.gr_word.specs.declared.variables.Shape.{Shape}
use Rattle.gr_word.specs.declared.variables.Shape.TheVariants.{Array}
use Rattle.lt_isa.specs.declared.instructions.Instr.{Instr}
use Rattle.lt_isa.specs.Prelude.{Parts, is_ram, block_words}
use Rattle.symbolic_values.specs.Prelude.{Value, SlotAt}
use Rattle.src_tree.specs.Prelude.{context_of}
use Rattle.stretches.specs.Prelude.{Show}
use Rattle.trace_patterns.specs.Prelude.{Entry, SymSlot, AnySlot, RamSlot, SymState, tree_held, slot_held, hold_slot, slot_bank}
use Rattle.stretches.proofs.ArmCode.{Walked}
use Rattle.block_cache_gen.specs.Prelude.{Home, Setting, held_label, home_of, pin_of, IsPin, IsResidentHome, Serves, PlainSlot, EncryptedSlot, ObliviousSlot, HasHomes, CarriesInArm, held_tree, Loads, then_loads, one_load, word_read, pinned_slot, first_kept}
use Rattle.bank_alloc.specs.Prelude.{scalar_bank}
use Rattle.block_cache_gen.proofs.HeldLabels.{label-high, one-label}
use Rattle.block_cache_gen.proofs.HomeFacts.{pinned-apart}
use Rattle.block_cache_gen.proofs.PublicTrees.{pinned-ram}
use Rattle.lt_checker.proofs.Singles.{IsKnown}

-- A stretch of secret code is walked from s: it shows this, keeps what the setting relies on and the registers below
-- one, and leaves a tree in a register and this in the slots.
pub record LeavesIn (o : Parts) (f : Setting) (depth : ℕ) (s : SymState) (code : List Instr) (shows : List Show)
    (to at : ℕ) (tree : Option Value) (loads : Loads) : Type 0 where
  pub state : SymState
  pub walked : Walked o depth s code shows state
  pub carries : CarriesInArm f state
  pub held : tree_held state at ≡ tree
  pub below : (r : ℕ) → r < to → tree_held state r ≡ tree_held s r
  pub slots : (k : ℕ) → slot_held state k ≡ unwrap_or (loads k) (slot_held s k)

-- it leaves the tree in that register
abbrev pub LeavesTree : Parts → Setting → ℕ → SymState → List Instr → List Show → ℕ → Option Value → Loads → Type 0
LeavesTree o f depth s code shows to tree loads = LeavesIn o f depth s code shows to to tree loads

-- a slot of a bank is bound
pub bound-of_bank : (bound : SymSlot) (bank : ℕ) → slot_bank bound ≡ Some bank → IsKnown bound
bound-of_bank AnySlot bank e = absurd (let f : ◌≡◌ {A = Option ℕ} None (Some bank) = e in cc)
bound-of_bank other bank e = tt

-- loads in sequence, and one load
pub then_loads-held : (first rest : Loads) (k : ℕ) (bound : SymSlot)
    → unwrap_or (then_loads first rest k) bound ≡ unwrap_or (rest k) (unwrap_or (first k) bound)
then_loads-held first rest k bound = by (rest k)
  where
    by : (later : Option SymSlot)
        → unwrap_or (option_or later (first k)) bound ≡ unwrap_or later (unwrap_or (first k) bound)
    by None = refl
    by (Some x) = refl

-- what a slot holds after one load
pub one_load-held : (s : SymState) (slot : ℕ) (bound : SymSlot) (k : ℕ) → slot < length s.slots
    → slot_held (hold_slot s slot bound) k ≡ unwrap_or (one_load slot bound k) (slot_held s k)
one_load-held s slot bound k inside =
    ⊎_elim
    (λ (e : k ≡ slot).
    ap (λ (j : ℕ). slot_held (hold_slot s slot bound) j) e ∙ get_or-set_same s.slots slot bound AnySlot inside
    ∙ sym (ap (λ (b : Bool). unwrap_or (if b then Some bound else None) (slot_held s k)) (eq-eqb k slot e)))
    (λ (ne : k ≡ slot → ⊥).
    get_or-set_other s.slots slot k bound AnySlot ne
    ∙ sym (ap (λ (b : Bool). unwrap_or (if b then Some bound else None) (slot_held s k)) (ne_eqb k slot ne)))
    (cases_eq k slot)

-- a slot that serves arrays, and one that serves a single bank
pub serves-within : (bank slot : ℕ) → Serves bank slot → Within 2 6 slot
serves-within bank slot (PlainSlot k inside) = (omega arith, omega arith)
serves-within bank slot (EncryptedSlot k inside) = (omega arith, omega arith)
serves-within bank slot (ObliviousSlot b some) = (omega arith, omega arith)

pub serves-bank : (one other slot : ℕ) → Serves one slot → Serves other slot → slot ≤ 5 → one ≡ other
serves-bank one other slot (PlainSlot k inside) (PlainSlot l within) le = refl
serves-bank one other slot (EncryptedSlot k inside) (EncryptedSlot l within) le = refl
serves-bank one other slot (PlainSlot k inside) (EncryptedSlot l within) le = absurd (omega arith)
serves-bank one other slot (EncryptedSlot k inside) (PlainSlot l within) le = absurd (omega arith)
serves-bank one other slot (ObliviousSlot b some) y le = absurd (omega arith)
serves-bank one other slot (PlainSlot k inside) (ObliviousSlot b some) le = absurd (omega arith)
serves-bank one other slot (EncryptedSlot k inside) (ObliviousSlot b some) le = absurd (omega arith)

-- no slot changes, and no register that holds something for the whole run
pub carries-slots : (f : Setting) (s t : SymState) → CarriesInArm f s → ((k : ℕ) → slot_held t k ≡ slot_held s k)
    → ((r : ℕ) (label : Label) → held_label f r ≡ Some label → tree_held t r ≡ tree_held s r)
    → length t.registers ≡ 32 → length t.slots ≡ 8 → CarriesInArm f t
carries-slots f s t carries kept same registers slots = record {
  registers = registers;
  slots = slots;
  plain = λ k p pinned few apart zero. kept k ∙ carries.plain k p pinned few apart zero;
  pinned = λ k p pinned few apart. ap slot_bank (kept k) ∙ carries.pinned k p pinned few apart;
  arrays = λ x label declared turn served.
      ap slot_bank (kept (home_of f x).slot) ∙ carries.arrays x label declared turn served;
  held = λ r label is. same r label is ∙ carries.held r label is;
}

-- what the setting relies on depends only on the slots and on those registers
pub carries-same : (f : Setting) (s t : SymState) → CarriesInArm f s → t.slots ≡ s.slots
    → ((r : ℕ) → first_kept f ≤ r → tree_held t r ≡ tree_held s r) → length t.registers ≡ 32 → CarriesInArm f t
carries-same f s t carries same above sized =
    carries-slots f s t carries (λ k. ap (λ (slots : List SymSlot). get_or slots k AnySlot) same)
    (λ r label is. above r (label-high f r label is)) sized
    (ap length same ∙ carries.slots)

-- a register that holds something for the whole run has what it should again
pub carries-copied : (f : Setting) (s t : SymState) (r : ℕ) (label : Label) → CarriesInArm f s → t.slots ≡ s.slots
    → ((q : ℕ) → (q ≡ r → ⊥) → tree_held t q ≡ tree_held s q) → length t.registers ≡ 32
    → held_label f r ≡ Some label → tree_held t r ≡ held_tree r label → CarriesInArm f t
carries-copied f s t r label carries same other sized is copied =
    let kept : (k : ℕ) → slot_held t k ≡ slot_held s k =
    λ k. ap (λ (slots : List SymSlot). get_or slots k AnySlot) same in
    record {
      registers = sized;
      slots = ap length same ∙ carries.slots;
      plain = λ k p pinned few apart zero. kept k ∙ carries.plain k p pinned few apart zero;
      pinned = λ k p pinned few apart. ap slot_bank (kept k) ∙ carries.pinned k p pinned few apart;
      arrays = λ x l declared turn served.
          ap slot_bank (kept (home_of f x).slot) ∙ carries.arrays x l declared turn served;
      held = λ q l holds.
          ⊎_elim
          (λ (e : q ≡ r).
          let one : label ≡ l = one-label (held_label f q) label l (ap (held_label f) e ∙ is) holds in
          subst (λ (j : ℕ). tree_held t j ≡ held_tree j label) (sym e) copied ∙ ap (held_tree q) one)
          (λ (ne : q ≡ r → ⊥). other q ne ∙ carries.held q l holds)
          (cases_eq q r);
    }

module _ (o : Parts) (f : Setting) (homes : HasHomes o f) where
  -- a block of an array is loaded to its slot
  pub carries-load : (s : SymState) (x : List ℕ) (label : Label) (bound : SymSlot) → CarriesInArm f s
      → context_of f.decls x ≡ Some (label, Array) → (home_of f x).resident ≡ false
      → slot_bank bound ≡ Some (home_of f x).bank
      → CarriesInArm f (hold_slot s (home_of f x).slot bound)
  carries-load s x label bound carries declared turn bank =
      let h = home_of f x in
      let home = homes.arrays x label declared turn in
      let serves = home.slot in
      let within = serves-within h.bank h.slot serves in
      let t = hold_slot s h.slot bound in
      let kept : (k : ℕ) → (k ≡ h.slot → ⊥) → slot_held t k ≡ slot_held s k =
      λ k ne. get_or-set_other s.slots h.slot k bound AnySlot ne in
      record {
        registers = carries.registers;
        slots = length-set s.slots h.slot bound ∙ carries.slots;
        plain = λ k p pinned few apart zero.
            kept k (pinned-apart f k h.slot p pinned home.unpinned) ∙ carries.plain k p pinned few apart zero;
        pinned = λ k p pinned few apart.
            ap slot_bank (kept k (pinned-apart f k h.slot p pinned home.unpinned))
            ∙ carries.pinned k p pinned few apart;
        arrays = λ y other known turn' served.
            ⊎_elim
            (λ (e : (home_of f y).slot ≡ h.slot).
            let theirs : Serves (home_of f y).bank h.slot =
            subst (Serves (home_of f y).bank) e (homes.arrays y other known turn').slot in
            ap (λ (k : ℕ). slot_bank (slot_held t k)) e
            ∙ ap slot_bank (get_or-set_same s.slots h.slot bound AnySlot (omega (arith, carries.slots)))
            ∙ bank
            ∙ ap Some (serves-bank h.bank (home_of f y).bank h.slot serves theirs (omega arith)))
            (λ (ne : (home_of f y).slot ≡ h.slot → ⊥).
            ap slot_bank (kept (home_of f y).slot ne) ∙ carries.arrays y other known turn' served)
            (cases_eq (home_of f y).slot h.slot);
        held = carries.held;
      }

  -- a word of a resident variable, wherever it is
  pub record ResidentRead (s : SymState) (h : Home) : Type 0 where
    pub bound : IsKnown (slot_held s h.slot)
    pub word : (place : Option Value) → word_read f (slot_held s h.slot) place ≡ word_read f (pinned_slot h) place

  pub encrypted_read : (bound : SymSlot) (place : Option Value) → slot_bank bound ≡ Some 1 → word_read f bound place ≡ None
  encrypted_read (RamSlot block origin) place e =
      absurd (let g : ◌≡◌ {A = Option ℕ} (Some 0) (Some 1) = e in grind arith)
  encrypted_read other place e = refl

  pub hidden_read : (h : Home) (place : Option Value) → h.bank ≡ 1 → word_read f (pinned_slot h) place ≡ None
  hidden_read h place is =
      ap (λ (b : ℕ). word_read f (if is_ram b then RamSlot (SlotAt h.slot) (Entry h.slot) else AnySlot) place) is

  -- it is read from the slot that holds its block
  pub resident-read : (s : SymState) (x : List ℕ) (label : Label) (shape : Shape) → CarriesInArm f s
      → context_of f.decls x ≡ Some (label, shape) → (home_of f x).resident ≡ true → ResidentRead s (home_of f x)
  resident-read s x label shape carries declared resident = by label home.bank
    where
      home : IsResidentHome f (block_words o) label (home_of f x)
      home = homes.residents x label shape declared resident

      pin : IsPin o (home_of f x).slot (pin_of (home_of f x))
      pin = homes.pins (home_of f x).slot (pin_of (home_of f x)) home.pinned

      by : (l : Label) → (home_of f x).bank ≡ scalar_bank l → ResidentRead s (home_of f x)
      by Public is =
          let h = home_of f x in
          let slot = carries.plain h.slot (pin_of h) home.pinned pin.few pin.apart is in
          record {
            bound = subst IsKnown (sym slot) tt;
            word = λ place. ap (λ (b : SymSlot). word_read f b place) (slot ∙ sym (pinned-ram h is));
          }
      by Secret is =
          let h = home_of f x in
          let slot : slot_bank (slot_held s h.slot) ≡ Some 1 =
          carries.pinned h.slot (pin_of h) home.pinned pin.few pin.apart ∙ ap Some is in
          record {
            bound = bound-of_bank (slot_held s h.slot) 1 slot;
            word = λ place. encrypted_read (slot_held s h.slot) place slot ∙ sym (hidden_read h place is);
          }
