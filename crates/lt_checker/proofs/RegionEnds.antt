-- Two runs at the entry of a region, and at its join: from public code to the walk, and back.
use Rattle.std.proofs.Common.{◌≡◌, ℕ, ◌<◌, Bool, true, false, ◌||◌, ℤ, pos, List, [], get_or, Option, Some, None, refl, sym, ap, ◌∙◌, subst, ⊎_elim}
use Rattle.std.specs.Prelude.{if◌then◌else◌, is_none}
use Rattle.std.proofs.lemmas.Bool.{or_left, true≢false, false≢true}
use Rattle.lt_isa.specs.Prelude.{Parts, is_ram, is_eram, Slot, Unbound, Bound, State, slot, bank_blocks, block_at, slot_words, slot_block, IsShaped}
use Rattle.symbolic_values.specs.Prelude.{Value, SlotAt, as_number, value_of}
use Rattle.trace_patterns.specs.Prelude.{Known, bank_known, Origin, Entry, Loaded, SymSlot, AnySlot, RamSlot, EramSlot, OramSlot, SymState, tree_held, slot_held, entry_slot, at_entry, slot_bank, known_after, shows_block}
use Rattle.trace_patterns.proofs.SymStateLaws.{entry-tree, entry-slot, secret-after, bank-after}
use Rattle.lt_checker.proofs.Related.{Related, BoundAlike, SlotsAlike}
use Rattle.lt_checker.proofs.Described.{IsBoundTo, origin_words, Holds, Describes, describes_entry}
use Rattle.lt_checker.proofs.ArmsAgree.{TreeAgrees, OriginAgrees, SlotAgrees, Agrees}

-- what slots that are alike have in common
record Common (b : ℕ) (x y : Slot) : Type 0 where
  first : IsBoundTo b x
  second : IsBoundTo b y
  block : shows_block b ≡ true → slot_block x ≡ slot_block y
  words : is_ram b ≡ true → slot_words x ≡ slot_words y

in_common : (b : ℕ) (x y : Slot) → SlotsAlike b x y → Common b x y
in_common b Unbound y h = absurd h
in_common b (Bound b1 a1 words1) Unbound h = absurd h
in_common b (Bound b1 a1 words1) (Bound b2 a2 words2) h = record {
  first = record { at = a1; words = words1; is = ap (λ (c : ℕ). Bound c a1 words1) h.0 };
  second = record { at = a2; words = words2; is = ap (λ (c : ℕ). Bound c a2 words2) h.1 };
  block = h.2.block;
  words = h.2.words;
}

module _ (k : Known) (s t : State) (related : Related k s t) where
  -- the state of the walk at the entry describes the first run
  pub entry_first : Describes s (at_entry k) s
  entry_first = describes_entry k s (λ j b known. (in_common b (slot s j) (slot t j) (related.slots j b known)).first)

  -- the state of the walk at the entry describes the second run
  pub entry_second : Describes t (at_entry k) t
  entry_second = describes_entry k t (λ j b known. (in_common b (slot s j) (slot t j) (related.slots j b known)).second)

  bank_agrees : (j b : ℕ) (ram eram : Bool) → is_ram b ≡ ram → is_eram b ≡ eram → SlotsAlike b (slot s j) (slot t j)
      → SlotAgrees s t (if ram then RamSlot (SlotAt j) (Entry j) else
      (if eram then EramSlot (SlotAt j) else OramSlot b))
  bank_agrees j b true eram ram_is eram_is h =
      let alike = in_common b (slot s j) (slot t j) h in
      (ap pos (alike.block (or_left (is_ram b) (is_eram b) ram_is)), alike.words ram_is)
  bank_agrees j b false true ram_is eram_is h =
      let alike = in_common b (slot s j) (slot t j) h in
      ap pos (alike.block (ap (λ (c : Bool). c || is_eram b) ram_is ∙ eram_is))
  bank_agrees j b false false ram_is eram_is h = tt

  slot_agrees : (j : ℕ) (known : Option ℕ) → bank_known k j ≡ known → SlotAgrees s t (entry_slot known j)
  slot_agrees j None is = tt
  slot_agrees j (Some b) is = bank_agrees j b (is_ram b) (is_eram b) refl refl (related.slots j b is)

  -- both runs agree on all trees of that state
  pub entry_agrees : Agrees s t (at_entry k)
  entry_agrees = record {
    trees = λ r tree held.
        let entry = entry-tree k r tree held in
        subst (TreeAgrees s t) (sym entry.1) (related.registers r entry.0);
    slots = λ j.
        ⊎_elim
        (λ (any : slot_held (at_entry k) j ≡ AnySlot). subst (SlotAgrees s t) (sym any) tt)
        (λ (known : (j < 8) × (entry_slot (bank_known k j) j ≡ slot_held (at_entry k) j)).
        subst (SlotAgrees s t) known.1 (slot_agrees j (bank_known k j) refl))
        (entry-slot k j (slot_held (at_entry k) j) refl);
  }

-- at the join
alike_by : (b a1 a2 : ℕ) (words1 words2 : List ℤ) (x y : Slot) → x ≡ Bound b a1 words1 → y ≡ Bound b a2 words2
    → BoundAlike b a1 a2 words1 words2 → SlotsAlike b x y
alike_by b a1 a2 words1 words2 x y first second alike =
    subst (λ (z : Slot). SlotsAlike b z y) (sym first)
    (subst (λ (z : Slot). SlotsAlike b (Bound b a1 words1) z) (sym second) (refl, refl, alike))

same_block : (s t : State) (block : Value) (a1 a2 : ℕ) → value_of s block ≡ pos a1 → value_of t block ≡ pos a2
    → TreeAgrees s t block → a1 ≡ a2
same_block s t block a1 a2 first second agrees = ap as_number (sym first ∙ agrees ∙ second)

same_words : (s t : State) (origin : Origin) (a1 a2 : ℕ) → bank_blocks s 0 ≡ bank_blocks t 0 → OriginAgrees s t origin
    → a1 ≡ a2 → origin_words s a1 origin ≡ origin_words t a2 origin
same_words s t (Entry j) a1 a2 ram agrees same = agrees
same_words s t Loaded a1 a2 ram agrees same =
    ap (λ (a : ℕ). block_at s 0 a) same ∙ ap (λ (blocks : List (List ℤ)). get_or blocks a2 []) ram

some_bank : (a b : ℕ) → ◌≡◌ {A = Option ℕ} (Some a) (Some b) → a ≡ b
some_bank a b e = cc

held_alike : (s t : State) → bank_blocks s 0 ≡ bank_blocks t 0 → (bound : SymSlot) (x y : Slot) (b : ℕ)
    → Holds s bound x → Holds t bound y → SlotAgrees s t bound → slot_bank bound ≡ Some b → SlotsAlike b x y
held_alike s t ram AnySlot x y b hx hy agrees is = absurd (let f : ◌≡◌ {A = Option ℕ} None (Some b) = is in cc)
held_alike s t ram (RamSlot block origin) x y b hx hy agrees is =
    let same = same_block s t block hx.at hy.at hx.value hy.value agrees.0 in
    subst (λ (c : ℕ). SlotsAlike c x y) (some_bank 0 b is)
    (alike_by 0 hx.at hy.at _ _ x y hx.bound hy.bound
    (record { block = λ shows. same; words = λ in_ram. same_words s t origin hx.at hy.at ram agrees.1 same }))
held_alike s t ram (EramSlot block) x y b hx hy agrees is =
    subst (λ (c : ℕ). SlotsAlike c x y) (some_bank 1 b is)
    (alike_by 1 hx.at hy.at hx.words hy.words x y hx.bound hy.bound
    (record {
      block = λ shows. same_block s t block hx.at hy.at hx.value hy.value agrees;
      words = λ in_ram. absurd
          (false≢true in_ram);
    }))
held_alike s t ram (OramSlot bank) x y b hx hy agrees is =
    subst (λ (c : ℕ). SlotsAlike c x y) (some_bank bank b is)
    (alike_by bank hx.at hy.at hx.words hy.words x y hx.bound hy.bound (record {
      block = λ shows. absurd (true≢false (sym shows ∙ hx.hidden));
      words = λ in_ram. absurd (true≢false (sym (or_left (is_ram bank) (is_eram bank) in_ram) ∙ hx.hidden));
    }))

-- a public register has a tree
record HasTree (x : Option Value) : Type 0 where
  tree : Value
  is : x ≡ Some tree

has_tree : (x : Option Value) → is_none x ≡ false → HasTree x
has_tree None e = absurd (true≢false e)
has_tree (Some t) e = record { tree = t; is = refl }

-- both runs are related after the region
pub related_after : (o : Parts) (s t : State) (known : SymState) (u v : State) → bank_blocks s 0 ≡ bank_blocks t 0
    → Agrees s t known → Describes s known u → Describes t known v → IsShaped o u → IsShaped o v → u.place ≡ v.place
    → u.cycle ≡ v.cycle → Related (known_after known) u v
related_after o s t known u v ram agrees first second shape_u shape_v place cycle = record {
  place = place;
  cycle = cycle;
  registers = λ r public.
      let held = has_tree (tree_held known r) (sym (secret-after known r) ∙ public) in
      first.registers r held.tree held.is ∙ agrees.trees r held.tree held.is
      ∙ sym (second.registers r held.tree held.is);
  slots = λ j b is. held_alike s t ram (slot_held known j) (slot u j) (slot v j) b (first.slots j) (second.slots j)
      (agrees.slots j) (sym (bank-after known j) ∙ is);
  ram = first.ram ∙ ram ∙ sym second.ram;
  register_count = shape_u.register_count ∙ sym shape_v.register_count;
  first_slots = shape_u.slot_count;
  second_slots = shape_v.slot_count;
  bank_count = shape_u.bank_count ∙ sym shape_v.bank_count;
}
