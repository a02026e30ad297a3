-- What is known at a place that is reached is sound: steps lead there, and each bank that is known is one of the
-- object's.
use Rattle.std.proofs.Common.{◌≡◌, ℕ, ◌+◌, ◌-◌, ◌<◌, ◌≤◌, Bool, true, false, List, length, get_or, set, slice_get, ◌⊎◌, inl, inr, Option, Some, None, ℤ, refl, sym, ap, ◌∙◌, subst, ⊎_elim, arith, get_or-set_same, get_or-set_other}
use Rattle.std.specs.Prelude.{if◌then◌else◌, replicate}
use Rattle.std.proofs.lemmas.Bool.{cases_eq, cases_lt}
use Rattle.std.proofs.lemmas.List.{get_or_past, get_or-replicate, length-replicate}
use Rattle.gr_word.specs.declared.operations.Cmp.{Cmp}
use Rattle.lt_isa.specs.declared.instructions.Instr.{Instr}
use Rattle.lt_isa.specs.declared.instructions.Instr.TheVariants.{Nop, Halt, Li, Alu, Ldb, Stb, Idb, Ldw, Stw, Jmp, Br}
use Rattle.lt_isa.specs.Prelude.{Parts, is_ram, is_eram, IsInRange, InstrFits}
use Rattle.symbolic_values.specs.Prelude.{Value}
use Rattle.trace_patterns.specs.Prelude.{Known, bank_known, start_known, SymState, SymSlot, AnySlot, RamSlot, EramSlot, OramSlot, slot_held, hold_slot, at_entry, entry_slot, slot_bank, common, common_slot, known_behind, held_behind, slot_loaded, ram_loaded, eram_loaded, CarriesTo, Arrived, Along, Through, CarriesOver, ByBoth, without_notes}
use Rattle.trace_patterns.proofs.SymStateLaws.{slot-at_entry, sized-at_entry, bank-after, slot-common}
use Rattle.trace_patterns.proofs.Carries.{over-with}
use Rattle.region_walk.proofs.Numbered.{set_cases}
use Rattle.lt_isa.proofs.Steps.{instruction-fits}
use Rattle.trace_patterns.proofs.Shapes.{shape-arms}
use Rattle.note_infer.specs.Prelude.{Onward, Past, Branched, Jumped, IsReachable, AtStart, Behind, PublicWay, Next, Skips, Branches, Jumps, Crosses, IsRaisedTo, Brings, Enough, More, IsSoundAt, AllSound}

-- a slot that is bound to one of this many banks, if its bank is known
abbrev pub BoundSound : ℕ → SymSlot → Type 0
BoundSound n bound = (bank : ℕ) → slot_bank bound ≡ Some bank → bank < n

abbrev pub SlotsSound : ℕ → SymState → Type 0
SlotsSound n s = (k : ℕ) → BoundSound n (slot_held s k)

some_bank : (a b n : ℕ) → a < n → ◌≡◌ {A = Option ℕ} (Some a) (Some b) → b < n
some_bank a b n lt e = let f : a ≡ b = cc in omega arith

none_bank : {A : Type 0} (b : ℕ) → ◌≡◌ {A = Option ℕ} None (Some b) → A
none_bank b e = absurd cc

any-sound : (n : ℕ) → BoundSound n AnySlot
any-sound n bank e = none_bank bank e

if_sound : (n : ℕ) (b : Bool) (x y : SymSlot) → BoundSound n x → BoundSound n y
    → BoundSound n (let r : SymSlot = if b then x else y in r)
if_sound n true x y hx hy = hx
if_sound n false x y hx hy = hy

common_sound : (n : ℕ) (x y : SymSlot) → BoundSound n x → BoundSound n (common_slot x y)
common_sound n AnySlot y h = any-sound n
common_sound n (RamSlot block origin) (RamSlot other origin') h = if_sound n _ (RamSlot block origin) AnySlot h
    (any-sound n)
common_sound n (RamSlot block origin) (EramSlot other) h = any-sound n
common_sound n (RamSlot block origin) (OramSlot other) h = any-sound n
common_sound n (EramSlot block) (RamSlot other origin') h = any-sound n
common_sound n (EramSlot block) (EramSlot other) h = if_sound n _ (EramSlot block) AnySlot h (any-sound n)
common_sound n (EramSlot block) (OramSlot other) h = any-sound n
common_sound n other AnySlot h = any-sound n
common_sound n (OramSlot bank) (RamSlot other origin') h = any-sound n
common_sound n (OramSlot bank) (EramSlot other) h = any-sound n
common_sound n (OramSlot bank) (OramSlot other) h = if_sound n _ (OramSlot bank) AnySlot h (any-sound n)

-- in a region
module _ (o : Parts) (range : IsInRange o) where
  two : 2 ≤ length o.banks
  two = range.bank_count.0

  ram_loaded-sound : (bank : ℕ) (t : Option Value) → BoundSound (length o.banks) (ram_loaded o bank t)
  ram_loaded-sound bank None = any-sound (length o.banks)
  ram_loaded-sound bank (Some t) = λ b e. some_bank 0 b (length o.banks) (omega (arith, two)) e

  eram_loaded-sound : (bank : ℕ) (t : Option Value) → BoundSound (length o.banks) (eram_loaded o bank t)
  eram_loaded-sound bank None = any-sound (length o.banks)
  eram_loaded-sound bank (Some t) = λ b e. some_bank 1 b (length o.banks) (omega (arith, two)) e

  loaded-sound : (bank : ℕ) (t : Option Value) → bank < length o.banks → BoundSound (length o.banks)
      (slot_loaded o bank t)
  loaded-sound bank t lt =
      if_sound (length o.banks) (is_ram bank) (ram_loaded o bank t) _ (ram_loaded-sound bank t)
      (if_sound (length o.banks) (is_eram bank) (eram_loaded o bank t) (OramSlot bank) (eram_loaded-sound bank t)
      (λ b e. some_bank bank b (length o.banks) lt e))

  slot-sound : (s : SymState) (k : ℕ) (b : SymSlot) → SlotsSound (length o.banks) s → BoundSound (length o.banks) b
      → SlotsSound (length o.banks) (hold_slot s k b)
  slot-sound s k b h hb j =
      set_cases (BoundSound (length o.banks)) s.slots k j b AnySlot hb (any-sound (length o.banks)) (h j)

  held-sound : (s : SymState) (i : Instr) → InstrFits (length o.banks) i → SlotsSound (length o.banks) s
      → SlotsSound (length o.banks) (held_behind o s i)
  unfolding held_behind
  held-sound s (Ldb k bank r) fits h = slot-sound s k _ h (loaded-sound bank _ fits.1)
  held-sound s other fits h = h

  both-sound : (s t : SymState) → SlotsSound (length o.banks) s → SlotsSound (length o.banks) (common s t)
  both-sound s t h k =
      subst (BoundSound (length o.banks)) (sym (slot-common s t k))
      (common_sound (length o.banks) (slot_held s k) (slot_held t k) (h k))

  entry_by : (j : ℕ) (bank : Option ℕ) → ((b : ℕ) → bank ≡ Some b → b < length o.banks)
      → BoundSound (length o.banks) (entry_slot bank j)
  entry_by j None h = any-sound (length o.banks)
  entry_by j (Some bank) h =
      if_sound (length o.banks) (is_ram bank) _ _ (λ b e. some_bank 0 b (length o.banks) (omega (arith, two)) e)
      (if_sound (length o.banks) (is_eram bank) _ (OramSlot bank)
      (λ b e. some_bank 1 b (length o.banks) (omega (arith, two)) e)
      (λ b e. some_bank bank b (length o.banks) (h bank refl) e))

  entry-sound : (k : Known) → ((slot bank : ℕ) → bank_known k slot ≡ Some bank → bank < length o.banks)
      → SlotsSound (length o.banks) (at_entry k)
  entry-sound k h j =
      ⊎_elim
      (λ (lt : j < 8). subst (BoundSound (length o.banks)) (sym (slot-at_entry k j lt)) (entry_by j (bank_known k j)
      (h j)))
      (λ (le : 8 ≤ j).
      subst (BoundSound (length o.banks))
      (sym (get_or_past (at_entry k).slots j AnySlot (omega (arith, (sized-at_entry k).slots)))) (any-sound
      (length o.banks)))
      (cases_lt j 8)

  over-sound : (depth end p : ℕ) (offset : ℤ) (s : SymState) (join : ℕ) (t : SymState)
      → CarriesOver o depth end p offset s join t → SlotsSound (length o.banks) s → SlotsSound (length o.banks) t
  over-sound depth end p offset s join t over h =
      (over-with o (λ x y. SlotsSound (length o.banks) y)
      (λ x y i q at g. held-sound y i (instruction-fits o range q i at) g)
      (λ x x' y y' g f. both-sound x' y' g) depth end p offset s join t s over h).related

  -- the banks that are known after an instruction
  behind-sound : (k : Known) (i : Instr) → InstrFits (length o.banks) i
      → ((slot bank : ℕ) → bank_known k slot ≡ Some bank → bank < length o.banks) → (slot bank : ℕ)
      → bank_known (known_behind k i) slot ≡ Some bank → bank < length o.banks
  unfolding known_behind
  behind-sound k (Ldb j bank r) fits h = λ slot.
      set_cases (λ (x : Option ℕ). (b : ℕ) → x ≡ Some b → b < length o.banks) k.banks j slot (Some bank) None
      (λ b e. some_bank bank b (length o.banks) fits.1 e) (λ b e. none_bank b e) (h slot)
  behind-sound k other fits h = h

-- steps lead to the end of what is carried
mutual
  reaches-to : (o : Parts) (depth end p : ℕ) (s t : SymState) → CarriesTo o depth end p s t → end < length o.code
      → IsReachable o p → IsReachable o end
  reaches-to o depth end p s t (Arrived d e p' s' at) inside h = subst (IsReachable o) at h
  reaches-to o depth end p s t (Along d e p' s' i t' before at goes rest) inside h =
      reaches-to o depth end (p + 1) (held_behind o s i) t rest inside
      (Behind p (p + 1) h (Onward p (p + 1) i at goes refl (omega arith)))
  reaches-to o depth end p s t (Through d e p' s' cmp ra rb offset join u t' before at over rest) inside h =
      reaches-to o depth end join u t rest inside (reaches-over o depth end p offset s join u cmp ra rb over at h)

  pub reaches-over : (o : Parts) (depth end p : ℕ) (offset : ℤ) (s : SymState) (join : ℕ) (t : SymState) (cmp : Cmp)
      (ra rb : ℕ) → CarriesOver o depth end p offset s join t → slice_get o.code p ≡ Some (Br cmp ra rb offset)
      → IsReachable o p → IsReachable o join
  reaches-over o depth end p offset s join t cmp ra rb (ByBoth d e p' f s' second j left right arms first behind) at h =
      let around = shape-arms (without_notes o) depth end p offset second join arms in
      let there = reaches-to o (depth + 1) (second - 1) (p + 1) s left first
      (omega (arith, around.second, around.in_code))
      (Behind p (p + 1) h (Past p (p + 1) cmp ra rb offset at refl
      (omega (arith, around.first, around.second, around.in_code)))) in
      Behind (second - 1) join there (Jumped (second - 1) join around.back around.jump
      (sym around.joins) around.in_code)

-- a way carries what is sound
pub way-sound : (o : Parts) (crossed : List ℕ) (p : ℕ) (k : Known) (q : ℕ) (next : Known) → IsInRange o
    → PublicWay o crossed p k q next → IsSoundAt o p k → IsSoundAt o q next
way-sound o crossed p k q next range (Next p' k' q' n' i at goes to inside is) h = record {
  reached = Behind p q h.reached (Onward p q i at goes to inside);
  banks = λ slot bank e. behind-sound o range k i (instruction-fits o range p i at) h.banks slot bank
      (ap (λ (x : Known). bank_known x slot) (sym is) ∙ e);
}
way-sound o crossed p k q next range (Skips p' k' q' n' cmp ra rb offset at apart to inside is) h = record {
  reached = Behind p q h.reached (Past p q cmp ra rb offset at to inside);
  banks = λ slot bank e. h.banks slot bank (ap (λ (x : Known). bank_known x slot) (sym is) ∙ e);
}
way-sound o crossed p k q next range (Branches p' k' q' n' cmp ra rb offset at apart to inside is) h = record {
  reached = Behind p q h.reached (Branched p q cmp ra rb offset at to inside);
  banks = λ slot bank e. h.banks slot bank (ap (λ (x : Known). bank_known x slot) (sym is) ∙ e);
}
way-sound o crossed p k q next range (Jumps p' k' q' n' offset at to inside is) h = record {
  reached = Behind p q h.reached (Jumped p q offset at to inside);
  banks = λ slot bank e. h.banks slot bank (ap (λ (x : Known). bank_known x slot) (sym is) ∙ e);
}
way-sound o crossed p k q next range (Crosses p' k' q' n' cmp ra rb offset at among joins) h = record {
  reached = reaches-over o 0 (length o.code - 1) p offset (at_entry k) q joins.state cmp ra rb joins.over at h.reached;
  banks = λ slot bank e. over-sound o range 0 (length o.code - 1) p offset (at_entry k) q joins.state joins.over
      (entry-sound o range k h.banks) slot bank
      (sym (bank-after joins.state slot) ∙ ap (λ (x : Known). bank_known x slot) (sym joins.next_is) ∙ e);
}

-- what is brought to a place is sound there
pub brings-sound : (o : Parts) (before : List (Option Known)) (stack : List ℕ) (place : ℕ) (next : Known)
    (after : List (Option Known)) (rest : List ℕ) → place < length before → Brings before stack place next after rest
    → IsSoundAt o place next → AllSound o before → AllSound o after
brings-sound o before stack place next after rest inside (Enough h) sound all = all
brings-sound o before stack place next after rest inside (More high h) sound all = λ p k e.
    ⊎_elim
    (λ (at : p ≡ place).
    let f : ◌≡◌ {A = Option Known} (Some high) (Some k) =
    sym (get_or-set_same before place (Some high) None inside)
    ∙ ap (λ (x : ℕ). get_or (set before place (Some high)) x None) (sym at) ∙ e in
    let same : high ≡ k = cc in
    subst (λ (x : ℕ). IsSoundAt o x k) (sym at)
    (subst (IsSoundAt o place) same (raised (get_or before place None) high h)))
    (λ (ne : p ≡ place → ⊥). all p k (sym (get_or-set_other before place p (Some high) None ne) ∙ e))
    (cases_eq p place)
  where
    raised : (old : Option Known) (x : Known) → IsRaisedTo old next (Some x) → IsSoundAt o place x
    raised None x e = subst (IsSoundAt o place) (sym e) sound
    raised (Some old) x g = record {
      reached = sound.reached;
      banks = λ slot bank e. sound.banks slot bank (g.0.second.slots slot bank e);
    }

-- at the start no bank is known
pub start-sound : (o : Parts) → IsSoundAt o 0 start_known
unfolding start_known
start-sound o = record {
  reached = AtStart;
  banks = λ slot bank e. none_bank bank (sym (none_in slot (cases_lt slot 8)) ∙ e);
}
  where
    none_in : (slot : ℕ) → (slot < 8) ⊎ (8 ≤ slot) → get_or (replicate 8
        (let x : Option ℕ = None in x)) slot None ≡ None
    none_in slot (inl lt) = get_or-replicate 8 slot (let x : Option ℕ = None in x) None lt
    none_in slot (inr le) = get_or_past (replicate 8 (let x : Option ℕ = None in x)) slot None
        (omega (arith, length-replicate 8 (let x : Option ℕ = None in x)))
