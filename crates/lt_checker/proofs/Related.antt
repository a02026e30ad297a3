-- Two runs that may differ only in secrets, given what is known at their place; and the changes of their states that
-- keep them related.
use Rattle.std.proofs.Common.{◌≡◌, ℕ, ◌+◌, ◌<◌, ◌≤◌, Bool, true, false, ℤ, pos, List, [], length, get_or, set, Option, Some, None, sym, ap, ◌∙◌, subst, ⊎_elim, arith, length-set, get_or-set_same, get_or-set_other}
use Rattle.std.proofs.lemmas.List.{get_or_past, set-get_or}
use Rattle.std.proofs.lemmas.Bool.{cases_eq, cases_lt, true≢false, eq-eqb, or_left}
use Rattle.lt_isa.specs.declared.instructions.Instr.{Instr}
use Rattle.lt_isa.specs.Prelude.{Parts, is_ram, Slot, Unbound, Bound, State, register, slot, bank_blocks, set_register, set_slot, set_block, cost_of, start_of, passed}
use Rattle.trace_patterns.specs.Prelude.{Known, is_secret, bank_known, set_secret, set_bank, shows_block}

-- how two slots bound to bank b are alike: in plain memory in the block and its words, in encrypted memory in the
-- block, and in an oblivious bank in nothing more
pub record BoundAlike (b a1 a2 : ℕ) (words1 words2 : List ℤ) : Type 0 where
  pub block : shows_block b ≡ true → a1 ≡ a2
  pub words : is_ram b ≡ true → words1 ≡ words2

-- slots of two runs that are bound to bank b and are alike
abbrev pub SlotsAlike : ℕ → Slot → Slot → Type 0
SlotsAlike b Unbound t = ⊥
SlotsAlike b (Bound b1 a1 words1) Unbound = ⊥
SlotsAlike b (Bound b1 a1 words1) (Bound b2 a2 words2) = (b1 ≡ b) × (b2 ≡ b) × BoundAlike b a1 a2 words1 words2

-- how two states are alike if k is known
pub record Related (k : Known) (s t : State) : Type 0 where
  pub place : s.place ≡ t.place
  pub cycle : s.cycle ≡ t.cycle
  pub registers : (r : ℕ) → is_secret k r ≡ false → register s r ≡ register t r
  pub slots : (j b : ℕ) → bank_known k j ≡ Some b → SlotsAlike b (slot s j) (slot t j)
  pub ram : bank_blocks s 0 ≡ bank_blocks t 0
  pub register_count : length s.registers ≡ length t.registers
  pub first_slots : length s.slots ≡ 8
  pub second_slots : length t.slots ≡ 8
  pub bank_count : length s.banks ≡ length t.banks

-- one entry is set to the same item in two lists of the same length
set_alike : {X : Type 0} (xs ys : List X) (i : ℕ) (x y d : X) → length xs ≡ length ys → x ≡ y
    → get_or (set xs i x) i d ≡ get_or (set ys i y) i d
set_alike xs ys i x y d sizes same =
    ⊎_elim
    (λ (lt : i < length xs). get_or-set_same xs i x d lt ∙ same ∙ sym (get_or-set_same ys i y d (omega arith)))
    (λ (le : length xs ≤ i).
    get_or_past (set xs i x) i d (omega (arith, length-set xs i x))
    ∙ sym (get_or_past (set ys i y) i d (omega (arith, length-set ys i y))))
    (cases_lt i (length xs))

-- an instruction that leads both runs to one place
pub passed_alike : (o : Parts) (i : Instr) (taken : Bool) (bank p q : ℕ) (k : Known) (s t : State) → p ≡ q
    → Related k s t → Related k (passed o i taken bank p s) (passed o i taken bank q t)
passed_alike o i taken bank p q k s t same h = record {
  place = same;
  cycle = ap (λ c. start_of o.profile i c + cost_of o i taken bank) h.cycle;
  registers = h.registers;
  slots = h.slots;
  ram = h.ram;
  register_count = h.register_count;
  first_slots = h.first_slots;
  second_slots = h.second_slots;
  bank_count = h.bank_count;
}

-- a register is set; if it is public then, to the same word in both
pub register_alike : (k : Known) (s t : State) (rd : ℕ) (secret : Bool) (x y : ℤ) → Related k s t
    → (secret ≡ false → x ≡ y) → Related (set_secret k rd secret) (set_register s rd x) (set_register t rd y)
register_alike k s t rd secret x y h same = record {
  place = h.place;
  cycle = h.cycle;
  registers = λ r public.
      ⊎_elim
      (λ (e : r ≡ rd). subst (λ (q : ℕ). get_or (set s.registers rd x) q (pos 0) ≡ get_or (set t.registers rd y) q
      (pos 0)) (sym e) (set_alike s.registers t.registers rd x y (pos 0) h.register_count (same (label r e public))))
      (λ (ne : r ≡ rd → ⊥).
      get_or-set_other s.registers rd r x (pos 0) ne
      ∙ h.registers r (sym (get_or-set_other k.secret rd r secret true ne) ∙ public)
      ∙ sym (get_or-set_other t.registers rd r y (pos 0) ne))
      (cases_eq r rd);
  slots = h.slots;
  ram = h.ram;
  register_count = length-set s.registers rd x ∙ h.register_count ∙ sym (length-set t.registers rd y);
  first_slots = h.first_slots;
  second_slots = h.second_slots;
  bank_count = h.bank_count;
}
  where
    label : (r : ℕ) → r ≡ rd → is_secret (set_secret k rd secret) r ≡ false → secret ≡ false
    label r e public =
        let public' : get_or (set k.secret rd secret) rd true ≡ false = subst
        (λ (q : ℕ). get_or (set k.secret rd secret) q true ≡ false) e public in
        ⊎_elim
        (λ (lt : rd < length k.secret). sym (get_or-set_same k.secret rd secret true lt) ∙ public')
        (λ (le : length k.secret ≤ rd).
        absurd (true≢false (sym (get_or_past (set k.secret rd secret) rd true
        (omega (arith, length-set k.secret rd secret))) ∙ public')))
        (cases_lt rd (length k.secret))

-- a slot is bound to the same bank in both
pub slot_alike : (k : Known) (s t : State) (j b : ℕ) (x y : Slot) → j < 8 → Related k s t → SlotsAlike b x y
    → Related (set_bank k j b) (set_slot s j x) (set_slot t j y)
slot_alike k s t j b x y inside h alike = record {
  place = h.place;
  cycle = h.cycle;
  registers = h.registers;
  slots = λ i c known.
      ⊎_elim
      (λ (e : i ≡ j). subst (λ (q : ℕ). SlotsAlike c (get_or (set s.slots j x) q Unbound)
      (get_or (set t.slots j y) q Unbound)) (sym e)
      (here c (subst (λ (q : ℕ). get_or (set k.banks j (Some b)) q None ≡ Some c) e known)))
      (λ (ne : i ≡ j → ⊥). other i c ne known)
      (cases_eq i j);
  ram = h.ram;
  register_count = h.register_count;
  first_slots = length-set s.slots j x ∙ h.first_slots;
  second_slots = length-set t.slots j y ∙ h.second_slots;
  bank_count = h.bank_count;
}
  where
    first : get_or (set s.slots j x) j Unbound ≡ x
    first = get_or-set_same s.slots j x Unbound (omega (arith, h.first_slots))

    second : get_or (set t.slots j y) j Unbound ≡ y
    second = get_or-set_same t.slots j y Unbound (omega (arith, h.second_slots))

    bank : (c : ℕ) → get_or (set k.banks j (Some b)) j None ≡ Some c → b ≡ c
    bank c known =
        ⊎_elim
        (λ (lt : j < length k.banks). let e : Some b ≡ Some c = sym (get_or-set_same k.banks j (Some b) None lt)
        ∙ known in cc)
        (λ (le : length k.banks ≤ j).
        let e : ◌≡◌ {A = Option ℕ} None (Some c) = sym
        (get_or_past (set k.banks j (Some b)) j None (omega (arith, length-set k.banks j (Some b)))) ∙ known in cc)
        (cases_lt j (length k.banks))

    here : (c : ℕ) → get_or (set k.banks j (Some b)) j None ≡ Some c
        → SlotsAlike c (get_or (set s.slots j x) j Unbound) (get_or (set t.slots j y) j Unbound)
    here c known =
        subst (λ (z : Slot). SlotsAlike c z (get_or (set t.slots j y) j Unbound)) (sym first)
        (subst (λ (z : Slot). SlotsAlike c x z) (sym second) (subst (λ (q : ℕ). SlotsAlike q x y) (bank c known) alike))

    other : (i c : ℕ) → (i ≡ j → ⊥) → get_or (set k.banks j (Some b)) i None ≡ Some c
        → SlotsAlike c (get_or (set s.slots j x) i Unbound) (get_or (set t.slots j y) i Unbound)
    other i c ne known =
        subst (λ (z : Slot). SlotsAlike c z (get_or (set t.slots j y) i Unbound))
        (sym (get_or-set_other s.slots j i x Unbound ne))
        (subst (λ (z : Slot). SlotsAlike c (get_or s.slots i Unbound) z)
        (sym (get_or-set_other t.slots j i y Unbound ne))
        (h.slots i c (sym (get_or-set_other k.banks j i (Some b) None ne) ∙ known)))

-- a slot's words change, and it stays bound to its bank
pub words_alike : (k : Known) (s t : State) (j b : ℕ) (x y : Slot) → j < 8 → bank_known k j ≡ Some b → Related k s t
    → SlotsAlike b x y → Related k (set_slot s j x) (set_slot t j y)
words_alike k s t j b x y inside known h alike =
    let same : set_bank k j b ≡ k = ap
    (λ (banks : List (Option ℕ)). let kept : Known = record k { banks = banks } in kept)
    (ap (set k.banks j) (sym known) ∙ set-get_or k.banks j None) in
    subst (λ (q : Known). Related q (set_slot s j x) (set_slot t j y)) same (slot_alike k s t j b x y inside h alike)

-- a block is written; in plain memory the same block with the same words in both
pub block_alike : (k : Known) (s t : State) (b a1 a2 : ℕ) (words1 words2 : List ℤ) → Related k s t
    → BoundAlike b a1 a2 words1 words2 → Related k (set_block s b a1 words1) (set_block t b a2 words2)
block_alike k s t b a1 a2 words1 words2 h alike = record {
  place = h.place;
  cycle = h.cycle;
  registers = h.registers;
  slots = h.slots;
  ram =
      ⊎_elim
      (λ (e : 0 ≡ b). subst (λ (q : ℕ). get_or (set s.banks b first) q [] ≡ get_or (set t.banks b second) q []) (sym e)
      (set_alike s.banks t.banks b first second [] h.bank_count (same e)))
      (λ (ne : 0 ≡ b → ⊥). get_or-set_other s.banks b 0 first [] ne ∙ h.ram
      ∙ sym (get_or-set_other t.banks b 0 second [] ne))
      (cases_eq 0 b);
  register_count = h.register_count;
  first_slots = h.first_slots;
  second_slots = h.second_slots;
  bank_count = length-set s.banks b _ ∙ h.bank_count ∙ sym (length-set t.banks b _);
}
  where
    first : List (List ℤ)
    first = set (bank_blocks s b) a1 words1

    second : List (List ℤ)
    second = set (bank_blocks t b) a2 words2

    -- in plain memory
    same : 0 ≡ b → first ≡ second
    same e =
        let ram : is_ram b ≡ true = eq-eqb b 0 (sym e) in
        let banks : bank_blocks s b ≡ bank_blocks t b = subst
        (λ (q : ℕ). get_or s.banks q [] ≡ get_or t.banks q []) e h.ram in
        ap (λ (blocks : List (List ℤ)). set blocks a1 words1) banks
        ∙ ap (λ (a : ℕ). set (bank_blocks t b) a words1) (alike.block (or_left (is_ram b) _ ram))
        ∙ ap (set (bank_blocks t b) a2) (alike.words ram)
