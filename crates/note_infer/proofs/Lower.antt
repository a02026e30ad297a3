-- What is known in one state, beside a lower one: in a region, in public code, and from one to the other.
use Rattle.std.proofs.Common.{◌≡◌, ℕ, ◌<◌, ◌≤◌, Bool, true, false, not, ◌||◌, inl, inr, Option, Some, None, refl, sym, ap, ◌∙◌, subst, ⊎_elim, arith, length-set}
use Rattle.std.specs.Prelude.{if◌then◌else◌, is_none}
use Rattle.std.proofs.lemmas.Bool.{cases_lt}
use Rattle.std.proofs.lemmas.List.{get_or_past}
use Rattle.std.proofs.Math.ListN.{length-map}
use Rattle.gr_word.specs.declared.operations.Op.{Op}
use Rattle.lt_isa.specs.declared.instructions.Instr.{Instr}
use Rattle.lt_isa.specs.declared.instructions.Instr.TheVariants.{Nop, Halt, Li, Alu, Ldb, Stb, Idb, Ldw, Stw, Jmp, Br}
use Rattle.lt_isa.specs.Prelude.{Parts, is_ram, is_eram}
use Rattle.symbolic_values.specs.Prelude.{Value, Reg}
use Rattle.trace_patterns.specs.Prelude.{Known, is_secret, bank_known, set_secret, set_bank, FitsClaim, SymSlot, AnySlot, RamSlot, EramSlot, OramSlot, SymState, tree_held, slot_held, hold_tree, hold_slot, entry_slot, at_entry, known_after, slot_bank, common_tree, common_slot, common, applied_trees, block_held, word_held, slot_shows, slot_is_ram, known_behind, slot_loaded, held_behind}
use Rattle.trace_patterns.proofs.SymStateLaws.{IsSized, tree-at_entry, slot-at_entry, sized-at_entry, secret-after, bank-after, none_left, none_right, any_left, any_right, tree-common, slot-common, sized-common}
use Rattle.note_infer.specs.Prelude.{IsFull}
use Rattle.note_infer.proofs.Keeps.{Keeps, keeps-then, keeps-made, keeps-both, keeps-set}

-- a state of a region is below another: it holds each tree and each slot that the other holds, and may hold more
pub record IsBelow (low high : SymState) : Type 0 where
  pub low_sized : IsSized low
  pub high_sized : IsSized high
  pub trees : (r : ℕ) → Keeps None (tree_held low r) (tree_held high r)
  pub slots : (k : ℕ) → Keeps AnySlot (slot_held low k) (slot_held high k)

-- the same in public code
pub record IsLower (low high : Known) : Type 0 where
  pub low_full : IsFull low
  pub high_full : IsFull high
  pub labels : (r : ℕ) → Keeps true (is_secret low r) (is_secret high r)
  pub banks : (k : ℕ) → Keeps None (bank_known low k) (bank_known high k)

pub below-own : (s : SymState) → IsSized s → IsBelow s s
below-own s sized = record { low_sized = sized; high_sized = sized; trees = λ r. inr refl; slots = λ k. inr refl }

pub lower-own : (k : Known) → IsFull k → IsLower k k
lower-own k full = record { low_full = full; high_full = full; labels = λ r. inr refl; banks = λ j. inr refl }

pub lower-then : (x y z : Known) → IsLower x y → IsLower y z → IsLower x z
lower-then x y z one two = record {
  low_full = one.low_full;
  high_full = two.high_full;
  labels = λ r. keeps-then true (is_secret x r) (is_secret y r) (is_secret z r) (one.labels r) (two.labels r);
  banks = λ j. keeps-then None (bank_known x j) (bank_known y j) (bank_known z j) (one.banks j) (two.banks j);
}

-- it is what a claim is fitted by
label_kept : (x y : Bool) → (x ≡ true → y ≡ true) → Keeps true x y
label_kept true y h = inl (h refl)
label_kept false true h = inl refl
label_kept false false h = inr refl

label_lower : (x y : Bool) → Keeps true x y → x ≡ true → y ≡ true
label_lower x y (inl e) is = e
label_lower x y (inr e) is = sym e ∙ is

bank_kept : (x y : Option ℕ) → ((b : ℕ) → y ≡ Some b → x ≡ Some b) → Keeps None x y
bank_kept x None h = inl refl
bank_kept x (Some b) h = inr (h b refl)

bank_lower : (x y : Option ℕ) → Keeps None x y → (b : ℕ) → y ≡ Some b → x ≡ Some b
bank_lower x y (inl e) b is = absurd (let f : ◌≡◌ {A = Option ℕ} None (Some b) = sym e ∙ is in cc)
bank_lower x y (inr e) b is = e ∙ is

pub fits-lower : (low high : Known) → IsFull low → IsFull high → FitsClaim low high → IsLower low high
fits-lower low high low_full high_full fits = record {
  low_full = low_full;
  high_full = high_full;
  labels = λ r. label_kept (is_secret low r) (is_secret high r) (fits.registers r);
  banks = λ j. bank_kept (bank_known low j) (bank_known high j) (fits.slots j);
}

pub lower-fits : (low high : Known) → IsLower low high → FitsClaim low high
lower-fits low high h = record {
  registers = λ r. label_lower (is_secret low r) (is_secret high r) (h.labels r);
  slots = λ j. bank_lower (bank_known low j) (bank_known high j) (h.banks j);
}

-- one change keeps it
below-tree : (low high : SymState) (r : ℕ) (t u : Option Value) → IsBelow low high → Keeps None t u
    → IsBelow (hold_tree low r t) (hold_tree high r u)
below-tree low high r t u h made = record {
  low_sized = record { registers = length-set low.registers r t ∙ h.low_sized.registers; slots = h.low_sized.slots };
  high_sized = record {
    registers = length-set high.registers r u ∙ h.high_sized.registers;
    slots =
        h.high_sized.slots;
  };
  trees = keeps-set None low.registers high.registers r t u (h.low_sized.registers ∙ sym h.high_sized.registers)
      h.trees made;
  slots = h.slots;
}

below-slot : (low high : SymState) (k : ℕ) (b c : SymSlot) → IsBelow low high → Keeps AnySlot b c
    → IsBelow (hold_slot low k b) (hold_slot high k c)
below-slot low high k b c h made = record {
  low_sized = record { registers = h.low_sized.registers; slots = length-set low.slots k b ∙ h.low_sized.slots };
  high_sized = record { registers = h.high_sized.registers; slots = length-set high.slots k c ∙ h.high_sized.slots };
  trees = h.trees;
  slots = keeps-set AnySlot low.slots high.slots k b c (h.low_sized.slots ∙ sym h.high_sized.slots) h.slots made;
}

pub lower-label : (low high : Known) (r : ℕ) (x y : Bool) → IsLower low high → Keeps true x y
    → IsLower (set_secret low r x) (set_secret high r y)
lower-label low high r x y h made = record {
  low_full = record { registers = length-set low.secret r x ∙ h.low_full.registers; slots = h.low_full.slots };
  high_full = record { registers = length-set high.secret r y ∙ h.high_full.registers; slots = h.high_full.slots };
  labels = keeps-set true low.secret high.secret r x y (h.low_full.registers ∙ sym h.high_full.registers) h.labels made;
  banks = h.banks;
}

lower-bank : (low high : Known) (k bank : ℕ) → IsLower low high → IsLower (set_bank low k bank) (set_bank high k bank)
lower-bank low high k bank h = record {
  low_full = record { registers = h.low_full.registers; slots = length-set low.banks k (Some bank) ∙ h.low_full.slots };
  high_full = record {
    registers = h.high_full.registers;
    slots = length-set high.banks k (Some bank) ∙ h.high_full.slots;
  };
  labels = h.labels;
  banks = keeps-set None low.banks high.banks k (Some bank) (Some bank) (h.low_full.slots ∙ sym h.high_full.slots)
      h.banks (inr refl);
}

-- what is made of what is held
applied_none : (op : Op) (t : Option Value) → applied_trees op t None ≡ None
applied_none op None = refl
applied_none op (Some t) = refl

none_applied : (op : Op) (t : Option Value) → applied_trees op None t ≡ None
none_applied op None = refl
none_applied op (Some t) = refl

word_none : (o : Parts) (b : SymSlot) → word_held o b None ≡ None
word_none o AnySlot = refl
word_none o (RamSlot block origin) = refl
word_none o (EramSlot block) = refl
word_none o (OramSlot bank) = refl

any_word : (o : Parts) (t : Option Value) → word_held o AnySlot t ≡ None
any_word o None = refl
any_word o (Some t) = refl

loaded_kept : (o : Parts) (bank : ℕ) (t u : Option Value) → Keeps None t u
    → Keeps AnySlot (slot_loaded o bank t) (slot_loaded o bank u)
loaded_kept o bank t u (inr e) = inr (ap (slot_loaded o bank) e)
loaded_kept o bank t u (inl e) = by (is_ram bank) (is_eram bank) refl refl
  where
    by : (ram eram : Bool) → is_ram bank ≡ ram → is_eram bank ≡ eram
        → Keeps AnySlot (slot_loaded o bank t) (slot_loaded o bank u)
    by true eram is also = inl (ap (slot_loaded o bank) e ∙ ap (λ (c : Bool).
        if c then AnySlot else (if is_eram bank then AnySlot else OramSlot bank)) is)
    by false true is also = inl (ap (slot_loaded o bank) e ∙ ap (λ (c : Bool).
        if c then AnySlot else (if is_eram bank then AnySlot else OramSlot bank)) is
        ∙ ap (λ (c : Bool). if c then AnySlot else OramSlot bank) also)
    by false false is also = inr (oram t ∙ sym (oram u))
      where
        oram : (v : Option Value) → slot_loaded o bank v ≡ OramSlot bank
        oram v = rw is (rw also refl)

or_true : (x : Bool) → (x || true) ≡ true
or_true true = refl
or_true false = refl

-- one instruction keeps it, in an arm and in public code
pub held-below : (o : Parts) (low high : SymState) (i : Instr) → IsBelow low high
    → IsBelow (held_behind o low i) (held_behind o high i)
unfolding held_behind
held-below o low high (Li rd value) h = below-tree low high rd _ _ h (inr refl)
held-below o low high (Alu op rd ra rb) h =
    below-tree low high rd _ _ h
    (keeps-both (applied_trees op) None None None (none_applied op) (applied_none op) _ _ _ _ (h.trees ra) (h.trees rb))
held-below o low high (Ldb k bank r) h =
    below-slot low high k _ _ h (loaded_kept o bank (tree_held low r) (tree_held high r) (h.trees r))
held-below o low high (Idb rd k) h =
    below-tree low high rd _ _ h (keeps-made block_held AnySlot None refl _ _ (h.slots k))
held-below o low high (Ldw rd k ro) h =
    below-tree low high rd _ _ h
    (keeps-both (word_held o) AnySlot None None (any_word o) (word_none o) _ _ _ _ (h.slots k) (h.trees ro))
held-below o low high other h = h

pub known-lower : (low high : Known) (i : Instr) → IsLower low high → IsLower (known_behind low i) (known_behind high i)
unfolding known_behind
known-lower low high (Li rd value) h = lower-label low high rd _ _ h (inr refl)
known-lower low high (Alu op rd ra rb) h =
    lower-label low high rd _ _ h
    (keeps-both ◌||◌ true true true (λ y. refl) or_true _ _ _ _ (h.labels ra) (h.labels rb))
known-lower low high (Ldb slot bank r) h = lower-bank low high slot bank h
known-lower low high (Idb rd slot) h =
    lower-label low high rd _ _ h (keeps-made (λ b. not (slot_shows b)) None true refl _ _ (h.banks slot))
known-lower low high (Ldw rd slot ro) h =
    lower-label low high rd _ _ h
    (keeps-both (λ b x. not (slot_is_ram b) || x) None true true (λ y. refl) (λ b. or_true (not (slot_is_ram b)))
    _ _ _ _ (h.banks slot) (h.labels ro))
known-lower low high other h = h

-- at the entry of a region, where two states are joined, and back in public code
pub entry-below : (low high : Known) → IsLower low high → IsBelow (at_entry low) (at_entry high)
entry-below low high h = record {
  low_sized = sized-at_entry low;
  high_sized = sized-at_entry high;
  trees = λ r.
      ⊎_elim
      (λ (lt : r < 32).
      subst (λ v. Keeps None v (tree_held (at_entry high) r)) (sym (tree-at_entry low r lt))
      (subst (Keeps None _) (sym (tree-at_entry high r lt))
      (keeps-made (λ (b : Bool). let v : Option Value = if b then None else Some (Reg r) in v) true None refl
      _ _ (h.labels r))))
      (λ (le : 32 ≤ r). inl (get_or_past (at_entry high).registers r None
      (omega (arith, (sized-at_entry high).registers))))
      (cases_lt r 32);
  slots = λ k.
      ⊎_elim
      (λ (lt : k < 8).
      subst (λ v. Keeps AnySlot v (slot_held (at_entry high) k)) (sym (slot-at_entry low k lt))
      (subst (Keeps AnySlot _) (sym (slot-at_entry high k lt))
      (keeps-made (λ b. entry_slot b k) None AnySlot refl _ _ (h.banks k))))
      (λ (le : 8 ≤ k). inl (get_or_past (at_entry high).slots k AnySlot
      (omega (arith, (sized-at_entry high).slots))))
      (cases_lt k 8);
}

pub common-below : (s s' t t' : SymState) → IsBelow s s' → IsBelow t t' → IsBelow (common s t) (common s' t')
common-below s s' t t' h g = record {
  low_sized = sized-common s t h.low_sized g.low_sized;
  high_sized = sized-common s' t' h.high_sized g.high_sized;
  trees = λ r.
      subst (λ v. Keeps None v (tree_held (common s' t') r)) (sym (tree-common s t r))
      (subst (Keeps None _) (sym (tree-common s' t' r))
      (keeps-both common_tree None None None none_left none_right _ _ _ _ (h.trees r) (g.trees r)));
  slots = λ k.
      subst (λ v. Keeps AnySlot v (slot_held (common s' t') k)) (sym (slot-common s t k))
      (subst (Keeps AnySlot _) (sym (slot-common s' t' k))
      (keeps-both common_slot AnySlot AnySlot AnySlot any_left any_right _ _ _ _ (h.slots k) (g.slots k)));
}

pub full-after : (s : SymState) → IsSized s → IsFull (known_after s)
full-after s sized = record {
  registers = length-map s.registers is_none ∙ sized.registers;
  slots = length-map s.slots slot_bank ∙ sized.slots;
}

pub after-lower : (low high : SymState) → IsBelow low high → IsLower (known_after low) (known_after high)
after-lower low high h = record {
  low_full = full-after low h.low_sized;
  high_full = full-after high h.high_sized;
  labels = λ r.
      subst (λ v. Keeps true v (is_secret (known_after high) r)) (sym (secret-after low r))
      (subst (Keeps true _) (sym (secret-after high r)) (keeps-made is_none None true refl _ _ (h.trees r)));
  banks = λ k.
      subst (λ v. Keeps None v (bank_known (known_after high) k)) (sym (bank-after low k))
      (subst (Keeps None _) (sym (bank-after high k)) (keeps-made slot_bank AnySlot None refl _ _ (h.slots k)));
}
