-- What is known at each place of a region, where a state is carried through it: each step within the region carries at
-- most what is known where it ends, and a step to the join at most what is known there.
use Rattle.std.proofs.Common.{◌≡◌, ℕ, ◌+◌, ◌-◌, ◌<◌, ◌≤◌, ◌||◌, Bool, true, false, not, ℤ, List, map, set, slice_get, ◌⊎◌, inl, inr, Option, Some, None, refl, sym, ap, ◌∙◌, subst, ⊎_elim, arith, length-set}
use Rattle.std.specs.Prelude.{is_none, if◌then◌else◌}
use Rattle.std.proofs.lemmas.Bool.{cases_eq, cases_lt, eqb-true, false≢true}
use Rattle.std.proofs.lemmas.List.{map-set, get_or_past}
use Rattle.gr_word.specs.declared.operations.Cmp.{Cmp}
use Rattle.gr_word.specs.declared.operations.Op.{Op}
use Rattle.lt_isa.specs.declared.instructions.Instr.{Instr}
use Rattle.lt_isa.specs.declared.instructions.Instr.TheVariants.{Nop, Halt, Li, Alu, Ldb, Stb, Idb, Ldw, Stw, Jmp, Br}
use Rattle.lt_isa.specs.Prelude.{Parts, is_ram, is_eram, target_of}
use Rattle.symbolic_values.specs.Prelude.{Value, Const, Reg}
use Rattle.trace_patterns.specs.Prelude.{Known, is_secret, bank_known, set_secret, set_bank, FitsClaim, SymState, SymSlot, AnySlot, RamSlot, EramSlot, OramSlot, tree_held, slot_held, hold_tree, hold_slot, at_entry, entry_slot, known_after, slot_bank, common, common_tree, common_slot, applied_trees, block_held, word_held, only_goes_on, known_behind, held_behind, slot_shows, slot_is_ram, slot_loaded, CarriesTo, Arrived, Along, Through, CarriesOver, ByBoth, without_notes}
use Rattle.trace_patterns.proofs.Shapes.{IsRegion, shape-arms}
use Rattle.trace_patterns.proofs.SymStateLaws.{IsSized, tree-at_entry, slot-at_entry, sized-at_entry, secret-after, bank-after, tree-common, slot-common, sized-common, common_tree-cases, common_slot-cases}
use Rattle.trace_patterns.proofs.Carries.{instr-once, offset_once}
use Rattle.note_infer.specs.Prelude.{is_crossed, PublicWay, Next, Skips, Branches, Jumps, Crosses, States, IsAtLeast, IsFull, with_state}
use Rattle.note_infer.proofs.Keeps.{Keeps, keeps-set}
use Rattle.note_infer.proofs.Lower.{IsLower, below-own, held-below, lower-own, lower-fits, lower-label, full-after}
use Rattle.note_infer.proofs.Looking.{br_not, jmp_not}
use Rattle.note_infer.proofs.Tight.{fits-then, at-least-then}
use Rattle.note_infer.proofs.UnderWay.{at-set, off-set}
use Rattle.note_infer.proofs.SameParts.{known_once, none_not, same_jump}

-- one instruction: in an arm no more is known after it than in public code
known_tree : (s : SymState) (r : ℕ) (v : Option Value)
    → known_after (hold_tree s r v) ≡ set_secret (known_after s) r (is_none v)
known_tree s r v =
    ap (λ (l : List Bool). let k : Known = record { secret = l; banks = map slot_bank s.slots } in k)
    (map-set is_none s.registers r v)

abbrev slot_set : Known → ℕ → Option ℕ → Known
slot_set k slot bank = record { secret = k.secret; banks = set k.banks slot bank }

known_slot : (s : SymState) (j : ℕ) (b : SymSlot)
    → known_after (hold_slot s j b) ≡ slot_set (known_after s) j (slot_bank b)
known_slot s j b =
    ap (λ (l : List (Option ℕ)). let k : Known = record { secret = map is_none s.registers; banks = l } in k)
    (map-set slot_bank s.slots j b)

lower-slot : (low high : Known) (j : ℕ) (x y : Option ℕ) → IsLower low high → Keeps None x y
    → IsLower (slot_set low j x) (slot_set high j y)
lower-slot low high j x y h made = record {
  low_full = record { registers = h.low_full.registers; slots = length-set low.banks j x ∙ h.low_full.slots };
  high_full = record { registers = h.high_full.registers; slots = length-set high.banks j y ∙ h.high_full.slots };
  labels = h.labels;
  banks = keeps-set None low.banks high.banks j x y (h.low_full.slots ∙ sym h.high_full.slots) h.banks made;
}

applied_kept : (op : Op) (t u : Option Value) → Keeps true (is_none t || is_none u) (is_none (applied_trees op t u))
applied_kept op None None = inl refl
applied_kept op None (Some u) = inl refl
applied_kept op (Some t) None = inl refl
applied_kept op (Some t) (Some u) = inr refl

block_kept : (b : SymSlot) → Keeps true (not (slot_shows (slot_bank b))) (is_none (block_held b))
block_kept AnySlot = inl refl
block_kept (RamSlot block origin) = inr refl
block_kept (EramSlot block) = inr refl
block_kept (OramSlot bank) = inl refl

word_kept : (o : Parts) (b : SymSlot) (t : Option Value)
    → Keeps true (not (slot_is_ram (slot_bank b)) || is_none t) (is_none (word_held o b t))
word_kept o AnySlot None = inl refl
word_kept o AnySlot (Some t) = inl refl
word_kept o (RamSlot block origin) None = inl refl
word_kept o (RamSlot block origin) (Some t) = inr refl
word_kept o (EramSlot block) None = inl refl
word_kept o (EramSlot block) (Some t) = inl refl
word_kept o (OramSlot bank) None = inl refl
word_kept o (OramSlot bank) (Some t) = inl refl

loaded_bank : (o : Parts) (bank : ℕ) (t : Option Value) → Keeps None (Some bank) (slot_bank (slot_loaded o bank t))
loaded_bank o bank t = by (is_ram bank) (is_eram bank) refl refl t
  where
    by : (ram eram : Bool) → is_ram bank ≡ ram → is_eram bank ≡ eram → (u : Option Value)
        → Keeps None (Some bank) (slot_bank (slot_loaded o bank u))
    by true eram is also None = rw is (inl refl)
    by true eram is also (Some u) = rw is (inr (ap Some (eqb-true bank 0 is)))
    by false true is also None = rw is (rw also (inl refl))
    by false true is also (Some u) = rw is (rw also (inr (ap Some (eqb-true bank 1 also))))
    by false false is also u = rw is (rw also (inr refl))

tree_made : (s : SymState) (r : ℕ) (v : Option Value) (label : Bool) → IsSized s → Keeps true label (is_none v)
    → IsLower (set_secret (known_after s) r label) (known_after (hold_tree s r v))
tree_made s r v label sized kept =
    subst (IsLower (set_secret (known_after s) r label)) (sym (known_tree s r v))
    (lower-label (known_after s) (known_after s) r label (is_none v)
    (lower-own (known_after s) (full-after s sized)) kept)

pub behind_passed : (o : Parts) (s : SymState) (i : Instr) → IsSized s
    → IsLower (known_behind (known_after s) i) (known_after (held_behind o s i))
unfolding known_behind held_behind
behind_passed o s (Li rd value) sized = tree_made s rd (Some (Const value)) false sized (inr refl)
behind_passed o s (Alu op rd ra rb) sized =
    let t = tree_held s ra in
    let u = tree_held s rb in
    tree_made s rd (applied_trees op t u) (is_secret (known_after s) ra || is_secret (known_after s) rb) sized
    (subst (λ (b : Bool). Keeps true (b || is_secret (known_after s) rb) (is_none (applied_trees op t u)))
    (sym (secret-after s ra))
    (subst (λ (b : Bool). Keeps true (is_none t || b) (is_none (applied_trees op t u))) (sym (secret-after s rb))
    (applied_kept op t u)))
behind_passed o s (Ldb j bank r) sized =
    let b = slot_loaded o bank (tree_held s r) in
    subst (IsLower (set_bank (known_after s) j bank)) (sym (known_slot s j b))
    (lower-slot (known_after s) (known_after s) j (Some bank) (slot_bank b)
    (lower-own (known_after s) (full-after s sized)) (loaded_bank o bank (tree_held s r)))
behind_passed o s (Idb rd j) sized =
    let b = slot_held s j in
    tree_made s rd (block_held b) (not (slot_shows (bank_known (known_after s) j))) sized
    (subst (λ (x : Option ℕ). Keeps true (not (slot_shows x)) (is_none (block_held b))) (sym (bank-after s j))
    (block_kept b))
behind_passed o s (Ldw rd j ro) sized =
    let b = slot_held s j in
    let t = tree_held s ro in
    tree_made s rd (word_held o b t)
    (not (slot_is_ram (bank_known (known_after s) j)) || is_secret (known_after s) ro) sized
    (subst (λ (x : Option ℕ). Keeps true (not (slot_is_ram x) || is_secret (known_after s) ro)
    (is_none (word_held o b t))) (sym (bank-after s j))
    (subst (λ (l : Bool). Keeps true (not (slot_is_ram (slot_bank b)) || l) (is_none (word_held o b t)))
    (sym (secret-after s ro)) (word_kept o b t)))
behind_passed o s other sized = lower-own (known_after s) (full-after s sized)

-- what is known at the entry is known there
entry_label : (b : Bool) (r : ℕ) → Keeps true b (is_none (let v : Option Value = if b then None else Some (Reg r) in v))
entry_label true r = inl refl
entry_label false r = inr refl

entry_bank : (b : Option ℕ) (j : ℕ) → Keeps None b (slot_bank (entry_slot b j))
entry_bank None j = inl refl
entry_bank (Some bank) j = by (is_ram bank) (is_eram bank) refl refl
  where
    by : (ram eram : Bool) → is_ram bank ≡ ram → is_eram bank ≡ eram
        → Keeps None (Some bank) (slot_bank (entry_slot (Some bank) j))
    by true eram is also = rw is (inr (ap Some (eqb-true bank 0 is)))
    by false true is also = rw is (rw also (inr (ap Some (eqb-true bank 1 also))))
    by false false is also = rw is (rw also (inr refl))

pub known-at_entry : (k : Known) → IsFull k → FitsClaim k (known_after (at_entry k))
known-at_entry k full = lower-fits k (known_after (at_entry k)) (record {
  low_full = full;
  high_full = full-after (at_entry k) (sized-at_entry k);
  labels = λ r.
      subst (Keeps true (is_secret k r)) (sym (secret-after (at_entry k) r))
      (⊎_elim
      (λ (lt : r < 32). subst (λ (v : Option Value). Keeps true (is_secret k r) (is_none v))
      (sym (tree-at_entry k r lt)) (entry_label (is_secret k r) r))
      (λ (le : 32 ≤ r). inl (ap is_none (get_or_past (at_entry k).registers r None
      (omega (arith, le, (sized-at_entry k).registers)))))
      (cases_lt r 32));
  banks = λ j.
      subst (Keeps None (bank_known k j)) (sym (bank-after (at_entry k) j))
      (⊎_elim
      (λ (lt : j < 8). subst (λ (v : SymSlot). Keeps None (bank_known k j) (slot_bank v))
      (sym (slot-at_entry k j lt)) (entry_bank (bank_known k j) j))
      (λ (le : 8 ≤ j). inl (ap slot_bank (get_or_past (at_entry k).slots j AnySlot
      (omega (arith, le, (sized-at_entry k).slots)))))
      (cases_lt j 8));
})

sized_behind : (o : Parts) (s : SymState) (i : Instr) → IsSized s → IsSized (held_behind o s i)
sized_behind o s i sized = (held-below o s s i (below-own s sized)).low_sized

-- what both arms leave is lower on each side
left_tree : (a b : Option Value) → Keeps true (is_none a) (is_none (common_tree a b))
left_tree a b = ⊎_elim (λ (e : common_tree a b ≡ None). inl (ap is_none e))
    (λ (h : (a ≡ b) × (common_tree a b ≡ a)). inr (sym (ap is_none h.1))) (common_tree-cases a b)

right_tree : (a b : Option Value) → Keeps true (is_none b) (is_none (common_tree a b))
right_tree a b = ⊎_elim (λ (e : common_tree a b ≡ None). inl (ap is_none e))
    (λ (h : (a ≡ b) × (common_tree a b ≡ a)). inr (sym (ap is_none (h.1 ∙ h.0)))) (common_tree-cases a b)

left_slot : (a b : SymSlot) → Keeps None (slot_bank a) (slot_bank (common_slot a b))
left_slot a b = ⊎_elim (λ (e : common_slot a b ≡ AnySlot). inl (ap slot_bank e))
    (λ (h : (a ≡ b) × (common_slot a b ≡ a)). inr (sym (ap slot_bank h.1))) (common_slot-cases a b)

right_slot : (a b : SymSlot) → Keeps None (slot_bank b) (slot_bank (common_slot a b))
right_slot a b = ⊎_elim (λ (e : common_slot a b ≡ AnySlot). inl (ap slot_bank e))
    (λ (h : (a ≡ b) × (common_slot a b ≡ a)). inr (sym (ap slot_bank (h.1 ∙ h.0)))) (common_slot-cases a b)

-- a state whose trees and slots are those of another, or none
after_kept : (s t : SymState) → IsSized s → IsSized t
    → ((r : ℕ) → Keeps true (is_none (tree_held s r)) (is_none (tree_held t r)))
    → ((j : ℕ) → Keeps None (slot_bank (slot_held s j)) (slot_bank (slot_held t j)))
    → IsLower (known_after s) (known_after t)
after_kept s t one two trees slots = record {
  low_full = full-after s one;
  high_full = full-after t two;
  labels = λ r.
      subst (λ v. Keeps true v (is_secret (known_after t) r)) (sym (secret-after s r))
      (subst (Keeps true _) (sym (secret-after t r)) (trees r));
  banks = λ j.
      subst (λ v. Keeps None v (bank_known (known_after t) j)) (sym (bank-after s j))
      (subst (Keeps None _) (sym (bank-after t j)) (slots j));
}

left_after : (s t : SymState) → IsSized s → IsSized t → FitsClaim (known_after s) (known_after (common s t))
left_after s t one two =
    lower-fits (known_after s) (known_after (common s t))
    (after_kept s (common s t) one (sized-common s t one two)
    (λ r. subst (λ (v : Option Value). Keeps true (is_none (tree_held s r)) (is_none v)) (sym (tree-common s t r))
    (left_tree (tree_held s r) (tree_held t r)))
    (λ j. subst (λ (v : SymSlot). Keeps None (slot_bank (slot_held s j)) (slot_bank v)) (sym (slot-common s t j))
    (left_slot (slot_held s j) (slot_held t j))))

right_after : (s t : SymState) → IsSized s → IsSized t → FitsClaim (known_after t) (known_after (common s t))
right_after s t one two =
    lower-fits (known_after t) (known_after (common s t))
    (after_kept t (common s t) two (sized-common s t one two)
    (λ r. subst (λ (v : Option Value). Keeps true (is_none (tree_held t r)) (is_none v)) (sym (tree-common s t r))
    (right_tree (tree_held s r) (tree_held t r)))
    (λ j. subst (λ (v : SymSlot). Keeps None (slot_bank (slot_held t j)) (slot_bank v)) (sym (slot-common s t j))
    (right_slot (slot_held s j) (slot_held t j))))

-- where the ways from a place lead, by its instruction
way-on : (o : Parts) (crossed : List ℕ) (p : ℕ) (k : Known) (q : ℕ) (next : Known) (i : Instr)
    → slice_get o.code p ≡ Some i → only_goes_on i ≡ true → PublicWay o crossed p k q next
    → (q ≡ p + 1) × (next ≡ known_behind k i)
way-on o crossed p k q next i at goes (Next p' k' q' n' j c g to inside is) =
    (to, is ∙ ap (known_behind k) (instr-once o p j i c at))
way-on o crossed p k q next i at goes (Skips p' k' q' n' cmp ra rb x c apart to inside is) =
    br_not cmp ra rb x i (instr-once o p i (Br cmp ra rb x) at c) goes
way-on o crossed p k q next i at goes (Branches p' k' q' n' cmp ra rb x c apart to inside is) =
    br_not cmp ra rb x i (instr-once o p i (Br cmp ra rb x) at c) goes
way-on o crossed p k q next i at goes (Jumps p' k' q' n' x c to inside is) =
    jmp_not x i (instr-once o p i (Jmp x) at c) goes
way-on o crossed p k q next i at goes (Crosses p' k' q' n' cmp ra rb x c among joins) =
    br_not cmp ra rb x i (instr-once o p i (Br cmp ra rb x) at c) goes

way-jump : (o : Parts) (crossed : List ℕ) (p : ℕ) (k : Known) (q : ℕ) (next : Known) (offset : ℤ)
    → slice_get o.code p ≡ Some (Jmp offset) → PublicWay o crossed p k q next
    → (q ≡ target_of o p offset) × (next ≡ k)
way-jump o crossed p k q next offset at (Next p' k' q' n' j c g to inside is) =
    absurd (false≢true (ap only_goes_on (instr-once o p (Jmp offset) j at c) ∙ g))
way-jump o crossed p k q next offset at (Skips p' k' q' n' cmp ra rb x c apart to inside is) =
    absurd (let f = instr-once o p (Jmp offset) (Br cmp ra rb x) at c in cc)
way-jump o crossed p k q next offset at (Branches p' k' q' n' cmp ra rb x c apart to inside is) =
    absurd (let f = instr-once o p (Jmp offset) (Br cmp ra rb x) at c in cc)
way-jump o crossed p k q next offset at (Jumps p' k' q' n' x c to inside is) =
    (to ∙ ap (target_of o p) (same_jump x offset (instr-once o p (Jmp x) (Jmp offset) c at)), is)
way-jump o crossed p k q next offset at (Crosses p' k' q' n' cmp ra rb x c among joins) =
    absurd (let f = instr-once o p (Jmp offset) (Br cmp ra rb x) at c in cc)

pub way-branch : (o : Parts) (crossed : List ℕ) (p : ℕ) (k : Known) (q : ℕ) (next : Known) (cmp : Cmp) (ra rb : ℕ)
    (offset : ℤ) → slice_get o.code p ≡ Some (Br cmp ra rb offset) → is_crossed crossed p ≡ false
    → PublicWay o crossed p k q next → ((q ≡ p + 1) ⊎ (q ≡ target_of o p offset)) × (next ≡ k)
way-branch o crossed p k q next cmp ra rb offset at apart (Next p' k' q' n' j c g to inside is) =
    br_not cmp ra rb offset j (instr-once o p j (Br cmp ra rb offset) c at) g
way-branch o crossed p k q next cmp ra rb offset at apart (Skips p' k' q' n' d sa sb x c apart' to inside is) =
    (inl to, is)
way-branch o crossed p k q next cmp ra rb offset at apart (Branches p' k' q' n' d sa sb x c apart' to inside is) = (
  inr (to ∙ ap (target_of o p) (offset_once d cmp sa sb ra rb x offset
      (instr-once o p (Br d sa sb x) (Br cmp ra rb offset) c at))),
  is,
)
way-branch o crossed p k q next cmp ra rb offset at apart (Jumps p' k' q' n' x c to inside is) =
    absurd (let f = instr-once o p (Br cmp ra rb offset) (Jmp x) at c in cc)
way-branch o crossed p k q next cmp ra rb offset at apart (Crosses p' k' q' n' d sa sb x c among joins) =
    absurd (false≢true (sym apart ∙ among))

-- What is carried somewhere is at most what is known there; or it is carried to the end, and is at most what is known
-- at the end.
abbrev pub Leads : States → ℕ → Known → ℕ → Known → Type 0
Leads inner end out q next = IsAtLeast inner q next ⊎ ((q ≡ end) × FitsClaim next out)

abbrev Extends : States → States → Type 0
Extends inner outer = (x : ℕ) (k : Known) → inner x ≡ Some k → outer x ≡ Some k

leads-lower : (inner : States) (end : ℕ) (out : Known) (q : ℕ) (low high : Known) → FitsClaim low high
    → Leads inner end out q high → Leads inner end out q low
leads-lower inner end out q low high fits (inl a) = inl (at-least-then inner q low high fits a)
leads-lower inner end out q low high fits (inr h) = inr (h.0, fits-then low high out fits h.1)

-- from the end it is carried on
leads-on : (inner outer : States) (end : ℕ) (out : Known) (last : ℕ) (left : Known) (q : ℕ) (next : Known)
    → Extends inner outer → Leads outer last left end out → Leads inner end out q next → Leads outer last left q next
leads-on inner outer end out last left q next more onward (inl a) =
    inl (record { known = a.known; is = more q a.known a.is; above = a.above })
leads-on inner outer end out last left q next more onward (inr h) =
    subst (λ (x : ℕ). Leads outer last left x next) (sym h.0) (leads-lower outer last left end next out h.1 onward)

leads-more : (inner outer : States) (end : ℕ) (out : Known) (q : ℕ) (next : Known) → Extends inner outer
    → Leads inner end out q next → Leads outer end out q next
leads-more inner outer end out q next more (inl a) =
    inl (record { known = a.known; is = more q a.known a.is; above = a.above })
leads-more inner outer end out q next more (inr h) = inr h

-- What is known at the places of some code that a state is carried through.
pub record Passes (o : Parts) (crossed : List ℕ) (low end : ℕ) (inner : States) (out : Known) : Type 0 where
  pub within : (x : ℕ) (k : Known) → inner x ≡ Some k → (low ≤ x) × (x < end)
  pub full : (x : ℕ) (k : Known) → inner x ≡ Some k → IsFull k
  pub ways : (x q : ℕ) (k next : Known) → inner x ≡ Some k → PublicWay o crossed x k q next
      → Leads inner end out q next

record PassesTo (o : Parts) (crossed : List ℕ) (end p : ℕ) (s t : SymState) : Type 0 where
  sized : IsSized t
  inner : States
  passes : Passes o crossed p end inner (known_after t)
  start : Leads inner end (known_after t) p (known_after s)

pub record PassesOver (o : Parts) (crossed : List ℕ) (p : ℕ) (offset : ℤ) (s : SymState) (join : ℕ)
    (t : SymState) (end : ℕ) : Type 0 where
  pub sized : IsSized t
  pub ends : join ≤ end
  pub inner : States
  pub passes : Passes o crossed (p + 1) join inner (known_after t)
  pub first : Leads inner join (known_after t) (p + 1) (known_after s)
  pub second : Leads inner join (known_after t) (target_of o p offset) (known_after s)

-- no branch there is crossed
abbrev pub AloneWithin : List ℕ → ℕ → ℕ → Type 0
AloneWithin crossed low end = (x : ℕ) → low ≤ x → x < end → is_crossed crossed x ≡ false

-- two parts of the code and one place more
abbrev or_else : Option Known → Option Known → Option Known
or_else None other = other
or_else (Some k) other = Some k

module _ (one two : States) (p : ℕ) (k : Known)
    (one_apart : (x : ℕ) (j : Known) → one x ≡ Some j → x ≡ p → ⊥)
    (two_apart : (x : ℕ) (j : Known) → two x ≡ Some j → x ≡ p → ⊥)
    (apart : (x : ℕ) (i j : Known) → one x ≡ Some i → two x ≡ Some j → ⊥) where
  both : States
  both = with_state (λ x. or_else (one x) (two x)) p k

  both_here : both p ≡ Some k
  unfolding both
  both_here = at-set (λ x. or_else (one x) (two x)) p k p refl

  both_one : Extends one both
  unfolding both
  both_one x j e =
      off-set (λ x. or_else (one x) (two x)) p k x (one_apart x j e) ∙ ap (λ (a : Option Known). or_else a (two x)) e

  both_two : Extends two both
  unfolding both
  both_two x j e = off-set (λ x. or_else (one x) (two x)) p k x (two_apart x j e) ∙ by (one x) refl
    where
      by : (a : Option Known) → one x ≡ a → or_else (one x) (two x) ≡ Some j
      by None is = ap (λ (b : Option Known). or_else b (two x)) is ∙ e
      by (Some i) is = absurd (apart x i j is e)

  both_cases : (x : ℕ) (j : Known) → both x ≡ Some j
      → ((x ≡ p) × (j ≡ k)) ⊎ ((one x ≡ Some j) ⊎ (two x ≡ Some j))
  unfolding both
  both_cases x j e =
      ⊎_elim
      (λ (at : x ≡ p). inl (at, known_once j k (sym e ∙ at-set (λ x. or_else (one x) (two x)) p k x at)))
      (λ (ne : x ≡ p → ⊥). inr (by (one x) refl (sym (off-set (λ x. or_else (one x) (two x)) p k x ne) ∙ e)))
      (cases_eq x p)
    where
      by : (a : Option Known) → one x ≡ a → or_else (one x) (two x) ≡ Some j → (one x ≡ Some j) ⊎ (two x ≡ Some j)
      by None is f = inr (sym (ap (λ (b : Option Known). or_else b (two x)) is) ∙ f)
      by (Some i) is f = inl (is ∙ sym (ap (λ (b : Option Known). or_else b (two x)) is) ∙ f)

-- one place, from which the ways lead through a first part of the code, and a second part after it
module _ (o : Parts) (crossed : List ℕ) (end p mid : ℕ) (k between out : Known) (one two : States)
    (front : Passes o crossed (p + 1) mid one between) (back : Passes o crossed mid end two out)
    (order : (p + 1 ≤ mid) × (mid ≤ end)) (full : IsFull k)
    (exits : (q : ℕ) (next : Known) → PublicWay o crossed p k q next → Leads one mid between q next)
    (onward : Leads two end out mid between) where
  one_behind : (x : ℕ) (j : Known) → one x ≡ Some j → x ≡ p → ⊥
  one_behind x j e f = let h = front.within x j e in omega (arith, h.0, f)

  two_behind : (x : ℕ) (j : Known) → two x ≡ Some j → x ≡ p → ⊥
  two_behind x j e f = let h = back.within x j e in omega (arith, h.0, f, order.0)

  one_two : (x : ℕ) (i j : Known) → one x ≡ Some i → two x ≡ Some j → ⊥
  one_two x i j e f =
      let h = front.within x i e in
      let g = back.within x j f in
      omega (arith, h.1, g.0)

  whole : States
  whole = both one two p k one_behind two_behind one_two

  whole_one : Extends one whole
  unfolding whole
  whole_one x j e = both_one one two p k one_behind two_behind one_two x j e

  whole_two : Extends two whole
  unfolding whole
  whole_two x j e = both_two one two p k one_behind two_behind one_two x j e

  whole_here : whole p ≡ Some k
  unfolding whole
  whole_here = both_here one two p k one_behind two_behind one_two

  whole_cases : (x : ℕ) (j : Known) → whole x ≡ Some j
      → ((x ≡ p) × (j ≡ k)) ⊎ ((one x ≡ Some j) ⊎ (two x ≡ Some j))
  unfolding whole
  whole_cases x j e = both_cases one two p k one_behind two_behind one_two x j e

  further : Leads whole end out mid between
  further = leads-more two whole end out mid between whole_two onward

  whole_passes : Passes o crossed p end whole out
  whole_passes = record {
    within = λ x j e. within x j (whole_cases x j e);
    full = λ x j e. filled x j (whole_cases x j e);
    ways = λ x q j next e way. goes x q j next (whole_cases x j e) way;
  }
    where
      within : (x : ℕ) (j : Known) → ((x ≡ p) × (j ≡ k)) ⊎ ((one x ≡ Some j) ⊎ (two x ≡ Some j))
          → (p ≤ x) × (x < end)
      within x j (inl h) = (omega (arith, h.0), omega (arith, h.0, order.0, order.1))
      within x j (inr (inl e)) =
          let h = front.within x j e in (omega (arith, h.0), omega (arith, h.1, order.1))
      within x j (inr (inr e)) =
          let h = back.within x j e in (omega (arith, h.0, order.0), h.1)

      filled : (x : ℕ) (j : Known) → ((x ≡ p) × (j ≡ k)) ⊎ ((one x ≡ Some j) ⊎ (two x ≡ Some j)) → IsFull j
      filled x j (inl h) = subst IsFull (sym h.1) full
      filled x j (inr (inl e)) = front.full x j e
      filled x j (inr (inr e)) = back.full x j e

      goes : (x q : ℕ) (j next : Known) → ((x ≡ p) × (j ≡ k)) ⊎ ((one x ≡ Some j) ⊎ (two x ≡ Some j))
          → PublicWay o crossed x j q next → Leads whole end out q next
      goes x q j next (inl h) way =
          leads-on one whole mid between end out q next whole_one further
          (exits q next (subst (λ (y : ℕ). PublicWay o crossed y k q next) h.0
          (subst (λ (l : Known). PublicWay o crossed x l q next) h.1 way)))
      goes x q j next (inr (inl e)) way =
          leads-on one whole mid between end out q next whole_one further (front.ways x q j next e way)
      goes x q j next (inr (inr e)) way =
          leads-more two whole end out q next whole_two (back.ways x q j next e way)

  whole_start : Leads whole end out p k
  whole_start = inl (record { known = k; is = whole_here; above = lower-fits k k (lower-own k full) })

-- two arms: a first one that ends at a jump, and a second one after that jump
module _ (o : Parts) (crossed : List ℕ) (p second join : ℕ) (s left right : SymState) (jump : ℤ)
    (one : PassesTo o crossed (second - 1) (p + 1) s left) (two : PassesTo o crossed join second s right)
    (at : slice_get o.code (second - 1) ≡ Some (Jmp jump)) (to : target_of o (second - 1) jump ≡ join)
    (order : (p + 1 < second) × (second ≤ join)) where
  abbrev end_left : Known
  end_left = known_after left

  abbrev out_both : Known
  out_both = known_after (common left right)

  left_fits : FitsClaim end_left out_both
  left_fits = left_after left right one.sized two.sized

  right_fits : FitsClaim (known_after right) out_both
  right_fits = right_after left right one.sized two.sized

  left_full : IsFull end_left
  left_full = full-after left one.sized

  left_before : (x : ℕ) (j : Known) → one.inner x ≡ Some j → x ≡ second - 1 → ⊥
  left_before x j e f = let h = one.passes.within x j e in omega (arith, h.1, f)

  right_behind : (x : ℕ) (j : Known) → two.inner x ≡ Some j → x ≡ second - 1 → ⊥
  right_behind x j e f = let h = two.passes.within x j e in omega (arith, h.0, f, order.0)

  left_right : (x : ℕ) (i j : Known) → one.inner x ≡ Some i → two.inner x ≡ Some j → ⊥
  left_right x i j e f =
      let h = one.passes.within x i e in
      let g = two.passes.within x j f in
      omega (arith, h.1, g.0)

  arms : States
  arms = both one.inner two.inner (second - 1) end_left left_before right_behind left_right

  arms_left : Extends one.inner arms
  unfolding arms
  arms_left x j e = both_one one.inner two.inner (second - 1) end_left left_before right_behind left_right x j e

  arms_right : Extends two.inner arms
  unfolding arms
  arms_right x j e = both_two one.inner two.inner (second - 1) end_left left_before right_behind left_right x j e

  arms_here : arms (second - 1) ≡ Some end_left
  unfolding arms
  arms_here = both_here one.inner two.inner (second - 1) end_left left_before right_behind left_right

  arms_cases : (x : ℕ) (j : Known) → arms x ≡ Some j
      → ((x ≡ second - 1) × (j ≡ end_left)) ⊎ ((one.inner x ≡ Some j) ⊎ (two.inner x ≡ Some j))
  unfolding arms
  arms_cases x j e =
      both_cases one.inner two.inner (second - 1) end_left left_before right_behind left_right x j e

  from_left : Leads arms join out_both (second - 1) end_left
  from_left = inl (record {
    known = end_left;
    is = arms_here;
    above = lower-fits end_left end_left (lower-own end_left left_full);
  })

  from_right : Leads arms join out_both join (known_after right)
  from_right = inr (refl, right_fits)

  arms_passes : Passes o crossed (p + 1) join arms out_both
  arms_passes = record {
    within = λ x j e. within x j (arms_cases x j e);
    full = λ x j e. filled x j (arms_cases x j e);
    ways = λ x q j next e way. goes x q j next (arms_cases x j e) way;
  }
    where
      within : (x : ℕ) (j : Known)
          → ((x ≡ second - 1) × (j ≡ end_left)) ⊎ ((one.inner x ≡ Some j) ⊎ (two.inner x ≡ Some j))
          → (p + 1 ≤ x) × (x < join)
      within x j (inl h) = (omega (arith, h.0, order.0), omega (arith, h.0, order.0, order.1))
      within x j (inr (inl e)) =
          let h = one.passes.within x j e in (h.0, omega (arith, h.1, order.0, order.1))
      within x j (inr (inr e)) =
          let h = two.passes.within x j e in (omega (arith, h.0, order.0), h.1)

      filled : (x : ℕ) (j : Known)
          → ((x ≡ second - 1) × (j ≡ end_left)) ⊎ ((one.inner x ≡ Some j) ⊎ (two.inner x ≡ Some j)) → IsFull j
      filled x j (inl h) = subst IsFull (sym h.1) left_full
      filled x j (inr (inl e)) = one.passes.full x j e
      filled x j (inr (inr e)) = two.passes.full x j e

      goes : (x q : ℕ) (j next : Known)
          → ((x ≡ second - 1) × (j ≡ end_left)) ⊎ ((one.inner x ≡ Some j) ⊎ (two.inner x ≡ Some j))
          → PublicWay o crossed x j q next → Leads arms join out_both q next
      goes x q j next (inl h) way =
          let jumped = way-jump o crossed (second - 1) j q next jump at
          (subst (λ (y : ℕ). PublicWay o crossed y j q next) h.0 way) in
          inr (jumped.0 ∙ to, subst (λ (l : Known). FitsClaim l out_both) (sym (jumped.1 ∙ h.1)) left_fits)
      goes x q j next (inr (inl e)) way =
          leads-on one.inner arms (second - 1) end_left join out_both q next arms_left from_left
          (one.passes.ways x q j next e way)
      goes x q j next (inr (inr e)) way =
          leads-on two.inner arms join (known_after right) join out_both q next arms_right from_right
          (two.passes.ways x q j next e way)

  arms_first : Leads arms join out_both (p + 1) (known_after s)
  arms_first =
      leads-on one.inner arms (second - 1) end_left join out_both (p + 1) (known_after s) arms_left from_left one.start

  arms_second : Leads arms join out_both second (known_after s)
  arms_second =
      leads-on two.inner arms join (known_after right) join out_both second (known_after s) arms_right from_right
      two.start

passed_over : (o : Parts) (crossed : List ℕ) (depth end p : ℕ) (offset : ℤ) (s : SymState) (second join : ℕ)
    (left right : SymState) → IsRegion (without_notes o) depth end p offset second join
    → PassesTo o crossed (second - 1) (p + 1) s left → PassesTo o crossed join second s right
    → PassesOver o crossed p offset s join (common left right) end
passed_over o crossed depth end p offset s second join left right r one two = record {
  sized = sized-common left right one.sized two.sized;
  ends = r.ends;
  inner = arms o crossed p second join s left right r.back one two r.jump r.joins (r.first, r.second);
  passes = arms_passes o crossed p second join s left right r.back one two r.jump r.joins (r.first, r.second);
  first = arms_first o crossed p second join s left right r.back one two r.jump r.joins (r.first, r.second);
  second = subst (λ (q : ℕ). Leads
      (arms o crossed p second join s left right r.back one two r.jump r.joins (r.first, r.second)) join
      (known_after (common left right)) q (known_after s)) (sym r.target)
      (arms_second o crossed p second join s left right r.back one two r.jump r.joins (r.first, r.second));
}

passed_none : (o : Parts) (crossed : List ℕ) (low end : ℕ) (out : Known) → Passes o crossed low end (λ x. None) out
passed_none o crossed low end out = record {
  within = λ x k e. none_not k e;
  full = λ x k e. none_not k e;
  ways = λ x q k next e way. none_not k e;
}

passed_at_end : (o : Parts) (crossed : List ℕ) (end p : ℕ) (s : SymState) → p ≡ end → IsSized s
    → PassesTo o crossed end p s s
passed_at_end o crossed end p s at sized = record {
  sized = sized;
  inner = λ x. None;
  passes = passed_none o crossed p end (known_after s);
  start = inr (at, lower-fits (known_after s) (known_after s) (lower-own (known_after s) (full-after s sized)));
}

passed_along : (o : Parts) (crossed : List ℕ) (end p : ℕ) (s : SymState) (i : Instr) (t : SymState) → p < end
    → slice_get o.code p ≡ Some i → only_goes_on i ≡ true → IsSized s
    → PassesTo o crossed end (p + 1) (held_behind o s i) t → PassesTo o crossed end p s t
passed_along o crossed end p s i t before at goes sized r =
    let k = known_after s in
    let between = known_after (held_behind o s i) in
    let exits : (q : ℕ) (next : Known) → PublicWay o crossed p k q next → Leads (λ x. None) (p + 1) between q next =
    λ q next way. by q next (way-on o crossed p k q next i at goes way) in
    let order : (p + 1 ≤ p + 1) × (p + 1 ≤ end) = (omega arith, omega arith) in
    let none = passed_none o crossed (p + 1) (p + 1) between in
    let full = full-after s sized in
    record {
      sized = r.sized;
      inner = whole o crossed end p (p + 1) k between (known_after t) (λ x. None) r.inner none r.passes order full exits
          r.start;
      passes = whole_passes o crossed end p (p + 1) k between (known_after t) (λ x. None) r.inner none r.passes order
          full exits r.start;
      start = whole_start o crossed end p (p + 1) k between (known_after t) (λ x. None) r.inner none r.passes order full
          exits r.start;
    }
  where
    by : (q : ℕ) (next : Known) → (q ≡ p + 1) × (next ≡ known_behind (known_after s) i)
        → Leads (λ x. None) (p + 1) (known_after (held_behind o s i)) q next
    by q next h =
        inr (
          h.0,
          subst (λ (l : Known). FitsClaim l (known_after (held_behind o s i))) (sym h.1)
              (lower-fits (known_behind (known_after s) i) (known_after (held_behind o s i)) (behind_passed o s i sized)),
        )

passed_through : (o : Parts) (crossed : List ℕ) (end p : ℕ) (s : SymState) (cmp : Cmp) (ra rb : ℕ) (offset : ℤ)
    (join : ℕ) (t u : SymState) → slice_get o.code p ≡ Some (Br cmp ra rb offset) → is_crossed crossed p ≡ false
    → IsSized s → p + 1 ≤ join → PassesOver o crossed p offset s join t end → PassesTo o crossed end join t u
    → PassesTo o crossed end p s u
passed_through o crossed end p s cmp ra rb offset join t u at apart sized behind m r =
    let k = known_after s in
    let exits : (q : ℕ) (next : Known) → PublicWay o crossed p k q next
    → Leads m.inner join (known_after t) q next =
    λ q next way. by q next (way-branch o crossed p k q next cmp ra rb offset at apart way) in
    let order : (p + 1 ≤ join) × (join ≤ end) = (behind, m.ends) in
    let full = full-after s sized in
    record {
      sized = r.sized;
      inner = whole o crossed end p join k (known_after t) (known_after u) m.inner r.inner m.passes r.passes order full
          exits r.start;
      passes = whole_passes o crossed end p join k (known_after t) (known_after u) m.inner r.inner m.passes r.passes
          order full exits r.start;
      start = whole_start o crossed end p join k (known_after t) (known_after u) m.inner r.inner m.passes r.passes order
          full exits r.start;
    }
  where
    by : (q : ℕ) (next : Known) → ((q ≡ p + 1) ⊎ (q ≡ target_of o p offset)) × (next ≡ known_after s)
        → Leads m.inner join (known_after t) q next
    by q next (inl e, is) =
        subst (λ (x : ℕ). Leads m.inner join (known_after t) x next) (sym e)
        (subst (Leads m.inner join (known_after t) (p + 1)) (sym is) m.first)
    by q next (inr e, is) =
        subst (λ (x : ℕ). Leads m.inner join (known_after t) x next) (sym e)
        (subst (Leads m.inner join (known_after t) (target_of o p offset)) (sym is) m.second)

region_of : (o : Parts) (depth end p : ℕ) (offset : ℤ) (s : SymState) (join : ℕ) (t : SymState)
    → CarriesOver o depth end p offset s join t → (p + 1 ≤ join) × (join ≤ end)
region_of o depth end p offset s join t (ByBoth d e p' f s' second j left right shaped first behind) =
    let r = shape-arms (without_notes o) depth end p offset second join shaped in
    (omega (arith, r.first, r.second), r.ends)

-- over code and over a region, where no branch is crossed within
mutual
  pass-to : (o : Parts) (crossed : List ℕ) (depth end p : ℕ) (s t : SymState) → CarriesTo o depth end p s t → IsSized s
      → AloneWithin crossed p end → PassesTo o crossed end p s t
  pass-to o crossed depth end p s t (Arrived d e p' s' at) sized alone = passed_at_end o crossed end p s at sized
  pass-to o crossed depth end p s t (Along d e p' s' i t' before at goes rest) sized alone =
      passed_along o crossed end p s i t before at goes sized
      (pass-to o crossed depth end (p + 1) (held_behind o s i) t rest (sized_behind o s i sized)
      (λ x le lt. alone x (omega arith) lt))
  pass-to o crossed depth end p s t (Through d e p' s' cmp ra rb offset join u t' before at over rest) sized alone =
      let places = region_of o depth end p offset s join u over in
      let m = pass-over o crossed depth end p offset s join u over sized
      (λ x le lt. alone x (omega arith) (omega (arith, places.1))) in
      passed_through o crossed end p s cmp ra rb offset join u t at (alone p (omega arith) before) sized places.0 m
      (pass-to o crossed depth end join u t rest m.sized (λ x le lt. alone x (omega (arith, places.0)) lt))

  pub pass-over : (o : Parts) (crossed : List ℕ) (depth end p : ℕ) (offset : ℤ) (s : SymState) (join : ℕ) (t : SymState)
      → CarriesOver o depth end p offset s join t → IsSized s → AloneWithin crossed (p + 1) join
      → PassesOver o crossed p offset s join t end
  pass-over o crossed depth end p offset s join t (ByBoth d e p' f s' second j left right shaped first behind) sized
      alone =
      let r = shape-arms (without_notes o) depth end p offset second join shaped in
      passed_over o crossed depth end p offset s second join left right r
      (pass-to o crossed (depth + 1) (second - 1) (p + 1) s left first sized
      (λ x le lt. alone x le (omega (arith, r.second))))
      (pass-to o crossed (depth + 1) join second s right behind sized
      (λ x le lt. alone x (omega (arith, r.first)) lt))
