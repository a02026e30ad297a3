-- Two entries of a region that agree where trees read them: everything that a walk knows, and everything that it shows,
-- has the same values at both.
use Rattle.std.proofs.Common.{◌≡◌, ℕ, ◌+◌, ◌-◌, ℤ, pos, List, [], ◌∷◌, ◌++◌, get_or, set, Option, Some, None, refl, sym, ap, ◌∙◌, subst, ⊎_elim, get_or-set_other}
use Rattle.std.proofs.lemmas.Bool.{cases_eq}
use Rattle.gr_word.specs.declared.operations.Op.{Op}
use Rattle.gr_word.specs.declared.operations.Op.TheVariants.{Remu}
use Rattle.gr_word.specs.Prelude.{applied}
use Rattle.lt_isa.specs.declared.instructions.Instr.{Instr}
use Rattle.lt_isa.specs.declared.instructions.Instr.TheVariants.{Nop, Halt, Li, Alu, Ldb, Stb, Idb, Ldw, Stw, Jmp, Br}
use Rattle.lt_isa.specs.Prelude.{Parts, is_ram, is_eram, blocks_of, block_words, State, Observed, slot, bank_blocks, block_at, word_in, slot_words, access_start, Stamped, seen_at}
use Rattle.symbolic_values.specs.Prelude.{Value, Const, Apply, as_number, value_of}
use Rattle.trace_patterns.specs.Prelude.{Shown, joined, TreeEvent, RamRead, EncRead, EncWrite, Origin, Entry, Loaded, SymSlot, AnySlot, RamSlot, EramSlot, OramSlot, SymState, tree_held, slot_held, hold_tree, hold_slot, common_tree, common_slot, common, gap, event, named_block, named_word, word_tree, applied_trees, block_held, word_held, single, WalksTo, AtEnd, Onward, Across, CrossesTo, BothArms, untaken_way}
use Rattle.trace_patterns.proofs.SymStateLaws.{tree-common, slot-common, common_tree-cases, common_slot-cases}
use Rattle.lt_checker.proofs.HeldAnew.{no_tree, tree_anew, slot_anew}
use Rattle.lt_checker.proofs.PatternValues.{shown_by, played, ends, played-joined}
use Rattle.lt_checker.proofs.Singles.{OnSingle, on_single, on_if, on_tree, on_bound, on_stored, on_stores}
use Rattle.lt_isa.specs.Machine as seen
use Rattle.trace_patterns.specs.Single as walked

-- a tree has the same value at both entries
abbrev pub TreeAgrees : State → State → Value → Type 0
TreeAgrees e f t = value_of e t ≡ value_of f t

-- the words that a slot had at the entry are the same at both entries
abbrev pub OriginAgrees : State → State → Origin → Type 0
OriginAgrees e f (Entry j) = slot_words (slot e j) ≡ slot_words (slot f j)
OriginAgrees e f Loaded = Unit {0}

-- what is known of a slot is the same at both entries
abbrev pub SlotAgrees : State → State → SymSlot → Type 0
SlotAgrees e f AnySlot = Unit {0}
SlotAgrees e f (RamSlot block origin) = TreeAgrees e f block × OriginAgrees e f origin
SlotAgrees e f (EramSlot block) = TreeAgrees e f block
SlotAgrees e f (OramSlot bank) = Unit {0}

-- each tree that is held has the same value at both entries
pub record Agrees (e f : State) (known : SymState) : Type 0 where
  pub trees : (r : ℕ) (t : Value) → tree_held known r ≡ Some t → TreeAgrees e f t
  pub slots : (j : ℕ) → SlotAgrees e f (slot_held known j)

-- a pattern shows the same events at both entries
abbrev pub ShowsAlike : Parts → State → State → Shown TreeEvent → Type 0
ShowsAlike o e f pattern = (cycle : ℕ) → played o e cycle pattern.parts ≡ played o f cycle pattern.parts

pub record AgreesBehind (o : Parts) (e f : State) (pattern : Shown TreeEvent) (known : SymState) : Type 0 where
  pub shows : ShowsAlike o e f pattern
  pub agrees : Agrees e f known

joined_alike : (o : Parts) (e f : State) (p q : Shown TreeEvent) → ShowsAlike o e f p → ShowsAlike o e f q
    → ShowsAlike o e f (joined p q)
joined_alike o e f p q first rest = λ cycle.
    played-joined o e cycle p q ∙ ap (λ (l : List Stamped). l ++ played o e (ends o cycle p) q.parts) (first cycle)
    ∙ ap (λ (l : List Stamped). played o f cycle p.parts ++ l) (rest (ends o cycle p))
    ∙ sym (played-joined o f cycle p q)

-- the path on which the branch isn't taken shows the same events at both entries
pub untaken_alike : (o : Parts) (e f : State) (one : Shown TreeEvent) → ShowsAlike o e f one
    → ShowsAlike o e f (untaken_way o one)
untaken_alike o e f one h = joined_alike o e f (gap 1) one (λ cycle. refl) h

event_alike : (o : Parts) (e f : State) (shown : TreeEvent) → shown_by e shown ≡ shown_by f shown
    → ShowsAlike o e f (event shown)
event_alike o e f shown same = λ cycle. ap (λ (x : Observed). seen_at (access_start o.profile (cycle + 0)) x ∷ []) same

-- the state with another register or slot
module _ (e f : State) (known : SymState) (h : Agrees e f known) where
  agrees_tree : (r : ℕ) (value : Option Value) → ((t : Value) → value ≡ Some t → TreeAgrees e f t)
      → Agrees e f (hold_tree known r value)
  agrees_tree r value is = record {
    trees = λ q t held.
        ⊎_elim
        (λ (same : q ≡ r). is t (tree_anew known r value t
        (ap (λ (i : ℕ). get_or (set known.registers r value) i None) (sym same) ∙ held)))
        (λ (other : q ≡ r → ⊥). h.trees q t (sym (get_or-set_other known.registers r q value None other) ∙ held))
        (cases_eq q r);
    slots = h.slots;
  }

  agrees_slot : (k : ℕ) (bound : SymSlot) → SlotAgrees e f bound → Agrees e f (hold_slot known k bound)
  agrees_slot k bound is = record {
    trees = h.trees;
    slots = λ j.
        ⊎_elim
        (λ (same : j ≡ k). subst (λ (i : ℕ). SlotAgrees e f (get_or (set known.slots k bound) i AnySlot)) (sym same)
        (slot_anew (SlotAgrees e f) known k bound tt is))
        (λ (other : j ≡ k → ⊥). subst (SlotAgrees e f) (sym (get_or-set_other known.slots k j bound AnySlot other))
        (h.slots j))
        (cases_eq j k);
  }

-- what two arms leave alike agrees if what one of them leaves does
pub agrees_common : (e f : State) (left right : SymState) → Agrees e f left → Agrees e f (common left right)
agrees_common e f left right h = record {
  trees = λ r t held.
      ⊎_elim
      (λ (none : common_tree (tree_held left r) (tree_held right r) ≡ None).
      no_tree t (sym (tree-common left right r ∙ none) ∙ held))
      (λ (both : (tree_held left r ≡ tree_held right r) ×
      (common_tree (tree_held left r) (tree_held right r) ≡ tree_held left r)).
      h.trees r t (sym (tree-common left right r ∙ both.1) ∙ held))
      (common_tree-cases (tree_held left r) (tree_held right r));
  slots = λ j.
      ⊎_elim
      (λ (any : common_slot (slot_held left j) (slot_held right j) ≡ AnySlot). subst (SlotAgrees e f)
      (sym (slot-common left right j ∙ any)) tt)
      (λ (both : (slot_held left j ≡ slot_held right j) ×
      (common_slot (slot_held left j) (slot_held right j) ≡ slot_held left j)).
      subst (SlotAgrees e f) (sym (slot-common left right j ∙ both.1)) (h.slots j))
      (common_slot-cases (slot_held left j) (slot_held right j));
}

-- an operation on trees with the same values
apply_agrees : (e f : State) (op : Op) (a b : Value) → TreeAgrees e f a → TreeAgrees e f b
    → TreeAgrees e f (Apply op a b)
apply_agrees e f op a b ha hb = ap (λ (x : ℤ). applied op x (value_of e b)) ha ∙ ap (applied op (value_of f a)) hb

applied_agrees : (e f : State) (op : Op) (x y : Option Value) → ((t : Value) → x ≡ Some t → TreeAgrees e f t)
    → ((t : Value) → y ≡ Some t → TreeAgrees e f t) → (t : Value) → applied_trees op x y ≡ Some t → TreeAgrees e f t
applied_agrees e f op (Some a) (Some b) ha hb t is =
    let same : Apply op a b ≡ t = cc in
    subst (TreeAgrees e f) same (apply_agrees e f op a b (ha a refl) (hb b refl))
applied_agrees e f op None y ha hb t is = no_tree t is
applied_agrees e f op (Some a) None ha hb t is = no_tree t is

block_agrees : (e f : State) (bound : SymSlot) → SlotAgrees e f bound → (t : Value) → block_held bound ≡ Some t
    → TreeAgrees e f t
block_agrees e f AnySlot h t is = no_tree t is
block_agrees e f (RamSlot block origin) h t is = let same : block ≡ t = cc in subst (TreeAgrees e f) same h.0
block_agrees e f (EramSlot block) h t is = let same : block ≡ t = cc in subst (TreeAgrees e f) same h
block_agrees e f (OramSlot bank) h t is = no_tree t is

module _ (o : Parts) (e f : State) (ram : bank_blocks e 0 ≡ bank_blocks f 0) where
  block_alike : (a b : ℤ) → a ≡ b → block_at e 0 (as_number a) ≡ block_at f 0 (as_number b)
  block_alike a b same =
      ap (λ (v : ℤ). block_at e 0 (as_number v)) same
      ∙ ap (λ (blocks : List (List ℤ)). get_or blocks (as_number b) []) ram

  named_agrees : (t : Value) (n : ℕ) → TreeAgrees e f t
      → applied Remu (value_of e t) (pos n) ≡ applied Remu (value_of f t) (pos n)
  named_agrees t n h = ap (λ (x : ℤ). applied Remu x (pos n)) h

  word_of-agrees : (block place : Value) (origin : Origin) → TreeAgrees e f block → OriginAgrees e f origin
      → TreeAgrees e f place → TreeAgrees e f (word_tree origin block (named_word o place))
  word_of-agrees block place (Entry j) hb ho hp =
      ap (λ (words : List ℤ). word_in words (as_number (value_of e (named_word o place)))) ho
      ∙ ap (λ (v : ℤ). word_in (slot_words (slot f j)) (as_number v)) (named_agrees place (block_words o) hp)
  word_of-agrees block place Loaded hb ho hp =
      ap (λ (words : List ℤ). word_in words (as_number (value_of e (named_word o place))))
      (block_alike (value_of e block) (value_of f block) hb)
      ∙ ap (λ (v : ℤ). word_in (block_at f 0 (as_number (value_of f block))) (as_number v))
      (named_agrees place (block_words o) hp)

  word_agrees : (bound : SymSlot) (place : Option Value) → SlotAgrees e f bound
      → ((t : Value) → place ≡ Some t → TreeAgrees e f t) → (t : Value) → word_held o bound place ≡ Some t
      → TreeAgrees e f t
  word_agrees (RamSlot block origin) (Some place) h hp t is =
      let same : word_tree origin block (named_word o place) ≡ t = cc in
      subst (TreeAgrees e f) same (word_of-agrees block place origin h.0 h.1 (hp place refl))
  word_agrees (RamSlot block origin) None h hp t is = no_tree t is
  word_agrees other place h hp t is = no_tree t is

  module _ (known : SymState) (h : Agrees e f known) where
    quietly_agrees : (cost : ℕ) (after : SymState) → Agrees e f after → AgreesBehind o e f (gap cost) after
    quietly_agrees cost after agrees = record { shows = λ cycle. refl; agrees = agrees }

    instr_agrees : (i : Instr) → OnSingle (AgreesBehind o e f) (single o known i)
    unfolding single
    instr_agrees Nop = quietly_agrees 1 known h
    instr_agrees (Li rd value) =
        quietly_agrees 1 _ (agrees_tree e f known h rd _
        (λ t is. let same : Const value ≡ t = cc in subst (TreeAgrees e f) same refl))
    instr_agrees (Alu op rd ra rb) =
        quietly_agrees _ _ (agrees_tree e f known h rd _
        (applied_agrees e f op (tree_held known ra) (tree_held known rb) (h.trees ra) (h.trees rb)))
    instr_agrees (Ldb k b r) =
        let P = AgreesBehind o e f in
        on_if P (is_ram b) _ _
        (λ yes. on_tree P (tree_held known r) _ (λ t held.
        let value : TreeAgrees e f (named_block o b t) = named_agrees t (blocks_of o b) (h.trees r t held) in
        record {
          shows = event_alike o e f (RamRead (named_block o b t))
              (ap (λ (v : ℤ). seen.RamRead (as_number v)
              (block_at e 0 (as_number (value_of e (named_block o b t))))) value
              ∙ ap (seen.RamRead (as_number (value_of f (named_block o b t)))) (block_alike _ _ value));
          agrees = agrees_slot e f known h k (RamSlot (named_block o b t) Loaded) (value, tt);
        }))
        (λ no. on_if P (is_eram b) _ _
        (λ yes. on_tree P (tree_held known r) _ (λ t held.
        let value : TreeAgrees e f (named_block o b t) = named_agrees t (blocks_of o b) (h.trees r t held) in
        record {
          shows = event_alike o e f (EncRead (named_block o b t)) (ap (λ (v : ℤ). seen.EncRead (as_number v)) value);
          agrees = agrees_slot e f known h k (EramSlot (named_block o b t)) value;
        }))
        (λ neither. record { shows = λ cycle. refl; agrees = agrees_slot e f known h k (OramSlot b) tt }))
    instr_agrees (Stb k) =
        on_stores (AgreesBehind o e f) known (slot_held known k)
        (λ block is.
        let value : TreeAgrees e f block = subst (SlotAgrees e f) is (h.slots k) in
        record {
          shows = event_alike o e f (EncWrite block) (ap (λ (v : ℤ). seen.EncWrite (as_number v)) value);
          agrees
              = h;
        })
        (λ bank is. record { shows = λ cycle. refl; agrees = h })
    instr_agrees (Idb rd k) =
        on_bound (AgreesBehind o e f) (slot_held known k) _ (λ is.
        quietly_agrees 1 _ (agrees_tree e f known h rd _ (block_agrees e f (slot_held known k) (h.slots k))))
    instr_agrees (Ldw rd k ro) =
        on_bound (AgreesBehind o e f) (slot_held known k) _ (λ is.
        quietly_agrees _ _ (agrees_tree e f known h rd _
        (word_agrees (slot_held known k) (tree_held known ro) (h.slots k) (h.trees ro))))
    instr_agrees (Stw rs k ro) = on_stored (AgreesBehind o e f) (slot_held known k) _ (λ is. quietly_agrees _ known h)
    instr_agrees other = tt

    single_agrees : (i : Instr) (shown : Shown TreeEvent) (after : SymState)
        → single o known i ≡ walked.Goes shown after → AgreesBehind o e f shown after
    single_agrees i shown after goes =
        on_single (AgreesBehind o e f) (single o known i) shown after (instr_agrees i) goes

  -- an arm, and a region in it
  mutual
    -- an arm shows the same events at two entries that agree
    pub arm_agrees : (depth q p : ℕ) (known : SymState) (pattern : Shown TreeEvent) (after : SymState)
        → WalksTo o depth q p known pattern after → Agrees e f known → AgreesBehind o e f pattern after
    arm_agrees depth q p known pattern after (AtEnd d end k) h = record { shows = λ cycle. refl; agrees = h }
    arm_agrees depth q p known pattern after (Onward d end p' k i shown t rest u before at goes walk) h =
        let step = single_agrees k h i shown t goes in
        let more = arm_agrees depth q (p + 1) t rest u walk step.agrees in
        record { shows = joined_alike o e f shown rest step.shows more.shows; agrees = more.agrees }
    arm_agrees depth q p known pattern after
        (Across d end p' k cmp ra rb offset shown join t rest u before at crosses walk) h =
        let region = crosses_agree depth q p offset known shown join t crosses h in
        let more = arm_agrees depth q join t rest u walk region.agrees in
        record { shows = joined_alike o e f shown rest region.shows more.shows; agrees = more.agrees }

    crosses_agree : (depth q p : ℕ) (offset : ℤ) (known : SymState) (pattern : Shown TreeEvent) (join : ℕ)
        (after : SymState) → CrossesTo o depth q p offset known pattern join after → Agrees e f known
        → AgreesBehind o e f pattern after
    crosses_agree depth q p offset known pattern join after
        (BothArms d end p' g k second join' one left other right arms first behind ways) h =
        let arm = arm_agrees (depth + 1) (second - 1) (p + 1) known one left first h in
        record { shows = untaken_alike o e f one arm.shows; agrees = agrees_common e f left right arm.agrees }
