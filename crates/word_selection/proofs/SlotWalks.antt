-- The check walks the code of steps in an arm: it shows the steps' cycles, and knows the tree of each of their registers.
use Rattle.std.proofs.Common.{◌≡◌, ℕ, ◌+◌, ◌<◌, ◌≤◌, ℤ, List, [], ◌∷◌, length, Option, Some, None, refl, ap, ◌∙◌, ⊎_elim, arith, length-set, get_or-set_same, get_or-set_other}
use Rattle.std.specs.List.{AllByRecursion}
use Rattle.std.proofs.lemmas.Bool.{cases_lt}
use Rattle.gr_word.specs.declared.operations.Op.{Op}
use Rattle.lt_isa.specs.declared.instructions.Instr.TheVariants.{Li, Alu, Ldw, Stw}
use Rattle.lt_isa.specs.Prelude.{Parts, operation_cost}
use Rattle.symbolic_values.specs.Prelude.{Value, Const}
use Rattle.trace_patterns.specs.Prelude.{SymSlot, AnySlot, RamSlot, EramSlot, OramSlot, SymState, tree_held, slot_held, slot_bank, hold_tree, Single, Goes, applied_trees, single, word_held, if_bound, if_stored, gap}
use Rattle.stretches.specs.Prelude.{Gap, pattern_of_one}
use Rattle.stretches.proofs.ArmCode.{Walked, walked-none, walked-on}
use Rattle.strength_reduction.specs.Prelude.{replaced, numbered}
use Rattle.word_selection.specs.Prelude.{instruction_of, SlotStep, Constant, Compute, Combine, IsOutside, Read, Write, StepFits, IsReading, trees_after, step_show, steps_show, code_of}
use Rattle.strength_reduction.proofs.Registers.{numbered-low, set-own}
use Rattle.word_selection.proofs.Registers.{outside-other}

pub record Walks (o : Parts) (depth base most : ℕ) (steps : List SlotStep) (trees : ℕ → Option Value)
    (s : SymState) : Type 0 where
  pub state : SymState
  pub walked : Walked o depth s (code_of base steps) (steps_show o.profile steps) state
  pub own : (i : ℕ) → i ≤ most → tree_held state (numbered base i) ≡ trees i
  pub outside : (r : ℕ) → IsOutside base most r → tree_held state r ≡ tree_held s r
  pub slots : state.slots ≡ s.slots
  pub registers : length state.registers ≡ 32

-- a slot whose bank is known is bound, and a word may be written in it if the bank isn't plain memory
bound-by_bank : (x : SymSlot) (bank : ℕ) (go : Single) → slot_bank x ≡ Some bank → if_bound x go ≡ go
bound-by_bank AnySlot bank go e = absurd (let f : ◌≡◌ {A = Option ℕ} None (Some bank) = e in cc)
bound-by_bank other bank go e = refl

stored-by_bank : (x : SymSlot) (bank : ℕ) (go : Single) → slot_bank x ≡ Some bank → 1 ≤ bank → if_stored x go ≡ go
stored-by_bank AnySlot bank go e some = absurd (let f : ◌≡◌ {A = Option ℕ} None (Some bank) = e in cc)
stored-by_bank (RamSlot block origin) bank go e some =
    absurd (let f : ◌≡◌ {A = Option ℕ} (Some 0) (Some bank) = e in let g : 0 ≡ bank = cc in omega (arith, g, some))
stored-by_bank (EramSlot block) bank go e some = refl
stored-by_bank (OramSlot other) bank go e some = refl

module _ (o : Parts) (depth base most : ℕ) (room : base + most < 32) (Used : ℕ → Type 0) (bank : ℕ) where
  single-li : (s : SymState) (rd : ℕ) (value : ℤ)
      → single o s (Li rd value) ≡ Goes (pattern_of_one (Gap 1)) (hold_tree s rd (Some (Const value)))
  unfolding single
  single-li s rd value = refl

  single-alu : (s : SymState) (op : Op) (rd ra rb : ℕ)
      → single o s (Alu op rd ra rb)
      ≡ Goes (pattern_of_one (Gap (operation_cost o.profile op)))
      (hold_tree s rd (applied_trees op (tree_held s ra) (tree_held s rb)))
  unfolding single
  single-alu s op rd ra rb = refl

  single-ldw : (s : SymState) (rd k ro : ℕ) → slot_bank (slot_held s k) ≡ Some bank
      → single o s (Ldw rd k ro)
      ≡ Goes (pattern_of_one (Gap o.profile.word))
      (hold_tree s rd (word_held o (slot_held s k) (tree_held s ro)))
  unfolding single
  single-ldw s rd k ro known =
      bound-by_bank (slot_held s k) bank
      (Goes (gap o.profile.word) (hold_tree s rd (word_held o (slot_held s k) (tree_held s ro)))) known

  single-stw : (s : SymState) (rs k ro : ℕ) → slot_bank (slot_held s k) ≡ Some bank → 1 ≤ bank
      → single o s (Stw rs k ro) ≡ Goes (pattern_of_one (Gap o.profile.word)) s
  unfolding single
  single-stw s rs k ro known some = stored-by_bank (slot_held s k) bank (Goes (gap o.profile.word) s) known some

  -- one register got a tree, and then the rest is walked
  walks-on : (to : ℕ) (tree : Option Value) (step : SlotStep) (steps : List SlotStep)
      (trees : ℕ → Option Value) (s : SymState)
      → to ≤ most
      → single o s (instruction_of base step) ≡ Goes (pattern_of_one (step_show o.profile step)) (hold_tree s (numbered base to) tree)
      → Walks o depth base most steps trees (hold_tree s (numbered base to) tree)
      → Walks o depth base most (step ∷ steps) trees s
  walks-on to tree step steps trees s low one rest = record {
    state = rest.state;
    walked
        = walked-on o depth s (instruction_of base step) (step_show o.profile step) (hold_tree s (numbered base to) tree) (code_of base steps)
        (steps_show o.profile steps) rest.state one rest.walked;
    own = rest.own;
    outside = λ r apart.
        rest.outside r apart
        ∙ get_or-set_other s.registers (numbered base to) r tree None (outside-other base most to r low apart);
    slots = rest.slots;
    registers = rest.registers;
  }

  -- the trees of the steps' registers after one got another
  treed : (to : ℕ) (tree is : Option Value) (trees : ℕ → Option Value) (s : SymState)
      → to ≤ most → length s.registers ≡ 32 → tree ≡ is
      → ((i : ℕ) → i ≤ most → tree_held s (numbered base i) ≡ trees i)
      → (i : ℕ) → i ≤ most → tree_held (hold_tree s (numbered base to) tree) (numbered base i) ≡ replaced trees to is i
  treed to tree is trees s low size same held =
      let rd = numbered base to in
      let inside : rd < length s.registers = omega (arith, size, numbered-low base most to low room) in
      set-own base most to is (tree_held s) (tree_held (hold_tree s rd tree)) trees
      (get_or-set_same s.registers rd tree None inside ∙ same)
      (λ r other. get_or-set_other s.registers rd r tree None other) held

  -- the other registers keep theirs
  kept : (to : ℕ) (tree : Option Value) (e s : SymState) → to ≤ most
      → ((r : ℕ) → IsOutside base most r → tree_held s r ≡ tree_held e r)
      → (r : ℕ) → IsOutside base most r → tree_held (hold_tree s (numbered base to) tree) r ≡ tree_held e r
  kept to tree e s low others r apart =
      get_or-set_other s.registers (numbered base to) r tree None (outside-other base most to r low apart) ∙ others r apart

  -- steps that read, and write only in a bank that isn't plain memory
  pub walks-steps : (steps : List SlotStep) (e : SymState) (trees : ℕ → Option Value) (s : SymState)
      → AllByRecursion (StepFits base most Used) steps
      → (bank ≡ 0 → AllByRecursion IsReading steps)
      → length s.registers ≡ 32
      → ((k : ℕ) → slot_held s k ≡ slot_held e k)
      → ((r : ℕ) → IsOutside base most r → tree_held s r ≡ tree_held e r)
      → ((k : ℕ) → Used k → slot_bank (slot_held e k) ≡ Some bank)
      → ((i : ℕ) → i ≤ most → tree_held s (numbered base i) ≡ trees i)
      → Walks o depth base most steps (trees_after o e steps trees) s
  walks-steps [] e trees s low may size slots others known own = record {
    state = s;
    walked = walked-none o depth s;
    own = own;
    outside = λ r apart. refl;
    slots = refl;
    registers = size;
  }
  walks-steps (Constant to value ∷ steps) e trees s low may size slots others known own =
      let tree : Option Value = Some (Const value) in
      let rd = numbered base to in
      walks-on to tree (Constant to value) steps
      (trees_after o e steps (replaced trees to tree)) s low.0 (single-li s rd value)
      (walks-steps steps e (replaced trees to tree) (hold_tree s rd tree)
      low.1
      (λ plain. (may plain).1) (length-set s.registers rd tree ∙ size) slots
      (kept to tree e s low.0 others) known (treed to tree tree trees s low.0 size refl own))
  walks-steps (Compute op to left right ∷ steps) e trees s low may size slots others known own =
      let first = low.0 in
      let rd = numbered base to in
      let ra = numbered base left in
      let rb = numbered base right in
      let tree = applied_trees op (tree_held s ra) (tree_held s rb) in
      let is : tree ≡ applied_trees op (trees left) (trees right) =
      ap (λ t. applied_trees op t (tree_held s rb)) (own left first.1)
      ∙ ap (applied_trees op (trees left)) (own right first.2) in
      walks-on to tree (Compute op to left right) steps
      (trees_after o e steps (replaced trees to (applied_trees op (trees left) (trees right)))) s first.0
      (single-alu s op rd ra rb)
      (walks-steps steps e (replaced trees to (applied_trees op (trees left) (trees right))) (hold_tree s rd tree)
      low.1
      (λ plain. (may plain).1) (length-set s.registers rd tree ∙ size)
      slots (kept to tree e s first.0 others) known (treed to tree (applied_trees op (trees left) (trees right)) trees s first.0 size is own))
  walks-steps (Combine op to left outside ∷ steps) e trees s low may size slots others known own =
      let first = low.0 in
      let rd = numbered base to in
      let ra = numbered base left in
      let tree = applied_trees op (tree_held s ra) (tree_held s outside) in
      let is : tree ≡ applied_trees op (trees left) (tree_held e outside) =
      ap (λ t. applied_trees op t (tree_held s outside)) (own left first.1)
      ∙ ap (applied_trees op (trees left)) (others outside first.2) in
      walks-on to tree (Combine op to left outside) steps
      (trees_after o e steps (replaced trees to (applied_trees op (trees left) (tree_held e outside)))) s first.0
      (single-alu s op rd ra outside)
      (walks-steps steps e (replaced trees to (applied_trees op (trees left) (tree_held e outside))) (hold_tree s rd tree)
      low.1
      (λ plain. (may plain).1) (length-set s.registers rd tree ∙ size)
      slots (kept to tree e s first.0 others) known (treed to tree (applied_trees op (trees left) (tree_held e outside)) trees s first.0 size is own))
  walks-steps (Read to k at ∷ steps) e trees s low may size slots others known own =
      let first = low.0 in
      let rd = numbered base to in
      let ro = numbered base at in
      let tree = word_held o (slot_held s k) (tree_held s ro) in
      let is : tree ≡ word_held o (slot_held e k) (trees at) =
      ap (λ x. word_held o x (tree_held s ro)) (slots k) ∙ ap (word_held o (slot_held e k)) (own at first.1) in
      walks-on to tree (Read to k at) steps
      (trees_after o e steps (replaced trees to (word_held o (slot_held e k) (trees at)))) s first.0
      (single-ldw s rd k ro (ap slot_bank (slots k) ∙ known k first.2))
      (walks-steps steps e (replaced trees to (word_held o (slot_held e k) (trees at))) (hold_tree s rd tree)
      low.1
      (λ plain. (may plain).1) (length-set s.registers rd tree ∙ size)
      slots (kept to tree e s first.0 others) known (treed to tree (word_held o (slot_held e k) (trees at)) trees s first.0 size is own))
  walks-steps (Write from k at ∷ steps) e trees s low may size slots others known own =
      let first = low.0 in
      let rs = numbered base from in
      let ro = numbered base at in
      let some : 1 ≤ bank =
      ⊎_elim (λ (less : 0 < bank). let le : 1 ≤ bank = omega arith in le)
      (λ (none : bank ≤ 0). absurd ((may (omega arith)).0)) (cases_lt 0 bank) in
      let rest = walks-steps steps e trees s low.1
      (λ plain. (may plain).1) size slots others known own in
      record {
        state = rest.state;
        walked
            = walked-on o depth s (Stw rs k ro) (Gap o.profile.word) s (code_of base steps) (steps_show o.profile steps)
            rest.state (single-stw s rs k ro (ap slot_bank (slots k) ∙ known k first.2) some) rest.walked;
        own = rest.own;
        outside = rest.outside;
        slots = rest.slots;
        registers = rest.registers;
      }
