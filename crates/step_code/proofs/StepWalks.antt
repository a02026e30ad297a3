-- The check walks the code of steps in an arm: it shows the steps' cycles, and knows the tree of each of their registers.
use Rattle.std.proofs.Common.{◌≡◌, ℕ, ◌+◌, ◌<◌, ◌≤◌, ℤ, List, [], ◌∷◌, map, length, Option, Some, None, refl, ap, ◌∙◌, arith, length-set, get_or-set_same, get_or-set_other}
use Rattle.std.specs.Prelude.{All}
use Rattle.std.proofs.lemmas.List.Elements.{All-head, All-tail}
use Rattle.gr_word.specs.declared.operations.Op.{Op}
use Rattle.lt_isa.specs.declared.profiles.Profile.{Profile}
use Rattle.lt_isa.specs.declared.instructions.Instr.TheVariants.{Li, Alu}
use Rattle.lt_isa.specs.Prelude.{Parts, operation_cost}
use Rattle.symbolic_values.specs.Prelude.{Value, Const}
use Rattle.trace_patterns.specs.Prelude.{SymState, tree_held, hold_tree, Goes, applied_trees, single}
use Rattle.stretches.specs.Prelude.{Show, Gap, pattern_of_one}
use Rattle.stretches.proofs.ArmCode.{Walked, walked-none, walked-on}
use Rattle.strength_reduction.specs.Prelude.{Step, Constant, Compute, StepFits, instruction_of, left_by, replaced, numbered, code_of}
use Rattle.strength_reduction.proofs.Registers.{numbered-low, numbered-from, numbered-to, set-own}

-- the trees that steps leave in the registers
abbrev pub trees_after : List Step → (ℕ → Option Value) → ℕ → Option Value
trees_after steps trees = left_by (λ value. Some (Const value)) applied_trees steps trees

-- what the code of steps shows: the cycles of each
abbrev pub step_shows : Profile → Step → Show
step_shows profile (Constant to value) = Gap 1
step_shows profile (Compute op to left right) = Gap (operation_cost profile op)

abbrev pub steps_show : Profile → List Step → List Show
steps_show profile steps = map (step_shows profile) steps

pub record Walks (o : Parts) (depth base : ℕ) (steps : List Step) (trees : ℕ → Option Value) (s : SymState) : Type 0 where
  pub state : SymState
  pub walked : Walked o depth s (code_of base steps) (steps_show o.profile steps) state
  pub own : (i : ℕ) → i ≤ 2 → tree_held state (numbered base i) ≡ trees i
  pub below : (r : ℕ) → r < base → tree_held state r ≡ tree_held s r
  pub above : (r : ℕ) → base + 3 ≤ r → tree_held state r ≡ tree_held s r
  pub slots : state.slots ≡ s.slots
  pub registers : length state.registers ≡ 32

module _ (o : Parts) (depth base : ℕ) (room : base + 2 < 32) where
  single-li : (s : SymState) (rd : ℕ) (value : ℤ)
      → single o s (Li rd value) ≡ Goes (pattern_of_one (Gap 1)) (hold_tree s rd (Some (Const value)))
  unfolding single
  single-li s rd value = refl

  single-alu : (s : SymState) (op : Op) (rd ra rb : ℕ)
      → single o s (Alu op rd ra rb)
      ≡ Goes (pattern_of_one (Gap (operation_cost o.profile op)))
      (hold_tree s rd (applied_trees op (tree_held s ra) (tree_held s rb)))
  unfolding single
  single-alu s op rd ra rb = refl

  -- one register got a tree, and then the rest is walked
  walks-on : (to : ℕ) (tree : Option Value) (step : Step) (steps : List Step) (trees : ℕ → Option Value) (s : SymState)
      → to ≤ 2
      → single o s (instruction_of base step)
      ≡ Goes (pattern_of_one (step_shows o.profile step)) (hold_tree s (numbered base to) tree)
      → Walks o depth base steps trees (hold_tree s (numbered base to) tree)
      → Walks o depth base (step ∷ steps) trees s
  walks-on to tree step steps trees s low one rest =
      let rd = numbered base to in
      record {
        state = rest.state;
        walked
            = walked-on o depth s (instruction_of base step) (step_shows o.profile step) (hold_tree s rd tree)
            (code_of base steps) (steps_show o.profile steps) rest.state one rest.walked;
        own = rest.own;
        below = λ r under.
            rest.below r under
            ∙ get_or-set_other s.registers rd r tree None (λ same. absurd (omega (arith, numbered-from base to)));
        above = λ r over.
            rest.above r over
            ∙ get_or-set_other s.registers rd r tree None
            (λ same. absurd (omega (arith, numbered-to base 2 to low, over, same)));
        slots = rest.slots;
        registers = rest.registers;
      }

  -- the trees of the steps' registers after one got another
  treed : (to : ℕ) (tree is : Option Value) (trees : ℕ → Option Value) (s : SymState)
      → to ≤ 2 → length s.registers ≡ 32 → tree ≡ is
      → ((i : ℕ) → i ≤ 2 → tree_held s (numbered base i) ≡ trees i)
      → (i : ℕ) → i ≤ 2 → tree_held (hold_tree s (numbered base to) tree) (numbered base i) ≡ replaced trees to is i
  treed to tree is trees s low size same held =
      let rd = numbered base to in
      let inside : rd < length s.registers = omega (arith, size, numbered-low base 2 to low room) in
      set-own base 2 to is (tree_held s) (tree_held (hold_tree s rd tree)) trees
      (get_or-set_same s.registers rd tree None inside ∙ same)
      (λ r other. get_or-set_other s.registers rd r tree None other) held

  pub walks-steps : (steps : List Step) (trees : ℕ → Option Value) (s : SymState)
      → All StepFits steps
      → length s.registers ≡ 32
      → ((i : ℕ) → i ≤ 2 → tree_held s (numbered base i) ≡ trees i)
      → Walks o depth base steps (trees_after steps trees) s
  walks-steps [] trees s low size held = record {
    state = s;
    walked = walked-none o depth s;
    own = held;
    below = λ r under. refl;
    above = λ r over. refl;
    slots = refl;
    registers = size;
  }
  walks-steps (Constant to value ∷ steps) trees s low size held =
      let first = All-head StepFits (Constant to value) steps low in
      let rd = numbered base to in
      let tree : Option Value = Some (Const value) in
      walks-on to tree (Constant to value) steps (trees_after steps (replaced trees to tree)) s first.0
      (single-li s rd value)
      (walks-steps steps (replaced trees to tree) (hold_tree s rd tree) (All-tail StepFits (Constant to value) steps low)
      (length-set s.registers rd tree ∙ size) (treed to tree tree trees s first.0 size refl held))
  walks-steps (Compute op to left right ∷ steps) trees s low size held =
      let first = All-head StepFits (Compute op to left right) steps low in
      let rd = numbered base to in
      let ra = numbered base left in
      let rb = numbered base right in
      let tree = applied_trees op (tree_held s ra) (tree_held s rb) in
      let tree_is = applied_trees op (trees left) (trees right) in
      let is : tree ≡ tree_is =
      ap (λ t. applied_trees op t (tree_held s rb)) (held left first.1)
      ∙ ap (applied_trees op (trees left)) (held right first.2) in
      walks-on to tree (Compute op to left right) steps (trees_after steps (replaced trees to tree_is)) s first.0
      (single-alu s op rd ra rb)
      (walks-steps steps (replaced trees to tree_is) (hold_tree s rd tree)
      (All-tail StepFits (Compute op to left right) steps low)
      (length-set s.registers rd tree ∙ size) (treed to tree tree_is trees s first.0 size is held))
