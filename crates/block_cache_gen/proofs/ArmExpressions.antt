-- The code of expressions and guards in secret code: walked in an arm, it shows what depends only on the expression.
use Rattle.std.proofs.Common.{◌≡◌, ◌≢◌, ℕ, ◌+◌, ◌<◌, ◌≤◌, ◌/◌, ℤ, pos, Bool, true, false, not, ◌&&◌, ◌==◌, List, [], ◌∷◌, ◌++◌, length, map, get_or, Option, Some, None, refl, sym, ap, ◌∙◌, subst, arith}
use Rattle.std.specs.Prelude.{All, IsTrue, is_some, if◌then◌else◌}
use Rattle.std.specs.Option.{unwrap_or}
use Rattle.std.proofs.lemmas.Bool.{eq-eqb}
use Rattle.gr_word.specs.declared.operations.Op.{Op}
use Rattle.gr_word.specs.declared.operations.Op.TheVariants.{Add, Shr}
use Rattle.gr_word.specs.declared.variables.Label.TheVariants.{Public}
use Rattle.gr_word.specs.declared.variables.Shape.TheVariants.{Scalar, Array}
use Rattle.lt_isa.specs.declared.instructions.Instr.{Instr}
use Rattle.lt_isa.specs.declared.instructions.Instr.TheVariants.{Li, Alu, Ldw}
use Rattle.lt_isa.specs.Prelude.{Parts, blocks_of}
use Rattle.symbolic_values.specs.Prelude.{Value, Const, Reg}
use Rattle.src_tree.specs.Prelude.{context_of, height_of, Tree, Number, Variable, Element, Operation, Test, UsedAs, TypedTree, TypedTest}
use Rattle.stretches.specs.Prelude.{Show, Gap}
use Rattle.trace_patterns.specs.Prelude.{SymSlot, AnySlot, SymState, tree_held, slot_held, hold_slot, applied_trees}
use Rattle.stretches.proofs.ArmCode.{Walked, walked-none, walked-then}
use Rattle.block_cache_gen.specs.declared.frames.Mode.{Mode}
use Rattle.block_cache_gen.specs.Prelude.{Home, Setting, home_of, words_a_block, blocks_set, HasHomes, held_label, label_by, register_for, read_by, read_code, may_skip_loads, is_cached, held_number, applied_code, reducing, reducer, is_within_home, numbering_by, is_in_place, numbered_code, numbered_register, has_offset, fixed_index, fixed_word, scalar_code, reduced_code, shift_code, offset_code, placed_code, fixed_code, located_code, load_code, skips, access_by, operand, operand_part, operand_register, operand_unless, indexed_code, operation_code, steps_at, expr_code, guard_code, CarriesInArm, shows_index, HasPublicIndexes, TestHasPublicIndexes, read_shows_by, pinned_slot, number_in, applied_shows, reduced_shows, numbered_shows, index_by, shifted_shows, operation_gap, word_gap, word_read, tree_by, scalar_shows, offset_shows, scalar_tree, operand_tree, reduced_tree, numbered_tree, number_tree, shifted_tree, block_tree, placed_shows, placed_tree, shows_by, loads_by, element_by, found_shows, load_shows, Loads, no_loads, then_loads, one_load, index_loads, element_slot, step_gap, steps_tree, operation_tree, operation_shows, operation_loads, tree_of_expr, shows_of_expr, slots_of_expr, shows_of_test, slots_of_test, first_kept, room_of}
use Rattle.block_cache_gen.specs.declared.indexes.Numbering.{Numbering}
use Rattle.lt_isa.specs.declared.profiles.Profile.{Profile}
use Rattle.strength_reduction.specs.Prelude.{Step, Constant, Compute, StepFits, reads_known, numbered, code_of}
use Rattle.strength_reduction.proofs.Replacing.{result-alike}
use Rattle.step_code.proofs.StepWalks.{steps_show, walks-steps}
use Rattle.src_tree.proofs.TreeHeights.{height-some}
use Rattle.block_cache_gen.proofs.SomeCode.{numbering-secret}
use Rattle.block_cache_gen.proofs.StepsAt.{steps-of}
use Rattle.block_cache_gen.proofs.ArmInstructions.{IsSeen, Sets, loaded-bank, sets-li, sets-alu, sets-ldw, walked-ldb}
use Rattle.block_cache_gen.proofs.SpreadArms.{read-leaves}
use Rattle.block_cache_gen.proofs.ArmStates.{LeavesIn, LeavesTree, bound-of_bank, then_loads-held, one_load-held, serves-within, carries-same, carries-load, resident-read}
use Rattle.held_registers.specs.Prelude.{public_zero}
use Rattle.held_registers.proofs.Found.{number-held}
use Rattle.block_cache_gen.proofs.HeldLabels.{register-label, zero-label}
use Rattle.block_cache_gen.proofs.HeldOperands.{IsOperandOf, operand-apart}
use Rattle.block_cache_gen.proofs.OperandLabels.{is-operand, operand-label}
use Rattle.block_cache_gen.proofs.HomeFacts.{offset-none, shows-cached}
use Rattle.block_cache_gen.proofs.PublicTrees.{IsKnown, is-index, block-seen, public-index}

-- a load holds in its own slot
loaded_here : (slot : ℕ) (bound other : SymSlot) → unwrap_or (one_load slot bound slot) other ≡ bound
loaded_here slot bound other =
    ap (λ (b : Bool). unwrap_or (if b then Some bound else None) other) (eq-eqb slot slot refl)

-- the same with a second tree in the next register
pub record LeavesTwo (o : Parts) (f : Setting) (depth : ℕ) (s : SymState) (code : List Instr) (shows : List Show)
    (to : ℕ) (tree second : Option Value) (loads : Loads) : Type 0 where
  pub leaves : LeavesTree o f depth s code shows to tree loads
  pub next : tree_held leaves.state (to + 1) ≡ second

-- the cycles of steps
shows-same : (f : Setting) (steps : List Step) → steps_show f.profile steps ≡ map (step_gap f) steps
shows-same f [] = refl
shows-same f (Constant to value ∷ steps) = ap (λ xs. Gap 1 ∷ xs) (shows-same f steps)
shows-same f (Compute op to left right ∷ steps) = ap (λ xs. operation_gap f op ∷ xs) (shows-same f steps)

-- the register that has the number of a word
number-at : (within : Bool) (to from : ℕ) → (within ≡ true → from ≡ to)
    → numbered_register (numbering_by within false) to from ≡ to
number-at true to from own = own refl
number-at false to from own = refl

number-apart : (within : Bool) (to from : ℕ) → from ≢ to + 1
    → numbered_register (numbering_by within false) to from ≢ to + 1
number-apart true to from apart = apart
number-apart false to from apart = λ e. absurd (omega (arith, e))

module _ (o : Parts) (f : Setting) (homes : HasHomes o f) (depth : ℕ) where
  -- code that sets a register, by itself and after other code
  pub leaves-sets : (s : SymState) (code : List Instr) (shows : List Show) (to : ℕ) (tree : Option Value)
      → CarriesInArm f s → to < first_kept f → Sets o depth s code shows to tree
      → LeavesTree o f depth s code shows to tree no_loads
  leaves-sets s code shows to tree carries inside sets = record {
    state = sets.state;
    walked = sets.walked;
    carries = carries-same f s sets.state carries sets.slots (λ r high. sets.other r (λ e. absurd (omega (arith, e))))
        sets.registers;
    held = sets.held;
    below = λ r lt. sets.other r (λ e. absurd (omega arith));
    slots = λ k. ap (λ (slots : List SymSlot). get_or slots k AnySlot) sets.slots;
  }

  pub leaves-then_sets : {at : ℕ} (s : SymState) (code : List Instr) (shows : List Show) (from : ℕ) (old : Option Value)
      (loads : Loads) (first : LeavesIn o f depth s code shows from at old loads) (rest : List Instr) (more : List Show)
      (to : ℕ) (tree : Option Value)
      → to ≤ from → to < first_kept f → Sets o depth first.state rest more to tree
      → LeavesTree o f depth s (code ++ rest) (shows ++ more) to tree loads
  leaves-then_sets s code shows from old loads first rest more to tree le inside sets = record {
    state = sets.state;
    walked = walked-then o depth s code shows first.state rest more sets.state first.walked sets.walked;
    carries = carries-same f first.state sets.state first.carries sets.slots
        (λ r high. sets.other r (λ e. absurd (omega (arith, e)))) sets.registers;
    held = sets.held;
    below = λ r lt. sets.other r (λ e. absurd (omega arith)) ∙ first.below r (omega arith);
    slots = λ k. ap (λ (slots : List SymSlot). get_or slots k AnySlot) sets.slots ∙ first.slots k;
  }

  -- a number
  pub number-leaves : (s : SymState) (to : ℕ) (z : ℤ) → CarriesInArm f s → to < first_kept f
      → LeavesTree o f depth s (Li to z ∷ []) (Gap 1 ∷ []) to (Some (Const z)) no_loads
  number-leaves s to z carries inside =
      leaves-sets s (Li to z ∷ []) (Gap 1 ∷ []) to (Some (Const z)) carries inside
      (sets-li o depth s to z carries.registers (omega arith))

  -- a scalar, by the register that holds it
  word-leaves : (s : SymState) (to : ℕ) (x : List ℕ) → CarriesInArm f s → to < first_kept f
      → UsedAs (context_of f.decls) x Scalar
      → LeavesTree o f depth s (scalar_code None (home_of f x) to) (scalar_shows f None) to
      (scalar_tree f None (home_of f x)) no_loads
  word-leaves s to x carries inside used =
      let h = home_of f x in
      let place : Option Value = Some (Const (pos h.word)) in
      let one = number-leaves s to (pos h.word) carries inside in
      let scalar = homes.scalars x used.0 used.1 in
      let read = resident-read o f homes one.state x used.0 Scalar one.carries used.1 scalar.resident in
      let two = sets-ldw o depth f homes.profile one.state to h.slot to (slot_held one.state h.slot) place
      one.carries.registers (omega arith) refl read.bound one.held in
      let whole = leaves-then_sets s (Li to (pos h.word) ∷ []) (Gap 1 ∷ []) to place no_loads one
      (Ldw to h.slot to ∷ []) (word_gap f ∷ []) to (word_read f (slot_held one.state h.slot) place) (omega arith)
      inside two in
      subst (λ (v : Option Value). LeavesTree o f depth s (scalar_code None h to) (scalar_shows f None) to v no_loads)
      (read.word place) whole

  copy-leaves : (s : SymState) (to : ℕ) (x : List ℕ) → CarriesInArm f s → to < first_kept f
      → UsedAs (context_of f.decls) x Scalar → (r : ℕ) → register_for f x ≡ Some r
      → LeavesTree o f depth s (scalar_code (Some r) (home_of f x) to) (scalar_shows f (Some r)) to
      (scalar_tree f (Some r) (home_of f x)) no_loads
  copy-leaves s to x carries inside used r is =
      let own = register-label f homes.held x used.0 Scalar used.1 r is in
      let zero = zero-label f homes.held x used.0 Scalar used.1 r is Public in
      leaves-sets s (scalar_code (Some r) (home_of f x) to) (scalar_shows f (Some r)) to
      (scalar_tree f (Some r) (home_of f x)) carries inside
      (sets-alu o depth f homes.profile s Add to r public_zero (tree_by r (held_label f r)) (Some (Reg public_zero))
      carries.registers (omega arith) (carries.held r used.0 own ∙ sym (ap (tree_by r) own))
      (carries.held public_zero Public zero))

  scalar-leaves : (s : SymState) (to : ℕ) (x : List ℕ) → CarriesInArm f s → to < first_kept f
      → UsedAs (context_of f.decls) x Scalar → (found : Option ℕ) → register_for f x ≡ found
      → LeavesTree o f depth s (scalar_code found (home_of f x) to) (scalar_shows f found) to
      (scalar_tree f found (home_of f x)) no_loads
  scalar-leaves s to x carries inside used None is = word-leaves s to x carries inside used
  scalar-leaves s to x carries inside used (Some r) is = copy-leaves s to x carries inside used r is

  -- code after other code, to a register that isn't above the first's
  abbrev pub leaves-then : {at : ℕ} (s : SymState) (code : List Instr) (shows : List Show) (from : ℕ)
      (old : Option Value) (loads : Loads) (first : LeavesIn o f depth s code shows from at old loads) (rest : List Instr) (more : List Show)
      (to : ℕ) (tree : Option Value) (later : Loads)
      → to ≤ from → LeavesTree o f depth first.state rest more to tree later
      → LeavesTree o f depth s (code ++ rest) (shows ++ more) to tree (then_loads loads later)
  leaves-then s code shows from old loads first rest more to tree later le second = record {
    state = second.state;
    walked = walked-then o depth s code shows first.state rest more second.state first.walked second.walked;
    carries = second.carries;
    held = second.held;
    below = λ r lt. second.below r lt ∙ first.below r (omega arith);
    slots = λ k.
        second.slots k ∙ ap (unwrap_or (later k)) (first.slots k) ∙ sym (then_loads-held loads later k (slot_held s k));
  }

  -- a register that holds an operand for the whole run has the operand's tree
  operand-holds : (e : Tree) → TypedTree (context_of f.decls) e → (r : ℕ) → operand f e ≡ Some r → (s : SymState)
      → CarriesInArm f s → tree_held s r ≡ tree_by r (held_label f r)
  operand-holds e typed r is s carries =
      let own = operand-label f homes.held e typed r is in carries.held r _ own ∙ sym (ap (tree_by r) own)

  -- an operand in such a register loads nothing
  quiet-operand : (e : Tree) (r : ℕ) → operand f e ≡ Some r → slots_of_expr f e ≡ no_loads
  quiet-operand (Number z) r is = refl
  quiet-operand (Variable x) r is = refl
  quiet-operand (Element x i) r is = absurd (let g : ◌≡◌ {A = Option ℕ} None (Some r) = is in cc)
  quiet-operand (Operation op a b) r is = absurd (let g : ◌≡◌ {A = Option ℕ} None (Some r) = is in cc)

  -- an operand: in such a register, or in the one in which the code of an expression leaves it
  pub operand-leaves : (mode : Mode) (e : Tree) → TypedTree (context_of f.decls) e → (q : Option ℕ) → IsOperandOf f e q
      → (s : SymState) (to : ℕ) → CarriesInArm f s
      → LeavesTree o f depth s (expr_code f mode to e) (shows_of_expr f e) to (tree_of_expr f e) (slots_of_expr f e)
      → LeavesIn o f depth s (operand_part q (expr_code f mode to e)) (operand_part q (shows_of_expr f e)) to
      (operand_register q to) (operand_tree f q (tree_of_expr f e)) (slots_of_expr f e)
  operand-leaves mode e typed None is s to carries value = value
  operand-leaves mode e typed (Some r) is s to carries value = record {
    state = s;
    walked = walked-none o depth s;
    carries = carries;
    held = operand-holds e typed r (is r refl) s carries;
    below = λ q lt. refl;
    slots = λ k. ap (λ (loads : Loads). unwrap_or (loads k) (slot_held s k)) (sym (quiet-operand e r (is r refl)));
  }

  -- it keeps its tree while registers up to its own do
  pub operand-stays : (e : Tree) → TypedTree (context_of f.decls) e → (q : Option ℕ) → IsOperandOf f e q → (to : ℕ)
      (tree : Option Value) (s t : SymState) → CarriesInArm f t
      → tree_held s (operand_register q to) ≡ operand_tree f q tree
      → ((r : ℕ) → r < to + 1 → tree_held t r ≡ tree_held s r)
      → tree_held t (operand_register q to) ≡ operand_tree f q tree
  operand-stays e typed None is to tree s t carries held below = below to (omega arith) ∙ held
  operand-stays e typed (Some r) is to tree s t carries held below = operand-holds e typed r (is r refl) t carries

  -- and one register higher: both trees are left
  two-leave : (s : SymState) (to : ℕ) (left right : Option Value) (code rest : List Instr) (shows more : List Show)
      (loads later : Loads) (first : LeavesTree o f depth s code shows to left loads)
      → LeavesTree o f depth first.state rest more (to + 1) right later
      → LeavesTwo o f depth s (code ++ rest) (shows ++ more) to left right (then_loads loads later)
  two-leave s to left right code rest shows more loads later first second = record {
    leaves = record {
      state = second.state;
      walked = walked-then o depth s code shows first.state rest more second.state first.walked second.walked;
      carries = second.carries;
      held = second.below to (omega arith) ∙ first.held;
      below = λ r lt. second.below r (omega arith) ∙ first.below r lt;
      slots = λ k.
          second.slots k ∙ ap (unwrap_or (later k)) (first.slots k)
          ∙ sym (then_loads-held loads later k (slot_held s k));
    };
    next = second.held;
  }

  -- steps
  steps-leave : (s : SymState) (to : ℕ) (steps : List Step) (value : Option Value) → CarriesInArm f s
      → to + 2 < first_kept f
      → All StepFits steps → IsTrue (reads_known (λ i. i == 0) steps) → tree_held s to ≡ value
      → LeavesTree o f depth s (code_of to steps) (map (step_gap f) steps) to (steps_tree steps value) no_loads
  steps-leave s to steps value carries inside fits reads held =
      let room : to + 2 < 32 = omega arith in
      let trees : ℕ → Option Value = λ i. tree_held s (numbered to i) in
      let walk = walks-steps o depth to room steps trees s fits carries.registers (λ i low. refl) in
      let shown = ap (λ (profile : Profile). steps_show profile steps) homes.profile ∙ shows-same f steps in
      record {
        state = walk.state;
        walked = subst (λ (xs : List Show). Walked o depth s (code_of to steps) xs walk.state) shown walk.walked;
        carries = carries-same f s walk.state carries walk.slots (λ r high. walk.above r (omega arith)) walk.registers;
        held =
            walk.own 0 (omega arith)
            ∙ result-alike (λ z. Some (Const z)) applied_trees steps trees (λ i. if i == 0 then value else None) reads
            held;
        below = walk.below;
        slots = λ k. ap (λ (slots : List SymSlot). get_or slots k AnySlot) walk.slots;
      }

  -- the place of an element, by an index that is a number
  fixed-located : (s : SymState) (to : ℕ) (h : Home) (z : ℤ) → CarriesInArm f s → to + 2 < first_kept f
      → LeavesTwo o f depth s (fixed_code f.profile.block_log h to z) (Gap 1 ∷ Gap 1 ∷ []) to
      (Some (Const (pos (fixed_word h z)))) (Some (Const (pos (h.block + fixed_word h z / words_a_block f)))) no_loads
  fixed-located s to h z carries inside =
      let word = pos (fixed_word h z) in
      let block = pos (h.block + fixed_word h z / words_a_block f) in
      let one = number-leaves s to word carries (omega arith) in
      two-leave s to (Some (Const word)) (Some (Const block)) (Li to word ∷ []) (Li (to + 1) block ∷ []) (Gap 1 ∷ [])
      (Gap 1 ∷ []) no_loads no_loads one (number-leaves one.state (to + 1) block one.carries (omega arith))

  -- an operation on another register and a number, in the number's register or below
  number-applied : (s : SymState) (op : Op) (to from own : ℕ) (z : ℤ) (left : Option Value) → CarriesInArm f s
      → own < first_kept f → to ≤ own → from ≢ own → tree_held s from ≡ left
      → LeavesTree o f depth s (applied_code f op to from own z) (applied_shows f op z) to
      (applied_trees op left (number_in f z)) no_loads
  unfolding leaves-sets
  number-applied s op to from own z left carries inside le apart held = by (held_number f z) refl
    where
      by : (q : Option ℕ) → held_number f z ≡ q
          → LeavesTree o f depth s (operand_part q (Li own z ∷ []) ++ Alu op to from (operand_register q own) ∷ [])
          (operand_part q (Gap 1 ∷ []) ++ operation_gap f op ∷ []) to
          (applied_trees op left (operand_tree f q (Some (Const z)))) no_loads
      by None is =
          let right : Option Value = Some (Const z) in
          let set = sets-li o depth s own z carries.registers (omega arith) in
          let one = leaves-sets s (Li own z ∷ []) (Gap 1 ∷ []) own right carries inside set in
          leaves-then_sets s (Li own z ∷ []) (Gap 1 ∷ []) own right no_loads one (Alu op to from own ∷ [])
          (operation_gap f op ∷ []) to (applied_trees op left right) le (omega arith)
          (sets-alu o depth f homes.profile one.state op to from own left right one.carries.registers (omega arith)
          (set.other from apart ∙ held) one.held)
      by (Some r) is =
          let label : held_label f r ≡ Some Public = ap (label_by f.decls) (number-held f.held z r is) in
          let own_tree = carries.held r Public label ∙ sym (ap (tree_by r) label) in
          leaves-sets s (Alu op to from r ∷ []) (operation_gap f op ∷ []) to
          (applied_trees op left (tree_by r (held_label f r))) carries (omega arith)
          (sets-alu o depth f homes.profile s op to from r left (tree_by r (held_label f r)) carries.registers
          (omega arith) held own_tree)

  -- the number of a block, by a shift and a sum
  block-leaves : (s : SymState) (to : ℕ) (h : Home) (number : Option Value) → CarriesInArm f s → to + 2 < first_kept f
      → tree_held s to ≡ number
      → LeavesTree o f depth s (shift_code f h to) (shifted_shows f h) (to + 1) (shifted_tree f h number) no_loads
  block-leaves s to h number carries inside held =
      let next = to + 1 in
      let last = to + 2 in
      let log = pos f.profile.block_log in
      let shifted = applied_trees Shr number (number_in f log) in
      let one = number-applied s Shr next to next log number carries (omega arith) (omega arith)
      (λ e. absurd (omega (arith, e))) held in
      let two = number-applied one.state Add next next last (pos h.block) shifted one.carries (omega arith)
      (omega arith) (λ e. absurd (omega (arith, e))) one.held in
      leaves-then s (applied_code f Shr next to next log) (applied_shows f Shr log) next shifted no_loads
      one (applied_code f Add next next last (pos h.block)) (applied_shows f Add (pos h.block)) next
      (shifted_tree f h number) no_loads (omega arith) two

  -- the index is reduced by a mask or by a remainder
  reduced-leaves : (s : SymState) (to from : ℕ) (h : Home) (index : Option Value) → CarriesInArm f s
      → to + 2 < first_kept f
      → from ≢ to + 1 → tree_held s from ≡ index
      → LeavesTree o f depth s (reduced_code f h to from) (reduced_shows f h) to (reduced_tree f h index) no_loads
  reduced-leaves s to from h index carries inside apart held =
      number-applied s (reducing h) to from (to + 1) (reducer h) index carries (omega arith) (omega arith) apart held

  -- the index is reduced, unless it is the number of the word already
  numbered-leaves : (s : SymState) (to from : ℕ) (h : Home) (index : Option Value) → CarriesInArm f s
      → to + 2 < first_kept f
      → from ≢ to + 1 → tree_held s from ≡ index → (within : Bool)
      → LeavesIn o f depth s (numbered_code (numbering_by within false) f h to from) (numbered_shows within f h) to
      (numbered_register (numbering_by within false) to from) (numbered_tree within f h index) no_loads
  numbered-leaves s to from h index carries inside apart held false =
      reduced-leaves s to from h index carries inside apart held
  numbered-leaves s to from h index carries inside apart held true = record {
    state = s;
    walked = walked-none o depth s;
    carries = carries;
    held = held;
    below = λ r lt. refl;
    slots = λ k. refl;
  }

  -- the place of an element by the index in a register
  module _ (within : Bool) (to from : ℕ) (inside : to + 2 < first_kept f) (apart : from ≢ to + 1)
      (own : within ≡ true → from ≡ to)
      (h : Home) (index : Option Value) where
    numbered-located : (s : SymState) → CarriesInArm f s → tree_held s from ≡ index
        → LeavesTwo o f depth s (numbered_code (numbering_by within false) f h to from ++ shift_code f h to)
        (numbered_shows within f h ++ shifted_shows f h) to
        (numbered_tree within f h index) (shifted_tree f h (numbered_tree within f h index)) no_loads
    numbered-located s carries held =
        let number = numbered_tree within f h index in
        let leaves = numbered-leaves s to from h index carries inside apart held within in
        let one = subst
        (λ (at : ℕ). LeavesIn o f depth s (numbered_code (numbering_by within false) f h to from)
        (numbered_shows within f h) to at number no_loads) (number-at within to from own) leaves in
        two-leave s to number (shifted_tree f h number) (numbered_code (numbering_by within false) f h to from)
        (shift_code f h to) (numbered_shows within f h) (shifted_shows f h) no_loads no_loads one
        (block-leaves one.state to h number one.carries inside one.held)

    index-located : (s : SymState) (code : List Instr) (shows : List Show) (loads : Loads)
        → LeavesIn o f depth s code shows to from index loads
        → LeavesTwo o f depth s (code ++ (numbered_code (numbering_by within false) f h to from ++ shift_code f h to))
        (shows ++ (numbered_shows within f h ++ shifted_shows f h)) to (numbered_tree within f h index)
        (shifted_tree f h (numbered_tree within f h index)) loads
    index-located s code shows loads first =
        let found = numbered-located first.state first.carries first.held in
        record {
          leaves = leaves-then s code shows to index loads first
              (numbered_code (numbering_by within false) f h to from ++ shift_code f h to)
              (numbered_shows within f h ++ shifted_shows f h) to (numbered_tree within f h index)
              no_loads (omega arith)
              found.leaves;
          next = found.next;
        }

    located : (s : SymState) (fixed : Option ℤ) (code : List Instr) (shows : List Show) (loads : Loads)
        → CarriesInArm f s → LeavesIn o f depth s code shows to from index loads
        → LeavesTwo o f depth s (located_code (numbering_by within false) f h to from fixed code)
        (found_shows within f h fixed shows) to (number_tree within f h fixed index) (block_tree within f h fixed index)
        (index_loads fixed loads)
    located s (Some z) code shows loads carries first = fixed-located s to h z carries inside
    located s None code shows loads carries first = index-located s code shows loads first

  -- the number of the array's first word is added, unless that is 0
  offset-leaves : (s : SymState) (to at : ℕ) (h : Home) (tree : Option Value) → CarriesInArm f s → to + 2 < first_kept f
      → tree_held s at ≡ tree → at ≢ to + 1 → (first : Bool) → (first ≡ true → at ≡ to)
      → LeavesTree o f depth s (if first then [] else applied_code f Add to at (to + 1) (pos h.word))
      (if first then [] else applied_shows f Add (pos h.word)) to
      (if first then tree else applied_trees Add tree (number_in f (pos h.word))) no_loads
  offset-leaves s to at h tree carries inside held apart true own = record {
    state = s;
    walked = walked-none o depth s;
    carries = carries;
    held = ap (tree_held s) (sym (own refl)) ∙ held;
    below = λ r lt. refl;
    slots = λ k. refl;
  }
  offset-leaves s to at h tree carries inside held apart false own =
      number-applied s Add to at (to + 1) (pos h.word) tree carries (omega arith) (omega arith) apart held

  -- the place of a resident array's word in its block
  pub placed-leaves : (within : Bool) (s : SymState) (to from : ℕ) (h : Home) (fixed : Option ℤ) (index : Option Value)
      (code : List Instr) (shows : List Show) (loads : Loads) → CarriesInArm f s
      → LeavesIn o f depth s code shows to from index loads → to + 2 < first_kept f → from ≢ to + 1
      → (within ≡ true → (h.word == 0) ≡ true → from ≡ to)
      → LeavesTree o f depth s (placed_code (numbering_by within false) f h to from fixed code)
      (placed_shows within f h fixed shows) to (placed_tree within f h fixed index) (index_loads fixed loads)
  placed-leaves within s to from h (Some z) index code shows loads carries first inside apart own =
      number-leaves s to (pos (h.word + fixed_word h z)) carries (omega arith)
  placed-leaves within s to from h None index code shows loads carries first inside apart own =
      let number = numbered_tree within f h index in
      let at = numbered_register (numbering_by within false) to from in
      let numbers = numbered_code (numbering_by within false) f h to from in
      let one = numbered-leaves first.state to from h index first.carries inside apart first.held within in
      let two = offset-leaves one.state to at h number one.carries inside one.held (number-apart within to from apart)
      (h.word == 0) (λ begins. number-at within to from (λ near. own near begins)) in
      let tree = placed_tree within f h None index in
      let shown = numbered_shows within f h in
      leaves-then s code shows to index loads first (numbers ++ offset_code f h to at)
      (shown ++ offset_shows f h) to tree no_loads (omega arith)
      (leaves-then first.state numbers shown to number no_loads one
      (offset_code f h to at) (offset_shows f h) to tree no_loads (omega arith) two)

  module _ (mode : Mode) (secret : may_skip_loads mode ≡ false) where
    -- an access: its block is in the slot of its array
    pub record Accessed (s : SymState) (code : List Instr) (shows : List Show) (to : ℕ) (number : Option Value)
        (loads : Loads) (slot : ℕ) (bound : SymSlot) : Type 0 where
      pub leaves : LeavesTree o f depth s code shows to number loads
      pub holds : slot_held leaves.state slot ≡ bound

    -- an access leaves the number of the word, and its block in the array's slot
    pub access-leaves : (near : Bool) (s : SymState) (to from : ℕ) (x : List ℕ) (fixed : Option ℤ)
        (index : Option Value)
        (code : List Instr) (shows : List Show) (loads : Loads) → CarriesInArm f s
        → LeavesIn o f depth s code shows to from index loads → to + 2 < first_kept f → from ≢ to + 1
        → (near ≡ true → from ≡ to)
        → (used : UsedAs (context_of f.decls) x Array) → (home_of f x).resident ≡ false
        → IsSeen (home_of f x).bank (block_tree near f (home_of f x) fixed index)
        → Accessed s (access_by false (numbering_by near false) f mode (home_of f x) to from fixed code)
        (shows_by false near f (home_of f x) fixed index shows) to (number_tree near f (home_of f x) fixed index)
        (loads_by false near f (home_of f x) fixed index loads) (home_of f x).slot
        (element_slot near f (home_of f x) fixed index)
    access-leaves near s to from x fixed index code shows loads carries first inside apart own used turn seen =
        let h = home_of f x in
        let home = homes.arrays x used.0 used.1 turn in
        let block = block_tree near f h fixed index in
        let bound = element_slot near f h fixed index in
        let found = located near to from inside apart own h index s fixed code shows loads carries first in
        let there = found.leaves in
        let t = hold_slot there.state h.slot bound in
        let within = serves-within h.bank h.slot home.slot in
        let room : h.slot < length there.state.slots = omega (arith, there.carries.slots) in
        let sizes : blocks_of o h.bank ≡ blocks_set f h.bank = homes.blocks h.bank home.bank in
        let load = walked-ldb o depth f homes.profile there.state h.slot h.bank (to + 1) block sizes found.next seen in
        let skipped : load_code false h to ≡ load_code (skips mode h) h to =
        sym (ap (λ (b : Bool). load_code (b && is_cached h) h to) secret) in
        let before = located_code (numbering_by near false) f h to from fixed code in
        let shown = found_shows near f h fixed shows in
        let whole = walked-then o depth s before shown there.state (load_code false h to) (load_shows bound) t
        there.walked load in
        let slots : (k : ℕ) → slot_held t k ≡ unwrap_or (loads_by false near f h fixed index loads k) (slot_held s k) =
        λ k. one_load-held there.state h.slot bound k room
        ∙ ap (unwrap_or (one_load h.slot bound k)) (there.slots k)
        ∙ sym (then_loads-held (index_loads fixed loads) (one_load h.slot bound) k (slot_held s k)) in
        record {
          leaves = record {
            state = t;
            walked = subst (λ (c : List Instr). Walked o depth s (before ++ c) (shown ++ load_shows bound) t) skipped
                whole;
            carries = carries-load o f homes there.state x used.0 bound there.carries used.1 turn
                (loaded-bank f h.bank block seen);
            held = there.held;
            below = there.below;
            slots = slots;
          };
          holds = one_load-held there.state h.slot bound h.slot room
              ∙ loaded_here h.slot bound (slot_held there.state h.slot);
        }

    -- the word of an element, by the code of its index
    element_by-leaves : (b near : Bool) (s : SymState) (to from : ℕ) (x : List ℕ) (fixed : Option ℤ)
        (index : Option Value) (code : List Instr) (shows : List Show) (loads : Loads) → (home_of f x).resident ≡ b
        → CarriesInArm f s → LeavesIn o f depth s code shows to from index loads → to + 3 < first_kept f → from ≢ to + 1
        → (near ≡ true → has_offset (home_of f x) ≡ false → from ≡ to)
        → UsedAs (context_of f.decls) x Array → (shows_index (home_of f x) ≡ true → IsKnown index)
        → LeavesTree o f depth s
        (access_by b (numbering_by near false) f mode (home_of f x) to from fixed code
        ++ read_by b f (home_of f x) fixed to)
        (shows_by b near f (home_of f x) fixed index shows ++ read_shows_by b f (home_of f x) fixed) to
        (element_by b near f (home_of f x) fixed index) (loads_by b near f (home_of f x) fixed index loads)
    element_by-leaves true near s to from x fixed index code shows loads is carries first inside apart own used known =
        let h = home_of f x in
        let place = placed_tree near f h fixed index in
        let there = placed-leaves near s to from h fixed index code shows loads carries first (omega (arith, inside))
        apart (λ within begins. own within (offset-none h begins)) in
        leaves-then s (placed_code (numbering_by near false) f h to from fixed code) (placed_shows near f h fixed shows)
        to place (index_loads fixed loads) there (read_by true f h fixed to) (read_shows_by true f h fixed) to
        (word_read f (pinned_slot h) place) no_loads (omega arith)
        (read-leaves o f homes x used.0 Array used.1 is depth there.state there.carries to inside place there.held fixed)
    element_by-leaves false near s to from x fixed index code shows loads is carries first inside apart own used known =
        let h = home_of f x in
        let bound = element_slot near f h fixed index in
        let number = number_tree near f h fixed index in
        let seen = block-seen near f h fixed index (λ low. known (shows-cached h is low)) in
        let access = access-leaves near s to from x fixed index code shows loads carries first (omega (arith, inside))
        apart (λ within. own within (ap (λ (b : Bool). b && not (h.word == 0)) is)) used is seen in
        let there = access.leaves in
        let is_bound = bound-of_bank bound h.bank (loaded-bank f h.bank (block_tree near f h fixed index) seen) in
        let word = sets-ldw o depth f homes.profile there.state to h.slot to bound number there.carries.registers
        (omega arith) access.holds is_bound there.held in
        leaves-then_sets s (access_by false (numbering_by near false) f mode h to from fixed code)
        (shows_by false near f h fixed index shows) to number (loads_by false near f h fixed index loads)
        there (Ldw to h.slot to ∷ []) (word_gap f ∷ []) to (word_read f bound number) (omega arith) (omega arith) word

    -- an index is in no register that the code of an access sets before it is read
    pub index-apart : (near : Bool) (h : Home) (i : Tree) (to : ℕ) → to + 2 < first_kept f
        → operand_register (index_by near f h i) to ≢ to + 1
    index-apart near h i to low =
        let apart = operand-apart f i (index_by near f h i) (is-index f near h i) to in
        apart.apart (to + 1) (omega arith) (omega arith)

    -- and one that is the number of the word in its block is where its code leaves it
    pub index-own : (near : Bool) (h : Home) (i : Tree) (to : ℕ) → near ≡ true → has_offset h ≡ false
        → operand_register (index_by near f h i) to ≡ to
    index-own near h i to is free =
        ap (λ (b : Bool). operand_register (operand_unless (is_in_place h (numbering_by b false)) (operand f i)) to) is
        ∙ ap (λ (b : Bool). operand_register (operand_unless (not b) (operand f i)) to) free

    element-leaves : (s : SymState) (to : ℕ) (x : List ℕ) (i : Tree) → TypedTree (context_of f.decls) i
        → CarriesInArm f s
        → LeavesTree o f depth s (expr_code f mode to i) (shows_of_expr f i) to (tree_of_expr f i) (slots_of_expr f i)
        → to + 3 < first_kept f → UsedAs (context_of f.decls) x Array
        → (shows_index (home_of f x) ≡ true
        → IsKnown (operand_tree f (index_by (is_within_home f (home_of f x) i) f (home_of f x) i) (tree_of_expr f i)))
        → LeavesTree o f depth s (expr_code f mode to (Element x i)) (shows_of_expr f (Element x i)) to
        (tree_of_expr f (Element x i)) (slots_of_expr f (Element x i))
    element-leaves s to x i typed carries value inside used known =
        let h = home_of f x in
        let near = is_within_home f h i in
        let q = index_by near f h i in
        let first = operand-leaves mode i typed q (is-index f near h i) s to carries value in
        subst (λ (n : Numbering). LeavesTree o f depth s
        (indexed_code f n mode h to i (expr_code f mode to i) ++ read_code f h (fixed_index h i) to)
        (shows_of_expr f (Element x i)) to (tree_of_expr f (Element x i)) (slots_of_expr f (Element x i)))
        (sym (numbering-secret f mode h i secret))
        (element_by-leaves h.resident near s to (operand_register q to) x (fixed_index h i)
        (operand_tree f q (tree_of_expr f i)) (operand_part q (expr_code f mode to i))
        (operand_part q (shows_of_expr f i)) (slots_of_expr f i) refl carries first inside
        (index-apart near h i to (omega (arith, inside))) (index-own near h i to) used known)

    -- the code of an expression leaves its tree
    abbrev LeavesExpr : SymState → ℕ → Tree → Type 0
    LeavesExpr s to e =
        LeavesTree o f depth s (expr_code f mode to e) (shows_of_expr f e) to (tree_of_expr f e) (slots_of_expr f e)

    -- an operation on two operands
    operation-leaves : (op : Op) (a b : Tree) → TypedTree (context_of f.decls) a → TypedTree (context_of f.decls) b
        → (s : SymState) (to : ℕ) → to + 2 < first_kept f → CarriesInArm f s
        → LeavesExpr s to a → ((t : SymState) → CarriesInArm f t → LeavesExpr t (to + 1) b)
        → LeavesTree o f depth s
        (operand_part (operand f a) (expr_code f mode to a)
        ++ (operand_part (operand f b) (expr_code f mode (to + 1) b)
        ++ Alu op to (operand_register (operand f a) to) (operand_register (operand f b) (to + 1)) ∷ []))
        (operand_part (operand f a) (shows_of_expr f a)
        ++ (operand_part (operand f b) (shows_of_expr f b) ++ operation_gap f op ∷ [])) to
        (applied_trees op (operand_tree f (operand f a) (tree_of_expr f a))
        (operand_tree f (operand f b) (tree_of_expr f b)))
        (then_loads (slots_of_expr f a) (slots_of_expr f b))
    operation-leaves op a b typed_a typed_b s to inside carries value next =
        let q = operand f a in
        let q' = operand f b in
        let left = operand_tree f q (tree_of_expr f a) in
        let right = operand_tree f q' (tree_of_expr f b) in
        let from = operand_register q to in
        let by = operand_register q' (to + 1) in
        let last = Alu op to from by ∷ [] in
        let gaps = operation_gap f op ∷ [] in
        let first = operand-leaves mode a typed_a q (is-operand f a) s to carries value in
        let second = operand-leaves mode b typed_b q' (is-operand f b) first.state (to + 1) first.carries
        (next first.state first.carries) in
        let stays = operand-stays a typed_a q (is-operand f a) to (tree_of_expr f a) first.state second.state
        second.carries first.held second.below in
        let sets = sets-alu o depth f homes.profile second.state op to from by left right second.carries.registers
        (omega arith) stays second.held in
        leaves-then s (operand_part q (expr_code f mode to a)) (operand_part q (shows_of_expr f a)) to left
        (slots_of_expr f a) first (operand_part q' (expr_code f mode (to + 1) b) ++ last)
        (operand_part q' (shows_of_expr f b) ++ gaps) to (applied_trees op left right) (slots_of_expr f b) (omega arith)
        (leaves-then_sets first.state (operand_part q' (expr_code f mode (to + 1) b))
        (operand_part q' (shows_of_expr f b)) (to + 1) right (slots_of_expr f b) second last gaps to
        (applied_trees op left right) (omega arith) (omega arith) sets)

    -- an operation, or the steps that replace it
    either-leaves : (op : Op) (a b : Tree) → TypedTree (context_of f.decls) a → TypedTree (context_of f.decls) b
        → (s : SymState) (to : ℕ) → to + 2 < first_kept f → CarriesInArm f s
        → LeavesExpr s to a → ((t : SymState) → CarriesInArm f t → LeavesExpr t (to + 1) b)
        → (found : Option (List Step)) → steps_at f op b ≡ found
        → LeavesTree o f depth s
        (operand_part (operand_unless (is_some found) (operand f a)) (expr_code f mode to a)
        ++ operation_code op to (operand_register (operand_unless (is_some found) (operand f a)) to)
        (operand_register (operand f b) (to + 1)) found (operand_part (operand f b) (expr_code f mode (to + 1) b)))
        (operand_part (operand_unless (is_some found) (operand f a)) (shows_of_expr f a)
        ++ operation_shows f op found (operand_part (operand f b) (shows_of_expr f b))) to
        (operation_tree op found (operand_tree f (operand_unless (is_some found) (operand f a)) (tree_of_expr f a))
        (operand_tree f (operand f b) (tree_of_expr f b)))
        (then_loads (slots_of_expr f a) (operation_loads found (slots_of_expr f b)))
    either-leaves op a b typed_a typed_b s to inside carries value next None e =
        operation-leaves op a b typed_a typed_b s to inside carries value next
    either-leaves op a b typed_a typed_b s to inside carries value next (Some steps) e =
        let of = steps-of f op b steps e in
        let replaces = of.replaces in
        leaves-then s (expr_code f mode to a) (shows_of_expr f a) to (tree_of_expr f a) (slots_of_expr f a) value
        (code_of to steps) (map (step_gap f) steps) to (steps_tree steps (tree_of_expr f a)) no_loads (omega arith)
        (steps-leave value.state to steps (tree_of_expr f a) value.carries inside replaces.fits replaces.reads
        value.held)

    -- the code of an expression
    pub expr-leaves : (e : Tree) (s : SymState) (to : ℕ) → TypedTree (context_of f.decls) e → HasPublicIndexes f e
        → to + height_of e ≤ room_of f → CarriesInArm f s
        → LeavesTree o f depth s (expr_code f mode to e) (shows_of_expr f e) to (tree_of_expr f e) (slots_of_expr f e)
    expr-leaves (Number z) s to typed public low carries = number-leaves s to z carries (omega arith)
    expr-leaves (Variable x) s to typed public low carries =
        scalar-leaves s to x carries (omega arith) typed (register_for f x) refl
    expr-leaves (Element x i) s to typed public low carries =
        element-leaves s to x i typed.1.0 carries (expr-leaves i s to typed.1.0 public.1 (omega arith) carries)
        (omega (arith, height-some i)) typed.0
        (λ cached. public-index o f homes (is_within_home f (home_of f x) i) (home_of f x) i typed.1.0 (public.0 cached))
    expr-leaves (Operation op a b) s to typed public low carries =
        either-leaves op a b typed.0 typed.1 s to (omega (arith, height-some b)) carries
        (expr-leaves a s to typed.0 public.0 (omega arith) carries)
        (λ t more. expr-leaves b t (to + 1) typed.1 public.1 (omega arith) more) (steps_at f op b) refl

    -- the code of a guard
    pub guard-leaves : (t : Test) (s : SymState) (to : ℕ) → TypedTest (context_of f.decls) t
        → TestHasPublicIndexes f t → to + height_of t.left ≤ room_of f → to + 1 + height_of t.right ≤ room_of f
        → CarriesInArm f s
        → LeavesTwo o f depth s (guard_code f mode to t) (shows_of_test f t) to (tree_of_expr f t.left)
        (tree_of_expr f t.right) (slots_of_test f t)
    guard-leaves t s to typed public low next carries =
        let first = expr-leaves t.left s to typed.0 public.0 low carries in
        let second = expr-leaves t.right first.state (to + 1) typed.1 public.1 next first.carries in
        two-leave s to (tree_of_expr f t.left) (tree_of_expr f t.right) (expr_code f mode to t.left)
        (expr_code f mode (to + 1) t.right) (shows_of_expr f t.left) (shows_of_expr f t.right)
        (slots_of_expr f t.left) (slots_of_expr f t.right) first second
