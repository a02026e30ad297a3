-- The code of assignments in secret code: walked in an arm, it shows what depends only on the assignment, whether it
-- has its effect or only looks as if it had.
use Rattle.std.proofs.Common.{◌≡◌, ℕ, ◌+◌, ◌≤◌, ℤ, pos, Bool, true, false, not, ◌&&◌, ◌==◌, List, [], ◌∷◌, ◌++◌, length, get_or, Option, Some, None, refl, sym, ap, ◌∙◌, subst, arith}
use Rattle.std.specs.Option.{unwrap_or}
use Rattle.std.specs.List.{slice_get}
use Rattle.gr_word.specs.declared.variables.Label.{Label}
use Rattle.gr_word.specs.declared.variables.Label.TheVariants.{Public, Secret}
use Rattle.gr_word.specs.declared.variables.Shape.{Shape}
use Rattle.gr_word.specs.declared.variables.Shape.TheVariants.{Scalar, Array}
use Rattle.lt_isa.specs.declared.instructions.Instr.{Instr}
use Rattle.lt_isa.specs.declared.instructions.Instr.TheVariants.{Li, Alu, Ldw, Stw, Stb}
use Rattle.gr_word.specs.declared.operations.Op.{Op}
use Rattle.gr_word.specs.declared.operations.Op.TheVariants.{Add}
use Rattle.lt_isa.specs.Prelude.{Parts}
use Rattle.symbolic_values.specs.Prelude.{Value, Const}
use Rattle.src_tree.specs.Prelude.{context_of, label_or_public, label_at, label_of, height_of, LowStatement, Tree, Operation, Statement, SetVariable, SetElement, Choice, Loop, Flows, TypedTree, TypedStatement}
use Rattle.stretches.specs.Prelude.{Show, Gap}
use Rattle.trace_patterns.specs.Prelude.{SymSlot, AnySlot, RamSlot, EramSlot, OramSlot, SymState, tree_held, slot_held, slot_bank, applied_trees}
use Rattle.stretches.proofs.ArmCode.{Walked, walked-none, walked-then}
use Rattle.block_cache_gen.specs.declared.frames.Mode.{Mode}
use Rattle.block_cache_gen.specs.Prelude.{further_slots, Setting, home_of, pin_of, slot_of_word, words_a_block, HasHomes, register_for, effect_of, fixed_word, stored_among, stored_by, may_skip_loads, fixed_index, expr_code, access_by, placed_code, store_code, stored_code, set_code, is_within_home, numbering_by, numbering, operand, operand_part, operand_register, operand_unless, indexed_code, write_code, target, keeps_label, straight, straight_code, scalar_set, CarriesInArm, IndexIsPublic, HasPublicIndexes, SetHasPublicIndexes, write_shows, operand_tree, index_by, word_gap, word_shows, block_tree, number_tree, store_shows, shows_among, stored_shows_by, stored_shows, Loads, no_loads, then_loads, element_slot, placed_shows, placed_tree, index_loads, shows_by, loads_by, tree_of_expr, shows_of_expr, slots_of_expr, shows_of_set, slots_of_set, operation_gap, operation_tree, operation_shows, operation_loads, scalar_set_shows, room_of}
use Rattle.block_cache_gen.specs.declared.indexes.Numbering.{Numbering}
use Rattle.lt_checker.proofs.Singles.{IsKnown, IsHidden}
use Rattle.lt_isa.specs.declared.profiles.Profile.{Profile}
use Rattle.word_selection.specs.Prelude.{selected_write, IsOutside}
use Rattle.word_selection.proofs.WriteLaws.{walks-write}
use Rattle.block_cache_gen.proofs.HeldOperands.{operand-outside}
use Rattle.block_cache_gen.proofs.SpreadArms.{secret-bank, each-bank, word-bank, fixed-within}
use Rattle.block_cache_gen.proofs.SomeCode.{numbering-secret}
use Rattle.block_cache_gen.proofs.ArmInstructions.{loaded-bank, sets-ldw, walked-stw, walked-stb, sets-alu}
use Rattle.block_cache_gen.proofs.ArmStates.{LeavesIn, then_loads-held, carries-same, carries-copied}
use Rattle.held_registers.specs.Prelude.{secret_zero}
use Rattle.held_registers.proofs.Copies.{hidden_copy}
use Rattle.block_cache_gen.proofs.HeldLabels.{register-label, register-low, zero-label}
use Rattle.block_cache_gen.proofs.HomeFacts.{offset-none, shows-cached}
use Rattle.block_cache_gen.proofs.PublicTrees.{is-index, block-seen, public-index}
use Rattle.strength_reduction.specs.Prelude.{Step}
use Rattle.std.specs.Prelude.{is_some}
use Rattle.block_cache_gen.proofs.StraightCodes.{IsStraight, straight-by}
use Rattle.block_cache_gen.proofs.SecretTrees.{tree-hidden}
use Rattle.block_cache_gen.proofs.ArmExpressions.{operand-stays, access-leaves, placed-leaves, number-leaves, operand-leaves, index-apart, index-own, expr-leaves}
use Rattle.block_cache_gen.proofs.OperandLabels.{is-operand}
use Rattle.block_cache_gen.specs.declared.frames.Mode.TheVariants as modes
use Rattle.word_selection.specs.Selection as selection

-- A stretch of secret code is walked from s: it shows this, keeps what the setting relies on, and leaves this in the
-- slots.
pub record Goes (o : Parts) (f : Setting) (depth : ℕ) (s : SymState) (code : List Instr) (shows : List Show)
    (loads : Loads) : Type 0 where
  pub state : SymState
  pub walked : Walked o depth s code shows state
  pub carries : CarriesInArm f state
  pub slots : (k : ℕ) → slot_held state k ≡ unwrap_or (loads k) (slot_held s k)

-- a slot that may be stored to: one of a bank that isn't plain memory
pub stored-of_bank : (bound : SymSlot) (bank : ℕ) → slot_bank bound ≡ Some bank → (bank ≡ 0 → ⊥) → IsHidden bound
stored-of_bank AnySlot bank e ne = absurd (let f : ◌≡◌ {A = Option ℕ} None (Some bank) = e in cc)
stored-of_bank (RamSlot block origin) bank e ne =
    absurd (ne (let f : ◌≡◌ {A = Option ℕ} (Some 0) (Some bank) = e in let g : 0 ≡ bank = cc in sym g))
stored-of_bank (EramSlot block) bank e ne = tt
stored-of_bank (OramSlot other) bank e ne = tt

bound-of_stored : (bound : SymSlot) → IsHidden bound → IsKnown bound
bound-of_stored AnySlot h = h
bound-of_stored other h = tt

-- so is the slot of a resident secret variable
resident-hidden : (o : Parts) (f : Setting) → HasHomes o f → (s : SymState) (x : List ℕ) (shape : Shape)
    → CarriesInArm f s → context_of f.decls x ≡ Some (Secret, shape) → (home_of f x).resident ≡ true
    → IsHidden (slot_held s (home_of f x).slot)
resident-hidden o f homes s x shape carries declared is =
    let h = home_of f x in
    let home = homes.residents x Secret shape declared is in
    let pin = homes.pins h.slot (pin_of h) home.pinned in
    stored-of_bank (slot_held s h.slot) 1
    (carries.pinned h.slot (pin_of h) home.pinned pin.few pin.apart ∙ ap Some home.bank) (λ e. omega arith)

-- a secret scalar keeps the label of a secret value only
kept-secret : (l : Label) → keeps_label Secret l ≡ true → l ≡ Secret
kept-secret Public e = absurd (let g : false ≡ true = e in cc)
kept-secret Secret e = refl

-- what a secret flows to is secret
flows-secret : (to : Label) → Flows Secret to → to ≡ Secret
flows-secret Public h = absurd h
flows-secret Secret h = refl

module _ (o : Parts) (f : Setting) (depth : ℕ) where
  -- code that leaves a value continues
  abbrev pub goes-leaves : {at : ℕ} (s : SymState) (code : List Instr) (shows : List Show) (to : ℕ)
      (tree : Option Value) (loads : Loads) → LeavesIn o f depth s code shows to at tree loads
      → Goes o f depth s code shows loads
  goes-leaves s code shows to tree loads leaves =
      record { state = leaves.state; walked = leaves.walked; carries = leaves.carries; slots = leaves.slots }

  -- one piece and then the rest
  pub goes-then : (s : SymState) (code : List Instr) (shows : List Show) (loads : Loads)
      (first : Goes o f depth s code shows loads) (rest : List Instr) (more : List Show) (later : Loads)
      → Goes o f depth first.state rest more later
      → Goes o f depth s (code ++ rest) (shows ++ more) (then_loads loads later)
  goes-then s code shows loads first rest more later second = record {
    state = second.state;
    walked = walked-then o depth s code shows first.state rest more second.state first.walked second.walked;
    carries = second.carries;
    slots = λ k.
        second.slots k ∙ ap (unwrap_or (later k)) (first.slots k) ∙ sym (then_loads-held loads later k (slot_held s k));
  }

  -- no code
  pub goes-none : (s : SymState) → CarriesInArm f s → Goes o f depth s [] [] no_loads
  goes-none s carries =
      record { state = s; walked = walked-none o depth s; carries = carries; slots = λ k. refl }

module _ (o : Parts) (f : Setting) (homes : HasHomes o f) (depth : ℕ) where
  -- the old word is read and a word is written
  stored-by : (s : SymState) (rs slot : ℕ) → CarriesInArm f s → IsHidden (slot_held s slot)
      → Goes o f depth s (Ldw 2 slot 1 ∷ Stw rs slot 1 ∷ []) (word_gap f ∷ word_gap f ∷ []) no_loads
  stored-by s rs slot carries stored =
      let bound = slot_held s slot in
      let read = sets-ldw o depth f homes.profile s 2 slot 1 bound (tree_held s 1) carries.registers (omega arith) refl
      (bound-of_stored bound stored) refl in
      let kept : slot_held read.state slot ≡ bound =
      ap (λ (slots : List SymSlot). get_or slots slot AnySlot) read.slots in
      record {
        state = read.state;
        walked = walked-then o depth s (Ldw 2 slot 1 ∷ []) (word_gap f ∷ []) read.state (Stw rs slot 1 ∷ [])
            (word_gap f ∷ []) read.state read.walked
            (walked-stw o depth f homes.profile read.state rs slot 1 (subst IsHidden (sym kept) stored));
        carries = carries-same f s read.state carries read.slots (λ r high. read.other r (λ e. absurd (omega (arith, e))))
            read.registers;
        slots = λ k. ap (λ (slots : List SymSlot). get_or slots k AnySlot) read.slots;
      }

  -- a word is only stored, or only read
  only_stored : (s : SymState) (rs slot : ℕ) → CarriesInArm f s → IsHidden (slot_held s slot)
      → Goes o f depth s (Stw rs slot 1 ∷ []) (word_gap f ∷ []) no_loads
  only_stored s rs slot carries stored = record {
    state = s;
    walked = walked-stw o depth f homes.profile s rs slot 1 stored;
    carries = carries;
    slots = λ k. refl;
  }

  only_read : (s : SymState) (slot : ℕ) → CarriesInArm f s → IsHidden (slot_held s slot)
      → Goes o f depth s (Ldw 0 slot 1 ∷ []) (word_gap f ∷ []) no_loads
  only_read s slot carries stored =
      let bound = slot_held s slot in
      let read = sets-ldw o depth f homes.profile s 0 slot 1 bound (tree_held s 1) carries.registers (omega arith) refl
      (bound-of_stored bound stored) refl in
      record {
        state = read.state;
        walked = read.walked;
        carries = carries-same f s read.state carries read.slots (λ r high. read.other r (λ e. absurd (omega (arith, e))))
            read.registers;
        slots = λ k. ap (λ (slots : List SymSlot). get_or slots k AnySlot) read.slots;
      }

  module _ (mode : Mode) (secret : may_skip_loads mode ≡ false) where
    store-goes : (s : SymState) (slot value : ℕ) → CarriesInArm f s → IsHidden (slot_held s slot)
        → Goes o f depth s (store_code f.reduces mode slot value) (word_shows f.reduces f) no_loads
    store-goes s slot value carries stored = by f.reduces mode secret
      where
        by : (once : Bool) (m : Mode) → may_skip_loads m ≡ false
            → Goes o f depth s (store_code once m slot value) (word_shows once f) no_loads
        by once modes.Public e = absurd (let g : true ≡ false = e in cc)
        by false modes.Real e = stored-by s value slot carries stored
        by true modes.Real e = only_stored s value slot carries stored
        by false modes.Mirrored e = stored-by s 2 slot carries stored
        by true modes.Mirrored e = only_read s slot carries stored

    -- the block is stored too
    store_block-goes : (s : SymState) (slot value : ℕ) (bound : SymSlot) → CarriesInArm f s → slot_held s slot ≡ bound
        → IsHidden bound
        → Goes o f depth s (store_code f.reduces mode slot value ++ Stb slot ∷ [])
        (word_shows f.reduces f ++ store_shows bound) no_loads
    store_block-goes s slot value bound carries holds stored =
        let word = store-goes s slot value carries (subst IsHidden (sym holds) stored) in
        record {
          state = word.state;
          walked = walked-then o depth s (store_code f.reduces mode slot value) (word_shows f.reduces f) word.state
              (Stb slot ∷ []) (store_shows bound) word.state word.walked
              (walked-stb o depth f homes.profile word.state slot bound (word.slots slot ∙ holds) stored);
          carries = word.carries;
          slots = word.slots;
        }

    -- a value is written to a secret scalar, by the register that holds it
    word-goes : (s : SymState) (value : ℕ) (x : List ℕ) → context_of f.decls x ≡ Some (Secret, Scalar)
        → CarriesInArm f s
        → Goes o f depth s (write_code f.reduces None Secret mode (home_of f x) value) (write_shows f None) no_loads
    word-goes s value x declared carries =
        let h = home_of f x in
        let scalar = homes.scalars x Secret declared in
        let place = number-leaves o f homes depth s 1 (pos h.word) carries (omega arith) in
        let stored = resident-hidden o f homes place.state x Scalar place.carries declared scalar.resident in
        goes-then o f depth s (Li 1 (pos h.word) ∷ []) (Gap 1 ∷ []) no_loads
        (goes-leaves o f depth s (Li 1 (pos h.word) ∷ []) (Gap 1 ∷ []) 1 (Some (Const (pos h.word))) no_loads place)
        (store_code f.reduces mode h.slot value) (word_shows f.reduces f) no_loads
        (store-goes place.state h.slot value place.carries stored)

    -- an operation without a tree leaves its result in the register that holds a secret scalar, or in register 0
    left-goes : (s : SymState) (x : List ℕ) → context_of f.decls x ≡ Some (Secret, Scalar) → (r : ℕ)
        → register_for f x ≡ Some r → (op : Op) (left right : ℕ) (a b : Option Value) → CarriesInArm f s
        → tree_held s left ≡ a → tree_held s right ≡ b → applied_trees op a b ≡ None
        → Goes o f depth s (Alu op (target mode r) left right ∷ []) (operation_gap f op ∷ []) no_loads
    left-goes s x declared r is op left right a b carries first second none = by mode
      where
        slots : (t : SymState) → t.slots ≡ s.slots → (k : ℕ) → slot_held t k ≡ slot_held s k
        slots t same k = ap (λ (slots : List SymSlot). get_or slots k AnySlot) same

        held : Goes o f depth s (Alu op r left right ∷ []) (operation_gap f op ∷ []) no_loads
        held =
            let sets = sets-alu o depth f homes.profile s op r left right a b carries.registers
            (register-low f homes.held x Secret Scalar declared r is) first second in
            record {
              state = sets.state;
              walked = sets.walked;
              carries
                  = carries-copied f s sets.state r Secret carries sets.slots sets.other sets.registers
                  (register-label f homes.held x Secret Scalar declared r is) (sets.held ∙ none);
              slots = slots sets.state sets.slots;
            }

        by : (m : Mode) → Goes o f depth s (Alu op (target m r) left right ∷ []) (operation_gap f op ∷ []) no_loads
        by modes.Public = held
        by modes.Real = held
        by modes.Mirrored =
            let sets = sets-alu o depth f homes.profile s op 0 left right a b carries.registers (omega arith) first second in
            record {
              state = sets.state;
              walked = sets.walked;
              carries = carries-same f s sets.state carries sets.slots
                  (λ q high. sets.other q (λ e. absurd (omega (arith, high, e)))) sets.registers;
              slots = slots sets.state sets.slots;
            }

    copy-goes : (s : SymState) (value : ℕ) (x : List ℕ) → context_of f.decls x ≡ Some (Secret, Scalar) → (r : ℕ)
        → register_for f x ≡ Some r → CarriesInArm f s
        → Goes o f depth s (write_code f.reduces (Some r) Secret mode (home_of f x) value) (write_shows f (Some r)) no_loads
    copy-goes s value x declared r is carries =
        let zero = zero-label f homes.held x Secret Scalar declared r is Secret in
        left-goes s x declared r is Add value secret_zero (tree_held s value) None carries refl
        (carries.held secret_zero Secret zero) (hidden_copy (tree_held s value))

    write-goes : (s : SymState) (value : ℕ) (x : List ℕ) → context_of f.decls x ≡ Some (Secret, Scalar)
        → (found : Option ℕ) → register_for f x ≡ found → CarriesInArm f s
        → Goes o f depth s (write_code f.reduces found Secret mode (home_of f x) value) (write_shows f found) no_loads
    write-goes s value x declared None is carries = word-goes s value x declared carries
    write-goes s value x declared (Some r) is carries = copy-goes s value x declared r is carries

    -- an operand, which its code leaves in a register or which is in one
    value-leaves : (e : Tree) (s : SymState) (to : ℕ) → TypedTree (context_of f.decls) e → HasPublicIndexes f e
        → to + height_of e ≤ room_of f → CarriesInArm f s
        → LeavesIn o f depth s (operand_part (operand f e) (expr_code f mode to e))
        (operand_part (operand f e) (shows_of_expr f e)) to (operand_register (operand f e) to)
        (operand_tree f (operand f e) (tree_of_expr f e)) (slots_of_expr f e)
    value-leaves e s to typed public low carries =
        operand-leaves o f homes depth mode e typed (operand f e) (is-operand f e) s to carries
        (expr-leaves o f homes depth mode secret e s to typed public low carries)

    -- an operation whose result is left in the register that holds a secret scalar
    straight-goes : (s : SymState) (x : List ℕ) → context_of f.decls x ≡ Some (Secret, Scalar) → (r : ℕ) (op : Op)
        (a b : Tree) → IsStraight f x r op a b → label_of (context_of f.decls) (Operation op a b) ≡ Secret
        → TypedTree (context_of f.decls) (Operation op a b) → HasPublicIndexes f (Operation op a b)
        → height_of (Operation op a b) ≤ room_of f → CarriesInArm f s
        → Goes o f depth s (straight_code f mode (target mode r) (Operation op a b))
        (shows_of_expr f (Operation op a b)) (slots_of_expr f (Operation op a b))
    straight-goes s x declared r op a b is secret_value typed public low carries =
        let q = operand f a in
        let p = operand f b in
        let left = operand_tree f q (tree_of_expr f a) in
        let right = operand_tree f p (tree_of_expr f b) in
        let from = operand_register q 0 in
        let by = operand_register p 1 in
        let one_code = operand_part q (expr_code f mode 0 a) in
        let two_code = operand_part p (expr_code f mode 1 b) in
        let last = Alu op (target mode r) from by ∷ [] in
        let gap = operation_gap f op ∷ [] in
        let first = value-leaves a s 0 typed.0 public.0 (omega (arith, low)) carries in
        let second = value-leaves b first.state 1 typed.1 public.1 (omega (arith, low)) first.carries in
        let stays = operand-stays o f homes depth a typed.0 q (is-operand f a) 0 (tree_of_expr f a) first.state second.state
        second.carries first.held second.below in
        let none : applied_trees op left right ≡ None =
        sym (ap (λ (found : Option (List Step)). operation_tree op found
        (operand_tree f (operand_unless (is_some found) q) (tree_of_expr f a)) right) is.plain)
        ∙ tree-hidden o f homes (Operation op a b) typed secret_value in
        let three = left-goes second.state x declared r is.held op from by left right second.carries stays second.held none in
        let one = goes-leaves o f depth s one_code (operand_part q (shows_of_expr f a)) 0 left (slots_of_expr f a) first in
        let two = goes-leaves o f depth first.state two_code (operand_part p (shows_of_expr f b)) 1 right
        (slots_of_expr f b) second in
        subst (λ (found : Option (List Step)). Goes o f depth s (one_code ++ (two_code ++ last))
        (operand_part (operand_unless (is_some found) q) (shows_of_expr f a)
        ++ operation_shows f op found (operand_part p (shows_of_expr f b)))
        (then_loads (slots_of_expr f a) (operation_loads found (slots_of_expr f b)))) (sym is.plain)
        (goes-then o f depth s one_code (operand_part q (shows_of_expr f a)) (slots_of_expr f a) one (two_code ++ last)
        (operand_part p (shows_of_expr f b) ++ gap) (then_loads (slots_of_expr f b) no_loads)
        (goes-then o f depth first.state two_code (operand_part p (shows_of_expr f b)) (slots_of_expr f b) two last gap
        no_loads three))

    -- one whose value is written after it is found
    written-goes : (s : SymState) (x : List ℕ) (e : Tree)
        → TypedStatement (context_of f.decls) Secret (SetVariable x e) → SetHasPublicIndexes f (SetVariable x e)
        → LowStatement (SetVariable x e) → CarriesInArm f s
        → Goes o f depth s (scalar_set None f mode x e) (scalar_set_shows None f x e) (slots_of_expr f e)
    written-goes s x e typed public low carries =
        let found = register_for f x in
        let own = flows-secret (label_at (context_of f.decls) x) typed.1.1 in
        let same : label_at (context_of f.decls) x ≡ typed.0.0 = ap label_or_public typed.0.1 in
        let declared = subst (λ (l : Label). context_of f.decls x ≡ Some (l, Scalar)) (sym same ∙ own) typed.0.1 in
        let q = operand f e in
        let first = operand_part q (expr_code f mode 0 e) in
        let shown = operand_part q (shows_of_expr f e) in
        let from = operand_register q 0 in
        let value = value-leaves e s 0 typed.1.0 public (omega arith) carries in
        let one = goes-leaves o f depth s first shown 0 (operand_tree f q (tree_of_expr f e)) (slots_of_expr f e)
        value in
        let two = subst
        (λ (l : Label).
        Goes o f depth value.state (write_code f.reduces found l mode (home_of f x) from) (write_shows f found) no_loads) (sym own)
        (write-goes value.state from x declared found refl value.carries) in
        goes-then o f depth s first shown (slots_of_expr f e) one
        (write_code f.reduces found (label_at (context_of f.decls) x) mode (home_of f x) from) (write_shows f found) no_loads two

    -- an assignment to a scalar
    variable-goes : (s : SymState) (x : List ℕ) (e : Tree)
        → TypedStatement (context_of f.decls) Secret (SetVariable x e) → SetHasPublicIndexes f (SetVariable x e)
        → LowStatement (SetVariable x e) → CarriesInArm f s
        → Goes o f depth s (set_code f mode (SetVariable x e)) (shows_of_set f (SetVariable x e))
        (slots_of_set f (SetVariable x e))
    variable-goes s x e typed public low carries = by (straight f x e) refl
      where
        by : (found : Option ℕ) → straight f x e ≡ found
            → Goes o f depth s (scalar_set found f mode x e) (scalar_set_shows found f x e) (slots_of_expr f e)
        by None is = written-goes s x e typed public low carries
        by (Some r) is =
            let own = flows-secret (label_at (context_of f.decls) x) typed.1.1 in
            let same : label_at (context_of f.decls) x ≡ typed.0.0 = ap label_or_public typed.0.1 in
            let declared = subst (λ (l : Label). context_of f.decls x ≡ Some (l, Scalar)) (sym same ∙ own) typed.0.1 in
            straight-by f x e r is
            (λ t. TypedTree (context_of f.decls) t → HasPublicIndexes f t → height_of t ≤ room_of f
            → Goes o f depth s (straight_code f mode (target mode r) t) (shows_of_expr f t) (slots_of_expr f t))
            (λ op a b known typed_value public_value low_value.
            straight-goes s x declared r op a b known
            (kept-secret (label_of (context_of f.decls) (Operation op a b))
            (sym (ap (λ (l : Label). keeps_label l (label_of (context_of f.decls) (Operation op a b))) own) ∙ known.keeps))
            typed_value public_value low_value carries)
            typed.1.0 public (omega (arith, low))

    -- a word is stored of a secret array that slots hold for the whole run
    stored_by-goes : (s : SymState) (x : List ℕ) (fixed : Option ℤ) (value : ℕ) (bound : SymSlot)
        → context_of f.decls x ≡ Some (Secret, Array) → (home_of f x).resident ≡ true → IsOutside 1 4 value
        → CarriesInArm f s
        → Goes o f depth s (stored_by true f mode (home_of f x) fixed value)
        (stored_shows_by true f (home_of f x) fixed bound) no_loads
    stored_by-goes s x (Some z) value bound declared is apart carries =
        let h = home_of f x in
        let n = h.word + fixed_word h z in
        let within = fixed-within o f homes x Secret Array declared is z in
        let bank = word-bank o f homes x Secret Array declared is s carries n within
        ∙ ap Some (secret-bank o f homes x Secret Array declared is refl) in
        store-goes s (slot_of_word f h n) value carries
        (stored-of_bank (slot_held s (slot_of_word f h n)) 1 bank (λ e. omega arith))
    stored_by-goes s x None value bound declared is apart carries = by (further_slots (home_of f x)) refl
      where
        by : (more : List ℕ) → (further_slots (home_of f x)) ≡ more
            → Goes o f depth s (stored_among f mode (home_of f x).slot more value) (shows_among f (length more)) no_loads
        by [] same =
            store-goes s (home_of f x).slot value carries (resident-hidden o f homes s x Array carries declared is)
        by (next ∷ rest) same =
            let h = home_of f x in
            let slots = h.slot ∷ next ∷ rest in
            let walks = walks-write o (effect_of mode) depth 1 value (words_a_block f) 1 slots s (omega arith) apart
            (omega arith) carries.registers
            (λ i k got. each-bank o f homes x Secret Array declared is s carries i k
            (ap (λ (more : List ℕ). slice_get (h.slot ∷ more) i) same ∙ got)
            ∙ ap Some (secret-bank o f homes x Secret Array declared is refl)) in
            let count : length slots ≡ length rest + 2 = omega arith in
            let shown : selection.write_shows o.profile (length slots) ≡ selection.write_shows f.profile (length rest + 2) =
            ap (λ (p : Profile). selection.write_shows p (length slots)) homes.profile
            ∙ ap (selection.write_shows f.profile) count in
            record {
              state = walks.state;
              walked
                  = subst (λ (xs : List Show). Walked o depth s
                  (selected_write (effect_of mode) (words_a_block f) value slots 1) xs walks.state) shown walks.walked;
              carries = carries-same f s walks.state carries walks.slots (λ r high. walks.above r (omega (arith, high)))
                  walks.registers;
              slots = λ k. ap (λ (slots : List SymSlot). get_or slots k AnySlot) walks.slots;
            }

    -- an index, in the register of an access to an array
    index-leaves : (near : Bool) (x : List ℕ) (i : Tree) (s : SymState) → TypedTree (context_of f.decls) i → HasPublicIndexes f i
        → 1 + height_of i ≤ room_of f → CarriesInArm f s
        → LeavesIn o f depth s (operand_part (index_by near f (home_of f x) i) (expr_code f mode 1 i))
        (operand_part (index_by near f (home_of f x) i) (shows_of_expr f i)) 1 (operand_register (index_by near f (home_of f x) i) 1)
        (operand_tree f (index_by near f (home_of f x) i) (tree_of_expr f i)) (slots_of_expr f i)
    index-leaves near x i s typed public low carries =
        operand-leaves o f homes depth mode i typed (index_by near f (home_of f x) i) (is-index f near (home_of f x) i) s 1 carries
        (expr-leaves o f homes depth mode secret i s 1 typed public low carries)

    -- an assignment to an element, after the code of its value
    element_by-goes : (b near : Bool) (s : SymState) (x : List ℕ) (i : Tree) (value : ℕ) → (home_of f x).resident ≡ b
        → context_of f.decls x ≡ Some (Secret, Array) → TypedTree (context_of f.decls) i
        → IndexIsPublic f x i → HasPublicIndexes f i → 1 + height_of i ≤ room_of f → IsOutside 1 4 value
        → CarriesInArm f s
        → Goes o f depth s
        (access_by b (numbering_by near false) f mode (home_of f x) 1 (operand_register (index_by near f (home_of f x) i) 1)
        (fixed_index (home_of f x) i) (operand_part (index_by near f (home_of f x) i) (expr_code f mode 1 i))
        ++ stored_by b f mode (home_of f x) (fixed_index (home_of f x) i) value)
        (shows_by b near f (home_of f x) (fixed_index (home_of f x) i)
        (operand_tree f (index_by near f (home_of f x) i) (tree_of_expr f i)) (operand_part (index_by near f (home_of f x) i) (shows_of_expr f i))
        ++ stored_shows_by b f (home_of f x) (fixed_index (home_of f x) i)
        (element_slot near f (home_of f x) (fixed_index (home_of f x) i)
        (operand_tree f (index_by near f (home_of f x) i) (tree_of_expr f i))))
        (loads_by b near f (home_of f x) (fixed_index (home_of f x) i)
        (operand_tree f (index_by near f (home_of f x) i) (tree_of_expr f i)) (slots_of_expr f i))
    element_by-goes true near s x i value is declared typed shows public low outer carries =
        let h = home_of f x in
        let fixed = fixed_index h i in
        let q = index_by near f (home_of f x) i in
        let from = operand_register q 1 in
        let index = operand_tree f q (tree_of_expr f i) in
        let part = operand_part q (expr_code f mode 1 i) in
        let number = index-leaves near x i s typed public low carries in
        let place = placed-leaves o f homes depth near s 1 from h fixed index part (operand_part q (shows_of_expr f i))
        (slots_of_expr f i) carries number (omega arith)
        (index-apart o f homes depth mode secret near h i 1 (omega arith))
        (λ within begins. index-own o f homes depth mode secret near h i 1 within (offset-none h begins)) in
        let code = placed_code (numbering_by near false) f h 1 from fixed part in
        let shown = placed_shows near f h fixed (operand_part q (shows_of_expr f i)) in
        let loads = index_loads fixed (slots_of_expr f i) in
        let one = goes-leaves o f depth s code shown 1 (placed_tree near f h fixed index) loads place in
        let bound = element_slot near f h fixed index in
        let two = stored_by-goes place.state x fixed value bound declared is outer place.carries in
        goes-then o f depth s code shown loads one (stored_by true f mode h fixed value)
        (stored_shows_by true f h fixed bound) no_loads two
    element_by-goes false near s x i value is declared typed shows public low outer carries =
        let h = home_of f x in
        let fixed = fixed_index h i in
        let q = index_by near f (home_of f x) i in
        let from = operand_register q 1 in
        let index = operand_tree f q (tree_of_expr f i) in
        let part = operand_part q (expr_code f mode 1 i) in
        let home = homes.arrays x Secret declared is in
        let number = index-leaves near x i s typed public low carries in
        let seen =
        block-seen near f h fixed index (λ cached. public-index o f homes near h i typed
        (shows (shows-cached h is cached))) in
        let bound = element_slot near f h fixed index in
        let access = access-leaves o f homes depth mode secret near s 1 from x fixed index part
        (operand_part q (shows_of_expr f i)) (slots_of_expr f i) carries number (omega arith)
        (index-apart o f homes depth mode secret near h i 1 (omega arith))
        (λ within. index-own o f homes depth mode secret near h i 1 within
        (ap (λ (b : Bool). b && not (h.word == 0)) is)) (Secret, declared) is seen in
        let stored = stored-of_bank bound h.bank (loaded-bank f h.bank (block_tree near f h fixed index) seen)
        (λ e. let wrong : Secret ≡ Public = home.plain.0 e in let g : ◌≡◌ {A = Label} Secret Public = wrong in cc) in
        let code = access_by false (numbering_by near false) f mode h 1 from fixed part in
        let shown = shows_by false near f h fixed index (operand_part q (shows_of_expr f i)) in
        let loads = loads_by false near f h fixed index (slots_of_expr f i) in
        let one = goes-leaves o f depth s code shown 1 (number_tree near f h fixed index) loads access.leaves in
        let two = store_block-goes access.leaves.state h.slot value bound access.leaves.carries access.holds stored in
        goes-then o f depth s code shown loads one (store_code f.reduces mode h.slot value ++ Stb h.slot ∷ [])
        (word_shows f.reduces f ++ store_shows bound) no_loads two

    element-goes : (s : SymState) (x : List ℕ) (i e : Tree)
        → TypedStatement (context_of f.decls) Secret (SetElement x i e) → SetHasPublicIndexes f (SetElement x i e)
        → LowStatement (SetElement x i e) → CarriesInArm f s
        → Goes o f depth s (set_code f mode (SetElement x i e)) (shows_of_set f (SetElement x i e))
        (slots_of_set f (SetElement x i e))
    element-goes s x i e typed public low carries =
        let h = home_of f x in
        let used = typed.0.0 in
        let same : label_at (context_of f.decls) x ≡ used.0 = ap label_or_public used.1 in
        let label = sym same ∙ flows-secret (label_at (context_of f.decls) x) typed.1.1 in
        let declared = subst (λ (l : Label). context_of f.decls x ≡ Some (l, Array)) label used.1 in
        let q = operand f e in
        let first = operand_part q (expr_code f mode 0 e) in
        let shown = operand_part q (shows_of_expr f e) in
        let from = operand_register q 0 in
        let value = value-leaves e s 0 typed.1.0 public.1 (omega arith) carries in
        let one = goes-leaves o f depth s first shown 0 (operand_tree f q (tree_of_expr f e)) (slots_of_expr f e)
        value in
        let near = is_within_home f h i in
        let p = index_by near f (home_of f x) i in
        let index = operand_tree f p (tree_of_expr f i) in
        let more = shows_by h.resident near f h (fixed_index h i) index (operand_part p (shows_of_expr f i))
        ++ stored_shows f h (fixed_index h i) (element_slot near f h (fixed_index h i) index) in
        let loads = loads_by h.resident near f h (fixed_index h i) index (slots_of_expr f i) in
        let two = subst (λ (n : Numbering). Goes o f depth value.state
        (indexed_code f n mode h 1 i (expr_code f mode 1 i)
        ++ stored_code f mode h (fixed_index h i) from) more loads)
        (sym (numbering-secret f mode h i secret))
        (element_by-goes h.resident near value.state x i from refl declared typed.0.1.0 public.0.0 public.0.1
        (omega arith)
        (operand-outside f e q (is-operand f e)) value.carries) in
        goes-then o f depth s first shown (slots_of_expr f e) one
        (indexed_code f (numbering f mode h i) mode h 1 i (expr_code f mode 1 i)
        ++ stored_code f mode h (fixed_index h i) from) more loads two

    -- the code of an assignment, and no code
    pub set-goes : (a : Statement) (s : SymState) → TypedStatement (context_of f.decls) Secret a
        → SetHasPublicIndexes f a → LowStatement a → CarriesInArm f s
        → Goes o f depth s (set_code f mode a) (shows_of_set f a) (slots_of_set f a)
    set-goes (SetVariable x e) s typed public low carries = variable-goes s x e typed public low carries
    set-goes (SetElement x i e) s typed public low carries = element-goes s x i e typed public low carries
    set-goes (Choice t a b) s typed public low carries = goes-none o f depth s carries
    set-goes (Loop t a) s typed public low carries = goes-none o f depth s carries
