-- The instructions that write a scalar or an element: none in an expression's code, and one in an assignment's.
use Rattle.std.proofs.Common.{◌≡◌, ℕ, ◌+◌, ◌<◌, ◌≤◌, ◌==◌, Bool, true, false, ℤ, pos, ◌+ℤ◌, List, [], ◌∷◌, ◌++◌, Option, Some, None, refl, ap, ◌∙◌, arith, sym}
use Rattle.std.specs.Prelude.{All, cond, if◌then◌else◌, is_some}
use Rattle.std.proofs.lemmas.Bool.{le-ltb, lt-ltb}
use Rattle.std.proofs.lemmas.List.Elements.{All-head, All-tail}
use Rattle.std.proofs.lemmas.List.Sums.{sum_by-append}
use Rattle.gr_word.specs.declared.operations.Op.{Op}
use Rattle.gr_word.specs.declared.operations.Op.TheVariants.{Add, Remu, Shr}
use Rattle.gr_word.specs.declared.operations.Cmp.TheVariants.{Lt}
use Rattle.gr_word.specs.declared.variables.Label.{Label}
use Rattle.lt_isa.specs.declared.instructions.Instr.{Instr}
use Rattle.lt_isa.specs.declared.instructions.Instr.TheVariants.{Li, Alu, Ldw, Br}
use Rattle.src_tree.specs.Prelude.{context_of, height_of, label_of, LowStatement, Tree, Number, Variable, Element, Operation, Statement, SetVariable, SetElement, Choice, Loop}
use Rattle.src_tree.proofs.TreeHeights.{height-some}
use Rattle.strength_reduction.specs.Prelude.{Step, Constant, Compute, StepFits, numbered, code_of}
use Rattle.strength_reduction.proofs.Registers.{numbered-to}
use Rattle.held_registers.specs.Prelude.{public_zero, IsSoundHeld}
use Rattle.block_cache_gen.specs.declared.frames.Mode.{Mode}
use Rattle.block_cache_gen.specs.Prelude.{IsAssignment, by_mode, Home, Setting, home_of, register_for, read_code, zero_of, held_number, applied_code, reducing, reducer, fixed_index, scalar_code, numbering, least_word, numbered_code, numbered_register, shift_code, offset_code, placed_code, located_code, load_code, skips, access_by, access_code, operand, operand_part, operand_register, left_operand, index_operand, indexed_code, stored_code, operation_code, steps_at, expr_code, store_code, write_code, set_code, straight, scalar_set, straight_code, target, is_held_register, is_write, written_words, mode_writes, set_stores}
use Rattle.block_cache_gen.specs.declared.indexes.Numbering.{Numbering}
use Rattle.block_cache_gen.specs.declared.indexes.Numbering.TheVariants.{Compared, Reduced, Within}
use Rattle.block_cache_gen.specs.declared.frames.Mode.TheVariants.{Public, Real, Mirrored}
use Rattle.block_cache_gen.proofs.HeldLabels.{register-own}
use Rattle.block_cache_gen.proofs.HeldOperands.{operand-outside}
use Rattle.block_cache_gen.proofs.OperandLabels.{is-operand}
use Rattle.block_cache_gen.proofs.SpreadWrites.{read-none, read-writes, store-writes, stored-writes}
use Rattle.block_cache_gen.proofs.StepsAt.{steps-of}
use Rattle.block_cache_gen.proofs.StraightCodes.{straight-by}

module _ (once : Bool) where
  -- writes of code after other code
  pub written-append : (xs ys : List Instr) → written_words once (xs ++ ys) ≡ written_words once xs + written_words once ys
  written-append xs ys = sum_by-append (λ i. cond (is_write once i) 1 0) xs ys

  pub written-one : (i : Instr) (b : Bool) → is_write once i ≡ b → written_words once (i ∷ []) ≡ 0 + cond b 1 0
  written-one i b is = ap (λ (c : Bool). 0 + cond c 1 0) is

  none-more : (i : Instr) (code : List Instr) → is_write once i ≡ false → written_words once code ≡ 0
      → written_words once (i ∷ code) ≡ 0
  none-more i code is none =
      let one : written_words once (i ∷ []) ≡ 0 = written-one i false is in
      written-append (i ∷ []) code ∙ omega (arith, one, none)

  none-then : (xs ys : List Instr) → written_words once xs ≡ 0 → written_words once ys ≡ 0 → written_words once (xs ++ ys) ≡ 0
  none-then xs ys first second = written-append xs ys ∙ omega (arith, first, second)

-- a register of expressions
low-plain : (r : ℕ) → r < 21 → is_held_register r ≡ false
low-plain r low = le-ltb public_zero r (omega arith)

-- the code of an access
module _ (once : Bool) (to : ℕ) (low : to + 2 < 21) where
  applied-writes : (f : Setting) (op : Op) (rd from own : ℕ) (z : ℤ) → rd < 21
      → written_words once (applied_code f op rd from own z) ≡ 0
  applied-writes f op rd from own z small = by (held_number f z)
    where
      by : (q : Option ℕ)
          → written_words once (operand_part q (Li own z ∷ []) ++ Alu op rd from (operand_register q own) ∷ []) ≡ 0
      by None =
          none-more once (Li own z) (Alu op rd from own ∷ []) refl
          (none-more once (Alu op rd from own) [] (low-plain rd small) refl)
      by (Some r) = none-more once (Alu op rd from r) [] (low-plain rd small) refl

  shift-writes : (f : Setting) (h : Home) → written_words once (shift_code f h to) ≡ 0
  shift-writes f h =
      let log = pos f.profile.block_log in
      none-then once (applied_code f Shr (to + 1) to (to + 1) log)
      (applied_code f Add (to + 1) (to + 1) (to + 2) (pos h.block))
      (applied-writes f Shr (to + 1) to (to + 1) log (omega arith))
      (applied-writes f Add (to + 1) (to + 1) (to + 2) (pos h.block) (omega arith))

  offset-writes : (f : Setting) (h : Home) (from : ℕ) → written_words once (offset_code f h to from) ≡ 0
  offset-writes f h from = by (h.word == 0)
    where
      by : (first : Bool) → written_words once (if first then [] else applied_code f Add to from (to + 1) (pos h.word)) ≡ 0
      by true = refl
      by false = applied-writes f Add to from (to + 1) (pos h.word) (omega arith)

  load-writes : (skipped : Bool) (h : Home) → written_words once (load_code skipped h to) ≡ 0
  load-writes true h = refl
  load-writes false h = refl

  numbered-writes : (near : Numbering) (f : Setting) (h : Home) (from : ℕ)
      → written_words once (numbered_code near f h to from) ≡ 0
  numbered-writes Within f h from = refl
  numbered-writes Reduced f h from = applied-writes f (reducing h) to from (to + 1) (reducer h) (omega arith)
  numbered-writes Compared f h from =
      let one = Alu Remu to to (to + 1) in
      let two = Li (to + 1) (pos h.length) in
      let three = Br Lt (to + 1) (to + 2) (pos 3) in
      let four = Li (to + 2) (least_word +ℤ pos h.length) in
      let five = Alu Add (to + 1) (to + 1) to in
      none-more once (Li (to + 1) least_word) (five ∷ four ∷ three ∷ two ∷ one ∷ []) refl
      (none-more once five (four ∷ three ∷ two ∷ one ∷ []) (low-plain (to + 1) (omega arith))
      (none-more once four (three ∷ two ∷ one ∷ []) refl
      (none-more once three (two ∷ one ∷ []) refl
      (none-more once two (one ∷ []) refl (none-more once one [] (low-plain to (omega arith)) refl)))))

  located-writes : (near : Numbering) (f : Setting) (h : Home) (from : ℕ) (fixed : Option ℤ) (index : List Instr)
      → written_words once index ≡ 0 → written_words once (located_code near f h to from fixed index) ≡ 0
  located-writes near f h from (Some z) index none = refl
  located-writes near f h from None index none =
      none-then once index (numbered_code near f h to from ++ shift_code f h to) none
      (none-then once (numbered_code near f h to from) (shift_code f h to) (numbered-writes near f h from)
      (shift-writes f h))

  placed-writes : (near : Numbering) (f : Setting) (h : Home) (from : ℕ) (fixed : Option ℤ) (index : List Instr)
      → written_words once index ≡ 0 → written_words once (placed_code near f h to from fixed index) ≡ 0
  placed-writes near f h from (Some z) index none = refl
  placed-writes near f h from None index none =
      let at = numbered_register near to from in
      none-then once index (numbered_code near f h to from ++ offset_code f h to at) none
      (none-then once (numbered_code near f h to from) (offset_code f h to at) (numbered-writes near f h from)
      (offset-writes f h at))

  access-writes : (f : Setting) (mode : Mode) (near : Numbering) (h : Home) (from : ℕ) (fixed : Option ℤ)
      (index : List Instr) → written_words once index ≡ 0
      → written_words once (access_code near f mode h to from fixed index) ≡ 0
  access-writes f mode near h from fixed index none = by h.resident
    where
      by : (b : Bool) → written_words once (access_by b near f mode h to from fixed index) ≡ 0
      by true = placed-writes near f h from fixed index none
      by false =
          none-then once (located_code near f h to from fixed index) (load_code (skips mode h) h to)
          (located-writes near f h from fixed index none) (load-writes (skips mode h) h)

  scalar-writes : (found : Option ℕ) (h : Home) → written_words once (scalar_code found h to) ≡ 0
  scalar-writes None h =
      none-more once (Li to (pos h.word)) (Ldw to h.slot to ∷ []) refl (read-none once to h.slot to (omega arith))
  scalar-writes (Some r) h = none-more once (Alu Add to r public_zero) [] (low-plain to (omega arith)) refl

  steps-writes : (steps : List Step) → All StepFits steps → written_words once (code_of to steps) ≡ 0
  steps-writes [] fits = refl
  steps-writes (Constant rd value ∷ steps) fits =
      none-more once (Li (numbered to rd) value) (code_of to steps) refl
      (steps-writes steps (All-tail StepFits (Constant rd value) steps fits))
  steps-writes (Compute op rd left right ∷ steps) fits =
      let first = All-head StepFits (Compute op rd left right) steps fits in
      none-more once (Alu op (numbered to rd) (numbered to left) (numbered to right)) (code_of to steps)
      (low-plain (numbered to rd) (omega (arith, numbered-to to 2 rd first.0)))
      (steps-writes steps (All-tail StepFits (Compute op rd left right) steps fits))

  operation-writes : (f : Setting) (op : Op) (b : Tree) (left right : ℕ) (found : Option (List Step))
      → steps_at f op b ≡ found → (code : List Instr) → written_words once code ≡ 0
      → written_words once (operation_code op to left right found code) ≡ 0
  operation-writes f op b left right None is code none =
      none-then once code (Alu op to left right ∷ []) none
      (none-more once (Alu op to left right) [] (low-plain to (omega arith)) refl)
  operation-writes f op b left right (Some steps) is code none =
      let of = steps-of f op b steps is in let replaces = of.replaces in steps-writes steps replaces.fits

-- so does that of an operand
operand-writes : (once : Bool) (q : Option ℕ) (code : List Instr) → written_words once code ≡ 0 → written_words once (operand_part q code) ≡ 0
operand-writes once (Some r) code none = refl
operand-writes once None code none = none

-- an expression writes neither a scalar nor an element
pub expr-writes : (once : Bool) (f : Setting) (mode : Mode) (to : ℕ) (e : Tree) → to + height_of e ≤ 17
    → written_words once (expr_code f mode to e) ≡ 0
expr-writes once f mode to (Number z) low = refl
expr-writes once f mode to (Variable x) low = scalar-writes once to (omega arith) (register_for f x) (home_of f x)
expr-writes once f mode to (Element x i) low =
    let h = home_of f x in
    let near = numbering f mode h i in
    let q = index_operand f near h i in
    none-then once (indexed_code f near mode h to i (expr_code f mode to i)) (read_code f h (fixed_index h i) to)
    (access-writes once to (omega (arith, height-some i)) f mode near h (operand_register q to) (fixed_index h i)
    (operand_part q (expr_code f mode to i))
    (operand-writes once q (expr_code f mode to i) (expr-writes once f mode to i (omega arith))))
    (read-writes once f h (fixed_index h i) to (omega (arith, low, height-some i)))
expr-writes once f mode to (Operation op a b) low =
    let q = left_operand f op a b in
    let left = operand_register q to in
    let right = operand_register (operand f b) (to + 1) in
    let second = operand_part (operand f b) (expr_code f mode (to + 1) b) in
    none-then once (operand_part q (expr_code f mode to a)) (operation_code op to left right (steps_at f op b) second)
    (operand-writes once q (expr_code f mode to a) (expr-writes once f mode to a (omega arith)))
    (operation-writes once to (omega arith) f op b left right (steps_at f op b) refl second
    (operand-writes once (operand f b) (expr_code f mode (to + 1) b) (expr-writes once f mode (to + 1) b (omega arith))))

-- what writes a scalar
target-writes : (f : Setting) → IsSoundHeld f.decls f.held → (mode : Mode) (x : List ℕ) (r : ℕ) → register_for f x ≡ Some r
    → (op : Op) (left right : ℕ) → written_words f.reduces (Alu op (target mode r) left right ∷ []) ≡ by_mode mode 1 0
target-writes f sound mode x r is op left right = by mode
  where
    held : written_words f.reduces (Alu op r left right ∷ []) ≡ 1
    held =
        written-one f.reduces (Alu op r left right) true (lt-ltb public_zero r (omega (arith, register-own f sound x r is)))

    by : (m : Mode) → written_words f.reduces (Alu op (target m r) left right ∷ []) ≡ by_mode m 1 0
    by Public = held
    by Real = held
    by Mirrored = refl

write-writes : (f : Setting) → IsSoundHeld f.decls f.held → (mode : Mode) (x : List ℕ) (l : Label) (found : Option ℕ)
    → register_for f x ≡ found → (value : ℕ)
    → written_words f.reduces (write_code f.reduces found l mode (home_of f x) value)
    ≡ by_mode mode 1 (if is_some found then 0 else 1)
write-writes f sound mode x l (Some r) is value = target-writes f sound mode x r is Add value (zero_of l)
write-writes f sound mode x l None is value =
    let h = home_of f x in
    let none : written_words f.reduces (Li 1 (pos h.word) ∷ []) ≡ 0 = refl in
    written-append f.reduces (Li 1 (pos h.word) ∷ []) (store_code f.reduces mode h.slot value)
    ∙ (omega (arith, none, store-writes f.reduces mode h.slot value) ∙ one mode)
  where
    one : (m : Mode) → ◌≡◌ {A = ℕ} 1 (by_mode m 1 1)
    one Public = refl
    one Real = refl
    one Mirrored = refl

-- an operation that leaves its result in the register that holds a scalar
straight-writes : (f : Setting) → IsSoundHeld f.decls f.held → (mode : Mode) (x : List ℕ) (r : ℕ)
    → register_for f x ≡ Some r → (op : Op) (a b : Tree) → height_of (Operation op a b) ≤ 17
    → written_words f.reduces (straight_code f mode (target mode r) (Operation op a b)) ≡ by_mode mode 1 0
straight-writes f sound mode x r is op a b low =
    let q = operand f a in
    let p = operand f b in
    let one = operand_part q (expr_code f mode 0 a) in
    let two = operand_part p (expr_code f mode 1 b) in
    let last = Alu op (target mode r) (operand_register q 0) (operand_register p 1) ∷ [] in
    written-append f.reduces one (two ++ last)
    ∙ omega (
      arith,
      operand-writes f.reduces q (expr_code f mode 0 a) (expr-writes f.reduces f mode 0 a (omega (arith, low))),
      written-append f.reduces two last,
      operand-writes f.reduces p (expr_code f mode 1 b) (expr-writes f.reduces f mode 1 b (omega (arith, low))),
      target-writes f sound mode x r is op (operand_register q 0) (operand_register p 1),
    )

-- as many words are written as are stored of an element's array
element-writes : (f : Setting) (mode : Mode) (x : List ℕ) (i e : Tree) → LowStatement (SetElement x i e)
    → written_words f.reduces (set_code f mode (SetElement x i e)) ≡ set_stores f (SetElement x i e)
element-writes f mode x i e low =
    let h = home_of f x in
    let near = numbering f mode h i in
    let q = operand f e in
    let q_of_index = index_operand f near h i in
    let value = operand_part q (expr_code f mode 0 e) in
    let access = indexed_code f near mode h 1 i (expr_code f mode 1 i) in
    let store = stored_code f mode h (fixed_index h i) (operand_register q 0) in
    let none = access-writes f.reduces 1 (omega arith) f mode near h (operand_register q_of_index 1) (fixed_index h i)
    (operand_part q_of_index (expr_code f mode 1 i))
    (operand-writes f.reduces q_of_index (expr_code f mode 1 i) (expr-writes f.reduces f mode 1 i (omega (arith, low.0)))) in
    written-append f.reduces value (access ++ store)
    ∙ omega (
      arith,
      operand-writes f.reduces q (expr_code f mode 0 e) (expr-writes f.reduces f mode 0 e (omega (arith, low.1))),
      written-append f.reduces access store,
      none,
      stored-writes f mode h (fixed_index h i) (operand_register q 0) (operand-outside f e q (is-operand f e)),
    )

-- an assignment writes one scalar, or as many words as it stores of an element's array
pub set-writes : (f : Setting) → IsSoundHeld f.decls f.held → (mode : Mode) (t : Statement) → IsAssignment t
    → LowStatement t → written_words f.reduces (set_code f mode t) ≡ mode_writes mode f t
set-writes f sound mode (SetVariable x e) is low = by (straight f x e) refl
  where
    by : (way : Option ℕ) → straight f x e ≡ way
        → written_words f.reduces (scalar_set way f mode x e) ≡ mode_writes mode f (SetVariable x e)
    by (Some r) known =
        straight-by f x e r known
        (λ t. height_of t ≤ 17 → written_words f.reduces (straight_code f mode (target mode r) t)
        ≡ mode_writes mode f (SetVariable x e))
        (λ op a b straight_is high.
        straight-writes f sound mode x r straight_is.held op a b high
        ∙ sym (ap (λ (found : Option ℕ). by_mode mode 1 (if is_some found then 0 else 1)) straight_is.held))
        (omega (arith, low))
    by None known =
        let l = label_of (context_of f.decls) (Variable x) in
        let found = register_for f x in
        let q = operand f e in
        let from = operand_register q 0 in
        written-append f.reduces (operand_part q (expr_code f mode 0 e)) (write_code f.reduces found l mode (home_of f x) from)
        ∙ omega (
          arith,
          operand-writes f.reduces q (expr_code f mode 0 e) (expr-writes f.reduces f mode 0 e (omega (arith, low))),
          write-writes f sound mode x l found refl from,
        )
set-writes f sound mode (SetElement x i e) is low =
    element-writes f mode x i e low ∙ either mode (set_stores f (SetElement x i e))
  where
    either : (m : Mode) (n : ℕ) → n ≡ by_mode m n n
    either Public n = refl
    either Real n = refl
    either Mirrored n = refl
set-writes f sound mode (Choice t a b) is low = absurd is
set-writes f sound mode (Loop t a) is low = absurd is
