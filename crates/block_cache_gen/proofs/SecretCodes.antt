-- The codes of the two secret modes: the same but for the register that a store or a copy to a scalar takes, with at most
-- one store in an assignment and none in an expression.
use Rattle.std.proofs.Common.{◌≡◌, ℕ, ◌+◌, ◌==◌, Bool, true, false, not, ◌&&◌, ℤ, pos, List, [], ◌∷◌, ◌++◌, Option, Some, None, refl, sym, ap, ◌∙◌, subst, arith}
use Rattle.std.specs.Prelude.{cond, is_some, if◌then◌else◌}
use Rattle.std.proofs.lemmas.Bool.{lt-ltb}
use Rattle.std.proofs.lemmas.List.Sums.{sum_by-append}
use Rattle.gr_word.specs.declared.operations.Op.TheVariants.{Add, Shr}
use Rattle.lt_isa.specs.declared.instructions.Instr.{Instr}
use Rattle.lt_isa.specs.declared.instructions.Instr.TheVariants.{Li, Alu, Ldw}
use Rattle.src_tree.specs.Prelude.{context_of, label_of, secret_label, Tree, Number, Variable, Element, Operation, Test, Statement, SetVariable, SetElement, Choice, Loop}
use Rattle.gr_word.specs.declared.variables.Label.{Label}
use Rattle.held_registers.specs.Prelude.{public_zero, IsSoundHeld}
use Rattle.block_cache_gen.proofs.HeldLabels.{register-own}
use Rattle.block_cache_gen.specs.declared.frames.Mode.{Mode}
use Rattle.block_cache_gen.specs.declared.frames.Mode.TheVariants.{Real, Mirrored}
use Rattle.block_cache_gen.specs.Prelude.{Home, Setting, home_of, register_for, read_code, may_skip_loads, is_cached, is_masked, fixed_index, held_number, applied_code, reducing, reducer, shift_code, located_code, offset_code, placed_code, stored_code, access_by, load_code, skips, access_code, operand, operand_part, operand_register, left_operand, index_operand, indexed_code, expr_code, guard_code, set_code, operation_code, steps_at, is_within_home, numbering_by, numbering, numbered_code, numbered_register, zero_of, scalar_code, store_code, write_code, straight, scalar_set, straight_code, target, set_stores, is_store, stored_words, Itself, Dropped, Mirrors, Ends, Goes}
use Rattle.block_cache_gen.specs.declared.indexes.Numbering.{Numbering}
use Rattle.block_cache_gen.specs.declared.indexes.Numbering.TheVariants.{Compared, Reduced, Within}
use Rattle.gr_word.specs.declared.operations.Op.{Op}
use Rattle.strength_reduction.specs.Prelude.{Step}
use Rattle.block_cache_gen.proofs.SpreadWrites.{mirrors-append, mirrors-itself, read-counts, read-stores, store-mirrors, store-stores, stored-mirrors, stored-stores}
use Rattle.block_cache_gen.proofs.StepsAt.{steps-stores}
use Rattle.block_cache_gen.proofs.StraightCodes.{straight-by}

-- an expression's code depends on the mode only in being public or secret
indexed_code-mode : (f : Setting) (m n : Mode) (near far : Numbering) (h : Home) (to : ℕ) (i : Tree)
    (one other : List Instr) → may_skip_loads m ≡ may_skip_loads n → near ≡ far → one ≡ other
    → indexed_code f near m h to i one ≡ indexed_code f far n h to i other
indexed_code-mode f m n near far h to i one other same alike index = by h.resident
  where
    by : (b : Bool)
        → access_by b near f m h to (operand_register (index_operand f near h i) to) (fixed_index h i)
        (operand_part (index_operand f near h i) one)
        ≡ access_by b far f n h to (operand_register (index_operand f far h i) to) (fixed_index h i)
        (operand_part (index_operand f far h i) other)
    by true = λ k.
        placed_code (alike k) f h to (operand_register (index_operand f (alike k) h i) to) (fixed_index h i)
        (operand_part (index_operand f (alike k) h i) (index k))
    by false = λ k.
        located_code (alike k) f h to (operand_register (index_operand f (alike k) h i) to)
        (fixed_index h i) (operand_part (index_operand f (alike k) h i) (index k))
        ++ load_code (same k && is_cached h) h to

numbering-mode : (f : Setting) (m n : Mode) (h : Home) (i : Tree) → may_skip_loads m ≡ may_skip_loads n
    → numbering f m h i ≡ numbering f n h i
numbering-mode f m n h i same =
    ap (λ (b : Bool). numbering_by (is_within_home f h i)
    (b && (f.reduces && (not (is_masked h) && not (secret_label (label_of (context_of f.decls) i))))))
    same

pub expr_code-mode : (f : Setting) (m n : Mode) (to : ℕ) (e : Tree) → may_skip_loads m ≡ may_skip_loads n
    → expr_code f m to e ≡ expr_code f n to e
expr_code-mode f m n to (Number z) same = refl
expr_code-mode f m n to (Variable x) same = refl
expr_code-mode f m n to (Element x i) same =
    ap (λ (code : List Instr). code ++ read_code f (home_of f x) (fixed_index (home_of f x) i) to)
    (indexed_code-mode f m n (numbering f m (home_of f x) i) (numbering f n (home_of f x) i) (home_of f x) to i
    (expr_code f m to i) (expr_code f n to i) same
    (numbering-mode f m n (home_of f x) i same) (expr_code-mode f m n to i same))
expr_code-mode f m n to (Operation op a b) same =
    let left = expr_code-mode f m n to a same in
    let right = expr_code-mode f m n (to + 1) b same in
    let q = left_operand f op a b in
    λ i.
    operand_part q (left i)
    ++ operation_code op to (operand_register q to) (operand_register (operand f b) (to + 1)) (steps_at f op b)
    (operand_part (operand f b) (right i))

-- So the codes of an assignment in the two secret modes are the same but for what writes.
ends-mirror : (once : Bool) (first second one other : List Instr) → Mirrors once one other
    → Mirrors once (first ++ (second ++ one)) (first ++ (second ++ other))
ends-mirror once first second one other same =
    mirrors-append once first first (second ++ one) (second ++ other) (mirrors-itself once first)
    (mirrors-append once second second one other (mirrors-itself once second) same)

-- what is for a register that holds a scalar is left in register 0
target-mirrors : (f : Setting) → IsSoundHeld f.decls f.held → (x : List ℕ) (r : ℕ) → register_for f x ≡ Some r
    → (op : Op) (left right : ℕ) → Mirrors f.reduces (Alu op r left right ∷ []) (Alu op 0 left right ∷ [])
target-mirrors f sound x r is op left right =
    Goes (Alu op r left right) (Alu op 0 left right) [] []
    (Dropped op r left right (lt-ltb public_zero r (omega (arith, register-own f sound x r is)))) Ends

write-mirrors : (f : Setting) → IsSoundHeld f.decls f.held → (x : List ℕ) (found : Option ℕ) → register_for f x ≡ found
    → (l : Label) (h : Home) (value : ℕ)
    → Mirrors f.reduces (write_code f.reduces found l Real h value) (write_code f.reduces found l Mirrored h value)
write-mirrors f sound x None is l h value =
    let first = Li 1 (pos h.word) in
    Goes first first (store_code f.reduces Real h.slot value) (store_code f.reduces Mirrored h.slot value) (Itself first)
    (store-mirrors f.reduces h.slot value)
write-mirrors f sound x (Some r) is l h value = target-mirrors f sound x r is Add value (zero_of l)

-- with and without effect the code is the same but for what writes
pub set_code-mirrors : (f : Setting) → IsSoundHeld f.decls f.held → (a : Statement)
    → Mirrors f.reduces (set_code f Real a) (set_code f Mirrored a)
set_code-mirrors f sound (SetVariable x e) = by (straight f x e) refl
  where
    by : (way : Option ℕ) → straight f x e ≡ way
        → Mirrors f.reduces (scalar_set way f Real x e) (scalar_set way f Mirrored x e)
    by (Some r) is =
        straight-by f x e r is
        (λ t. Mirrors f.reduces (straight_code f Real r t) (straight_code f Mirrored 0 t))
        (λ op a b known.
        let q = operand f a in
        let p = operand f b in
        let left = operand_register q 0 in
        let right = operand_register p 1 in
        let one = operand_part q (expr_code f Real 0 a) in
        let two = operand_part p (expr_code f Real 1 b) in
        let same = ap (operand_part q) (expr_code-mode f Real Mirrored 0 a refl) in
        let alike = ap (operand_part p) (expr_code-mode f Real Mirrored 1 b refl) in
        let last = Alu op 0 left right ∷ [] in
        let codes : ◌≡◌ {A = List Instr} (one ++ (two ++ last)) (straight_code f Mirrored 0 (Operation op a b)) =
        λ k. same k ++ (alike k ++ last) in
        subst (λ (code : List Instr). Mirrors f.reduces (straight_code f Real r (Operation op a b)) code) codes
        (ends-mirror f.reduces one two (Alu op r left right ∷ []) last
        (target-mirrors f sound x r known.held op left right)))
    by None is =
        let q = operand f e in
        let same = ap (operand_part q) (expr_code-mode f Real Mirrored 0 e refl) in
        let found = register_for f x in
        let l = label_of (context_of f.decls) (Variable x) in
        let h = home_of f x in
        let from = operand_register q 0 in
        let first = operand_part q (expr_code f Real 0 e) in
        let one = write_code f.reduces found l Real h from in
        let other = write_code f.reduces found l Mirrored h from in
        subst (λ (code : List Instr). Mirrors f.reduces (first ++ one) (code ++ other)) same
        (mirrors-append f.reduces first first one other (mirrors-itself f.reduces first)
        (write-mirrors f sound x found refl l h from))
set_code-mirrors f sound (SetElement x i e) =
    let h = home_of f x in
    let q = operand f e in
    let from = operand_register q 0 in
    let value = ap (operand_part q) (expr_code-mode f Real Mirrored 0 e refl) in
    let near = numbering f Real h i in
    let access = indexed_code-mode f Real Mirrored near near h 1 i (expr_code f Real 1 i)
    (expr_code f Mirrored 1 i) refl refl
    (expr_code-mode f Real Mirrored 1 i refl) in
    let one = stored_code f Real h (fixed_index h i) from in
    let other = stored_code f Mirrored h (fixed_index h i) from in
    let first = operand_part q (expr_code f Real 0 e) in
    let second = indexed_code f near Real h 1 i (expr_code f Real 1 i) in
    let codes : ◌≡◌ {A = List Instr} (first ++ (second ++ other)) (set_code f Mirrored (SetElement x i e)) =
    λ k. value k ++ (access k ++ other) in
    subst (λ (code : List Instr). Mirrors f.reduces (set_code f Real (SetElement x i e)) code) codes
    (ends-mirror f.reduces first second one other (stored-mirrors f h (fixed_index h i) from))
set_code-mirrors f sound (Choice t a b) = Ends
set_code-mirrors f sound (Loop t a) = Ends

module _ (once : Bool) where
  -- stores of code after other code
  pub stored-append : (xs ys : List Instr) → stored_words once (xs ++ ys) ≡ stored_words once xs + stored_words once ys
  stored-append xs ys = sum_by-append (λ i. cond (is_store once i) 1 0) xs ys

  operand-stores : (q : Option ℕ) (code : List Instr) → stored_words once code ≡ 0 → stored_words once (operand_part q code) ≡ 0
  operand-stores (Some r) code none = refl
  operand-stores None code none = none

  applied-stores : (f : Setting) (op : Op) (to from own : ℕ) (z : ℤ)
      → stored_words once (applied_code f op to from own z) ≡ 0
  applied-stores f op to from own z = by (held_number f z)
    where
      by : (q : Option ℕ)
          → stored_words once (operand_part q (Li own z ∷ []) ++ Alu op to from (operand_register q own) ∷ []) ≡ 0
      by None = refl
      by (Some r) = refl

  offset-stores : (f : Setting) (h : Home) (to from : ℕ) → stored_words once (offset_code f h to from) ≡ 0
  offset-stores f h to from = by (h.word == 0)
    where
      by : (first : Bool) → stored_words once (if first then [] else applied_code f Add to from (to + 1) (pos h.word)) ≡ 0
      by true = refl
      by false = applied-stores f Add to from (to + 1) (pos h.word)

  numbered-stores : (near : Numbering) (f : Setting) (h : Home) (to from : ℕ)
      → stored_words once (numbered_code near f h to from) ≡ 0
  numbered-stores Compared f h to from = refl
  numbered-stores Within f h to from = refl
  numbered-stores Reduced f h to from = applied-stores f (reducing h) to from (to + 1) (reducer h)

  located-stores : (near : Numbering) (f : Setting) (h : Home) (to from : ℕ) (fixed : Option ℤ) (index : List Instr)
      → stored_words once index ≡ 0 → stored_words once (located_code near f h to from fixed index) ≡ 0
  located-stores near f h to from (Some z) index none = refl
  located-stores near f h to from None index none =
      stored-append index (numbered_code near f h to from ++ shift_code f h to)
      ∙ omega (
        arith,
        none,
        stored-append (numbered_code near f h to from) (shift_code f h to),
        numbered-stores near f h to from,
        blocks,
      )
    where
      blocks : stored_words once (shift_code f h to) ≡ 0
      blocks =
          let log = pos f.profile.block_log in
          let block = pos h.block in
          stored-append (applied_code f Shr (to + 1) to (to + 1) log) (applied_code f Add (to + 1) (to + 1) (to + 2) block)
          ∙ omega (
            arith,
            applied-stores f Shr (to + 1) to (to + 1) log,
            applied-stores f Add (to + 1) (to + 1) (to + 2) block,
          )

  load-stores : (skips_load : Bool) (h : Home) (to : ℕ) → stored_words once (load_code skips_load h to) ≡ 0
  load-stores true h to = refl
  load-stores false h to = refl

  access-stores : (f : Setting) (mode : Mode) (near : Numbering) (h : Home) (to from : ℕ) (fixed : Option ℤ)
      (index : List Instr) → stored_words once index ≡ 0
      → stored_words once (access_code near f mode h to from fixed index) ≡ 0
  access-stores f mode near h to from fixed index none = by h.resident
    where
      placed : (g : Option ℤ) → stored_words once (placed_code near f h to from g index) ≡ 0
      placed (Some z) = refl
      placed None =
          let at = numbered_register near to from in
          let offset = offset-stores f h to at in
          stored-append index (numbered_code near f h to from ++ offset_code f h to at)
          ∙ omega (
            arith,
            none,
            stored-append (numbered_code near f h to from) (offset_code f h to at),
            numbered-stores near f h to from,
            offset,
          )

      by : (b : Bool) → stored_words once (access_by b near f mode h to from fixed index) ≡ 0
      by true = placed fixed
      by false =
          stored-append (located_code near f h to from fixed index) (load_code (skips mode h) h to)
          ∙ omega (
            arith,
            located-stores near f h to from fixed index none,
            load-stores (skips mode h) h to,
          )

  operation-stores : (op : Op) (to left right : ℕ) (found : Option (List Step)) (code : List Instr)
      → stored_words once code ≡ 0 → stored_words once (operation_code op to left right found code) ≡ 0
  operation-stores op to left right None code none =
      stored-append code (Alu op to left right ∷ []) ∙ ap (λ (n : ℕ). n + 0) none
  operation-stores op to left right (Some steps) code none = steps-stores once to steps

  scalar-stores : (found : Option ℕ) (h : Home) (to : ℕ) → stored_words once (scalar_code found h to) ≡ 0
  scalar-stores None h to =
      let none : stored_words once (Li to (pos h.word) ∷ []) ≡ 0 = refl in
      stored-append (Li to (pos h.word) ∷ []) (Ldw to h.slot to ∷ [])
      ∙ omega (arith, none, read-counts once to h.slot to (omega arith))
  scalar-stores (Some r) h to = refl

  -- an expression stores no word
  pub expr-stores : (f : Setting) (mode : Mode) (to : ℕ) (e : Tree) → stored_words once (expr_code f mode to e) ≡ 0
  expr-stores f mode to (Number z) = refl
  expr-stores f mode to (Variable x) = scalar-stores (register_for f x) (home_of f x) to
  expr-stores f mode to (Element x i) =
      let h = home_of f x in
      let near = numbering f mode h i in
      let q = index_operand f near h i in
      let index = operand_part q (expr_code f mode to i) in
      stored-append (indexed_code f near mode h to i (expr_code f mode to i)) (read_code f h (fixed_index h i) to)
      ∙ omega (
        arith,
        access-stores f mode near h to (operand_register q to) (fixed_index h i) index
            (operand-stores q (expr_code f mode to i) (expr-stores f mode to i)),
        read-stores once f h (fixed_index h i) to,
      )
  expr-stores f mode to (Operation op a b) =
      let q = left_operand f op a b in
      let left = operand_part q (expr_code f mode to a) in
      let right = operand_part (operand f b) (expr_code f mode (to + 1) b) in
      let none = operand-stores q (expr_code f mode to a) (expr-stores f mode to a) in
      let none' = operand-stores (operand f b) (expr_code f mode (to + 1) b) (expr-stores f mode (to + 1) b) in
      stored-append left
      (operation_code op to (operand_register q to) (operand_register (operand f b) (to + 1)) (steps_at f op b) right)
      ∙ (λ k. none k
      + operation-stores op to (operand_register q to) (operand_register (operand f b) (to + 1)) (steps_at f op b) right
      none' k)

  -- the code of a guard stores no word
  pub guard-stores : (f : Setting) (mode : Mode) (to : ℕ) (t : Test) → stored_words once (guard_code f mode to t) ≡ 0
  guard-stores f mode to t =
      stored-append (expr_code f mode to t.left) (expr_code f mode (to + 1) t.right)
      ∙ λ k. expr-stores f mode to t.left k + expr-stores f mode (to + 1) t.right k

  write-stores : (mode : Mode) (found : Option ℕ) (l : Label) (h : Home) (value : ℕ)
      → stored_words once (write_code once found l mode h value) ≡ (if is_some found then 0 else 1)
  write-stores mode (Some r) l h value = refl
  write-stores mode None l h value =
      let none : stored_words once (Li 1 (pos h.word) ∷ []) ≡ 0 = refl in
      stored-append (Li 1 (pos h.word) ∷ []) (store_code once mode h.slot value)
      ∙ omega (arith, none, store-stores once mode h.slot value)

  -- an operation with its result in any register stores none
  straight-stores : (f : Setting) (mode : Mode) (to : ℕ) (op : Op) (a b : Tree)
      → stored_words once (straight_code f mode to (Operation op a b)) ≡ 0
  straight-stores f mode to op a b =
      let q = operand f a in
      let p = operand f b in
      let right = operand_part p (expr_code f mode 1 b) in
      let last = operation_code op to (operand_register q 0) (operand_register p 1) None right in
      stored-append (operand_part q (expr_code f mode 0 a)) last
      ∙ omega (
        arith,
        operand-stores q (expr_code f mode 0 a) (expr-stores f mode 0 a),
        operation-stores op to (operand_register q 0) (operand_register p 1) None right
            (operand-stores p (expr_code f mode 1 b) (expr-stores f mode 1 b)),
      )

-- an assignment to a variable stores one word, or none if a register holds the variable
pub variable-stores : (f : Setting) (mode : Mode) (x : List ℕ) (e : Tree)
    → stored_words f.reduces (set_code f mode (SetVariable x e)) ≡ set_stores f (SetVariable x e)
variable-stores f mode x e = by (straight f x e) refl
  where
    by : (way : Option ℕ) → straight f x e ≡ way
        → stored_words f.reduces (scalar_set way f mode x e) ≡ set_stores f (SetVariable x e)
    by (Some r) is =
        straight-by f x e r is
        (λ t. stored_words f.reduces (straight_code f mode (target mode r) t) ≡ set_stores f (SetVariable x e))
        (λ op a b known.
        straight-stores f.reduces f mode (target mode r) op a b
        ∙ sym (ap (λ (found : Option ℕ). if is_some found then 0 else 1) known.held))
    by None is =
        let found = register_for f x in
        let l = label_of (context_of f.decls) (Variable x) in
        let q = operand f e in
        let from = operand_register q 0 in
        let written = write-stores f.reduces mode found l (home_of f x) from in
        stored-append f.reduces (operand_part q (expr_code f mode 0 e)) (write_code f.reduces found l mode (home_of f x) from)
        ∙ omega (arith, operand-stores f.reduces q (expr_code f mode 0 e) (expr-stores f.reduces f mode 0 e), written)

-- an assignment to an element stores one word, or one of each slot of its array
pub element-stores : (f : Setting) (mode : Mode) (x : List ℕ) (i e : Tree)
    → stored_words f.reduces (set_code f mode (SetElement x i e)) ≡ set_stores f (SetElement x i e)
element-stores f mode x i e =
    let h = home_of f x in
    let near = numbering f mode h i in
    let q = operand f e in
    let value = operand_part q (expr_code f mode 0 e) in
    let q_of_index = index_operand f near h i in
    let index = operand_part q_of_index (expr_code f mode 1 i) in
    let access = indexed_code f near mode h 1 i (expr_code f mode 1 i) in
    let store = stored_code f mode h (fixed_index h i) (operand_register q 0) in
    stored-append f.reduces value (access ++ store)
    ∙ omega (
      arith,
      operand-stores f.reduces q (expr_code f mode 0 e) (expr-stores f.reduces f mode 0 e),
      stored-append f.reduces access store,
      access-stores f.reduces f mode near h 1 (operand_register q_of_index 1) (fixed_index h i) index
          (operand-stores f.reduces q_of_index (expr_code f mode 1 i) (expr-stores f.reduces f mode 1 i)),
      stored-stores f mode h (fixed_index h i) (operand_register q 0),
    )
