-- How long the code of expressions, guards and assignments is, and how many notes it has.
use Rattle.std.proofs.Common.{refl, ◌≡◌, ℕ, ◌+◌, ◌*◌, ◌≤◌, Bool, true, false, List, [], ◌∷◌, ◌++◌, length, Option, Some, None, ℤ, pos, arith, length-append}
use Rattle.std.specs.Prelude.{if◌then◌else◌, ◌==◌}
use Rattle.gr_word.specs.declared.variables.Label.{Label}
use Rattle.lt_isa.specs.declared.instructions.Instr.{Instr}
use Rattle.lt_isa.specs.declared.instructions.Instr.TheVariants.{Li, Alu}
use Rattle.gr_word.specs.declared.operations.Op.{Op}
use Rattle.gr_word.specs.declared.operations.Op.TheVariants.{Add, Shr}
use Rattle.src_tree.specs.Prelude.{Context, context_of, label_of, Tree, Number, Variable, Element, Operation, Test, Statement, SetVariable, SetElement, Choice, Loop, tree_weight, test_weight, statement_weight}
use Rattle.block_cache_gen.specs.declared.frames.Mode.{Mode}
use Rattle.block_cache_gen.specs.Prelude.{IsAssignment, Home, Setting, home_of, register_for, read_code, held_number, applied_code, reducing, reducer, numbering, numbered_code, numbered_register, shift_code, offset_code, placed_code, stored_code, located_code, load_code, skips, access_by, access_code, index_operand, indexed_code, fixed_index, operand, operand_part, operand_register, left_operand, operation_code, steps_at, expr_code, guard_code, set_code, scalar_code, write_code, straight, scalar_set, target}
use Rattle.block_cache_gen.specs.declared.indexes.Numbering.{Numbering}
use Rattle.block_cache_gen.specs.declared.indexes.Numbering.TheVariants.{Compared, Reduced, Within}
use Rattle.block_cache_gen.proofs.HeldOperands.{operand-short}
use Rattle.block_cache_gen.proofs.ElementCodes.{read-short, store_short, stored-short}
use Rattle.block_cache_gen.proofs.StepsAt.{operation-short}
use Rattle.block_cache_gen.proofs.StraightCodes.{straight-length}

-- an operation on a number takes two instructions at most, and one at least
applied_short : (f : Setting) (op : Op) (to from own : ℕ) (z : ℤ) → length (applied_code f op to from own z) ≤ 2
applied_short f op to from own z =
    let q = held_number f z in
    omega (
      arith,
      length-append (operand_part q (Li own z ∷ [])) (Alu op to from (operand_register q own) ∷ []),
      operand-short q (Li own z ∷ []),
    )

pub applied_some : (f : Setting) (op : Op) (to from own : ℕ) (z : ℤ) → 1 ≤ length (applied_code f op to from own z)
applied_some f op to from own z =
    let q = held_number f z in
    omega (arith, length-append (operand_part q (Li own z ∷ [])) (Alu op to from (operand_register q own) ∷ []))

-- a number of a word takes six instructions at most, and six if the index is compared
numbered_short : (near : Numbering) (f : Setting) (h : Home) (to from : ℕ) → length (numbered_code near f h to from) ≤ 6
numbered_short Compared f h to from = omega arith
numbered_short Reduced f h to from = omega (arith, applied_short f (reducing h) to from (to + 1) (reducer h))
numbered_short Within f h to from = omega arith

pub compared_some : (near : Numbering) (f : Setting) (h : Home) (to from : ℕ) → near ≡ Compared
    → 6 ≤ length (numbered_code near f h to from)
compared_some Compared f h to from is = omega arith
compared_some Reduced f h to from is = absurd (cc)
compared_some Within f h to from is = absurd (cc)

-- that of a block four, and two at least
shift_length : (f : Setting) (h : Home) (to : ℕ)
    → (2 ≤ length (shift_code f h to)) × (length (shift_code f h to) ≤ 4)
shift_length f h to =
    let log = pos f.profile.block_log in
    let block = pos h.block in
    let first = applied_code f Shr (to + 1) to (to + 1) log in
    let both = length-append first (applied_code f Add (to + 1) (to + 1) (to + 2) block) in (
      omega (arith, both, applied_some f Shr (to + 1) to (to + 1) log, applied_some f Add (to + 1) (to + 1) (to + 2) block),
      omega (
        arith,
        both,
        applied_short f Shr (to + 1) to (to + 1) log,
        applied_short f Add (to + 1) (to + 1) (to + 2) block,
      ),
    )

shift_short : (f : Setting) (h : Home) (to : ℕ) → length (shift_code f h to) ≤ 4
shift_short f h to = (shift_length f h to).1

pub shift_some : (f : Setting) (h : Home) (to : ℕ) → 2 ≤ length (shift_code f h to)
shift_some f h to = (shift_length f h to).0

pub load_short : (skipped : Bool) (h : Home) (to : ℕ) → length (load_code skipped h to) ≤ 3
load_short true h to = omega arith
load_short false h to = omega arith

-- ten instructions at most make of an index the numbers of a word and a block
pub located_short : (near : Numbering) (f : Setting) (h : Home) (to from : ℕ) (fixed : Option ℤ) (index : List Instr)
    → length (located_code near f h to from fixed index) ≤ length index + 10
located_short near f h to from (Some z) index = omega arith
located_short near f h to from None index =
    omega (
      arith,
      length-append index (numbered_code near f h to from ++ shift_code f h to),
      length-append (numbered_code near f h to from) (shift_code f h to),
      numbered_short near f h to from,
      shift_short f h to,
    )

pub offset_short : (f : Setting) (h : Home) (to from : ℕ) → length (offset_code f h to from) ≤ 2
offset_short f h to from = by (h.word == 0)
  where
    by : (first : Bool) → length (if first then [] else applied_code f Add to from (to + 1) (pos h.word)) ≤ 2
    by true = omega arith
    by false = applied_short f Add to from (to + 1) (pos h.word)

-- as long by each register
pub offset_length : (f : Setting) (h : Home) (to from : ℕ)
    → length (offset_code f h to from) ≡ length (offset_code f h to to)
offset_length f h to from = by (h.word == 0) (held_number f (pos h.word))
  where
    by : (first : Bool) (q : Option ℕ)
        → length (if first then []
        else operand_part q (Li (to + 1) (pos h.word) ∷ []) ++ Alu Add to from (operand_register q (to + 1)) ∷ [])
        ≡ length (if first then []
        else operand_part q (Li (to + 1) (pos h.word) ∷ []) ++ Alu Add to to (operand_register q (to + 1)) ∷ [])
    by true q = refl
    by false None = refl
    by false (Some r) = refl

pub scalar_short : (r : Option ℕ) (h : Home) (to : ℕ) → length (scalar_code r h to) ≤ 2
scalar_short None h to = omega arith
scalar_short (Some r) h to = omega arith

-- an access takes at most 13 instructions after the index
pub access_short : (near : Numbering) (f : Setting) (mode : Mode) (h : Home) (to from : ℕ) (fixed : Option ℤ)
    (index : List Instr) → length (access_code near f mode h to from fixed index) ≤ length index + 13
access_short near f mode h to from fixed index = by h.resident
  where
    placed : (g : Option ℤ) → length (placed_code near f h to from g index) ≤ length index + 13
    placed (Some z) = omega arith
    placed None =
        let at = numbered_register near to from in
        omega (
          arith,
          length-append index (numbered_code near f h to from ++ offset_code f h to at),
          length-append (numbered_code near f h to from) (offset_code f h to at),
          numbered_short near f h to from,
          offset_short f h to at,
        )

    by : (b : Bool) → length (access_by b near f mode h to from fixed index) ≤ length index + 13
    by true = placed fixed
    by false =
        let e = length-append (located_code near f h to from fixed index) (load_code (skips mode h) h to) in
        let l = located_short near f h to from fixed index in
        let s = load_short (skips mode h) h to in
        omega arith

-- so of an index that a register may hold
pub indexed_short : (f : Setting) (near : Numbering) (mode : Mode) (h : Home) (to : ℕ) (i : Tree) (index : List Instr)
    → length (indexed_code f near mode h to i index) ≤ length index + 13
indexed_short f near mode h to i index =
    let q = index_operand f near h i in
    let s = access_short near f mode h to (operand_register q to) (fixed_index h i)
    (operand_part q index) in
    let l = operand-short q index in
    omega arith

-- at most 48 instructions a node
pub expr_code_short : (f : Setting) (mode : Mode) (to : ℕ) (e : Tree)
    → length (expr_code f mode to e) ≤ 48 * tree_weight e
expr_code_short f mode to (Number z) = omega arith
expr_code_short f mode to (Variable x) = omega (arith, scalar_short (register_for f x) (home_of f x) to)
expr_code_short f mode to (Element x i) =
    let h = home_of f x in
    let near = numbering f mode h i in
    let code = indexed_code f near mode h to i (expr_code f mode to i) in
    let e = length-append code (read_code f h (fixed_index h i) to) in
    let r = (read-short f h (fixed_index h i) to).1 in
    let s = indexed_short f near mode h to i (expr_code f mode to i) in
    let k = expr_code_short f mode to i in
    omega arith
expr_code_short f mode to (Operation op a b) =
    let q = left_operand f op a b in
    let left = operand_part q (expr_code f mode to a) in
    let right = operand_part (operand f b) (expr_code f mode (to + 1) b) in
    let ra = operand_register q to in
    let rb = operand_register (operand f b) (to + 1) in
    let e = length-append left (operation_code op to ra rb (steps_at f op b) right) in
    let h = expr_code_short f mode to a in
    let l = operand-short q (expr_code f mode to a) in
    let m = expr_code_short f mode (to + 1) b in
    let n = operand-short (operand f b) (expr_code f mode (to + 1) b) in
    let k = operation-short f op to ra rb b right (omega arith) in
    omega arith

-- at most 48 instructions a unit of a guard's weight
pub guard_code_short : (f : Setting) (mode : Mode) (to : ℕ) (t : Test)
    → length (guard_code f mode to t) ≤ 48 * test_weight t
guard_code_short f mode to t =
    let e = length-append (expr_code f mode to t.left) (expr_code f mode (to + 1) t.right) in
    let h = expr_code_short f mode to t.left in
    let k = expr_code_short f mode (to + 1) t.right in
    omega arith

pub write_short : (once : Bool) (r : Option ℕ) (l : Label) (mode : Mode) (h : Home) (value : ℕ)
    → length (write_code once r l mode h value) ≤ 3
write_short once (Some r) l mode h value = omega arith
write_short once None l mode h value = omega (arith, (store_short once mode h.slot value).1)

-- at most 57 instructions a unit of an assignment's weight
pub set_code_short : (f : Setting) (mode : Mode) (known : Context) (code : Label) (s : Statement) → IsAssignment s
    → length (set_code f mode s) ≤ 57 * statement_weight known code s
set_code_short f mode known code (SetVariable x e) is = by (straight f x e) refl
  where
    by : (found : Option ℕ) → straight f x e ≡ found
        → length (scalar_set found f mode x e) ≤ 57 * statement_weight known code (SetVariable x e)
    by (Some r) found =
        let l = straight-length f x e r found mode (target mode r) in
        let k = expr_code_short f mode 0 e in
        omega arith
    by None found =
        let h = home_of f x in
        let label = label_of (context_of f.decls) (Variable x) in
        let value = operand_register (operand f e) 0 in
        let write = write_code f.reduces (register_for f x) label mode h value in
        let l = length-append (operand_part (operand f e) (expr_code f mode 0 e)) write in
        let k = expr_code_short f mode 0 e in
        let p = operand-short (operand f e) (expr_code f mode 0 e) in
        let s = write_short f.reduces (register_for f x) label mode h value in
        omega arith
set_code_short f mode known code (SetElement x i e) is =
    let h = home_of f x in
    let index = expr_code f mode 1 i in
    let access = indexed_code f (numbering f mode h i) mode h 1 i index in
    let value = operand_register (operand f e) 0 in
    let last = stored_code f mode h (fixed_index h i) value in
    let l = length-append (operand_part (operand f e) (expr_code f mode 0 e)) (access ++ last) in
    let m = length-append access last in
    let a = indexed_short f (numbering f mode h i) mode h 1 i index in
    let k = expr_code_short f mode 0 e in
    let p = operand-short (operand f e) (expr_code f mode 0 e) in
    let j = expr_code_short f mode 1 i in
    let s = (stored-short f mode h (fixed_index h i) value).1 in
    omega arith
set_code_short f mode known code (Choice t a b) is = absurd is
set_code_short f mode known code (Loop t a) is = absurd is
