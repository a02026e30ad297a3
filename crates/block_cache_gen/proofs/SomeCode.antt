-- No expression and no guard is made into no code; and secret code compares no index.
use Rattle.std.proofs.Common.{◌≡◌, ℕ, ◌+◌, ◌≤◌, Bool, false, not, ◌&&◌, List, [], ◌∷◌, ◌++◌, length, Option, Some, None, refl, ap, arith}
use Rattle.std.specs.Prelude.{is_some}
use Rattle.std.proofs.lemmas.List.{length-append}
use Rattle.gr_word.specs.declared.operations.Op.{Op}
use Rattle.lt_isa.specs.declared.instructions.Instr.{Instr}
use Rattle.lt_isa.specs.declared.instructions.Instr.TheVariants.{Alu}
use Rattle.strength_reduction.specs.Prelude.{Step}
use Rattle.src_tree.specs.Prelude.{context_of, label_of, secret_label, Tree, Number, Variable, Element, Operation, Test, Statement, SetVariable, SetElement, Choice, Loop}
use Rattle.gr_word.specs.declared.variables.Label.{Label}
use Rattle.block_cache_gen.specs.declared.frames.Mode.{Mode}
use Rattle.block_cache_gen.specs.Prelude.{IsAssignment, Home, Setting, home_of, register_for, may_skip_loads, is_masked, is_within_home, numbering_by, numbering, scalar_code, expr_code, fixed_index, guard_code, read_code, set_code, stored_code, write_code, indexed_code, operand, operand_part, operand_register, operand_unless, left_operand, operation_code, steps_at, straight, scalar_set, target}
use Rattle.block_cache_gen.proofs.ElementCodes.{read-short, stored-short}
use Rattle.block_cache_gen.proofs.StraightCodes.{straight-length}

scalar_code-some : (r : Option ℕ) (h : Home) (to : ℕ) → 1 ≤ length (scalar_code r h to)
scalar_code-some (Some r) h to = omega arith
scalar_code-some None h to = omega arith

-- so does an operation, whose left side is in a register of its own if steps replace the operation
operation-some : (op : Op) (to : ℕ) (q : Option ℕ) (rb : ℕ) (found : Option (List Step)) (left right : List Instr)
    → 1 ≤ length left → ((steps : List Step) → found ≡ Some steps → q ≡ None)
    → 1 ≤ length (operand_part q left ++ operation_code op to (operand_register q to) rb found right)
operation-some op to q rb None left right some own =
    let last = Alu op to (operand_register q to) rb ∷ [] in
    omega (arith, length-append (operand_part q left) (right ++ last), length-append right last)
operation-some op to q rb (Some steps) left right some own =
    let code = operation_code op to (operand_register q to) rb (Some steps) right in
    let none = ap (λ p. length (operand_part p left)) (own steps refl) in
    omega (arith, length-append (operand_part q left) code, none)

-- an expression has an instruction at least, and so has a guard
pub expr_code-some : (f : Setting) (m : Mode) (to : ℕ) (e : Tree) → 1 ≤ length (expr_code f m to e)
expr_code-some f m to (Number z) = omega arith
expr_code-some f m to (Variable x) = scalar_code-some (register_for f x) (home_of f x) to
expr_code-some f m to (Element x i) =
    omega (
      arith,
      length-append (indexed_code f (numbering f m (home_of f x) i) m (home_of f x) to i (expr_code f m to i))
          (read_code f (home_of f x) (fixed_index (home_of f x) i) to),
      (read-short f (home_of f x) (fixed_index (home_of f x) i) to).0,
    )
expr_code-some f m to (Operation op a b) =
    let q = left_operand f op a b in
    let right = operand_part (operand f b) (expr_code f m (to + 1) b) in
    operation-some op to q (operand_register (operand f b) (to + 1)) (steps_at f op b) (expr_code f m to a) right
    (expr_code-some f m to a) (λ steps found. ap (λ g. operand_unless (is_some g) (operand f a)) found)

-- no guard is made into no code
pub guard_code-some : (f : Setting) (m : Mode) (to : ℕ) (t : Test) → 1 ≤ length (guard_code f m to t)
guard_code-some f m to t =
    omega
    (arith, expr_code-some f m to t.left, length-append (expr_code f m to t.left) (expr_code f m (to + 1) t.right))

write_code-some : (once : Bool) (r : Option ℕ) (l : Label) (m : Mode) (h : Home) (value : ℕ)
    → 1 ≤ length (write_code once r l m h value)
write_code-some once (Some r) l m h value = omega arith
write_code-some once None l m h value = omega arith

-- no assignment is made into no code
pub set_code-some : (f : Setting) (m : Mode) (s : Statement) → IsAssignment s → 1 ≤ length (set_code f m s)
set_code-some f m (SetVariable x e) is = by (straight f x e) refl
  where
    by : (found : Option ℕ) → straight f x e ≡ found → 1 ≤ length (scalar_set found f m x e)
    by (Some r) known = omega (arith, straight-length f x e r known m (target m r), expr_code-some f m 0 e)
    by None known =
        let value = operand_register (operand f e) 0 in
        let label = label_of (context_of f.decls) (Variable x) in
        let write = write_code f.reduces (register_for f x) label m (home_of f x) value in
        omega (
          arith,
          write_code-some f.reduces (register_for f x) label m (home_of f x) value,
          length-append (operand_part (operand f e) (expr_code f m 0 e)) write,
        )
set_code-some f m (SetElement x i e) is =
    let h = home_of f x in
    let store = stored_code f m h (fixed_index h i) (operand_register (operand f e) 0) in
    let access = indexed_code f (numbering f m h i) m h 1 i (expr_code f m 1 i) in
    omega (
      arith,
      (stored-short f m h (fixed_index h i) (operand_register (operand f e) 0)).0,
      length-append (operand_part (operand f e) (expr_code f m 0 e)) (access ++ store),
      length-append access store,
    )
set_code-some f m (Choice t a b) is = absurd is
set_code-some f m (Loop t a) is = absurd is

-- secret code compares no index with a length
pub numbering-secret : (f : Setting) (m : Mode) (h : Home) (i : Tree) → may_skip_loads m ≡ false
    → numbering f m h i ≡ numbering_by (is_within_home f h i) false
numbering-secret f m h i secret =
    ap (λ (b : Bool). numbering_by (is_within_home f h i)
    (b && (f.reduces && (not (is_masked h) && not (secret_label (label_of (context_of f.decls) i))))))
    secret
