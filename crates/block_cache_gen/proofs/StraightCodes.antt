-- An assignment whose last instruction leaves the value in the register that holds the scalar: the notes of its code are
-- those of the value's code, and it is as long.
use Rattle.std.proofs.Common.{◌≡◌, ℕ, ◌+◌, Bool, true, false, not, ◌&&◌, List, [], ◌∷◌, ◌++◌, length, length-append, Option, Some, None, refl, sym, ap, ◌∙◌, arith}
use Rattle.std.specs.Prelude.{is_some}
use Rattle.std.proofs.lemmas.Bool.{and_parts, not-true}
use Rattle.gr_word.specs.declared.operations.Op.{Op}
use Rattle.lt_isa.specs.declared.instructions.Instr.{Instr}
use Rattle.lt_isa.specs.declared.instructions.Instr.TheVariants.{Alu}
use Rattle.src_tree.specs.Prelude.{context_of, label_of, Tree, Variable, Operation}
use Rattle.strength_reduction.specs.Prelude.{Step}
use Rattle.block_cache_gen.specs.declared.frames.Mode.{Mode}
use Rattle.block_cache_gen.specs.declared.frames.Mode.TheVariants.{Public}
use Rattle.block_cache_gen.specs.Prelude.{Setting, register_for, operand, operand_part, operand_register, operand_unless, operation_code, steps_at, may_step, keeps_label, is_straight, straight_if, straight, straight_code, expr_code, operand_mask, operation_notes, base_mask, expr_notes, straight_notes}
use Rattle.block_cache_gen.proofs.StepsAt.{not-stepped}

-- what is known of such an operation
pub record IsStraight (f : Setting) (x : List ℕ) (r : ℕ) (op : Op) (a b : Tree) : Type 0 where
  pub held : register_for f x ≡ Some r
  pub plain : steps_at f op b ≡ None
  pub keeps : keeps_label (label_of (context_of f.decls) (Variable x)) (label_of (context_of f.decls) (Operation op a b))
      ≡ true

-- what is true of each such operation is true of the value
pub straight-by : (f : Setting) (x : List ℕ) (e : Tree) (r : ℕ) → straight f x e ≡ Some r → (P : Tree → Type 0)
    → ((op : Op) (a b : Tree) → IsStraight f x r op a b → P (Operation op a b)) → P e
straight-by f x (Operation op a b) r is P holds = by (is_straight f x op a b) refl is
  where
    by : (c : Bool) → is_straight f x op a b ≡ c → straight_if c (register_for f x) ≡ Some r → P (Operation op a b)
    by false e found = absurd (let g : ◌≡◌ {A = Option ℕ} None (Some r) = found in cc)
    by true e found =
        let kept = keeps_label (label_of (context_of f.decls) (Variable x))
        (label_of (context_of f.decls) (Operation op a b)) in
        let both = and_parts f.reduces (not (may_step f op b) && kept) e in
        let rest = and_parts (not (may_step f op b)) kept both.1 in
        holds op a b
        (record {
          held = found;
          plain = not-stepped f op b (not-true (may_step f op b) rest.0);
          keeps = rest.1;
        })
straight-by f x other r is P holds = absurd (let g : ◌≡◌ {A = Option ℕ} None (Some r) = is in cc)

-- the notes
pub straight-notes : (f : Setting) (x : List ℕ) (e : Tree) (r : ℕ) → straight f x e ≡ Some r → (p : ℕ)
    → straight_notes f p e ≡ expr_notes f (base_mask f) 0 p e
straight-notes f x e r is p =
    straight-by f x e r is (λ t. straight_notes f p t ≡ expr_notes f (base_mask f) 0 p t)
    (λ op a b known.
    ap (λ (found : Option (List Step)).
    operand_part (operand_unless (is_some found) (operand f a)) (expr_notes f (base_mask f) 0 p a)
    ++ operation_notes found
    (operand_part (operand f b)
    (expr_notes f
    (operand_mask (operand_unless (is_some found) (operand f a)) (label_of (context_of f.decls) a) (base_mask f) 0) 1
    (p + length (operand_part (operand_unless (is_some found) (operand f a)) (expr_code f Public 0 a))) b)))
    (sym known.plain))

-- the last instruction has another target
last-length : (first second : List Instr) (op : Op) (to other left right : ℕ)
    → length (first ++ (second ++ Alu op to left right ∷ [])) ≡ length (first ++ (second ++ Alu op other left right ∷ []))
last-length first second op to other left right =
    omega (
      arith,
      length-append first (second ++ Alu op to left right ∷ []),
      length-append second (Alu op to left right ∷ []),
      length-append first (second ++ Alu op other left right ∷ []),
      length-append second (Alu op other left right ∷ []),
    )

-- the length
pub straight-length : (f : Setting) (x : List ℕ) (e : Tree) (r : ℕ) → straight f x e ≡ Some r → (mode : Mode) (to : ℕ)
    → length (straight_code f mode to e) ≡ length (expr_code f mode 0 e)
straight-length f x e r is mode to =
    straight-by f x e r is (λ t. length (straight_code f mode to t) ≡ length (expr_code f mode 0 t))
    (λ op a b known.
    let second = operand_part (operand f b) (expr_code f mode 1 b) in
    last-length (operand_part (operand f a) (expr_code f mode 0 a)) second op to 0 (operand_register (operand f a) 0)
    (operand_register (operand f b) 1)
    ∙ ap (λ (found : Option (List Step)). length
    (operand_part (operand_unless (is_some found) (operand f a)) (expr_code f mode 0 a)
    ++ operation_code op 0 (operand_register (operand_unless (is_some found) (operand f a)) 0)
    (operand_register (operand f b) 1) found second))
    (sym known.plain))
