-- The labels of the registers that hold operands for the whole run.
use Rattle.std.proofs.Common.{◌≡◌, ℕ, Option, Some, None, sym, ap, ◌∙◌}
use Rattle.src_tree.specs.Prelude.{context_of, label_of, label_or_public, Tree, Number, Variable, Element, Operation, TypedTree}
use Rattle.gr_word.specs.declared.variables.Shape.{Shape}
use Rattle.gr_word.specs.declared.variables.Shape.TheVariants.{Scalar}
use Rattle.gr_word.specs.declared.variables.Label.{Label}
use Rattle.held_registers.specs.Prelude.{IsSoundHeld}
use Rattle.held_registers.proofs.Found.{number-held}
use Rattle.block_cache_gen.specs.Prelude.{Setting, held_label, label_by, operand}
use Rattle.block_cache_gen.proofs.HeldOperands.{IsOperandOf}
use Rattle.block_cache_gen.proofs.HeldLabels.{register-label}

pub is-operand : (f : Setting) (e : Tree) → IsOperandOf f e (operand f e)
is-operand f e r is = is

module _ (f : Setting) (sound : IsSoundHeld f.decls f.held) where
  -- the register of an operand has the operand's label
  pub operand-label : (e : Tree) → TypedTree (context_of f.decls) e → (r : ℕ) → operand f e ≡ Some r
      → held_label f r ≡ Some (label_of (context_of f.decls) e)
  operand-label (Number z) typed r is = ap (label_by f.decls) (number-held f.held z r is)
  operand-label (Variable x) typed r is =
      register-label f sound x typed.0 Scalar typed.1 r is
      ∙ ap (λ (q : Option (Label × Shape)). Some (label_or_public q)) (sym typed.1)
  operand-label (Element x i) typed r is = absurd (let g : ◌≡◌ {A = Option ℕ} None (Some r) = is in cc)
  operand-label (Operation op a b) typed r is = absurd (let g : ◌≡◌ {A = Option ℕ} None (Some r) = is in cc)
