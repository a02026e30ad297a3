-- An operation by a number that steps replace.
use Rattle.std.proofs.Common.{◌≡◌, ℕ, ◌+◌, ◌*◌, ◌≤◌, Bool, true, false, ◌&&◌, cond, ℤ, List, [], ◌∷◌, length, Option, Some, None, refl, ap, arith, length-append}
use Rattle.std.proofs.lemmas.List.{length-map}
use Rattle.gr_word.specs.declared.operations.Op.{Op}
use Rattle.lt_isa.specs.declared.instructions.Instr.{Instr}
use Rattle.lt_isa.specs.declared.instructions.Instr.TheVariants.{Alu}
use Rattle.strength_reduction.specs.Prelude.{steps_by_number, Step, Constant, Compute, Replaces, code_of, instruction_of}
use Rattle.strength_reduction.proofs.Replacing.{steps-replace}
use Rattle.src_tree.specs.Prelude.{tree_weight, Tree, Number}
use Rattle.block_cache_gen.specs.Prelude.{Setting, may_step, steps_at, operation_code, stored_words}
use Rattle.block_cache_gen.specs.Codes.{is_product}

-- the right side is a number, and the steps do what the operation does
pub record StepsOf (op : Op) (b : Tree) (steps : List Step) : Type 0 where
  pub number : ℤ
  pub is : b ≡ Number number
  pub replaces : Replaces op number steps

pub steps-of : (f : Setting) (op : Op) (b : Tree) (steps : List Step) → steps_at f op b ≡ Some steps
    → StepsOf op b steps
steps-of f op (Number z) steps e = by (f.reduces && is_product op) e
  where
    by : (c : Bool) → cond c (steps_by_number op z) None ≡ Some steps → StepsOf op (Number z) steps
    by true found = record { number = z; is = refl; replaces = steps-replace op z steps found }
    by false found = absurd (let f : ◌≡◌ {A = Option (List Step)} None (Some steps) = found in cc)
steps-of f op other steps e = absurd (let f : ◌≡◌ {A = Option (List Step)} None (Some steps) = e in cc)

-- no steps replace an operation that they may not replace
pub not-stepped : (f : Setting) (op : Op) (b : Tree) → may_step f op b ≡ false → steps_at f op b ≡ None
not-stepped f op (Number z) e = ap (λ (c : Bool). cond c (steps_by_number op z) None) e
not-stepped f op other e = refl

-- how long the code is that follows the left side
pub operation-short : (f : Setting) (op : Op) (to ra rb : ℕ) (b : Tree) (right : List Instr)
    → length right ≤ 48 * tree_weight b
    → length (operation_code op to ra rb (steps_at f op b) right) ≤ 48 * tree_weight b + 16
operation-short f op to ra rb b right short = by (steps_at f op b) refl
  where
    by : (found : Option (List Step)) → steps_at f op b ≡ found
        → length (operation_code op to ra rb found right) ≤ 48 * tree_weight b + 16
    by None e = let l = length-append right (Alu op to ra rb ∷ []) in omega arith
    by (Some steps) e =
        let known = steps-of f op b steps e in
        let few = known.replaces.few in
        let one = ap tree_weight known.is in
        let l = length-map steps (instruction_of to) in
        omega arith

-- steps store no word
pub steps-stores : (once : Bool) (to : ℕ) (steps : List Step) → stored_words once (code_of to steps) ≡ 0
steps-stores once to [] = refl
steps-stores once to (Constant rd value ∷ steps) = steps-stores once to steps
steps-stores once to (Compute op rd left right ∷ steps) = steps-stores once to steps
