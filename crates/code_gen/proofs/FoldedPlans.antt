-- A plan that is sound for a program is sound for the program with cheaper expressions, whose code does what the program
-- means.
use Rattle.std.proofs.Common.{◌≡◌, ℕ, ◌+◌, ◌*◌, ◌≤◌, Bool, true, false, ◌&&◌, ◌||◌, List, length, refl, sym, ap, ◌∙◌, arith}
use Rattle.std.specs.Prelude.{bytes_eq}
use Rattle.lt_isa.specs.Prelude.{Parts}
use Rattle.gr_word.specs.declared.operations.Op.{Op}
use Rattle.src_tree.specs.declared.trees.Decl.{Decl}
use Rattle.src_tree.specs.Prelude.{Context, context_of, label_of, secret_label, weight_of, Tree, Number, Variable, Element, Operation, Test, Statement, SetVariable, SetElement, Choice, Loop, Block, Nothing, Then, Source}
use Rattle.flow_types.specs.Prelude.{declared_wants}
use Rattle.bank_alloc.specs.Prelude.{class_by, class_of, IsLaidOut, secret_index_in, secret_index_in_test, secret_index_in_statement, secret_index_in_block}
use Rattle.scratch_alloc.specs.Prelude.{Plan, IsSoundPlan, decl_at}
use Rattle.source_folding.specs.Prelude.{folded, folded_test, folded_statement, folded_block, folded_source, BlockNumbersFit}
use Rattle.source_folding.proofs.FoldedTrees.{Made, AsBefore, Computed, Swapped, Shifted, SwappedShift, Masked, is-made, folded-label}
use Rattle.source_folding.proofs.FoldedPrograms.{folded-means, folded-weighs}
use Rattle.compiled_objects.specs.Prelude.{Implements}

or-swapped : (a b : Bool) → (a || b) ≡ (b || a)
or-swapped true true = refl
or-swapped true false = refl
or-swapped false true = refl
or-swapped false false = refl

-- a secret index stays one, and no other becomes one
made-indexed : (known : Context) (x : List ℕ) (op : Op) (a b m : Tree) → Made op a b m
    → secret_index_in known x m ≡ (secret_index_in known x a || secret_index_in known x b)
made-indexed known x op a b _ AsBefore = refl
made-indexed known x op a b _ (Computed y z e f) =
    sym (ap (λ t. secret_index_in known x t || secret_index_in known x b) e ∙ ap (secret_index_in known x) f)
made-indexed known x op a b _ (Swapped e) = or-swapped (secret_index_in known x b) (secret_index_in known x a)
made-indexed known x op a b _ (Shifted z k f e is) =
    ap (λ c. secret_index_in known x a || c) (sym (ap (secret_index_in known x) f))
made-indexed known x op a b _ (SwappedShift y k f e is) =
    or-swapped (secret_index_in known x b) false
    ∙ ap (λ c. c || secret_index_in known x b) (sym (ap (secret_index_in known x) f))
made-indexed known x op a b _ (Masked z k f e is) =
    ap (λ c. secret_index_in known x a || c) (sym (ap (secret_index_in known x) f))

tree-indexed : (known : Context) (x : List ℕ) (e : Tree)
    → secret_index_in known x (folded e) ≡ secret_index_in known x e
tree-indexed known x (Number z) = refl
tree-indexed known x (Variable y) = refl
tree-indexed known x (Element y i) =
    ap (λ l. (bytes_eq x y && secret_label l) || secret_index_in known x (folded i)) (folded-label known i)
    ∙ ap (λ c. (bytes_eq x y && secret_label (label_of known i)) || c) (tree-indexed known x i)
tree-indexed known x (Operation op a b) =
    made-indexed known x op (folded a) (folded b) _ (is-made op (folded a) (folded b))
    ∙ ap (λ c. c || secret_index_in known x (folded b)) (tree-indexed known x a)
    ∙ ap (λ c. secret_index_in known x a || c) (tree-indexed known x b)

test-indexed : (known : Context) (x : List ℕ) (t : Test)
    → secret_index_in_test known x (folded_test t) ≡ secret_index_in_test known x t
test-indexed known x t =
    ap (λ c. c || secret_index_in known x (folded t.right)) (tree-indexed known x t.left)
    ∙ ap (λ c. secret_index_in known x t.left || c) (tree-indexed known x t.right)

mutual
  statement-indexed : (known : Context) (x : List ℕ) (s : Statement)
      → secret_index_in_statement known x (folded_statement s) ≡ secret_index_in_statement known x s
  statement-indexed known x (SetVariable y e) = tree-indexed known x e
  statement-indexed known x (SetElement y i e) =
      ap (λ c. c || secret_index_in known x (folded e)) (tree-indexed known x (Element y i))
      ∙ ap (λ c. secret_index_in known x (Element y i) || c) (tree-indexed known x e)
  statement-indexed known x (Choice t a b) =
      ap (λ c. c || (secret_index_in_block known x (folded_block a) || secret_index_in_block known x (folded_block b)))
      (test-indexed known x t)
      ∙ ap (λ c. secret_index_in_test known x t || (c || secret_index_in_block known x (folded_block b)))
      (block-indexed known x a)
      ∙ ap (λ c. secret_index_in_test known x t || (secret_index_in_block known x a || c)) (block-indexed known x b)
  statement-indexed known x (Loop t a) =
      ap (λ c. c || secret_index_in_block known x (folded_block a)) (test-indexed known x t)
      ∙ ap (λ c. secret_index_in_test known x t || c) (block-indexed known x a)

  block-indexed : (known : Context) (x : List ℕ) (b : Block)
      → secret_index_in_block known x (folded_block b) ≡ secret_index_in_block known x b
  block-indexed known x Nothing = refl
  block-indexed known x (Then s rest) =
      ap (λ c. c || secret_index_in_block known x (folded_block rest)) (statement-indexed known x s)
      ∙ ap (λ c. secret_index_in_statement known x s || c) (block-indexed known x rest)

-- the class of a variable stays
folded-class : (p : Source) (d : Decl) → class_of (folded_source p) d ≡ class_of p d
folded-class p d = ap (class_by d.label d.length) (block-indexed (context_of p.decls) d.name p.body)

-- a sound plan stays sound
pub folded-sound : (p : Source) (w : ℕ) (plan : Plan) → IsSoundPlan p w plan → IsSoundPlan (folded_source p) w plan
folded-sound p w plan is = record {
  places = is.places;
  slots = is.slots;
  banks = is.banks;
  blocks = is.blocks;
  place = is.place;
  served = is.served;
  hidden = λ k within class. is.hidden k within (sym (folded-class p (decl_at p k)) ∙ class);
  apart = is.apart;
  pins = is.pins;
  pins_apart = is.pins_apart;
}

-- what does what the cheaper program means does what the program means
pub folded-implements : (p : Source) (o : Parts) → BlockNumbersFit p.body → Implements (folded_source p) o
    → Implements p o
folded-implements p o numbers is =
    let wants = declared_wants p.decls in
    record {
      symbols = is.symbols;
      halts = λ store left n fits means.
          is.halts store left n fits (folded-means p wants store n numbers fits ∙ means);
      leaves = λ store left n fits means.
          is.leaves store left n fits (folded-means p wants store n numbers fits ∙ means);
      done = λ store n fits halts.
          let ends = is.done store n fits halts in
          (ends.0, sym (folded-means p wants store n numbers fits) ∙ ends.1, ends.2);
    }

-- what has the layout of the cheaper program has the program's
pub folded-laid : (p : Source) (w : ℕ) (plan : Plan) (o : Parts) → IsLaidOut (folded_source p) w plan.places plan.blocks o
    → IsLaidOut p w plan.places plan.blocks o
folded-laid p w plan o is =
    let symbols = is.symbols in
    record {
      block_size = is.block_size;
      blocks = is.blocks;
      symbols = record { each = symbols.each; order = symbols.order };
    }

-- its code is as short
pub folded-short : (p : Source) (o : Parts) (more : ℕ) → length o.code ≤ 120 * weight_of (folded_source p) + more
    → length o.code ≤ 120 * weight_of p + more
folded-short p o more short = let less = folded-weighs p in omega arith
