-- An expression that is secret has no tree in an arm.
use Rattle.std.proofs.Common.{◌≡◌, ◌⊎◌, inl, inr, ⊎_elim, ℕ, Bool, true, false, ◌||◌, ◌==◌, ℤ, pos, List, [], ◌∷◌, Option, Some, None, refl, sym, ap, ◌∙◌, subst}
use Rattle.std.specs.Prelude.{if◌then◌else◌, is_some}
use Rattle.std.proofs.lemmas.Bool.{eqb-true, or_cases}
use Rattle.gr_word.specs.declared.operations.Op.{Op}
use Rattle.gr_word.specs.declared.operations.Op.TheVariants.{Add}
use Rattle.gr_word.specs.declared.variables.Label.{Label}
use Rattle.gr_word.specs.declared.variables.Label.TheVariants.{Public, Secret}
use Rattle.gr_word.specs.declared.variables.Shape.TheVariants.{Scalar, Array}
use Rattle.lt_isa.specs.Prelude.{Parts, is_ram, is_eram}
use Rattle.symbolic_values.specs.Prelude.{Value, Const, Reg}
use Rattle.src_tree.specs.Prelude.{context_of, higher, label_or_public, label_at, label_of, Tree, Number, Variable, Element, Operation, Flows, TypedTree}
use Rattle.trace_patterns.specs.Prelude.{OramSlot, applied_trees}
use Rattle.held_registers.specs.Prelude.{public_zero}
use Rattle.strength_reduction.specs.Prelude.{Step, Constant, Compute, left_by, replaced, secrets_after}
use Rattle.block_cache_gen.specs.Prelude.{Setting, home_of, register_for, HasHomes, fixed_index, is_within_home, operand, operand_unless, steps_at, word_read, tree_by, scalar_tree, operand_tree, placed_tree, number_tree, block_tree, plain_loaded, encrypted_loaded, block_loaded, element_by, index_by, steps_tree, operation_tree, tree_of_expr}
use Rattle.block_cache_gen.proofs.ArmStates.{hidden_read}
use Rattle.block_cache_gen.proofs.HeldLabels.{register-label}
use Rattle.block_cache_gen.proofs.HeldOperands.{IsOperandOf}
use Rattle.block_cache_gen.proofs.OperandLabels.{is-operand, operand-label}
use Rattle.block_cache_gen.proofs.StepsAt.{steps-of}

-- an operation has no tree if one of its operands has none
pub applied-hidden : (op : Op) (a b : Option Value) → (a ≡ None) ⊎ (b ≡ None) → applied_trees op a b ≡ None
applied-hidden op None b one = refl
applied-hidden op (Some a) None one = refl
applied-hidden op (Some a) (Some b) one =
    ⊎_elim (λ (e : ◌≡◌ {A = Option Value} (Some a) None). absurd cc)
    (λ (e : ◌≡◌ {A = Option Value} (Some b) None). absurd cc) one

-- registers that may be secret have no trees, before steps and after
abbrev AllHidden : (ℕ → Bool) → (ℕ → Option Value) → Type 0
AllHidden secret trees = (i : ℕ) → secret i ≡ true → trees i ≡ None

hidden-replaced : (secret : ℕ → Bool) (trees : ℕ → Option Value) (to : ℕ) (b : Bool) (tree : Option Value)
    → AllHidden secret trees → (b ≡ true → tree ≡ None) → AllHidden (replaced secret to b) (replaced trees to tree)
hidden-replaced secret trees to b tree all here i = by (i == to)
  where
    by : (c : Bool) → (if c then b else secret i) ≡ true → (if c then tree else trees i) ≡ None
    by true = here
    by false = all i

hidden-after : (steps : List Step) (secret : ℕ → Bool) (trees : ℕ → Option Value) → AllHidden secret trees
    → secrets_after steps secret 0 ≡ true → left_by (λ z. Some (Const z)) applied_trees steps trees 0 ≡ None
hidden-after [] secret trees all is = all 0 is
hidden-after (Constant to z ∷ steps) secret trees all is =
    hidden-after steps (replaced secret to false) (replaced trees to (Some (Const z)))
    (hidden-replaced secret trees to false (Some (Const z)) all
    (λ e. absurd (let g : false ≡ true = e in cc))) is
hidden-after (Compute op to left right ∷ steps) secret trees all is =
    let tree = applied_trees op (trees left) (trees right) in
    hidden-after steps (replaced secret to (secret left || secret right)) (replaced trees to tree)
    (hidden-replaced secret trees to (secret left || secret right) tree all
    (λ e. applied-hidden op (trees left) (trees right)
    (⊎_elim (λ (one : secret left ≡ true). inl (all left one)) (λ (two : secret right ≡ true). inr (all right two))
    (or_cases (secret left) (secret right) e)))) is

-- a secret label of two comes of one of them
pub higher-secret : (a b : Label) → higher a b ≡ Secret → (a ≡ Secret) ⊎ (b ≡ Secret)
higher-secret Public b e = inr e
higher-secret Secret b e = inl refl

-- an index flows to its array, so an element is secret only if the array is
array-secret : (own index : Label) → Flows index own → higher own index ≡ Secret → own ≡ Secret
array-secret Secret index flows e = refl
array-secret Public Public flows e = e
array-secret Public Secret flows e = absurd flows

not-public : Secret ≡ Public → ⊥
not-public e = let g : ◌≡◌ {A = Label} Secret Public = e in cc

-- a word that isn't of plain memory has no tree
loaded-hidden : (f : Setting) (bank : ℕ) (block place : Option Value) → (bank ≡ 0 → ⊥)
    → word_read f (block_loaded f bank block) place ≡ None
loaded-hidden f bank block place other = by (is_ram bank) refl (is_eram bank)
  where
    encrypted : (block : Option Value) → word_read f (encrypted_loaded f block) place ≡ None
    encrypted None = refl
    encrypted (Some t) = refl

    by : (plain : Bool) → is_ram bank ≡ plain → (b : Bool)
        → word_read f
        (if plain then plain_loaded f block else (if b then encrypted_loaded f block else OramSlot bank)) place
        ≡ None
    by true is b = absurd (other (eqb-true bank 0 is))
    by false is true = encrypted block
    by false is false = refl

module _ (o : Parts) (f : Setting) (homes : HasHomes o f) where
  scalar-hidden : (x : List ℕ) → context_of f.decls x ≡ Some (Secret, Scalar) → (found : Option ℕ)
      → register_for f x ≡ found → scalar_tree f found (home_of f x) ≡ None
  scalar-hidden x declared (Some r) is =
      ap (λ (l : Option Label). applied_trees Add (tree_by r l) (Some (Reg public_zero)))
      (register-label f homes.held x Secret Scalar declared r is)
  scalar-hidden x declared None is =
      let scalar = homes.scalars x Secret declared in
      let home = homes.residents x Secret Scalar declared scalar.resident in
      hidden_read o f homes (home_of f x) (Some (Const (pos (home_of f x).word))) home.bank

  element-hidden : (x : List ℕ) → context_of f.decls x ≡ Some (Secret, Array) → (b near : Bool) → (home_of f x).resident ≡ b
      → (fixed : Option ℤ) (index : Option Value) → element_by b near f (home_of f x) fixed index ≡ None
  element-hidden x declared true near is fixed index =
      let home = homes.residents x Secret Array declared is in
      hidden_read o f homes (home_of f x) (placed_tree near f (home_of f x) fixed index) home.bank
  element-hidden x declared false near is fixed index =
      let home = homes.arrays x Secret declared is in
      loaded-hidden f (home_of f x).bank (block_tree near f (home_of f x) fixed index)
      (number_tree near f (home_of f x) fixed index) (λ zero. not-public (home.plain.0 zero))

  -- a held operand
  held-hidden : (e : Tree) → TypedTree (context_of f.decls) e → label_of (context_of f.decls) e ≡ Secret
      → (q : Option ℕ) → IsOperandOf f e q → (tree : Option Value) → tree ≡ None → operand_tree f q tree ≡ None
  held-hidden e typed secret None is tree none = none
  held-hidden e typed secret (Some r) is tree none =
      ap (tree_by r) (operand-label f homes.held e typed r (is r refl) ∙ ap Some secret)

  -- an operation, or the steps that replace it
  operation-hidden : (op : Op) (a b : Tree) → TypedTree (context_of f.decls) a → TypedTree (context_of f.decls) b
      → (label_of (context_of f.decls) a ≡ Secret → tree_of_expr f a ≡ None)
      → (label_of (context_of f.decls) b ≡ Secret → tree_of_expr f b ≡ None)
      → (label_of (context_of f.decls) a ≡ Secret) ⊎ (label_of (context_of f.decls) b ≡ Secret)
      → (found : Option (List Step)) → steps_at f op b ≡ found
      → operation_tree op found (operand_tree f (operand_unless (is_some found) (operand f a)) (tree_of_expr f a))
      (operand_tree f (operand f b) (tree_of_expr f b)) ≡ None
  operation-hidden op a b typed_a typed_b left right one None is =
      applied-hidden op (operand_tree f (operand f a) (tree_of_expr f a)) (operand_tree f (operand f b) (tree_of_expr f b))
      (⊎_elim
      (λ (secret : label_of (context_of f.decls) a ≡ Secret).
      inl (held-hidden a typed_a secret (operand f a) (is-operand f a) (tree_of_expr f a) (left secret)))
      (λ (secret : label_of (context_of f.decls) b ≡ Secret).
      inr (held-hidden b typed_b secret (operand f b) (is-operand f b) (tree_of_expr f b) (right secret)))
      one)
  operation-hidden op a b typed_a typed_b left right one (Some steps) is =
      let of = steps-of f op b steps is in
      let replaces = of.replaces in
      let number : label_of (context_of f.decls) b ≡ Public = ap (label_of (context_of f.decls)) of.is in
      let secret : label_of (context_of f.decls) a ≡ Secret =
      ⊎_elim (λ (s : label_of (context_of f.decls) a ≡ Secret). s)
      (λ (s : label_of (context_of f.decls) b ≡ Secret). absurd (not-public (sym s ∙ number))) one in
      ap (steps_tree steps) (left secret)
      ∙ hidden-after steps (λ i. i == 0) (λ i. if i == 0 then None else None) (λ i e. either (i == 0))
      (replaces.label (λ i. i == 0))
    where
      either : (c : Bool) → ◌≡◌ {A = Option Value} (if c then None else None) None
      either true = refl
      either false = refl

  -- an expression
  pub tree-hidden : (e : Tree) → TypedTree (context_of f.decls) e → label_of (context_of f.decls) e ≡ Secret
      → tree_of_expr f e ≡ None
  tree-hidden (Number z) typed secret = absurd (not-public (sym secret))
  tree-hidden (Variable x) typed secret =
      let same : typed.0 ≡ Secret = sym (ap label_or_public typed.1) ∙ secret in
      scalar-hidden x (subst (λ (l : Label). context_of f.decls x ≡ Some (l, Scalar)) same typed.1) (register_for f x) refl
  tree-hidden (Element x i) typed secret =
      let own = array-secret (label_at (context_of f.decls) x) (label_of (context_of f.decls) i) typed.1.1 secret in
      let used = typed.0 in
      let same : used.0 ≡ Secret = sym (ap label_or_public used.1) ∙ own in
      let near = is_within_home f (home_of f x) i in
      element-hidden x (subst (λ (l : Label). context_of f.decls x ≡ Some (l, Array)) same used.1) (home_of f x).resident
      near refl (fixed_index (home_of f x) i) (operand_tree f (index_by near f (home_of f x) i) (tree_of_expr f i))
  tree-hidden (Operation op a b) typed secret =
      operation-hidden op a b typed.0 typed.1 (tree-hidden a typed.0) (tree-hidden b typed.1)
      (higher-secret (label_of (context_of f.decls) a) (label_of (context_of f.decls) b) secret) (steps_at f op b) refl
