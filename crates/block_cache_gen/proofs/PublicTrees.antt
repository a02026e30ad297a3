-- A public expression has a tree.
use Rattle.std.proofs.Common.{◌≡◌, ℕ, ◌+◌, ◌<◌, ◌/◌, ℤ, pos, Bool, true, false, ◌&&◌, ◌==◌, cond, List, [], ◌∷◌, Option, Some, None, refl, sym, ap, ◌∙◌, subst, arith}
use Rattle.std.specs.Prelude.{if◌then◌else◌, is_some, IsTrue}
use Rattle.gr_word.specs.declared.operations.Op.{Op}
use Rattle.gr_word.specs.declared.operations.Op.TheVariants.{Add, Shr}
use Rattle.gr_word.specs.declared.variables.Label.{Label}
use Rattle.gr_word.specs.declared.variables.Label.TheVariants.{Public, Secret}
use Rattle.gr_word.specs.declared.variables.Shape.TheVariants.{Scalar}
use Rattle.lt_isa.specs.Prelude.{Parts, is_ram}
use Rattle.symbolic_values.specs.Prelude.{Value, Const, Reg, SlotAt, Apply}
use Rattle.src_tree.specs.Prelude.{context_of, higher, label_or_public, label_at, label_of, Tree, Number, Variable, Element, Operation, TypedTree}
use Rattle.trace_patterns.specs.Prelude.{SymSlot, AnySlot, RamSlot, Entry, Loaded, applied_trees, word_tree}
use Rattle.block_cache_gen.specs.Prelude.{Held, Home, Setting, held_label, label_by, home_of, register_for, words_a_block, HasHomes, held_number, is_in_place, is_within_home, numbering_by, reducer, reducing, fixed_index, fixed_word, operand, operand_unless, steps_at, number_in, word_named_by, word_read, tree_by, scalar_tree, operand_tree, pinned_slot, placed_tree, element_by, block_named_by, index_by, numbered_tree, number_tree, reduced_tree, block_tree, block_loaded, element_slot, steps_tree, operation_tree, tree_of_expr}
use Rattle.strength_reduction.specs.Prelude.{Step, Constant, Compute, left_by, reads_known, replaced}
use Rattle.block_cache_gen.proofs.StepsAt.{steps-of}
use Rattle.held_registers.specs.Prelude.{public_zero}
use Rattle.block_cache_gen.proofs.HeldOperands.{IsOperandOf, operand-unless}
use Rattle.block_cache_gen.proofs.OperandLabels.{is-operand, operand-label}
use Rattle.held_registers.proofs.Found.{number-held}
use Rattle.block_cache_gen.proofs.HeldLabels.{register-label}
use Rattle.block_cache_gen.proofs.HomeFacts.{plain-array}
use Rattle.block_cache_gen.proofs.ArmInstructions.{IsSeen}

-- a tree is known
abbrev pub IsKnown : Option Value → Type 0
IsKnown v = (t : Value) × (v ≡ Some t)

applied-known : (op : Op) (a b : Option Value) → IsKnown a → IsKnown b → IsKnown (applied_trees op a b)
applied-known op a b left right =
    (Apply op left.0 right.0, λ i. applied_trees op (left.1 i) (right.1 i))

const-known : (z : ℤ) → IsKnown (Some (Const z))
const-known z = (Const z, refl)

either-known : (c : Bool) (a b : Option Value) → IsKnown a → IsKnown b → IsKnown (if c then a else b)
either-known true a b left right = left
either-known false a b left right = right

-- so is a number, by the register that holds it
number-in : (f : Setting) (z : ℤ) → IsKnown (number_in f z)
number-in f z = by (held_number f z) refl
  where
    by : (q : Option ℕ) → held_number f z ≡ q → IsKnown (operand_tree f q (Some (Const z)))
    by None is = const-known z
    by (Some r) is = (Reg r, ap (λ (h : Option Held). tree_by r (label_by f.decls h)) (number-held f.held z r is))

reduced-known : (f : Setting) (h : Home) (index : Option Value) → IsKnown index → IsKnown (reduced_tree f h index)
reduced-known f h index known =
    applied-known (reducing h) index (number_in f (reducer h)) known (number-in f (reducer h))

numbered-known : (within : Bool) (f : Setting) (h : Home) (index : Option Value) → IsKnown index
    → IsKnown (numbered_tree within f h index)
numbered-known true f h index known = known
numbered-known false f h index known = reduced-known f h index known

-- the number of an element's word and that of its block are known where its index is
pub number-known : (within : Bool) (f : Setting) (h : Home) (fixed : Option ℤ) (index : Option Value) → IsKnown index
    → IsKnown (number_tree within f h fixed index)
number-known within f h (Some z) index known = const-known (pos (fixed_word h z))
number-known within f h None index known = numbered-known within f h index known

-- so is the place of a resident array's word
pub placed-known : (within : Bool) (f : Setting) (h : Home) (fixed : Option ℤ) (index : Option Value) → IsKnown index
    → IsKnown (placed_tree within f h fixed index)
placed-known within f h (Some z) index known = const-known (pos (h.word + fixed_word h z))
placed-known within f h None index known =
    let number = numbered_tree within f h index in
    let first = numbered-known within f h index known in
    let word : Option Value = number_in f (pos h.word) in
    either-known (h.word == 0) number (applied_trees Add number word) first
    (applied-known Add number word first (number-in f (pos h.word)))

-- a slot of plain memory holds what it held at the entry
pub pinned-ram : (h : Home) → h.bank ≡ 0 → pinned_slot h ≡ RamSlot (SlotAt h.slot) (Entry h.slot)
pinned-ram h at =
    ap (λ (b : ℕ). let v : SymSlot = if is_ram b then RamSlot (SlotAt h.slot) (Entry h.slot) else AnySlot in v) at

-- and its words are known
read-known : (f : Setting) (h : Home) (n : Option Value) → h.bank ≡ 0 → IsKnown n
    → IsKnown (word_read f (pinned_slot h) n)
read-known f h n at known = (
  word_tree (Entry h.slot) (SlotAt h.slot) (word_named_by f known.0),
  λ i. word_read f (pinned-ram h at i) (known.1 i),
)

-- the block of an access is seen only where it is known
pub block-seen : (within : Bool) (f : Setting) (h : Home) (fixed : Option ℤ) (index : Option Value)
    → (h.bank < 2 → IsKnown index) → IsSeen h.bank (block_tree within f h fixed index)
block-seen within f h (Some z) index known = λ cached. const-known (pos (h.block + fixed_word h z / words_a_block f))
block-seen within f h None index known = λ cached.
    let number = numbered_tree within f h index in
    let shift : Option Value = number_in f (pos f.profile.block_log) in
    applied-known Add (applied_trees Shr number shift) (number_in f (pos h.block))
    (applied-known Shr number shift (numbered-known within f h index (known cached))
    (number-in f (pos f.profile.block_log)))
    (number-in f (pos h.block))

-- what is public is public in its parts
pub public-left : (a b : Label) → higher a b ≡ Public → a ≡ Public
public-left Public b e = refl
public-left Secret b e = e

pub public-right : (a b : Label) → higher a b ≡ Public → b ≡ Public
public-right Public b e = e
public-right Secret b e = absurd (let g : ◌≡◌ {A = Label} Secret Public = e in cc)

-- registers that are known have trees
abbrev AllKnown : (ℕ → Bool) → (ℕ → Option Value) → Type 0
AllKnown known trees = (i : ℕ) → known i ≡ true → IsKnown (trees i)

replaced-known : (known : ℕ → Bool) (trees : ℕ → Option Value) (to : ℕ) (tree : Option Value)
    → AllKnown known trees → IsKnown tree → AllKnown (replaced known to true) (replaced trees to tree)
replaced-known known trees to tree all one i = by (i == to)
  where
    by : (c : Bool) → cond c true (known i) ≡ true → IsKnown (cond c tree (trees i))
    by true e = one
    by false e = all i e

reads-parts : (a b c : Bool) → ((a && b) && c) ≡ true → (a ≡ true) × (b ≡ true) × (c ≡ true)
reads-parts true true c e = (refl, refl, e)
reads-parts true false c e = absurd (let f : false ≡ true = e in cc)
reads-parts false b c e = absurd (let f : false ≡ true = e in cc)

first-known : (known : ℕ → Bool) (to : ℕ) → known 0 ≡ true → replaced known to true 0 ≡ true
first-known known to e = by (0 == to)
  where
    by : (c : Bool) → cond c true (known 0) ≡ true
    by true = refl
    by false = e

known-after : (steps : List Step) (known : ℕ → Bool) (trees : ℕ → Option Value) → reads_known known steps ≡ true
    → known 0 ≡ true → AllKnown known trees
    → IsKnown (left_by (λ z. Some (Const z)) applied_trees steps trees 0)
known-after [] known trees reads first all = all 0 first
known-after (Constant to z ∷ steps) known trees reads first all =
    known-after steps (replaced known to true) (replaced trees to (Some (Const z))) reads (first-known known to first)
    (replaced-known known trees to (Some (Const z)) all (const-known z))
known-after (Compute op to left right ∷ steps) known trees reads first all =
    let parts = reads-parts (known left) (known right) (reads_known (replaced known to true) steps) reads in
    known-after steps (replaced known to true) (replaced trees to (applied_trees op (trees left) (trees right)))
    parts.2 (first-known known to first)
    (replaced-known known trees to (applied_trees op (trees left) (trees right)) all
    (applied-known op (trees left) (trees right) (all left parts.0) (all right parts.1)))

-- steps from a known value
steps-known : (steps : List Step) (value : Option Value) → IsTrue (reads_known (λ i. i == 0) steps) → IsKnown value
    → IsKnown (steps_tree steps value)
steps-known steps value reads known =
    known-after steps (λ i. i == 0) (λ i. if i == 0 then value else None) reads refl (λ i e. at i e)
  where
    at : (i : ℕ) → (i == 0) ≡ true → IsKnown (if i == 0 then value else None)
    at i e = subst (λ (c : Bool). IsKnown (if c then value else None)) (sym e) known

-- the register of an index is the index's
pub is-index : (f : Setting) (within : Bool) (h : Home) (i : Tree) → IsOperandOf f i (index_by within f h i)
is-index f within h i = operand-unless f i (is_in_place h (numbering_by within false))

module _ (o : Parts) (f : Setting) (homes : HasHomes o f) where
  -- a scalar that is public, by the register that holds it
  scalar-known : (x : List ℕ) → context_of f.decls x ≡ Some (Public, Scalar) → (found : Option ℕ)
      → register_for f x ≡ found → IsKnown (scalar_tree f found (home_of f x))
  scalar-known x declared None is =
      let h = home_of f x in
      let scalar = homes.scalars x Public declared in
      let home = homes.residents x Public Scalar declared scalar.resident in
      read-known f h (Some (Const (pos h.word))) home.bank (const-known (pos h.word))
  scalar-known x declared (Some r) is =
      applied-known Add (tree_by r (held_label f r)) (Some (Reg public_zero))
      (Reg r, ap (tree_by r) (register-label f homes.held x Public Scalar declared r is)) (Reg public_zero, refl)

  -- the tree of an operand that is public, by the register that holds it
  operand-known : (e : Tree) → TypedTree (context_of f.decls) e → (q : Option ℕ) → IsOperandOf f e q
      → label_of (context_of f.decls) e ≡ Public → IsKnown (tree_of_expr f e)
      → IsKnown (operand_tree f q (tree_of_expr f e))
  operand-known e typed None is public known = known
  operand-known e typed (Some r) is public known =
      (Reg r, ap (tree_by r) (operand-label f homes.held e typed r (is r refl) ∙ ap Some public))

  -- an element of plain memory
  element-known : (within : Bool) (h : Home) (fixed : Option ℤ) (index : Option Value) → h.bank ≡ 0 → IsKnown index
      → IsKnown (word_read f (element_slot within f h fixed index) (number_tree within f h fixed index))
  element-known within h fixed index at known =
      let number = number-known within f h fixed index known in
      let block = block-seen within f h fixed index (λ cached. known) (omega arith) in
      let bound : element_slot within f h fixed index ≡ RamSlot (block_named_by f 0 block.0) Loaded =
      (λ i. block_loaded f (at i) (block.1 i)) in (
        word_tree Loaded (block_named_by f 0 block.0) (word_named_by f number.0),
        λ i. word_read f (bound i) (number.1 i),
      )

  element_by-known : (b within : Bool) (h : Home) (fixed : Option ℤ) (index : Option Value) → h.bank ≡ 0
      → IsKnown index → IsKnown (element_by b within f h fixed index)
  element_by-known true within h fixed index at known =
      read-known f h (placed_tree within f h fixed index) at (placed-known within f h fixed index known)
  element_by-known false within h fixed index at known = element-known within h fixed index at known

  -- the value of a public expression is known
  pub public-tree : (e : Tree) → TypedTree (context_of f.decls) e → label_of (context_of f.decls) e ≡ Public
      → IsKnown (tree_of_expr f e)
  public-tree (Number z) typed public = const-known z
  public-tree (Variable x) typed public =
      let same : label_at (context_of f.decls) x ≡ typed.0 = ap label_or_public typed.1 in
      let at = subst (λ (l : Label). context_of f.decls x ≡ Some (l, Scalar)) (sym same ∙ public) typed.1 in
      scalar-known x at (register_for f x) refl
  public-tree (Element x i) typed public =
      let known = context_of f.decls in
      let same : label_at known x ≡ typed.0.0 = ap label_or_public typed.0.1 in
      let array = public-left (label_at known x) (label_of known i) public in
      let index = public-right (label_at known x) (label_of known i) public in
      let plain = plain-array o f homes x typed.0.0 typed.0.1 in
      let within = is_within_home f (home_of f x) i in
      let q = index_by within f (home_of f x) i in
      element_by-known (home_of f x).resident within (home_of f x) (fixed_index (home_of f x) i)
      (operand_tree f q (tree_of_expr f i)) (plain.1 (sym same ∙ array))
      (operand-known i typed.1.0 q (is-index f within (home_of f x) i) index (public-tree i typed.1.0 index))
  public-tree (Operation op a b) typed public =
      by (steps_at f op b) refl (public-tree a typed.0 public_left) (public-tree b typed.1 public_right)
    where
      public_left : label_of (context_of f.decls) a ≡ Public
      public_left = public-left (label_of (context_of f.decls) a) (label_of (context_of f.decls) b) public

      public_right : label_of (context_of f.decls) b ≡ Public
      public_right = public-right (label_of (context_of f.decls) a) (label_of (context_of f.decls) b) public

      by : (found : Option (List Step)) → steps_at f op b ≡ found → IsKnown (tree_of_expr f a)
          → IsKnown (tree_of_expr f b)
          → IsKnown (operation_tree op found
          (operand_tree f (operand_unless (is_some found) (operand f a)) (tree_of_expr f a))
          (operand_tree f (operand f b) (tree_of_expr f b)))
      by None e left right =
          applied-known op (operand_tree f (operand f a) (tree_of_expr f a))
          (operand_tree f (operand f b) (tree_of_expr f b))
          (operand-known a typed.0 (operand f a) (is-operand f a) public_left left)
          (operand-known b typed.1 (operand f b) (is-operand f b) public_right right)
      by (Some steps) e left right =
          let of = steps-of f op b steps e in
          let replaces = of.replaces in
          steps-known steps (tree_of_expr f a) replaces.reads left

  -- so is that of a public index
  pub public-index : (within : Bool) (h : Home) (i : Tree) → TypedTree (context_of f.decls) i
      → label_of (context_of f.decls) i ≡ Public
      → IsKnown (operand_tree f (index_by within f h i) (tree_of_expr f i))
  public-index within h i typed public =
      operand-known i typed (index_by within f h i) (is-index f within h i) public (public-tree i typed public)
