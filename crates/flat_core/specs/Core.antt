-- The last step: flat statements with the core's expressions become statements of the core. The module's variables keep
-- their numbers, as numbers of declarations. A local becomes the first scalar after these that no enclosing local has, so
-- locals that are never active together share scalars. (A pass of this project's compiler of modules.)
use Rattle.std.specs.Prelude.{◌≡◌, ℕ, ◌+◌, ◌<◌, ◌==◌, ◌⊎◌, pos, Bool, true, if◌then◌else◌, List, [], ◌∷◌, length}
use Rattle.gr_word.specs.declared.operations.Cmp.TheVariants.{Ne}
use Rattle.module_tree.specs.Operators.{Machine, Compare}
use Rattle.src_tree.specs.Trees.{Tree, Variable, Test, SetVariable, SetElement, Choice, Loop, Block, Nothing, Then}
use Rattle.flat_tree.specs.Trees.{Term, Number, Scalar, Element, Operation, Statement, Skip, Seq, Set, Put, If, While, Local}
use Rattle.src_tree.specs.Trees as core

-- The declaration of a variable. `scope` has the numbers of the enclosing locals, the innermost first. The module's
-- variables have numbers below `all`.
abbrev pub place : ℕ → List ℕ → ℕ → ℕ
place all [] k = k
place all (j ∷ scope) k = if k == j then all + length scope else place all scope k

-- two blocks in sequence
abbrev pub joined : Block → Block → Block
joined Nothing other = other
joined (Then s rest) other = Then s (joined rest other)

module _ (all : ℕ) (name : ℕ → List ℕ) where
  abbrev pub core_term : List ℕ → Term → Tree
  core_term scope (Number z) = core.Number z
  core_term scope (Scalar k) = Variable (name (place all scope k))
  core_term scope (Element k i) = core.Element (name (place all scope k)) (core_term scope i)
  core_term scope (Operation (Machine op) a b) = core.Operation op (core_term scope a) (core_term scope b)
  core_term scope _ = core.Number (pos 0)

  abbrev pub core_test : List ℕ → Term → Test
  core_test scope (Operation (Compare cmp) a b) =
      record { cmp = cmp; left = core_term scope a; right = core_term scope b }
  core_test scope e = record { cmp = Ne; left = core_term scope e; right = core.Number (pos 0) }

  abbrev pub core_block : List ℕ → Statement → Block
  core_block scope Skip = Nothing
  core_block scope (Seq a b) = joined (core_block scope a) (core_block scope b)
  core_block scope (Set k e) = Then (SetVariable (name (place all scope k)) (core_term scope e)) Nothing
  core_block scope (Put k i e) =
      Then (SetElement (name (place all scope k)) (core_term scope i) (core_term scope e)) Nothing
  core_block scope (If c a b) = Then (Choice (core_test scope c) (core_block scope a) (core_block scope b)) Nothing
  core_block scope (While c a) = Then (Loop (core_test scope c) (core_block scope a)) Nothing
  core_block scope (Local k e a) =
      Then (SetVariable (name (all + length scope)) (core_term scope e)) (core_block (k ∷ scope) a)

-- a variable of the module that has a property, or an enclosing local
abbrev pub InScope : ℕ → (ℕ → Type 0) → List ℕ → ℕ → Type 0
InScope all P [] k = (k < all) × P k
InScope all P (j ∷ scope) k = (k ≡ j) ⊎ InScope all P scope k

module _ (all : ℕ) (is_scalar : ℕ → Bool) where
  abbrev pub Readable : List ℕ → ℕ → Type 0
  Readable = InScope all (λ k. Unit {0})

  abbrev pub Settable : List ℕ → ℕ → Type 0
  Settable = InScope all (λ k. is_scalar k ≡ true)

  -- terms that are the core's expressions, over variables in scope
  abbrev pub CoreTerm : List ℕ → Term → Type 0
  CoreTerm scope (Number z) = Unit {0}
  CoreTerm scope (Scalar k) = Readable scope k
  CoreTerm scope (Element k i) = Readable scope k × CoreTerm scope i
  CoreTerm scope (Operation (Machine op) a b) = CoreTerm scope a × CoreTerm scope b
  CoreTerm scope _ = ⊥

  abbrev pub CoreTest : List ℕ → Term → Type 0
  CoreTest scope (Operation (Compare cmp) a b) = CoreTerm scope a × CoreTerm scope b
  CoreTest scope e = CoreTerm scope e

  -- Statements of which all terms are the core's. At most `most` locals are active together, and only scalars are set.
  abbrev pub CoreStatement : ℕ → List ℕ → Statement → Type 0
  CoreStatement most scope Skip = Unit {0}
  CoreStatement most scope (Seq a b) = CoreStatement most scope a × CoreStatement most scope b
  CoreStatement most scope (Set k e) = Settable scope k × CoreTerm scope e
  CoreStatement most scope (Put k i e) = Readable scope k × CoreTerm scope i × CoreTerm scope e
  CoreStatement most scope (If c a b) =
      CoreTest scope c × CoreStatement most scope a × CoreStatement most scope b
  CoreStatement most scope (While c a) = CoreTest scope c × CoreStatement most scope a
  CoreStatement most scope (Local k e a) =
      (length scope < most) × CoreTerm scope e × CoreStatement most (k ∷ scope) a
