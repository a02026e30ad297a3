-- What a flat statement has to be so that the passes make a block of the core of it: each variable is one of the module or
-- an enclosing local, and only scalars are set. (This project's own.)
use Rattle.std.specs.Prelude.{◌≡◌, ℕ, suc, max, Bool, false, List, ◌∷◌}
use Rattle.module_tree.specs.Operators.{Machine}
use Rattle.flat_tree.specs.Trees.{Term, Number, Scalar, Element, Operation, Select, Statement, Skip, Seq, Set, Put, If, While, Local}
use Rattle.flat_core.specs.Core.{Readable, Settable}

module _ (all : ℕ) (is_scalar : ℕ → Bool) where
  abbrev pub ScopedTerm : List ℕ → Term → Type 0
  ScopedTerm scope (Number z) = Unit {0}
  ScopedTerm scope (Scalar k) = Readable all is_scalar scope k
  ScopedTerm scope (Element k i) = Readable all is_scalar scope k × ScopedTerm scope i
  ScopedTerm scope (Operation operator a b) = ScopedTerm scope a × ScopedTerm scope b
  ScopedTerm scope (Select c a b) = ScopedTerm scope c × ScopedTerm scope a × ScopedTerm scope b

  abbrev pub Scoped : List ℕ → Statement → Type 0
  Scoped scope Skip = Unit {0}
  Scoped scope (Seq a b) = Scoped scope a × Scoped scope b
  Scoped scope (Set k e) = Settable all is_scalar scope k × ScopedTerm scope e
  Scoped scope (Put k i e) = Readable all is_scalar scope k × ScopedTerm scope i × ScopedTerm scope e
  Scoped scope (If c a b) = ScopedTerm scope c × Scoped scope a × Scoped scope b
  Scoped scope (While c a) = ScopedTerm scope c × Scoped scope a
  Scoped scope (Local k e a) = ScopedTerm scope e × Scoped (k ∷ scope) a

-- how many locals are active together at most
abbrev pub depth : Statement → ℕ
depth Skip = 0
depth (Seq a b) = max (depth a) (depth b)
depth (Set k e) = 0
depth (Put k i e) = 0
depth (If c a b) = max (depth a) (depth b)
depth (While c a) = depth a
depth (Local k e a) = suc (depth a)

-- a term of which the outermost part is an expression of the core
abbrev pub IsPlain : Term → Type 0
IsPlain (Number z) = Unit {0}
IsPlain (Scalar k) = Unit {0}
IsPlain (Element k i) = Unit {0}
IsPlain (Operation (Machine op) a b) = Unit {0}
IsPlain e = ⊥

-- a test that lets each term that the core lacks become a variable
abbrev pub NamesTheRest : (Term → Bool) → Type 0
NamesTheRest needs_name = (e : Term) → needs_name e ≡ false → IsPlain e
