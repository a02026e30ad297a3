-- Terms and statements in larger scopes, and what becomes of conditions.
use Rattle.std.proofs.Common.{ℕ, ◌⊎◌, inl, inr, ◌&&◌, Bool, true, false, if◌then◌else◌, pos, List, ◌∷◌, refl, ⊎_elim}
use Rattle.module_tree.specs.Operators.{Machine, Compare, Conjunction, Disjunction}
use Rattle.flat_tree.specs.Trees.{Term, Number, Scalar, Element, Operation, Select, Statement, Skip, Seq, Set, Put, If, While, Local}
use Rattle.flat_tree.specs.Keeps.{reads}
use Rattle.flat_core.specs.Core.{InScope, Settable, CoreTerm}
use Rattle.flat_passes.specs.Conditions.{choice, assigned, declared, with_local, conditions}
use Rattle.module_lowering.specs.Shape.{ScopedTerm, Scoped}

-- a scope within a larger one
pub record Inside (all : ℕ) (scope larger : List ℕ) : Type 1 where
  pub grows : (P : ℕ → Type 0) (k : ℕ) → InScope all P scope k → InScope all P larger k

pub inside_same : (all : ℕ) (scope : List ℕ) → Inside all scope scope
inside_same all scope = record { grows = λ P k is. is }

pub inside_then : {all : ℕ} {scope larger largest : List ℕ} → Inside all scope larger → Inside all larger largest
    → Inside all scope largest
inside_then f g = record { grows = λ P k is. g.grows P k (f.grows P k is) }

pub inside_more : {all : ℕ} {scope larger : List ℕ} (j : ℕ) → Inside all scope larger → Inside all scope (j ∷ larger)
inside_more j f = record { grows = λ P k is. inr (f.grows P k is) }

pub inside_both : {all : ℕ} {scope larger : List ℕ} (j : ℕ) → Inside all scope larger
    → Inside all (j ∷ scope) (j ∷ larger)
inside_both {all = all} {scope = scope} {larger = larger} j f =
    record { grows = λ P k is. ⊎_elim (λ e. inl e) (λ more. inr (f.grows P k more)) is }

module _ (all : ℕ) (is_scalar : ℕ → Bool) where
  pub term_larger : {scope larger : List ℕ} → Inside all scope larger → (e : Term) → ScopedTerm all is_scalar scope e
      → ScopedTerm all is_scalar larger e
  term_larger f (Number z) is = tt
  term_larger f (Scalar k) is = f.grows _ k is
  term_larger f (Element k i) is = (f.grows _ k is.0, term_larger f i is.1)
  term_larger f (Operation operator a b) is = (term_larger f a is.0, term_larger f b is.1)
  term_larger f (Select c a b) is = (term_larger f c is.0, term_larger f a is.1, term_larger f b is.2)

  pub statement_larger : {scope larger : List ℕ} → Inside all scope larger → (s : Statement)
      → Scoped all is_scalar scope s → Scoped all is_scalar larger s
  statement_larger f Skip is = tt
  statement_larger f (Seq a b) is = (statement_larger f a is.0, statement_larger f b is.1)
  statement_larger f (Set k e) is = (f.grows _ k is.0, term_larger f e is.1)
  statement_larger f (Put k i e) is = (f.grows _ k is.0, term_larger f i is.1, term_larger f e is.2)
  statement_larger f (If c a b) is = (term_larger f c is.0, statement_larger f a is.1, statement_larger f b is.2)
  statement_larger f (While c a) is = (term_larger f c is.0, statement_larger f a is.1)
  statement_larger f (Local k e a) is = (term_larger f e is.0, statement_larger (inside_both k f) a is.1)

  pub core_larger : {scope larger : List ℕ} → Inside all scope larger → (e : Term) → CoreTerm all is_scalar scope e
      → CoreTerm all is_scalar larger e
  core_larger f (Number z) is = tt
  core_larger f (Scalar k) is = f.grows _ k is
  core_larger f (Element k i) is = (f.grows _ k is.0, core_larger f i is.1)
  core_larger f (Operation (Machine op) a b) is = (core_larger f a is.0, core_larger f b is.1)
  core_larger f (Operation operator a b) is = absurd is
  core_larger f (Select c a b) is = absurd is

  -- conditions keep variables in scope, regardless of what is light
  module _ (light : Statement → Bool) where
    either_scoped : (scope : List ℕ) (x : Bool) (a b : Statement) → Scoped all is_scalar scope a
        → Scoped all is_scalar scope b → Scoped all is_scalar scope (if x then a else b)
    either_scoped scope true a b one other = one
    either_scoped scope false a b one other = other

    choice_scoped : (scope : List ℕ) (c : Term) (a b : Statement) → ScopedTerm all is_scalar scope c
        → Scoped all is_scalar scope a → Scoped all is_scalar scope b → Scoped all is_scalar scope (choice light c a b)
    choice_scoped scope (Operation Conjunction p q) a b is one other =
        either_scoped scope (light b) (choice light p (choice light q a b) b) (If (Operation Conjunction p q) a b)
        (choice_scoped scope p (choice light q a b) b is.0 (choice_scoped scope q a b is.1 one other) other)
        (is, one, other)
    choice_scoped scope (Operation Disjunction p q) a b is one other =
        either_scoped scope (light a) (choice light p a (choice light q a b)) (If (Operation Disjunction p q) a b)
        (choice_scoped scope p a (choice light q a b) is.0 one (choice_scoped scope q a b is.1 one other))
        (is, one, other)
    choice_scoped scope (Select c x y) a b is one other =
        either_scoped scope (light a && light b) (choice light c (choice light x a b) (choice light y a b))
        (If (Select c x y) a b)
        (choice_scoped scope c (choice light x a b) (choice light y a b) is.0 (choice_scoped scope x a b is.1 one other)
        (choice_scoped scope y a b is.2 one other))
        (is, one, other)
    choice_scoped scope c a b is one other = (is, one, other)

    assigned_scoped : (scope : List ℕ) (k : ℕ) (e : Term) → Settable all is_scalar scope k
        → ScopedTerm all is_scalar scope e → Scoped all is_scalar scope (assigned light k e)
    assigned_scoped scope k (Select c a b) set is =
        choice_scoped scope c (assigned light k a) (assigned light k b) is.0 (assigned_scoped scope k a set is.1)
        (assigned_scoped scope k b set is.2)
    assigned_scoped scope k (Operation (Compare cmp) a b) set is =
        choice_scoped scope (Operation (Compare cmp) a b) (Set k (Number (pos 1))) (Set k (Number (pos 0))) is
        (set, tt) (set, tt)
    assigned_scoped scope k (Operation Conjunction a b) set is =
        choice_scoped scope (Operation Conjunction a b) (Set k (Number (pos 1))) (Set k (Number (pos 0))) is
        (set, tt) (set, tt)
    assigned_scoped scope k (Operation Disjunction a b) set is =
        choice_scoped scope (Operation Disjunction a b) (Set k (Number (pos 1))) (Set k (Number (pos 0))) is
        (set, tt) (set, tt)
    assigned_scoped scope k e set is = (set, is)

    declared_scoped : (scope : List ℕ) (k : ℕ) (e : Term) (body : Statement) → ScopedTerm all is_scalar scope e
        → Scoped all is_scalar (k ∷ scope) body → Scoped all is_scalar scope (declared light k e body)
    declared_scoped scope k e body is more =
        either_scoped scope (reads k e) (Local k e body) (Local k (Number (pos 0)) (Seq (assigned light k e) body))
        (is, more) (
          tt,
          (assigned_scoped (k ∷ scope) k e (inl refl) (term_larger (inside_more k (inside_same all scope)) e is), more),
        )

    local_scoped : (scope : List ℕ) (k : ℕ) (e : Term) (body : Statement) → ScopedTerm all is_scalar scope e
        → Scoped all is_scalar (k ∷ scope) body → Scoped all is_scalar scope (with_local light k e body)
    local_scoped scope k (Select c a b) body is more = declared_scoped scope k (Select c a b) body is more
    local_scoped scope k (Operation (Compare cmp) a b) body is more =
        declared_scoped scope k (Operation (Compare cmp) a b) body is more
    local_scoped scope k (Operation Conjunction a b) body is more =
        declared_scoped scope k (Operation Conjunction a b) body is more
    local_scoped scope k (Operation Disjunction a b) body is more =
        declared_scoped scope k (Operation Disjunction a b) body is more
    local_scoped scope k e body is more = (is, more)

    pub conditions_scoped : (scope : List ℕ) (s : Statement) → Scoped all is_scalar scope s
        → Scoped all is_scalar scope (conditions light s)
    conditions_scoped scope Skip is = tt
    conditions_scoped scope (Seq a b) is = (conditions_scoped scope a is.0, conditions_scoped scope b is.1)
    conditions_scoped scope (Set k e) is = assigned_scoped scope k e is.0 is.1
    conditions_scoped scope (Put k i e) is = is
    conditions_scoped scope (If c a b) is =
        choice_scoped scope c (conditions light a) (conditions light b) is.0 (conditions_scoped scope a is.1)
        (conditions_scoped scope b is.2)
    conditions_scoped scope (While c a) is = (is.0, conditions_scoped scope a is.1)
    conditions_scoped scope (Local k e a) is =
        local_scoped scope k e (conditions light a) is.0 (conditions_scoped (k ∷ scope) a is.1)
