-- For the proofs and for private clauses only: a set of names that a walk over a program adds to.
use Rattle.std.specs.Prelude.{◌≡◌, ℕ, List, Bool, ◌||◌}
use Rattle.std.specs.Borrow.{Bor}
use Rattle.std.specs.Ordering.{nat_cmp}
use Rattle.std.specs.Cmp.Lexicographic.{slice_cmp}
use Rattle.std.specs.BTreeSet.{BTreeSet, contains_by}
use Rattle.src_tree.specs.declared.trees.Decl.{Decl}
use Rattle.bank_alloc.specs.declared.classes.Class.{Class}
use Rattle.bank_alloc.specs.Classes.{class_by}

-- whether a set has a name
abbrev pub is_member : BTreeSet (Bor (List ℕ)) → List ℕ → Bool
is_member set name = contains_by (λ k. slice_cmp nat_cmp name k.now) set

-- a set gained the names that pass a test
pub record GainsNames (before after : BTreeSet (Bor (List ℕ))) (test : List ℕ → Bool) : Type 0 where
  pub at : (name : List ℕ) → is_member after name ≡ (is_member before name || test name)

-- the class of a variable, where the arrays with a secret index are in a set
abbrev pub class_in : BTreeSet (Bor (List ℕ)) → Decl → Class
class_in indexed d = class_by d.label d.length (is_member indexed d.name)
