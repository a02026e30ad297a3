-- For the proofs and for private clauses only: the names of symbols in a set.
use Rattle.std.specs.Prelude.{◌≡◌, ℕ, Bool, true, not, if◌then◌else◌, List, bytes_eq}
use Rattle.std.specs.List.{list_all}
use Rattle.std.specs.Borrow.{Bor}
use Rattle.std.specs.Ordering.{nat_cmp}
use Rattle.std.specs.Cmp.Lexicographic.{slice_cmp}
use Rattle.std.specs.BTreeSet.{BTreeSet, contains_by}
use Rattle.lt_isa.specs.declared.symbols.Symbol.{Symbol}

-- whether a set has a name
abbrev pub has_name : BTreeSet (Bor (List ℕ)) → List ℕ → Bool
has_name set name = contains_by (λ k. slice_cmp nat_cmp name k.now) set

-- A set gained a name.
pub record GainsName (before after : BTreeSet (Bor (List ℕ))) (name : List ℕ) : Type 0 where
  pub at : (other : List ℕ) → has_name after other ≡ (if bytes_eq name other then true else has_name before other)

-- A set has the names of some symbols: it lacks a name exactly if each symbol has another.
pub record AreNamesOf (set : BTreeSet (Bor (List ℕ))) (symbols : List Symbol) : Type 0 where
  pub at : (name : List ℕ) → not (has_name set name) ≡ list_all (λ s. not (bytes_eq s.name name)) symbols
