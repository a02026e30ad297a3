-- Errors in a chain: when there is none.
use Rattle.std.proofs.Common.{◌≡◌, Bool, true, false, ◌||◌, Option, Some, None, refl}
use Rattle.std.specs.Option.{option_or}
use Rattle.src_tree.specs.declared.faults.TypeError.{TypeError}
use Rattle.src_tree.specs.Prelude.{where_true}

-- the first of three errors, grouped either way
pub or_assoc : {X : Type 0} (a b c : Option X) → option_or (option_or a b) c ≡ option_or a (option_or b c)
or_assoc None b c = refl
or_assoc (Some x) b c = refl

-- a missing second error makes no difference
pub or_none : {X : Type 0} (a : Option X) → a ≡ option_or a None
or_none None = refl
or_none (Some x) = refl

-- both of two propositions
pub record Neither (P Q : Type 0) : Type 0 where
  pub first : P
  pub second : Q

-- if a chain of two has no error, neither of the two has one
pub neither : (a b : Option TypeError) → option_or a b ≡ None → Neither (a ≡ None) (b ≡ None)
neither None b e = record { first = refl; second = e }
neither (Some x) b e = absurd cc

-- if neither of two has an error, the chain of the two has none
pub chained : (a b : Option TypeError) → a ≡ None → b ≡ None → option_or a b ≡ None
chained None b e f = f
chained (Some x) b e f = absurd cc

-- a test without an error is false
pub not_true : (b : Bool) (e : TypeError) → where_true b e ≡ None → b ≡ false
not_true false e h = refl
not_true true e h = absurd cc

-- a test that is false has no error
pub no_fault : (b : Bool) (e : TypeError) → b ≡ false → where_true b e ≡ None
no_fault false e h = refl
no_fault true e h = absurd cc

-- if the disjunction of two tests is false, both tests are false
pub both_false : (a b : Bool) → (a || b) ≡ false → Neither (a ≡ false) (b ≡ false)
both_false false b e = record { first = refl; second = e }
both_false true b e = absurd cc

-- if two tests are both false, so is their disjunction
pub neither_true : (a b : Bool) → a ≡ false → b ≡ false → (a || b) ≡ false
neither_true false b e f = f
neither_true true b e f = absurd cc
