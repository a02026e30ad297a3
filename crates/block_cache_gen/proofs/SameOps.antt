-- The comparison of two operations is the test of the definitions.
use Rattle.std.proofs.Common.{◌≡◌, Bool, true, false, refl, sym, subst, rules}
use Rattle.gr_word.specs.declared.operations.Op.{Op}
use Rattle.gr_word.specs.contracts.operations.Op.{the_type}
use Rattle.symbolic_values.specs.Prelude.{same_op}
use Rattle.symbolic_values.proofs.TreeEquality.{same_op-true, same_op-own}
use denote.Enum.Bare.{sameb, same_true, same_false}

false_unless : (b : Bool) → (b ≡ true → ⊥) → false ≡ b
false_unless true never = absurd (never refl)
false_unless false never = refl

-- the derived test of two operations is theirs
pub same_op-compared : (r : Bool) (op oq : Op) → r ≡ sameb the_type op oq → r ≡ same_op op oq
same_op-compared true op oq e =
    let P : Op → Type 0 = λ q. same_op op q ≡ true in
    sym (subst P (same_true the_type (search rules) op oq (sym e)) (same_op-own op))
same_op-compared false op oq e =
    false_unless (same_op op oq) (λ is. same_false the_type op oq (sym e) (same_op-true op oq is))
