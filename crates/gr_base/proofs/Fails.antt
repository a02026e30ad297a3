-- What is known of a fault after it was made from another one.
use Rattle.std.proofs.Common.{◌≡◌, subst, sym}
use Rattle.gr_base.specs.Prelude.{IfFault, IsFaultAnd, MatchFail}
use Rattle.gr_base.specs.declared.errors.Fail.{Fail}
use Rattle.gr_base.specs.declared.errors.Fail.TheVariants.{Fault, Memory}

-- a property of the fault that was made
pub if_mapped : {E D : Type 0} {Makes : E → D → Type 0} {P : E → Type 0} (Q : D → Type 0) (before : Fail E)
    (after : Fail D) → ((e : E) (d : D) → Makes e d → P e → Q d)
    → MatchFail before (λ e. IsFaultAnd (Makes e) after) (after ≡ Memory) → IfFault P before → IfFault Q after
if_mapped Q before Memory made is h = tt
if_mapped Q Memory (Fault d) made is h = absurd cc
if_mapped Q (Fault e) (Fault d) made is h = made e d is h

-- what is known of a fail is known of an equal one
pub same_fail : {E : Type 0} (P : E → Type 0) {a b : Fail E} → a ≡ b → IfFault P b → IfFault P a
same_fail P is h = subst (λ z. IfFault P z) (sym is) h

-- a weaker property of the fault
pub if_weaker : {E : Type 0} {P Q : E → Type 0} (fail : Fail E) → ((e : E) → P e → Q e) → IfFault P fail → IfFault Q fail
if_weaker Memory weaker h = tt
if_weaker (Fault e) weaker h = weaker e h
