-- What is known of a call that failed. (This project's profile.)
use Rattle.gr_base.specs.declared.errors.Fail.{Fail}
use Rattle.gr_base.specs.declared.errors.Fail.TheVariants as fail

-- the fault has a property, if memory didn't run out
abbrev pub IfFault : {E : Type 0} → (E → Type 0) → Fail E → Type 0
IfFault Is (fail.Fault e) = Is e
IfFault Is fail.Memory = Unit {0}

-- there is a fault, and it has a property
abbrev pub IsFaultAnd : {E : Type 0} → (E → Type 0) → Fail E → Type 0
IsFaultAnd Is (fail.Fault e) = Is e
IsFaultAnd Is fail.Memory = ⊥

-- a statement for each case: about the fault, or if memory ran out
abbrev pub MatchFail : {E : Type 0} → Fail E → (E → Type 0) → Type 0 → Type 0
MatchFail (fail.Fault e) Is Otherwise = Is e
MatchFail fail.Memory Is Otherwise = Otherwise
