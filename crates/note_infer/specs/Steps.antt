-- The places that steps lead to, regardless of what is known there. (This project's profile.)
use Rattle.std.specs.Prelude.{◌≡◌, ℕ, ◌+◌, ◌<◌, ℤ, true, length, slice_get, Some}
use Rattle.gr_word.specs.declared.operations.Cmp.{Cmp}
use Rattle.lt_isa.specs.declared.instructions.Instr.{Instr}
use Rattle.lt_isa.specs.declared.instructions.Instr.TheVariants.{Jmp, Br}
use Rattle.lt_isa.specs.Object.{Parts}
use Rattle.lt_isa.specs.Step.{target_of}
use Rattle.trace_patterns.specs.Carried.{only_goes_on}

-- One step leads from a place to another place of the code: to the next one, but not after a jump or a halt; and from a
-- jump and a branch to their targets.
pub data LeadsTo (o : Parts) : (p q : ℕ) → Type 0 where
  Onward : (p q : ℕ) (i : Instr) → slice_get o.code p ≡ Some i → only_goes_on i ≡ true → q ≡ p + 1 → q < length o.code
      → LeadsTo o p q
  Past : (p q : ℕ) (cmp : Cmp) (ra rb : ℕ) (offset : ℤ)
      → slice_get o.code p ≡ Some (Br cmp ra rb offset) → q ≡ p + 1 → q < length o.code → LeadsTo o p q
  Branched : (p q : ℕ) (cmp : Cmp) (ra rb : ℕ) (offset : ℤ)
      → slice_get o.code p ≡ Some (Br cmp ra rb offset) → q ≡ target_of o p offset → q < length o.code → LeadsTo o p q
  Jumped : (p q : ℕ) (offset : ℤ)
      → slice_get o.code p ≡ Some (Jmp offset) → q ≡ target_of o p offset → q < length o.code → LeadsTo o p q

-- steps lead to a place from place 0
pub data IsReachable (o : Parts) : ℕ → Type 0 where
  AtStart : IsReachable o 0
  Behind : (p q : ℕ) → IsReachable o p → LeadsTo o p q → IsReachable o q

-- the lowest place of the code to which no steps lead
-- Rule: infer/dead-code.
pub record IsDead (o : Parts) (p : ℕ) : Type 0 where
  pub inside : p < length o.code
  pub dead : ¬ IsReachable o p
  pub lowest : (q : ℕ) → q < p → IsReachable o q

abbrev pub AllReachable : Parts → Type 0
AllReachable o = (p : ℕ) → p < length o.code → IsReachable o p
