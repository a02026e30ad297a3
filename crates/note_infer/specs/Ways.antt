-- The ways from a place of public code to others, where some branches are crossed as regions, and what they carry.
-- (GhostRider, ASPLOS 2015: the type system of L_T; that its states are inferred is this project's profile.)
use Rattle.std.specs.Prelude.{◌≡◌, ℕ, ◌+◌, ◌<◌, ◌==◌, ℤ, Bool, true, false, List, length, slice_get, Some}
use Rattle.std.specs.List.{list_any}
use Rattle.gr_word.specs.declared.operations.Cmp.{Cmp}
use Rattle.lt_isa.specs.declared.instructions.Instr.{Instr}
use Rattle.lt_isa.specs.declared.instructions.Instr.TheVariants.{Jmp, Br}
use Rattle.lt_isa.specs.Object.{Parts}
use Rattle.lt_isa.specs.Step.{target_of}
use Rattle.trace_patterns.specs.Known.{Known}
use Rattle.trace_patterns.specs.Carried.{only_goes_on, known_behind}
use Rattle.trace_patterns.specs.Carries.{JoinsIn}

-- a branch is one of those that are crossed
abbrev pub is_crossed : List ℕ → ℕ → Bool
is_crossed crossed p = list_any (λ q. q == p) crossed

-- A way leads from a place where k is known to another place of the code, and carries what is known there. It is a
-- step; but a branch that is crossed leads only to its join.
pub data PublicWay (o : Parts) (crossed : List ℕ) : (p : ℕ) → Known → (q : ℕ) → Known → Type 0 where
  Next : (p : ℕ) (k : Known) (q : ℕ) (next : Known) (i : Instr)
      → slice_get o.code p ≡ Some i → only_goes_on i ≡ true → q ≡ p + 1 → q < length o.code → next ≡ known_behind k i
      → PublicWay o crossed p k q next
  Skips : (p : ℕ) (k : Known) (q : ℕ) (next : Known) (cmp : Cmp) (ra rb : ℕ) (offset : ℤ)
      → slice_get o.code p ≡ Some (Br cmp ra rb offset) → is_crossed crossed p ≡ false
      → q ≡ p + 1 → q < length o.code → next ≡ k → PublicWay o crossed p k q next
  Branches : (p : ℕ) (k : Known) (q : ℕ) (next : Known) (cmp : Cmp) (ra rb : ℕ) (offset : ℤ)
      → slice_get o.code p ≡ Some (Br cmp ra rb offset) → is_crossed crossed p ≡ false
      → q ≡ target_of o p offset → q < length o.code → next ≡ k → PublicWay o crossed p k q next
  Jumps : (p : ℕ) (k : Known) (q : ℕ) (next : Known) (offset : ℤ)
      → slice_get o.code p ≡ Some (Jmp offset)
      → q ≡ target_of o p offset → q < length o.code → next ≡ k → PublicWay o crossed p k q next
  Crosses : (p : ℕ) (k : Known) (q : ℕ) (next : Known) (cmp : Cmp) (ra rb : ℕ) (offset : ℤ)
      → slice_get o.code p ≡ Some (Br cmp ra rb offset) → is_crossed crossed p ≡ true
      → JoinsIn o p offset k q next → PublicWay o crossed p k q next
