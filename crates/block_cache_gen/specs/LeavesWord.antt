-- The state after the code of an expression. (This project's layout of compiled code.)
use Rattle.std.specs.Prelude.{◌≡◌, ℕ, ◌+◌, ◌<◌, ℤ, List}
use Rattle.lt_isa.specs.Machine.{State, register}
use Rattle.src_tree.specs.Meaning.{Store}
use Rattle.block_cache_gen.specs.Homes.{Setting}
use Rattle.block_cache_gen.specs.StandsFor.{StandsFor}
use Rattle.block_cache_gen.specs.Accesses.{ArrayAccess, slots_after}

-- From state s to t: a word is in register `to`, the registers below it and the banks are as before, the accesses have
-- left their blocks in the slots, and the state still represents the store.
pub record LeavesWord (f : Setting) (store : Store) (accesses : List ArrayAccess) (to : ℕ) (word : ℤ)
    (s t : State) : Type 0 where
  pub value : register t to ≡ word
  pub below : (r : ℕ) → r < to → register t r ≡ register s r
  pub banks : t.banks ≡ s.banks
  pub slots : t.slots ≡ slots_after s.banks s.slots accesses
  pub stands : StandsFor f t store

-- The same of a guard: one word is in register `to` and another in the next one.
pub record LeavesBoth (f : Setting) (store : Store) (accesses : List ArrayAccess) (to : ℕ) (left right : ℤ)
    (s t : State) : Type 0 where
  pub first : register t to ≡ left
  pub second : register t (to + 1) ≡ right
  pub below : (r : ℕ) → r < to → register t r ≡ register s r
  pub banks : t.banks ≡ s.banks
  pub slots : t.slots ≡ slots_after s.banks s.slots accesses
  pub stands : StandsFor f t store
