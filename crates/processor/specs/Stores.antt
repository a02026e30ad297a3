-- What the scratchpad and the banks of a machine hold. For the contracts of private functions, and for proofs.
-- (GhostRider, ASPLOS 2015: the scratchpad and the banks.)
use Rattle.std.specs.Prelude.{ℕ, ℤ, List}
use Rattle.lt_isa.specs.Machine.{Slot}

-- the slots, and how many words each has room for
pub record Pad : Type 0 where
  pub words : ℕ
  pub slots : List Slot

-- the blocks of the banks, how many words each has, and the oblivious banks themselves
pub record Memories (B : Type 0) : Type 0 where
  pub words : ℕ
  pub banks : List (List (List ℤ))
  pub orams : List B
