-- Plans of memory whose arrays can be spread without a number that is too large; each sound plan is one. (This project's
-- profile.)
use Rattle.std.specs.Prelude.{◌≡◌, ◌≤◌, All, length}
use Rattle.lt_isa.specs.Limits.{most_blocks}
use Rattle.scratch_alloc.specs.Plans.{Plan}

-- Each variable has a slot, there is encrypted memory, and each variable begins within the blocks that it may have.
pub record PlanFits (plan : Plan) : Type 0 where
  pub slots : length plan.slots ≡ length plan.places
  pub banks : 2 ≤ length plan.blocks
  pub blocks : All (λ q. q.block ≤ most_blocks 1) plan.places
