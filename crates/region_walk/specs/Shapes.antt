-- For the proofs and for private clauses only: shapes of regions as the code computes them. (GhostRider, ASPLOS 2015:
-- the rule for secret conditionals of L_T; the order of refusals is this project's profile.)
use Rattle.std.specs.Prelude.{ℕ, ◌+◌, ◌-◌, not, ◌||◌, nat_lt, if◌then◌else◌, ℤ, [], ◌∷◌, Option}
use Rattle.lt_isa.specs.declared.instructions.Instr.{Instr}
use Rattle.lt_isa.specs.Object.{Parts}
use Rattle.trace_patterns.specs.declared.reasons.Reason.TheVariants.{JumpOutside, SecretLoop, BadRegion}
use Rattle.trace_patterns.specs.Shape.{first_held, leads_back, places_on, is_jump, jump_offset, is_outside, has_note_between}
use Rattle.region_walk.specs.declared.shapes.RegionShape.{RegionShape}
use Rattle.region_walk.specs.declared.shapes.RegionShape.TheVariants.{BadShape, Arms}
use Rattle.trace_patterns.specs.Shape as whole

-- the shape that the code's value represents
abbrev pub region_shape_of : RegionShape → whole.RegionShape
region_shape_of (BadShape place reason) = whole.BadShape place reason
region_shape_of (Arms second join) = whole.Arms second join

-- the last tests of the shape of a region, if the instruction before the second arm at t jumps by an offset
abbrev pub joined_by : Parts → (end p t : ℕ) → ℤ → whole.RegionShape
joined_by o end p t offset =
    let join = (t - 1) + places_on offset in
    first_held
    ((leads_back offset, t - 1, SecretLoop)
    ∷ (is_outside o join, t - 1, JumpOutside)
    ∷ (nat_lt end join || has_note_between o p join, p, BadRegion)
    ∷ []) (whole.Arms t join)

-- the same, if `before` is the instruction before the second arm
abbrev pub ended_by : Parts → (end p t : ℕ) → Option Instr → whole.RegionShape
ended_by o end p t before =
    if not (is_jump before) then whole.BadShape p BadRegion else joined_by o end p t (jump_offset before)
