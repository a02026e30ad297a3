-- The shape of a region: a branch forward over a first arm that ends in a jump forward over the second arm.
-- (GhostRider, ASPLOS 2015: the rule for secret conditionals of L_T; the order of refusals is this project's profile.)
use Rattle.std.specs.Prelude.{ℕ, zero, suc, ◌+◌, ◌-◌, ℤ, pos, negsuc, Bool, true, false, not, ◌&&◌, ◌||◌, ◌==◌, nat_lt, nat_le, if◌then◌else◌, List, [], ◌∷◌, length, slice_get, Option, Some}
use Rattle.std.specs.List.{list_any}
use Rattle.lt_isa.specs.declared.instructions.Instr.{Instr}
use Rattle.lt_isa.specs.declared.instructions.Instr.TheVariants.{Jmp}
use Rattle.lt_isa.specs.Object.{Parts}
use Rattle.trace_patterns.specs.declared.reasons.Reason.{Reason}
use Rattle.trace_patterns.specs.declared.reasons.Reason.TheVariants.{JumpOutside, SecretLoop, BadRegion}

-- A region is refused at a place, or its second arm begins at one place and both arms join at another.
pub data RegionShape : Type 0 where
  BadShape : (place : ℕ) (reason : Reason) → RegionShape
  Arms : (second join : ℕ) → RegionShape

-- The first test that is true refuses the region, at its place and for its reason.
abbrev pub first_held : List (Bool × ℕ × Reason) → RegionShape → RegionShape
first_held [] next = next
first_held (test ∷ tests) next = if test.0 then BadShape test.1 test.2 else first_held tests next

-- the number of regions that may be around a place
abbrev pub most_regions : ℕ
most_regions = 64

-- whether an offset doesn't lead forward and, if it does, how many places ahead it leads
abbrev pub leads_back : ℤ → Bool
leads_back (pos zero) = true
leads_back (pos (suc n)) = false
leads_back (negsuc n) = true

abbrev pub places_on : ℤ → ℕ
places_on (pos n) = n
places_on (negsuc n) = 0

-- whether an instruction is a jump, and the offset of one
abbrev pub is_jump : Option Instr → Bool
is_jump (Some (Jmp offset)) = true
is_jump _ = false

abbrev pub jump_offset : Option Instr → ℤ
jump_offset (Some (Jmp offset)) = offset
jump_offset _ = pos 0

-- a place past the last instruction
abbrev pub is_outside : Parts → ℕ → Bool
is_outside o q = not (nat_lt q (length o.code))

-- there is a note after one place and before another
abbrev pub has_note_between : Parts → ℕ → ℕ → Bool
has_note_between o low high = list_any (λ n. nat_lt low n.pc && nat_lt n.pc high) o.notes

-- The tests of the region of a branch at p with an offset to t. `before` is the instruction before t, which must jump
-- to the join; `depth` is the number of regions around this one, and the join is at `end` at the latest.
-- Rule: check/region-shape.
abbrev pub shape_tests : Parts → (depth end p : ℕ) → ℤ → (t : ℕ) → Option Instr → (join : ℕ) → List (Bool × ℕ × Reason)
shape_tests o depth end p offset t before join =
    (nat_le most_regions depth, p, BadRegion)
    ∷ (leads_back offset, p, SecretLoop)
    ∷ (is_outside o t, p, JumpOutside)
    ∷ ((t == p + 1) || nat_lt end t, p, BadRegion)
    ∷ (not (is_jump before), p, BadRegion)
    ∷ (leads_back (jump_offset before), t - 1, SecretLoop)
    ∷ (is_outside o join, t - 1, JumpOutside)
    ∷ (nat_lt end join || has_note_between o p join, p, BadRegion)
    ∷ []

-- the place to which the branch leads, and the place to which the jump before it leads
abbrev pub second_arm : ℕ → ℤ → ℕ
second_arm p offset = p + places_on offset

abbrev pub join_of : ℕ → Option Instr → ℕ
join_of t before = (t - 1) + places_on (jump_offset before)

unfoldable pub shape : Parts → (depth end p : ℕ) → ℤ → RegionShape
shape o depth end p offset =
    let t = second_arm p offset in
    let before = slice_get o.code (t - 1) in
    let join = join_of t before in
    first_held (shape_tests o depth end p offset t before join) (Arms t join)
