-- For the proofs and for private clauses only: the walk of an arm with a bound on its steps, and the outcome of a
-- region, as the code computes them. The relation that people read is `Walk` of trace_patterns; both are proved equal.
-- (GhostRider, ASPLOS 2015: the rule for secret conditionals of L_T; the order of refusals is this project's profile.)
use Rattle.std.specs.Prelude.{ℕ, zero, suc, ◌+◌, ◌-◌, ℤ, Bool, ◌&&◌, ◌==◌, false, if◌then◌else◌, nat_lt, slice_get, Option, Some, None}
use Rattle.std.specs.Cmp.Lexicographic.{pointwise}
use Rattle.lt_isa.specs.declared.instructions.Instr.{Instr}
use Rattle.lt_isa.specs.Object.{Parts}
use Rattle.symbolic_values.specs.Sameness.{same_tree}
use Rattle.trace_patterns.specs.declared.reasons.Reason.{Reason}
use Rattle.trace_patterns.specs.declared.reasons.Reason.TheVariants.{UnequalArms, RunsOffEnd}
use Rattle.trace_patterns.specs.Patterns.{Shown, no_events, joined}
use Rattle.trace_patterns.specs.Events.{TreeEvent, RamRead, EncRead, EncWrite, Oram}
use Rattle.trace_patterns.specs.SymStates.{SymState, common}
use Rattle.trace_patterns.specs.Single.{Single, Refuses, Goes, Branches, single}
use Rattle.trace_patterns.specs.Shape.{RegionShape, BadShape, Arms, shape}
use Rattle.trace_patterns.specs.Walk.{untaken_way, taken_way}

-- A walk reaches its end, with what the code shows and what is known there; or it stops at a place that is refused.
pub data WalkFound : Type 0 where
  Walked : (pattern : Shown TreeEvent) (state : SymState) → WalkFound
  Stops : (place : ℕ) (reason : Reason) → WalkFound

-- A region is crossed, with what it shows, its join, and what is known there; or a place blocks it.
pub data Crossing : Type 0 where
  Crosses : (pattern : Shown TreeEvent) (join : ℕ) (state : SymState) → Crossing
  Blocked : (place : ℕ) (reason : Reason) → Crossing

-- a walk of code inside `depth` regions, from a place up to an end, with what is known at the place
abbrev pub Walk : Type 0
Walk = (depth end place : ℕ) → SymState → WalkFound

-- events and patterns are equal as they are written
unfoldable pub same_event : TreeEvent → TreeEvent → Bool
same_event (RamRead a) (RamRead b) = same_tree a b
same_event (EncRead a) (EncRead b) = same_tree a b
same_event (EncWrite a) (EncWrite b) = same_tree a b
same_event (Oram a) (Oram b) = a == b
same_event _ _ = false

abbrev pub same_part : ℕ × TreeEvent → ℕ × TreeEvent → Bool
same_part x y = (x.0 == y.0) && same_event x.1 y.1

unfoldable pub same_shown : Shown TreeEvent → Shown TreeEvent → Bool
same_shown p q = (p.last == q.last) && pointwise same_part p.parts q.parts

-- both paths must show the same events, and what is equal after both arms is known at the join
abbrev pub compared_arms : Parts → ℕ → ℕ → WalkFound → WalkFound → Crossing
compared_arms o p join (Stops place reason) second = Blocked place reason
compared_arms o p join (Walked a s) (Stops place reason) = Blocked place reason
compared_arms o p join (Walked a s) (Walked b t) =
    if same_shown (untaken_way o a) (taken_way o b) then Crosses (untaken_way o a) join (common s t)
    else Blocked p UnequalArms

-- the arms of a region are walked from one state, the first arm first
abbrev pub walked_arms : Parts → Walk → ℕ → ℕ → SymState → RegionShape → Crossing
walked_arms o walk depth p s (BadShape place reason) = Blocked place reason
walked_arms o walk depth p s (Arms t join) =
    compared_arms o p join (walk (depth + 1) (t - 1) (p + 1) s) (walk (depth + 1) join t s)

-- the outcome of the region of a branch at p, if s is known there
abbrev pub crossing : Parts → Walk → ℕ → ℕ → ℕ → ℤ → SymState → Crossing
crossing o walk depth end p offset s = walked_arms o walk depth p s (shape o depth end p offset)

-- what was shown, and then what the rest of the walk shows
abbrev pub after_pattern : Shown TreeEvent → WalkFound → WalkFound
after_pattern pattern (Walked rest state) = Walked (joined pattern rest) state
after_pattern pattern (Stops place reason) = Stops place reason

abbrev pub after_crossing : Crossing → (ℕ → SymState → WalkFound) → WalkFound
after_crossing (Crosses pattern join state) rest = after_pattern pattern (rest join state)
after_crossing (Blocked place reason) rest = Stops place reason

-- the walk continues after an instruction, or at the join of the region that it opens
abbrev pub after_single : Parts → Walk → ℕ → ℕ → ℕ → SymState → Single → WalkFound
after_single o walk depth end p s (Refuses reason) = Stops p reason
after_single o walk depth end p s (Goes pattern state) = after_pattern pattern (walk depth end (p + 1) state)
after_single o walk depth end p s (Branches offset) =
    after_crossing (crossing o walk depth end p offset s) (walk depth end)

-- no arm has a place after the code
abbrev pub from_place : Parts → Walk → ℕ → ℕ → ℕ → SymState → Option Instr → WalkFound
from_place o walk depth end p s None = Stops p RunsOffEnd
from_place o walk depth end p s (Some i) = after_single o walk depth end p s (single o s i)

-- The walk from a place up to an end, in at most this many steps. Each walk inside it has fewer places ahead, so one
-- more step than there are places up to the end is enough. A walk without steps hasn't reached its end.
unfoldable pub walk_within : ℕ → Parts → Walk
walk_within zero o depth end p s = Stops p RunsOffEnd
walk_within (suc fuel) o depth end p s =
    if nat_lt p end then from_place o (walk_within fuel o) depth end p s (slice_get o.code p) else Walked no_events s

unfoldable pub walk : Parts → Walk
walk o depth end p s = walk_within (suc (end - p)) o depth end p s
