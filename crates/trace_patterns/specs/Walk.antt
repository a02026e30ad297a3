-- The walk of an arm, and the outcome of a region: both arms are walked from one state, and must show the same events.
-- (GhostRider, ASPLOS 2015: the rule for secret conditionals of L_T; that trees are compared as they are written, and
-- the order of refusals, are this project's profile.)
use Rattle.std.specs.Prelude.{◌≡◌, ℕ, ◌+◌, ◌-◌, ◌<◌, ℤ, slice_get, Some}
use Rattle.gr_word.specs.declared.operations.Cmp.{Cmp}
use Rattle.lt_isa.specs.declared.instructions.Instr.{Instr}
use Rattle.lt_isa.specs.declared.instructions.Instr.TheVariants.{Br}
use Rattle.lt_isa.specs.Object.{Parts}
use Rattle.trace_patterns.specs.declared.reasons.Reason.{Reason}
use Rattle.trace_patterns.specs.declared.reasons.Reason.TheVariants.{UnequalArms}
use Rattle.trace_patterns.specs.Patterns.{Shown, no_events, with_gap, joined}
use Rattle.trace_patterns.specs.Events.{TreeEvent}
use Rattle.trace_patterns.specs.SymStates.{SymState, common}
use Rattle.trace_patterns.specs.Single.{Refuses, Goes, gap, single}
use Rattle.trace_patterns.specs.Shape.{BadShape, Arms, shape}

-- What the two ways through a region show. On one, the branch isn't taken and costs one cycle; the first arm and the
-- jump at its end follow. On the other, the branch is taken; the second arm follows.
abbrev pub untaken_way : Parts → Shown TreeEvent → Shown TreeEvent
untaken_way o first = with_gap (joined (gap 1) first) o.profile.taken

abbrev pub taken_way : Parts → Shown TreeEvent → Shown TreeEvent
taken_way o second = joined (gap o.profile.taken) second

mutual
  -- The walk from place p up to an end, inside `depth` regions: p is the end; or the instruction continues to the next
  -- place; or a branch opens a region, which is crossed to its join.
  pub data WalksTo (o : Parts) : (depth end p : ℕ) → SymState → Shown TreeEvent → SymState → Type 0 where
    AtEnd : (depth end : ℕ) (s : SymState) → WalksTo o depth end end s no_events s
    Onward : (depth end p : ℕ) (s : SymState) (i : Instr) (pattern : Shown TreeEvent) (t : SymState)
        (rest : Shown TreeEvent) (u : SymState)
        → p < end → slice_get o.code p ≡ Some i → single o s i ≡ Goes pattern t → WalksTo o depth end (p + 1) t rest u
        → WalksTo o depth end p s (joined pattern rest) u
    Across : (depth end p : ℕ) (s : SymState) (cmp : Cmp) (ra rb : ℕ) (offset : ℤ) (pattern : Shown TreeEvent)
        (join : ℕ) (t : SymState) (rest : Shown TreeEvent) (u : SymState)
        → p < end → slice_get o.code p ≡ Some (Br cmp ra rb offset)
        → CrossesTo o depth end p offset s pattern join t → WalksTo o depth end join t rest u
        → WalksTo o depth end p s (joined pattern rest) u

  -- The region of a branch at p with an offset is crossed to its join: both arms are walked from one state, both paths
  -- show the same events, and what both arms leave alike is known at the join.
  -- Rule: check/equal-arms.
  pub data CrossesTo (o : Parts) : (depth end p : ℕ) → ℤ → SymState → Shown TreeEvent → ℕ → SymState → Type 0 where
    BothArms : (depth end p : ℕ) (offset : ℤ) (s : SymState) (second join : ℕ) (one : Shown TreeEvent) (left : SymState)
        (other : Shown TreeEvent) (right : SymState)
        → shape o depth end p offset ≡ Arms second join
        → WalksTo o (depth + 1) (second - 1) (p + 1) s one left → WalksTo o (depth + 1) join second s other right
        → untaken_way o one ≡ taken_way o other
        → CrossesTo o depth end p offset s (untaken_way o one) join (common left right)

mutual
  -- A walk stops at a place: at an instruction that is refused, or inside a region, or later on.
  pub data StopsAt (o : Parts) : (depth end p : ℕ) → SymState → (place : ℕ) → Reason → Type 0 where
    AtOnce : (depth end p : ℕ) (s : SymState) (i : Instr) (reason : Reason)
        → p < end → slice_get o.code p ≡ Some i → single o s i ≡ Refuses reason → StopsAt o depth end p s p reason
    Later : (depth end p : ℕ) (s : SymState) (i : Instr) (pattern : Shown TreeEvent) (t : SymState) (place : ℕ)
        (reason : Reason)
        → p < end → slice_get o.code p ≡ Some i → single o s i ≡ Goes pattern t
        → StopsAt o depth end (p + 1) t place reason → StopsAt o depth end p s place reason
    Within : (depth end p : ℕ) (s : SymState) (cmp : Cmp) (ra rb : ℕ) (offset : ℤ) (place : ℕ) (reason : Reason)
        → p < end → slice_get o.code p ≡ Some (Br cmp ra rb offset)
        → BlockedAt o depth end p offset s place reason → StopsAt o depth end p s place reason
    Beyond : (depth end p : ℕ) (s : SymState) (cmp : Cmp) (ra rb : ℕ) (offset : ℤ) (pattern : Shown TreeEvent)
        (join : ℕ) (t : SymState) (place : ℕ) (reason : Reason)
        → p < end → slice_get o.code p ≡ Some (Br cmp ra rb offset)
        → CrossesTo o depth end p offset s pattern join t → StopsAt o depth end join t place reason
        → StopsAt o depth end p s place reason

  -- The region of a branch at p is refused at a place: for its shape; or where its first arm stops; or where its second
  -- arm stops, after the first was walked; or at the branch itself, if the two ways differ in what they show.
  pub data BlockedAt (o : Parts) : (depth end p : ℕ) → ℤ → SymState → (place : ℕ) → Reason → Type 0 where
    ByShape : (depth end p : ℕ) (offset : ℤ) (s : SymState) (place : ℕ) (reason : Reason)
        → shape o depth end p offset ≡ BadShape place reason → BlockedAt o depth end p offset s place reason
    InFirst : (depth end p : ℕ) (offset : ℤ) (s : SymState) (second join place : ℕ) (reason : Reason)
        → shape o depth end p offset ≡ Arms second join
        → StopsAt o (depth + 1) (second - 1) (p + 1) s place reason → BlockedAt o depth end p offset s place reason
    InSecond : (depth end p : ℕ) (offset : ℤ) (s : SymState) (second join : ℕ) (one : Shown TreeEvent) (left : SymState)
        (place : ℕ) (reason : Reason)
        → shape o depth end p offset ≡ Arms second join
        → WalksTo o (depth + 1) (second - 1) (p + 1) s one left → StopsAt o (depth + 1) join second s place reason
        → BlockedAt o depth end p offset s place reason
    Differ : (depth end p : ℕ) (offset : ℤ) (s : SymState) (second join : ℕ) (one : Shown TreeEvent) (left : SymState)
        (other : Shown TreeEvent) (right : SymState)
        → shape o depth end p offset ≡ Arms second join
        → WalksTo o (depth + 1) (second - 1) (p + 1) s one left → WalksTo o (depth + 1) join second s other right
        → ¬ (untaken_way o one ≡ taken_way o other)
        → BlockedAt o depth end p offset s p UnequalArms
