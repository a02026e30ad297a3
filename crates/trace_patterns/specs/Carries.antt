-- What is known at the join of a region, carried from its branch through both arms whether or not the check refuses
-- something there. (GhostRider, ASPLOS 2015: the rule for secret conditionals of L_T; that only a region's shape is
-- refused here is this project's profile.)
use Rattle.std.specs.Prelude.{◌≡◌, ℕ, ◌+◌, ◌-◌, ◌<◌, ℤ, true, [], length, slice_get, Some}
use Rattle.gr_word.specs.declared.operations.Cmp.{Cmp}
use Rattle.lt_isa.specs.declared.instructions.Instr.{Instr}
use Rattle.lt_isa.specs.declared.instructions.Instr.TheVariants.{Br}
use Rattle.lt_isa.specs.Object.{Parts}
use Rattle.trace_patterns.specs.Known.{Known}
use Rattle.trace_patterns.specs.SymStates.{SymState, at_entry, known_after, common}
use Rattle.trace_patterns.specs.Shape.{Arms, shape}
use Rattle.trace_patterns.specs.Carried.{only_goes_on, held_behind}

-- an object without its notes, so that none is tested
abbrev pub without_notes : Parts → Parts
without_notes o = record o { notes = [] }

mutual
  -- What is known is carried from place p up to an end, inside `depth` regions: p is the end; or the instruction
  -- continues to the next place; or a branch opens a region, over which it is carried to the join. Nothing is refused
  -- but a jump, a halt, and a region that doesn't have the shape of two arms.
  pub data CarriesTo (o : Parts) : (depth end p : ℕ) → (s t : SymState) → Type 0 where
    Arrived : (depth end p : ℕ) (s : SymState) → p ≡ end → CarriesTo o depth end p s s
    Along : (depth end p : ℕ) (s : SymState) (i : Instr) (t : SymState)
        → p < end → slice_get o.code p ≡ Some i → only_goes_on i ≡ true
        → CarriesTo o depth end (p + 1) (held_behind o s i) t → CarriesTo o depth end p s t
    Through : (depth end p : ℕ) (s : SymState) (cmp : Cmp) (ra rb : ℕ) (offset : ℤ) (join : ℕ) (t u : SymState)
        → p < end → slice_get o.code p ≡ Some (Br cmp ra rb offset)
        → CarriesOver o depth end p offset s join t → CarriesTo o depth end join t u → CarriesTo o depth end p s u

  -- it is carried over a region: what both arms leave alike is known at the join
  pub data CarriesOver (o : Parts) : (depth end p : ℕ) → ℤ → SymState → (join : ℕ) → SymState → Type 0 where
    ByBoth : (depth end p : ℕ) (offset : ℤ) (s : SymState) (second join : ℕ) (left right : SymState)
        → shape (without_notes o) depth end p offset ≡ Arms second join
        → CarriesTo o (depth + 1) (second - 1) (p + 1) s left → CarriesTo o (depth + 1) join second s right
        → CarriesOver o depth end p offset s join (common left right)

-- the region of a branch at p in public code: what is known at its join, if k is known at the branch
pub record JoinsIn (o : Parts) (p : ℕ) (offset : ℤ) (k : Known) (join : ℕ) (next : Known) : Type 0 where
  pub state : SymState
  pub over : CarriesOver o 0 (length o.code - 1) p offset (at_entry k) join state
  pub next_is : next ≡ known_after state
