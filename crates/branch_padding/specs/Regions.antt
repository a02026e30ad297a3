-- The code of a branch on a secret is one region: after the code of its guard a branch opens it, what both its ways
-- show and load depends only on the setting and the two parts, and they join just after the whole code. (GhostRider,
-- ASPLOS 2015: the rule for secret conditionals of L_T.)
use Rattle.std.specs.Prelude.{◌≡◌, ℕ, ◌+◌, ◌≤◌, ℤ, List, ◌∷◌, ◌++◌, length}
use Rattle.std.specs.Option.{unwrap_or}
use Rattle.lt_isa.specs.declared.instructions.Instr.{Instr}
use Rattle.lt_isa.specs.declared.instructions.Instr.TheVariants.{Br}
use Rattle.lt_isa.specs.declared.symbols.Note.{Note}
use Rattle.lt_isa.specs.Object.{Parts}
use Rattle.src_tree.specs.Trees.{Test, Statement, SetVariable, SetElement, Choice, Loop, Block}
use Rattle.trace_patterns.specs.Known.{Known}
use Rattle.trace_patterns.specs.Rules.{Opens, ruling_at}
use Rattle.trace_patterns.specs.Shape.{most_regions}
use Rattle.trace_patterns.specs.SymStates.{SymState, at_entry, slot_held}
use Rattle.trace_patterns.specs.Visits.{CrossesFrom}
use Rattle.trace_patterns.specs.Walk.{WalksTo, CrossesTo}
use Rattle.stretches.specs.InArms.{StandsInArm}
use Rattle.stretches.specs.Passing.{Passes}
use Rattle.block_cache_gen.specs.declared.frames.Mode.{Mode}
use Rattle.block_cache_gen.specs.declared.frames.Mode.TheVariants.{Public}
use Rattle.block_cache_gen.specs.Carries.{CarriesInArm}
use Rattle.block_cache_gen.specs.Homes.{Setting, HasHomes}
use Rattle.block_cache_gen.specs.PatternsOf.{Loads, pattern_of_test, slots_of_test}
use Rattle.block_cache_gen.specs.PublicCode.{AtItsPlace}
use Rattle.block_cache_gen.specs.RunsOf.{EvaluatesTest}
use Rattle.branch_padding.specs.Nesting.{nesting_of}
use Rattle.branch_padding.specs.PatternsOfChoices.{slots_of_arms, pattern_of_region}

-- A slot holds what the loads left in it, and what it held before where they left nothing.
abbrev pub HoldsLoaded : Loads → (before after : SymState) → Type 0
HoldsLoaded loads before after = (slot : ℕ) → slot_held after slot ≡ unwrap_or (loads slot) (slot_held before slot)

-- In public code at p, the guard is passed from the state on entry; the branch after it jumps forward by an offset and
-- opens a region, which is crossed to the end of all of the code. What is shown and loaded is that of two parts.
pub record OpensRegion (o : Parts) (f : Setting) (a b : Block) (p : ℕ) (guard code : List Instr) (offset : ℤ)
    (comes : Known) : Type 0 where
  pub known : Known
  pub passes : Passes o p comes (p + length guard) known
  pub opens : ruling_at o (p + length guard) known ≡ Opens offset
  pub state : SymState
  pub crosses : CrossesFrom o (p + length guard) offset known (pattern_of_region f a b) (p + length code) state
  pub slots : HoldsLoaded (slots_of_arms f a b) (at_entry known) state

-- In an arm at p, the guard is walked from a state; the region of the branch after it is crossed to the end of all of
-- the code. What is shown and loaded is that of the guard and of two parts.
pub record NestsRegion (o : Parts) (f : Setting) (t : Test) (a b : Block) (depth p : ℕ) (from : SymState)
    (guard code : List Instr) (offset : ℤ) : Type 0 where
  pub there : SymState
  pub walks : WalksTo o depth (p + length guard) p from (pattern_of_test f t) there
  pub loaded : HoldsLoaded (slots_of_test f t) from there
  pub state : SymState
  pub crosses : CrossesTo o depth (p + length code) (p + length guard) offset there (pattern_of_region f a b)
      (p + length code) state
  pub slots : HoldsLoaded (slots_of_arms f a b) there state

-- The code is that of the guard, which leaves its sides in registers 0 and 1, then a branch where they compare as the
-- guard says, and then the arms.
pub record IsOneRegion (f : Setting) (mode : Mode) (t : Test) (a b : Block) (place : ℕ) (code : List Instr)
    (notes : List Note) : Type 0 where
  pub guard : List Instr
  pub offset : ℤ
  pub arms : List Instr
  pub splits : code ≡ guard ++ (Br t.cmp 0 1 offset ∷ arms)
  pub evaluates : EvaluatesTest f mode 0 t guard
  pub opens : mode ≡ Public
      → AtItsPlace f place code notes (λ o comes. OpensRegion o f a b place guard code offset comes)
  pub nests : ¬ (mode ≡ Public) → (o : Parts) (depth p : ℕ) (from : SymState)
      → HasHomes o f → StandsInArm o p code → CarriesInArm f from → depth + nesting_of (Choice t a b) ≤ most_regions
      → NestsRegion o f t a b depth p from guard code offset

-- so is the code of a choice
abbrev pub IsRegionOf : Setting → Mode → Statement → (place : ℕ) → List Instr → List Note → Type 0
IsRegionOf f mode (Choice t a b) place code notes = IsOneRegion f mode t a b place code notes
IsRegionOf f mode other place code notes = ⊥
