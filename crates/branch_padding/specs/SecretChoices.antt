-- How the check walks the code of statements in secret code, in every object that has the homes of its setting and has
-- that code in an arm, and how it passes a branch on a secret in public code, of which the form for each place is for
-- proofs. (GhostRider, ASPLOS 2015: the type system of L_T; at most 64 regions may be nested.)
use Rattle.std.specs.Prelude.{ℕ, ◌+◌, ◌≤◌, List, length}
use Rattle.lt_isa.specs.declared.symbols.Note.{Note}
use Rattle.lt_isa.specs.declared.instructions.Instr.{Instr}
use Rattle.lt_isa.specs.Object.{Parts}
use Rattle.src_tree.specs.Trees.{Statement}
use Rattle.trace_patterns.specs.Known.{Known}
use Rattle.trace_patterns.specs.Shape.{most_regions}
use Rattle.trace_patterns.specs.SymStates.{SymState}
use Rattle.stretches.specs.InArms.{StandsInArm}
use Rattle.stretches.specs.Passing.{HoldsAt, Passes}
use Rattle.block_cache_gen.specs.Homes.{Setting, HasHomes}
use Rattle.block_cache_gen.specs.Carries.{Carries, CarriesInArm}
use Rattle.block_cache_gen.specs.PublicCode.{StandsNoted}
use Rattle.block_cache_gen.specs.SecretCode.{ArmWalk}
use Rattle.branch_padding.specs.Nesting.{nesting_of}
use Rattle.branch_padding.specs.PatternsOfChoices.{slots_of, pattern_of_statement}

-- in an arm, at any place and for any state before it
abbrev pub IsWalkedAsStatement : Setting → Statement → List Instr → Type 0
IsWalkedAsStatement f s code =
    (o : Parts) (depth p : ℕ) (state : SymState)
    → HasHomes o f → StandsInArm o p code → CarriesInArm f state → depth + nesting_of s ≤ most_regions
    → ArmWalk o f depth p state code (pattern_of_statement f s) (slots_of f s)

-- Code in public code is passed, and what the setting relies on is kept.
pub record PassedCode (o : Parts) (f : Setting) (p : ℕ) (code : List Instr) (comes : Known) : Type 0 where
  pub last : Known
  pub passes : Passes o p comes (p + length code) last
  pub carries : Carries f last

-- for proofs: so it is at any place with its notes
abbrev pub IsPassedAnywhere : Parts → Setting → List Instr → (ℕ → List Note) → Type 0
IsPassedAnywhere o f code notes =
    (p : ℕ) (comes holds : Known)
    → StandsNoted o p code (notes p) → HoldsAt o p comes holds → Carries f holds → PassedCode o f p code comes
