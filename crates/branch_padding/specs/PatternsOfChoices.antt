-- What the check sees of a statement of secret code, regardless of the ways that its branches take: what is shown, and
-- what the loads leave in the slots. All of it depends only on the setting and the statement. (GhostRider, ASPLOS 2015:
-- the trace patterns of the type system of L_T; the padding is this project's own.)
use Rattle.std.specs.Prelude.{ℕ, List, [], ◌∷◌, ◌++◌, drop, Option, Some, None}
use Rattle.src_tree.specs.Trees.{Statement, SetVariable, SetElement, Choice, Loop, Block, Nothing, Then}
use Rattle.trace_patterns.specs.Patterns.{Shown}
use Rattle.trace_patterns.specs.Events.{TreeEvent}
use Rattle.stretches.specs.Shows.{Show, Gap, pattern_of, region_shows}
use Rattle.block_cache_gen.specs.Homes.{Setting}
use Rattle.block_cache_gen.specs.Alike.{pair_count}
use Rattle.block_cache_gen.specs.PatternsOf.{Loads, no_loads, then_loads, shows_of_test, slots_of_test, shows_of_set, slots_of_set}
use Rattle.branch_padding.specs.declared.cycles.Slack.{Slack}
use Rattle.branch_padding.specs.Cycles.{slack_of}

-- in sequence
abbrev pub shown_in_a_row : List (List Show) → List Show
shown_in_a_row [] = []
shown_in_a_row (shows ∷ rest) = shows ++ shown_in_a_row rest

abbrev pub loaded_in_a_row : List Loads → Loads
loaded_in_a_row [] = no_loads
loaded_in_a_row (loads ∷ rest) = then_loads loads (loaded_in_a_row rest)

-- The first part's statements that pair show what the second part's show; then both rests follow.
abbrev pub both_rests : {X : Type 0} → ℕ → (first second : List X) → List X
both_rests k first second = first ++ drop k second

-- What each arm of a branch shows, if this many first statements of its two parts pair; and what its loads leave.
abbrev pub arm_shows : ℕ → (first second : List (List Show)) → List Show
arm_shows k first second = shown_in_a_row (both_rests k first second)

abbrev pub arm_loads : ℕ → (first second : List Loads) → Loads
arm_loads k first second = loaded_in_a_row (both_rests k first second)

-- What the region of a branch shows, and what its loads leave. A quiet one shows the cycles of the way that is taken, and
-- nothing is loaded.
abbrev pub padded_shows : Option Slack → (taken k : ℕ) → (first second : List (List Show)) → List Show
padded_shows None taken k first second = region_shows taken (arm_shows k first second)
padded_shows (Some slack) taken k first second = Gap taken ∷ (shown_in_a_row first ++ Gap slack.taken ∷ [])

abbrev pub padded_loads : Option Slack → (k : ℕ) → (first second : List Loads) → Loads
padded_loads None k first second = arm_loads k first second
padded_loads (Some slack) k first second = no_loads

-- what a statement shows, and each statement of a block; a branch shows its guard and its region
abbrev mutual
  pub shows_of : Setting → Statement → List Show
  shows_of f (SetVariable x e) = shows_of_set f (SetVariable x e)
  shows_of f (SetElement x i e) = shows_of_set f (SetElement x i e)
  shows_of f (Choice t a b) =
      shows_of_test f t
      ++ padded_shows (slack_of f a b) f.profile.taken (pair_count f a b) (shows_of_each f a) (shows_of_each f b)
  shows_of f (Loop t a) = []

  pub shows_of_each : Setting → Block → List (List Show)
  shows_of_each f Nothing = []
  shows_of_each f (Then s rest) = shows_of f s ∷ shows_of_each f rest

-- what the loads of a statement leave in the slots, and those of each statement of a block
abbrev mutual
  pub slots_of : Setting → Statement → Loads
  slots_of f (SetVariable x e) = slots_of_set f (SetVariable x e)
  slots_of f (SetElement x i e) = slots_of_set f (SetElement x i e)
  slots_of f (Choice t a b) =
      then_loads (slots_of_test f t)
      (padded_loads (slack_of f a b) (pair_count f a b) (slots_of_each f a) (slots_of_each f b))
  slots_of f (Loop t a) = no_loads

  pub slots_of_each : Setting → Block → List Loads
  slots_of_each f Nothing = []
  slots_of_each f (Then s rest) = slots_of f s ∷ slots_of_each f rest

abbrev pub pattern_of_statement : Setting → Statement → Shown TreeEvent
pattern_of_statement f s = pattern_of (shows_of f s)

-- what each arm of the region of two parts shows and leaves in the slots if it is mirrored
abbrev pub mirrored_shows : Setting → Block → Block → List Show
mirrored_shows f a b = arm_shows (pair_count f a b) (shows_of_each f a) (shows_of_each f b)

abbrev pub mirrored_loads : Setting → Block → Block → Loads
mirrored_loads f a b = arm_loads (pair_count f a b) (slots_of_each f a) (slots_of_each f b)

-- what the region of two parts shows, its pattern, and what it leaves in the slots
abbrev pub shows_of_region : Setting → Block → Block → List Show
shows_of_region f a b =
    padded_shows (slack_of f a b) f.profile.taken (pair_count f a b) (shows_of_each f a) (shows_of_each f b)

abbrev pub pattern_of_region : Setting → Block → Block → Shown TreeEvent
pattern_of_region f a b = pattern_of (shows_of_region f a b)

abbrev pub slots_of_arms : Setting → Block → Block → Loads
slots_of_arms f a b = padded_loads (slack_of f a b) (pair_count f a b) (slots_of_each f a) (slots_of_each f b)
