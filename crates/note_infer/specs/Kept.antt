-- Which states are kept when one more branch joins, and which branches are listed as those that may join next. (Only
-- clauses of the search cite this.)
use Rattle.std.specs.Prelude.{◌≡◌, ℕ, ◌+◌, ◌<◌, ◌≤◌, ◌⊎◌, false, List, [], ◌∷◌, ◌++◌, length, slice_get, slice_set, slice_index_or, Option, Some, None}
use Rattle.std.specs.List.{Contains}
use Rattle.lt_isa.specs.Object.{Parts}
use Rattle.lt_isa.specs.declared.instructions.Instr.{Instr}
use Rattle.lt_isa.specs.declared.instructions.Instr.TheVariants.{Idb}
use Rattle.trace_patterns.specs.Known.{Known, bank_known}
use Rattle.note_infer.specs.Ways.{is_crossed}
use Rattle.note_infer.specs.Least.{MayJoin}
use Rattle.note_infer.specs.Brings.{at_places, Waits}
use Rattle.note_infer.specs.Noting.{IsTargetOf}
use Rattle.note_infer.specs.declared.joining.Joining.{Joining}

-- For each target the places that jump or branch to it, as lists that two tables link: the first has for each target
-- one more than the last of these places, the second for each such place one more than the one before it in its list. 0
-- ends a list.
abbrev pub link_at : List ℕ → ℕ → ℕ
link_at links q = slice_index_or links q 0

pub data IsLinked (before : List ℕ) : (link p : ℕ) → Type 0 where
  LinkedHere : (link p : ℕ) → link ≡ p + 1 → IsLinked before link p
  LinkedBefore : (link head p : ℕ) → link ≡ head + 1 → IsLinked before (link_at before head) p
      → IsLinked before link p

-- links lead to places of the tables, and from each place to a lower one
pub record LinksFall (last before : List ℕ) : Type 0 where
  pub inside : (q : ℕ) → link_at last q ≤ length before
  pub falls : (p : ℕ) → link_at before p ≤ p

-- the lists have the places below a bound
pub record OriginsBelow (o : Parts) (bound : ℕ) (last before : List ℕ) : Type 0 where
  pub last_size : length last ≡ length o.code
  pub before_size : length before ≡ length o.code
  pub inside : (q : ℕ) → link_at last q ≤ bound
  pub falls : (p : ℕ) → link_at before p ≤ p
  pub told : (p q : ℕ) → p < bound → IsTargetOf o [] p q → IsLinked before (link_at last q) p

abbrev pub TellsOrigins : Parts → (last before : List ℕ) → Type 0
TellsOrigins o last before = OriginsBelow o (length o.code) last before

-- one more place is listed for a target
pub record TellsOne (p target : ℕ) (last before last_after before_after : List ℕ) : Type 0 where
  pub inside : target < length last → (last_after ≡ slice_set last target (p + 1))
      × (before_after ≡ slice_set before p (link_at last target))
  pub outside : length last ≤ target → (last_after ≡ last) × (before_after ≡ before)

-- a list was followed from a first link to another: what is linked from the first is linked from the other, or was seen
abbrev pub IsFollowed : List ℕ → (first link : ℕ) → (ℕ → Type 0) → Type 0
IsFollowed before first link seen = (p : ℕ) → IsLinked before first p → IsLinked before link p ⊎ seen p

-- jumps and branches lead to place q only from `place` and places between the two
abbrev pub LedFromWithin : (last before : List ℕ) → (place q : ℕ) → Type 0
LedFromWithin last before place q = (p : ℕ) → IsLinked before (link_at last q) p → (place ≤ p) × (p < q)

-- the slot whose block's address an instruction reads
abbrev pub IsReadOf : Instr → Option ℕ → Type 0
IsReadOf i None = (rd slot : ℕ) → i ≡ Idb rd slot → ⊥
IsReadOf i (Some slot) = (rd : ℕ) × (i ≡ Idb rd slot)

-- no address of a block is read at a place, or the block's bank is known there, or the place isn't reached
abbrev pub KnowsBlockAt : Parts → List (Option Known) → ℕ → Type 0
KnowsBlockAt o states q = (rd slot : ℕ) (k : Known) → slice_get o.code q ≡ Some (Idb rd slot)
    → slice_index_or states q None ≡ Some k → bank_known k slot ≡ None → ⊥

-- States outside the region of a branch stay the least when that branch joins. No branch within is crossed. Before a
-- first place, steps enter the region only by its branch. From that place on, if the address of a block is read, the
-- block's bank is known.
pub record IsApart (o : Parts) (crossed : List ℕ) (states : List (Option Known)) (place join : ℕ) : Type 0 where
  pub first : ℕ
  pub within : first ≤ join
  pub early : (p q : ℕ) → place < q → q < first → IsTargetOf o [] p q → (place ≤ p) × (p < q)
  pub alone : (q : ℕ) → place < q → q < join → is_crossed crossed q ≡ false
  pub known : (q : ℕ) → first ≤ q → q < join → KnowsBlockAt o states q

-- a place within a region needn't wait, any other one does
pub data AwaitsOne (place join origin : ℕ) (stack : List ℕ) : List ℕ → Type 0 where
  Within : place ≤ origin → origin < join → AwaitsOne place join origin stack stack
  Outside : AwaitsOne place join origin stack (stack ++ origin ∷ [])

-- Other places may wait than before, among them those of a kind that are outside a region.
pub record Awaits (place join size : ℕ) (awaited : ℕ → Type 0) (stack after : List ℕ) : Type 0 where
  pub keeps : (x : ℕ) → Waits stack x → Waits after x
  pub inside : ((x : ℕ) → Waits stack x → x < size) → (x : ℕ) → Waits after x → x < size
  pub waits : (p : ℕ) → awaited p → ((place ≤ p) × (p < join)) ⊎ Waits after p

-- The branch of a region waits, and so does each place outside it that jumps or branches into it, before a bound.
pub record AwaitsBelow (last before : List ℕ) (place join bound : ℕ) (stack : List ℕ) : Type 0 where
  pub branch : Waits stack place
  pub inside : (x : ℕ) → Waits stack x → x < length before
  pub waits : (p q : ℕ) → place < q → q < bound → IsLinked before (link_at last q) p
      → ((place ≤ p) × (p < join)) ⊎ Waits stack p

abbrev pub IsAwaiting : (last before : List ℕ) → (place join : ℕ) → (stack : List ℕ) → Type 0
IsAwaiting last before place join stack = AwaitsBelow last before place join join stack

-- the states without those between two places
pub record IsWithout (place join : ℕ) (before after : List (Option Known)) : Type 0 where
  pub size : length after ≡ length before
  pub inside : (q : ℕ) → place < q → q < join → slice_index_or after q None ≡ None
  pub outside : (q : ℕ) → (place < q → q < join → ⊥) → slice_index_or after q None ≡ slice_index_or before q None

-- each branch that may join is listed, or waits
pub record ListsJoiners (o : Parts) (crossed : List ℕ) (states : List (Option Known)) (stack joiners : List ℕ)
    : Type 0 where
  pub each : (q : ℕ) → MayJoin o crossed (at_places states) q → Contains joiners q ⊎ Waits stack q

-- the same but for the one that joins next
pub record ListsOthers (o : Parts) (crossed : List ℕ) (states : List (Option Known)) (joiners : List ℕ) (place : ℕ)
    : Type 0 where
  pub each : (q : ℕ) → MayJoin o crossed (at_places states) q → Contains joiners q ⊎ (q ≡ place)

abbrev pub ListsRest : Parts → List ℕ → List (Option Known) → List ℕ → Option Joining → Type 0
ListsRest o crossed states joiners None = Unit {0}
ListsRest o crossed states joiners (Some found) = ListsOthers o crossed states joiners found.place
