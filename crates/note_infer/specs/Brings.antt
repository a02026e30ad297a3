-- What is brought to one place of a list of states, with the places that wait. (Only the search's own clauses cite
-- this.)
use Rattle.std.specs.Prelude.{◌≡◌, ℕ, ◌+◌, ◌*◌, ◌<◌, ◌≤◌, ◌⊎◌, List, [], ◌∷◌, ◌++◌, length, slice_index_or, slice_set, Option, Some, None}
use Rattle.lt_isa.specs.Object.{Parts}
use Rattle.lt_isa.specs.Ranges.{IsInRange}
use Rattle.trace_patterns.specs.Known.{Known, bank_known}
use Rattle.note_infer.specs.declared.looks.Spot.{Spot}
use Rattle.note_infer.specs.Steps.{IsReachable}
use Rattle.note_infer.specs.Least.{States, IsFull}
use Rattle.note_infer.specs.UnderWay.{IsRaisedTo, IsUnderWay, room_left}

-- a list as states
abbrev pub at_places : List (Option Known) → States
at_places states = λ p. slice_index_or states p None

-- A place isn't raised, and nothing changes; or it is raised, and waits.
pub data Brings (states : List (Option Known)) (stack : List ℕ) (place : ℕ) (next : Known)
    : List (Option Known) → List ℕ → Type 0 where
  Enough : IsRaisedTo (slice_index_or states place None) next None → Brings states stack place next states stack
  More : (high : Known) → IsRaisedTo (slice_index_or states place None) next (Some high)
      → Brings states stack place next (slice_set states place (Some high)) (stack ++ place ∷ [])

-- how often the states of a list can still be raised
abbrev pub all_room : List (Option Known) → ℕ
all_room [] = 0
all_room (state ∷ states) = room_left state + all_room states

-- a place waits
abbrev pub Waits : List ℕ → ℕ → Type 0
Waits [] x = ⊥
Waits (place ∷ stack) x = (place ≡ x) ⊎ Waits stack x

-- What is known at a place is sound: steps lead there, and each bank that is known is one of the object's.
pub record IsSoundAt (o : Parts) (p : ℕ) (k : Known) : Type 0 where
  pub reached : IsReachable o p
  pub banks : (slot bank : ℕ) → bank_known k slot ≡ Some bank → bank < length o.banks

abbrev pub AllSound : Parts → List (Option Known) → Type 0
AllSound o states = (p : ℕ) (k : Known) → slice_index_or states p None ≡ Some k → IsSoundAt o p k

-- A place is looked at: the states stay under way, without it but for what was raised, and they take no more room and
-- places that wait together than before. What is raised waits.
pub record Looks (o : Parts) (crossed : List ℕ) (place : ℕ) (before : List (Option Known)) (stack : List ℕ)
    (after : List (Option Known)) (rest : List ℕ) : Type 0 where
  pub size : length after ≡ length before
  pub room : all_room after * 2 + length rest ≤ all_room before * 2 + length stack
  pub inside : ((x : ℕ) → Waits stack x → x < length before) → (x : ℕ) → Waits rest x → x < length before
  pub under_way : IsUnderWay o crossed (at_places before) (λ x. Waits stack x ⊎ (x ≡ place))
      → IsUnderWay o crossed (at_places after) (Waits rest)
  pub sound : IsInRange o → AllSound o before → AllSound o after
  pub waits : (x : ℕ) → Waits stack x → Waits rest x
  pub same : (x : ℕ) → (at_places after x ≡ at_places before x) ⊎ Waits rest x

-- what the loop keeps: the states are under way, and what waits are places of the code
pub record LoopHolds (o : Parts) (crossed : List ℕ) (states : List (Option Known)) (stack : List ℕ) : Type 0 where
  pub size : length states ≡ length o.code
  pub places : (x : ℕ) → Waits stack x → x < length states
  pub under_way : IsUnderWay o crossed (at_places states) (Waits stack)
  pub sound : AllSound o states

-- what the loop has less of at each turn
abbrev pub work_left : List (Option Known) → List ℕ → ℕ
work_left states stack = all_room states * 2 + length stack

-- What is brought to a place of the code, if it is one.
pub data BringsInside (states : List (Option Known)) (stack : List ℕ) (place : ℕ) (next : Known)
    : List (Option Known) → List ℕ → Type 0 where
  InCode : (after : List (Option Known)) (rest : List ℕ) → place < length states
      → Brings states stack place next after rest → BringsInside states stack place next after rest
  Outside : length states ≤ place → BringsInside states stack place next states stack

abbrev pub AllFull : List (Option Known) → Type 0
AllFull states = (p : ℕ) (k : Known) → slice_index_or states p None ≡ Some k → IsFull k

-- a place of the code, at which this is known
pub record IsAt (spot : Spot) (states : List (Option Known)) : Type 0 where
  pub range : IsInRange spot.object.now
  pub size : length states ≡ length spot.object.now.code
  pub inside : spot.place < length states
  pub full : AllFull states
  pub at : slice_index_or states spot.place None ≡ Some spot.known.now
