-- Patterns as lists of what is shown in sequence: cycles without an event, and events. (GhostRider, ASPLOS 2015: the
-- trace patterns of the type system of L_T; gaps of cycles are this project's profile.)
use Rattle.std.specs.Prelude.{ℕ, List, [], ◌∷◌, ◌++◌}
use Rattle.trace_patterns.specs.Patterns.{Shown, no_events, joined}
use Rattle.trace_patterns.specs.Events.{TreeEvent}
use Rattle.trace_patterns.specs.Single.{gap, event}

pub data Show : Type 0 where
  Gap : (cycles : ℕ) → Show
  Seen : (event : TreeEvent) → Show

-- the pattern of one item, and of several: adjacent gaps become one
abbrev pub pattern_of_one : Show → Shown TreeEvent
pattern_of_one (Gap cycles) = gap cycles
pattern_of_one (Seen e) = event e

abbrev pub pattern_of : List Show → Shown TreeEvent
pattern_of [] = no_events
pattern_of (x ∷ shows) = joined (pattern_of_one x) (pattern_of shows)

-- a region of two arms that show the same events: the cycles of its branch, what an arm shows, and the cycles of its
-- jump
abbrev pub region_shows : (taken : ℕ) → List Show → List Show
region_shows taken shows = Gap taken ∷ (shows ++ Gap taken ∷ [])
