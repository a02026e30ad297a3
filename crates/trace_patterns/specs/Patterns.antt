-- Patterns: what a stretch of code shows, as events with the cycles of the instructions between them.
-- (GhostRider, ASPLOS 2015: the trace patterns of the type system of L_T; gaps of cycles are this project's profile.)
use Rattle.std.specs.Prelude.{ℕ, ◌+◌, List, [], ◌∷◌, ◌++◌}

-- some events, each with the gap before it, and the gap after the last one
pub record Shown (E : Type 0) : Type 0 where
  pub parts : List (ℕ × E)
  pub last : ℕ

abbrev pub no_events : {E : Type 0} → Shown E
no_events = record { parts = []; last = 0 }

-- a pattern with more cycles, or with an event, at its end
abbrev pub with_gap : {E : Type 0} → Shown E → ℕ → Shown E
with_gap p cycles = record p { last = p.last + cycles }

abbrev pub with_event : {E : Type 0} → Shown E → E → Shown E
with_event p event = record { parts = p.parts ++ (p.last, event) ∷ []; last = 0 }

-- the gap before the first event, or the only gap
abbrev pub first_of : {E : Type 0} → List (ℕ × E) → ℕ → ℕ
first_of [] last = last
first_of (part ∷ parts) last = part.0

abbrev pub first_gap : {E : Type 0} → Shown E → ℕ
first_gap p = first_of p.parts p.last

-- two patterns in sequence: the gaps that meet become one
abbrev pub joined_parts : {E : Type 0} → Shown E → List (ℕ × E) → ℕ → Shown E
joined_parts p [] last = with_gap p last
joined_parts p (part ∷ parts) last = record { parts = p.parts ++ (p.last + part.0, part.1) ∷ parts; last = last }

abbrev pub joined : {E : Type 0} → Shown E → Shown E → Shown E
joined p q = joined_parts p q.parts q.last
