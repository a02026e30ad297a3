-- For the proofs and for private clauses only: acceptance as the check computes it, from each place to the next. What
-- people read is `Accepts` of trace_patterns; both are proved equal. (GhostRider, ASPLOS 2015: the type system of L_T;
-- the order of refusals is this project's profile.)
use Rattle.std.specs.Prelude.{◌≡◌, ℕ, zero, suc, ◌+◌, ◌-◌, ◌<◌, ◌==◌, if◌then◌else◌, ℤ, length, Option, Some, None, Result, Ok, Err}
use Rattle.lt_isa.specs.Object.{Parts}
use Rattle.trace_patterns.specs.declared.reasons.Reason.{Reason}
use Rattle.trace_patterns.specs.declared.reasons.Reason.TheVariants.{NoNote, NoteTooLow, RunsOffEnd}
use Rattle.trace_patterns.specs.Known.{Known, start_known, fits}
use Rattle.trace_patterns.specs.SymStates.{at_entry, known_after}
use Rattle.trace_patterns.specs.Rules.{Ruling, claimed_at, ruling_at}
use Rattle.region_walk.specs.FuelWalk.{Crossing, Crosses, Blocked, crossing, walk}
use Rattle.trace_patterns.specs.Rules as rule

-- A place is refused; or it falls through to the next place; or it doesn't; or it opens a region that is crossed, and
-- the next place that is reached is the join; or it opens a region that is refused at one of its places.
pub data Effect : Type 0 where
  Refused : (reason : Reason) → Effect
  Falls : (known : Known) → Effect
  Leaves : Effect
  Joins : (join : ℕ) (known : Known) → Effect
  Stuck : (place : ℕ) (reason : Reason) → Effect

-- the result for a branch on a secret; its join is at the last place at the latest
abbrev pub joined_at : Crossing → Effect
joined_at (Crosses pattern join state) = Joins join (known_after state)
joined_at (Blocked place reason) = Stuck place reason

abbrev pub crossing_at : Parts → ℕ → ℤ → Known → Crossing
crossing_at o p offset k = crossing o (walk o) 0 (length o.code - 1) p offset (at_entry k)

-- the last place must not fall through
abbrev pub falls_to : Parts → ℕ → Known → Effect
falls_to o p next = if p + 1 == length o.code then Refused RunsOffEnd else Falls next

-- the check's result for a ruling on place p, if k is known there
abbrev pub effect_of : Parts → ℕ → Known → Ruling → Effect
effect_of o p k (rule.Refused reason) = Refused reason
effect_of o p k (rule.Falls next) = falls_to o p next
effect_of o p k rule.Leaves = Leaves
effect_of o p k (rule.Opens offset) = joined_at (crossing_at o p offset k)

unfoldable pub effect_at : Parts → ℕ → Known → Effect
effect_at o p k = effect_of o p k (ruling_at o p k)

-- What is known at a place. If the place has a note, it is what the note claims, and what reaches the place must fit
-- it. Otherwise it is what reaches the place, and something must.
abbrev pub entered : Option Known → Option Known → Result Known Reason
entered None None = Err NoNote
entered None (Some reached) = Ok reached
entered (Some claimed) None = Ok claimed
entered (Some claimed) (Some reached) = if fits reached claimed then Ok claimed else Err NoteTooLow

abbrev pub on_entry : Result Known Reason → (Known → Effect) → Effect
on_entry (Err reason) go = Refused reason
on_entry (Ok k) go = go k

-- How a place is reached: not from the place before it; or from there, with what is known; or the place is inside a
-- region that was crossed, and isn't visited.
pub data Arrival : Type 0 where
  Unreached : Arrival
  Here : (known : Known) → Arrival
  Inside : (join : ℕ) (known : Known) → Arrival

-- the result for a visited place, from what reaches it; a place inside a region passes on what is known at the join
abbrev pub visited : Arrival → (Option Known → Effect) → Effect
visited Unreached go = go None
visited (Here k) go = go (Some k)
visited (Inside join k) go = Joins join k

-- the check's result for a place, from how it is reached
unfoldable pub effect_from : Parts → ℕ → Arrival → Effect
effect_from o p arrival = visited arrival (λ reached. on_entry (entered (claimed_at o p) reached) (effect_at o p))

-- how a place is reached, from the result for the place before it
abbrev pub arrival_at : ℕ → Effect → Arrival
arrival_at p (Falls k) = Here k
arrival_at p (Joins join k) = if p == join then Here k else Inside join k
arrival_at p other = Unreached

unfoldable pub reached_at : Parts → ℕ → Arrival
reached_at o zero = Here start_known
reached_at o (suc p) = arrival_at (suc p) (effect_from o p (reached_at o p))

-- the refusal that a visit to place p finds, if it finds one: of p, or of a place of the region that a branch at p
-- opens
abbrev pub refusal_in : ℕ → Effect → Option (ℕ × Reason)
refusal_in p (Refused reason) = Some (p, reason)
refusal_in p (Stuck place reason) = Some (place, reason)
refusal_in p other = None

abbrev pub refusal_at : Parts → ℕ → Option (ℕ × Reason)
refusal_at o p = refusal_in p (effect_from o p (reached_at o p))

-- no place below one is refused; and the refusal at the lowest place at which a visit finds one
abbrev pub NoneBelow : Parts → ℕ → Type 0
NoneBelow o p = (q : ℕ) → q < p → refusal_at o q ≡ None

pub record IsFirstFound (o : Parts) (place : ℕ) (reason : Reason) : Type 0 where
  pub at : ℕ
  pub inside : at < length o.code
  pub refused : refusal_at o at ≡ Some (place, reason)
  pub none_below : NoneBelow o at
