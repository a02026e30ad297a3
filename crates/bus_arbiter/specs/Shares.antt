-- The shares that cores have of a bus, in turns of time. (This project's profile.)
use Rattle.std.specs.Prelude.{◌≡◌, ◌≢◌, ℕ, ◌+◌, ◌-◌, ◌<◌, ◌≤◌, List, length, slice_index_or, max, fold, map}
use Rattle.lt_isa.specs.Object.{Parts}
use Rattle.lt_isa.specs.Limits.{most_period, most_latency}
use Rattle.bus_arbiter.specs.declared.shares.Share.{Share}
use Rattle.bus_arbiter.specs.declared.errors.BusError.{BusError}
use Rattle.bus_arbiter.specs.declared.errors.BusError.TheVariants.{NoWindow, OtherPeriod, TooLong, Overlap, Memory}

-- the most cycles that a transfer of an object lasts
abbrev pub longest_of : Parts → ℕ
longest_of o = fold max 0 (map (λ b. b.latency) o.banks)

-- the share that an object wants: its window, and how long it may need the bus from a cycle of that on
abbrev pub share_of : Parts → Share
share_of o = record {
  period = o.profile.period;
  opens = o.profile.opens;
  closes = o.profile.closes;
  longest = longest_of o;
}

abbrev pub no_share : Share
no_share = record { period = 0; opens = 0; closes = 0; longest = 0 }

abbrev pub share_at : List Share → ℕ → Share
share_at plan k = slice_index_or plan k no_share

-- The reach of a share: the cycles of a period in which its transfers may be on the bus, from its opening up to this.
abbrev pub end_of : Share → ℕ
end_of s = (s.closes - 1) + s.longest

pub record InReach (s : Share) (cycle : ℕ) : Type 0 where
  pub opened : s.opens ≤ cycle
  pub unended : cycle < end_of s

-- two reaches have a cycle in common
abbrev pub Meet : Share → Share → Type 0
Meet s t = (cycle : ℕ) × InReach s cycle × InReach t cycle

pub record ShareFits (s : Share) : Type 0 where
  pub window : s.opens < s.closes
  pub within : s.closes ≤ s.period
  pub most : s.period ≤ most_period
  pub some : 1 ≤ s.longest
  pub most_longest : s.longest ≤ most_latency

-- What a plan requires of the share of its next core: a window (in a period of one cycle memory is always open), the
-- period of the others, an end within the period, and a reach that has no cycle in common with those of this many first
-- cores.
-- Rule: bus/window.
abbrev pub HasWindow : Share → Type 0
HasWindow s = s.period ≢ 1

-- Rule: bus/period.
abbrev pub HasPeriodOf : List Share → Share → Type 0
HasPeriodOf plan s = 0 < length plan → s.period ≡ (share_at plan 0).period

-- Rule: bus/long.
abbrev pub EndsInPeriod : Share → Type 0
EndsInPeriod s = end_of s ≤ s.period

-- Rule: bus/overlap.
abbrev pub IsApartFrom : List Share → ℕ → Share → Type 0
IsApartFrom plan count s = (k : ℕ) → k < count → Meet (share_at plan k) s → ⊥

pub record PlanTakes (plan : List Share) (s : Share) : Type 0 where
  pub windowed : HasWindow s
  pub period : HasPeriodOf plan s
  pub short : EndsInPeriod s
  pub apart : IsApartFrom plan (length plan) s

-- Why a plan refuses a share: the first of these, in their order, that the share hasn't; and of the cores whose reach it
-- meets, the lowest.
abbrev pub PlanRefuses : List Share → Share → BusError → Type 0
PlanRefuses plan s NoWindow = s.period ≡ 1
PlanRefuses plan s (OtherPeriod period) =
    HasWindow s × (0 < length plan) × (period ≡ (share_at plan 0).period) × (s.period ≢ period)
PlanRefuses plan s (TooLong end) = HasWindow s × HasPeriodOf plan s × (end ≡ end_of s) × (s.period < end)
PlanRefuses plan s (Overlap core) =
    HasWindow s × HasPeriodOf plan s × EndsInPeriod s × (core < length plan) × Meet (share_at plan core) s
    × IsApartFrom plan core s
PlanRefuses plan s Memory = ⊥

-- Shares that fit on one bus: each has a window of one period, its reach ends within it, and the reaches of two cores
-- have no cycle in common.
pub record IsPlan (plan : List Share) : Type 0 where
  pub count : length plan ≤ 8
  pub fits : (k : ℕ) → k < length plan → ShareFits (share_at plan k)
  pub period : (k : ℕ) → k < length plan → (share_at plan k).period ≡ (share_at plan 0).period
  pub short : (k : ℕ) → k < length plan → end_of (share_at plan k) ≤ (share_at plan k).period
  pub apart : (j k : ℕ) → j < length plan → k < length plan → j ≢ k → Meet (share_at plan j) (share_at plan k) → ⊥
