-- The window of each period in which memory can be reached: a load or a store of a block waits for it. (This project's
-- profile. A bus that several cores share in turns would give each of them such a window.)
use Rattle.std.specs.Prelude.{◌≡◌, ℕ, ◌+◌, ◌-◌, ◌%◌, ◌<◌, ◌≤◌, Bool, ◌==◌, if◌then◌else◌, nat_lt}
use Rattle.lt_isa.specs.declared.profiles.Profile.{Profile}

-- the window is open at a cycle
pub record IsOpen (p : Profile) (cycle : ℕ) : Type 0 where
  pub opened : p.opens ≤ cycle % p.period
  pub unclosed : cycle % p.period < p.closes

-- The cycle at which an access starts that the machine reaches at a cycle: the first from there on at which the window
-- is open.
pub record IsAccessStart (p : Profile) (cycle start : ℕ) : Type 0 where
  pub not_before : cycle ≤ start
  pub in_window : IsOpen p start
  pub least : (other : ℕ) → cycle ≤ other → IsOpen p other → start ≤ other

-- The cycle at which an access starts, computed. Before the window closes in this period, the access waits until it
-- opens, which may be now. After that it waits for the opening in the next period.
-- why: people read `IsAccessStart`. Only this crate unfolds the sum; all crates above use the clauses of `window_laws`.
unfoldable pub access_start : Profile → ℕ → ℕ
access_start p cycle =
    let into = cycle % p.period in
    cycle + (if nat_lt into p.closes then p.opens - into else (p.opens + p.period) - into)

-- The most cycles that an access waits: the number of cycles of a period at which the window isn't open.
abbrev pub most_wait : Profile → ℕ
most_wait p = p.period - (p.closes - p.opens)

-- The only window of a period of one cycle, which is always open, and the test for it among profiles in range.
pub record HasUnitPeriod (p : Profile) : Type 0 where
  pub period : p.period ≡ 1
  pub opens : p.opens ≡ 0
  pub closes : p.closes ≡ 1

abbrev pub has_unit_period : Profile → Bool
has_unit_period p = p.period == 1
