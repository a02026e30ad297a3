-- The window of a profile that an option gives. (This project's profile.)
use Rattle.std.specs.Prelude.{ℕ, ◌+◌, ◌<◌, ◌≤◌, nat_lt, nat_le, Bool, ◌&&◌, ◌==◌, if◌then◌else◌, List, length, Option, Some, None, option_and_then}
use Rattle.std.specs.List.{after_first, before_first, position_or_len}
use Rattle.gr_base.specs.Lists.{Within}
use Rattle.lt_isa.specs.declared.profiles.Profile.{Profile}
use Rattle.lt_isa.specs.Limits.{most_period}
use Rattle.lt_isa.specs.Object.{usual_profile}
use Rattle.command_words.specs.declared.windows.Window.{Window}
use Rattle.command_words.specs.Options.{option_within}

-- the usual profile for blocks of 2^w words, with a window
abbrev pub windowed_profile : ℕ → Window → Profile
windowed_profile w window = record (usual_profile w) {
  period = window.period;
  opens = window.opens;
  closes = window.closes;
}

-- memory is always open
abbrev pub always_open : Window
always_open = record { period = 1; opens = 0; closes = 1 }

pub record WindowFits (window : Window) : Type 0 where
  pub period : window.period ≤ most_period
  pub opens : window.opens < window.closes
  pub closes : Within (window.opens + 1) window.period window.closes

-- ---- the text of an option: the period, the cycle from which on accesses may start, and the one from which on none
-- may, with colons between them; memory is always open where it isn't there

abbrev pub is_colon : ℕ → Bool
is_colon c = c == 58

abbrev pub at_colon : List ℕ → Option (List ℕ × List ℕ)
at_colon text = if nat_lt (position_or_len is_colon text) (length text)
    then Some (before_first is_colon text, after_first is_colon text) else None

abbrev pub window_in_order : ℕ → ℕ → ℕ → Option Window
window_in_order period opens closes = if nat_lt opens closes && nat_le closes period
    then Some (record { period = period; opens = opens; closes = closes }) else None

abbrev pub window_of_numbers : Option ℕ → Option ℕ → Option ℕ → Option Window
window_of_numbers period opens closes =
    option_and_then (λ p. option_and_then (λ o. option_and_then (λ c. window_in_order p o c) closes) opens) period

abbrev pub window_in : List ℕ → Option Window
window_in text =
    option_and_then (λ first. option_and_then (λ second.
    window_of_numbers (option_within 2 1000000 first.0) (option_within 0 1000000 second.0)
    (option_within 1 1000000 second.1)) (at_colon first.1)) (at_colon text)

abbrev pub window_given : Option (List ℕ) → Option Window
window_given None = Some always_open
window_given (Some text) = window_in text
