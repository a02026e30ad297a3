-- Turns of cores on a bus. (This project's profile.)
use Rattle.std.specs.Prelude.{◌≡◌, ℕ, ◌≤◌, ◌==◌, if◌then◌else◌, max, List, [], ◌∷◌, ◌++◌, length, Some, slice_get, slice_set}
use Rattle.bus_arbiter.specs.declared.turns.Turn.{Turn}
use Rattle.bus_arbiter.specs.Cores.{Core, LeftAt, OnItsWay, shows_to}
use Rattle.bus_arbiter.specs.Transfers.{Transfer, of_core}

-- the greatest cycle that core k's turns go to, or 0
abbrev pub until : List Turn → ℕ → ℕ
until [] k = 0
until (t ∷ ts) k = if t.core == k then max t.to (until ts k) else until ts k

-- Cores were run, each up to its own cycle, and these transfers told: those of each core, in their order, and no others.
pub record Played {B : Type 0} (before after : List (Core B)) (to : ℕ → ℕ) (told : List Transfer) : Type 0 where
  pub count : length after ≡ length before
  pub shown : (k : ℕ) (c : Core B) → slice_get before k ≡ Some c → of_core k told ≡ shows_to k c (to k)
  pub left : (k : ℕ) (c d : Core B) → slice_get before k ≡ Some c → slice_get after k ≡ Some d → LeftAt c (to k) d
  pub others : (k : ℕ) → length before ≤ k → of_core k told ≡ []

-- One core was run up to a cycle.
pub record Turned {B : Type 0} (before after : List (Core B)) (core to : ℕ) (heard : List Transfer
    → Type 0) : Type 0 where
  pub was : Core B
  pub now : Core B
  pub there : slice_get before core ≡ Some was
  pub put : after ≡ slice_set before core now
  pub left : LeftAt was to now
  pub told : heard (shows_to core was to)

-- A watcher failed while cores were run, each up to its own cycle: it heard a prefix of what each shows, and failed at
-- the next transfer of some core.
pub record PlayFailed {B W : Type 0} (hears : W → List Transfer → W → Type 0) (was is : W) (torn : Transfer
    → Type 0) (before : List (Core B)) (to : ℕ → ℕ) : Type 0 where
  pub told : List Transfer
  pub heard : hears was told is
  pub fronts : (k : ℕ) (c : Core B) → slice_get before k ≡ Some c
      → (rest : List Transfer) × (shows_to k c (to k) ≡ of_core k told ++ rest)
  pub core : ℕ
  pub stopped : Core B
  pub there : slice_get before core ≡ Some stopped
  pub next : Transfer
  pub rest : List Transfer
  pub front : shows_to core stopped (to core) ≡ of_core core told ++ next ∷ rest
  pub at : torn next

-- every core was run up to cycle n
pub record AllLeft {B : Type 0} (before : List (Core B)) (n : ℕ) (after : List (Core B)) : Type 0 where
  pub count : length after ≡ length before
  pub each : (k : ℕ) (c d : Core B) → slice_get before k ≡ Some c → slice_get after k ≡ Some d → LeftAt c n d

-- A watcher failed while cores were run, each up to its own cycle. There are as many cores as before, and each is on its
-- way.
pub record AllOnTheirWay {B : Type 0} (before : List (Core B)) (to : ℕ → ℕ) (after : List (Core B)) : Type 0 where
  pub count : length after ≡ length before
  pub each : (k : ℕ) (c d : Core B) → slice_get before k ≡ Some c → slice_get after k ≡ Some d → OnItsWay c (to k) d

-- A watcher failed while one core was run up to a cycle. For the contracts of private functions, and for proofs.
pub record TurnStopped {B : Type 0} (before after : List (Core B)) (core to : ℕ) : Type 0 where
  pub was : Core B
  pub now : Core B
  pub there : slice_get before core ≡ Some was
  pub put : after ≡ slice_set before core now
  pub way : OnItsWay was to now
