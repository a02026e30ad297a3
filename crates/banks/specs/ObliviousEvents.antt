-- Which events are accesses to oblivious banks, and how many events of a trace are. (GhostRider, ASPLOS 2015: an access
-- to an oblivious bank shows only the bank.)
use Rattle.std.specs.Prelude.{ℕ, ◌+◌, ◌==◌, if◌then◌else◌, List, [], ◌∷◌, Option, Some, None}
use Rattle.lt_isa.specs.Machine.{Observed, RamRead, RamWrite, EncRead, EncWrite, Oram, Halted}
use Rattle.lt_isa.specs.Trace.{Stamped}

-- the oblivious bank that an event accesses
abbrev pub oblivious : Observed → Option ℕ
oblivious (Oram bank) = Some bank
oblivious other = None

-- the number of events that are accesses to oblivious bank b
abbrev pub if_it_is : ℕ → Option ℕ → ℕ
if_it_is b None = 0
if_it_is b (Some bank) = if b == bank then 1 else 0

abbrev pub accesses_shown : ℕ → List Stamped → ℕ
accesses_shown b [] = 0
accesses_shown b (event ∷ events) = if_it_is b (oblivious event.event) + accesses_shown b events
