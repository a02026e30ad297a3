-- How many of the events of a run are of each kind.
use Rattle.std.specs.Prelude.{◌≡◌, ℕ, ◌<◌, ◌==◌, nat_lt, if◌then◌else◌, Bool, true, false, List, length, slice_index, slice_set}
use Rattle.lt_isa.specs.Machine.{Observed, RamRead, RamWrite, EncRead, EncWrite, Oram, Halted}
use Rattle.lt_isa.specs.Trace.{Stamped}
use Rattle.call_steps.specs.Counting.{counted, how_many}
use Rattle.run_tools.specs.Comparing.{Ends}
use Rattle.run_tools.specs.Recorded.{observed_in}
use Rattle.run_tools.specs.SoFar.{end_after}
use Rattle.run_tools.specs.declared.counting.Tally.{Tally}
use Rattle.run_tools.specs.declared.recorder.Recorded.{Recorded}

-- reads and writes of plain memory, and of encrypted memory
abbrev pub is_ram_read : Observed → Bool
is_ram_read (RamRead block words) = true
is_ram_read other = false

abbrev pub is_ram_write : Observed → Bool
is_ram_write (RamWrite block words) = true
is_ram_write other = false

abbrev pub is_eram_read : Observed → Bool
is_eram_read (EncRead block) = true
is_eram_read other = false

abbrev pub is_eram_write : Observed → Bool
is_eram_write (EncWrite block) = true
is_eram_write other = false

-- accesses to oblivious bank b
abbrev pub is_oram : ℕ → Observed → Bool
is_oram b (Oram bank) = b == bank
is_oram b other = false

-- the counts are those of these events, and a run that shows them ends so
pub record CountsEvents (tally : Tally) (events : List Stamped) : Type 0 where
  pub ram_reads : tally.ram_reads ≡ how_many is_ram_read events
  pub ram_writes : tally.ram_writes ≡ how_many is_ram_write events
  pub eram_reads : tally.eram_reads ≡ how_many is_eram_read events
  pub eram_writes : tally.eram_writes ≡ how_many is_eram_write events
  pub orams : (b : ℕ) → b < length tally.orams.items → slice_index tally.orams.items b ≡ how_many (is_oram b) events
  pub ends : Ends events tally.end

-- ---- one event more, where no count is more than 2^32 - 1 (for private clauses, and for proofs)

-- one access more to an oblivious bank, if there is a count for it
abbrev pub access_counted : ℕ → List ℕ → List ℕ
access_counted bank orams =
    if nat_lt bank (length orams) then slice_set orams bank (counted true (slice_index orams bank)) else orams

abbrev pub orams_counted : Observed → List ℕ → List ℕ
orams_counted (Oram bank) orams = access_counted bank orams
orams_counted other orams = orams

pub record CountsOneMore (before : Tally) (event : Recorded) (after : Tally) : Type 0 where
  pub ram_reads : after.ram_reads ≡ counted (is_ram_read (observed_in event.event)) before.ram_reads
  pub ram_writes : after.ram_writes ≡ counted (is_ram_write (observed_in event.event)) before.ram_writes
  pub eram_reads : after.eram_reads ≡ counted (is_eram_read (observed_in event.event)) before.eram_reads
  pub eram_writes : after.eram_writes ≡ counted (is_eram_write (observed_in event.event)) before.eram_writes
  pub orams : after.orams.items ≡ orams_counted (observed_in event.event) before.orams.items
  pub end : after.end ≡ end_after before.end event
