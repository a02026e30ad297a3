-- How many of the events of a run are accesses to one memory.
use Rattle.std.specs.Prelude.{◌≡◌, ℕ, ◌+◌, ◌-◌, ◌^◌, ◌<◌, ◌==◌, min, Bool, true, false, List, count_by}
use Rattle.lt_isa.specs.Machine.{Observed, RamRead, RamWrite, EncRead, EncWrite, Oram}
use Rattle.lt_isa.specs.Trace.{Stamped}
use Rattle.processor.specs.Watching.{WatcherTold, events_in}
use Rattle.call_steps.specs.declared.count_watch.CountWatch.{CountWatch}

-- an access to plain memory, to encrypted memory, and to oblivious bank 2
abbrev pub is_plain : Observed → Bool
is_plain (RamRead block words) = true
is_plain (RamWrite block words) = true
is_plain other = false

abbrev pub is_encrypted : Observed → Bool
is_encrypted (EncRead block) = true
is_encrypted (EncWrite block) = true
is_encrypted other = false

abbrev pub is_second : Observed → Bool
is_second (Oram bank) = bank == 2
is_second other = false

-- how many events are of a kind
-- Rule: sample/events.
abbrev pub how_many : (Observed → Bool) → List Stamped → ℕ
how_many kind events = count_by (λ s. kind s.event) events

-- One more if an event is of a kind. A count stops at 2^32 - 1, and so it is right if the number is below 2^32. (This
-- and what follows is for private clauses and proofs.)
abbrev pub counted : Bool → ℕ → ℕ
counted true count = min (count + 1) (2 ^ 32 - 1)
counted false count = count

abbrev pub counted_all : Observed → CountWatch → CountWatch
counted_all event w = record {
  ram = counted (is_plain event) w.ram;
  eram = counted (is_encrypted event) w.eram;
  oram2 = counted (is_second event) w.oram2;
}

abbrev pub IsCountOf : ℕ → ℕ → Type 0
IsCountOf count number = number < 2 ^ 32 → count ≡ number

-- the counts of a watcher are those of these events
pub record CountsEvents (w : CountWatch) (events : List Stamped) : Type 0 where
  pub plain : IsCountOf w.ram (how_many is_plain events)
  pub encrypted : IsCountOf w.eram (how_many is_encrypted events)
  pub second : IsCountOf w.oram2 (how_many is_second events)

abbrev pub Counts : CountWatch → List WatcherTold → Type 0
Counts w told = CountsEvents w (events_in told)
