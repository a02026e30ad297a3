-- How events are kept: each with the place of its words among the words of all events. For the contracts of private
-- functions, and for proofs.
use Rattle.std.specs.Prelude.{◌+◌, ◌≤◌, ℤ, List, length, map, take, drop, All}
use Rattle.lt_isa.specs.Machine.{Observed, RamRead, RamWrite, EncRead, EncWrite, Oram, Halted}
use Rattle.lt_isa.specs.Trace.{Stamped, seen_at}
use Rattle.processor.specs.declared.event_list.EventKind.{EventKind}
use Rattle.processor.specs.declared.event_list.EventEntry.{EventEntry}
use Rattle.processor.specs.declared.event_list.EventKind.TheVariants as kind

-- the event of a kind that shows these words
abbrev pub event_of : EventKind → List ℤ → Observed
event_of (kind.RamRead block) words = RamRead block words
event_of (kind.RamWrite block) words = RamWrite block words
event_of (kind.EncRead block) words = EncRead block
event_of (kind.EncWrite block) words = EncWrite block
event_of (kind.Oram bank) words = Oram bank
event_of kind.Halt words = Halted

-- the words of an entry, among the words of all
abbrev pub entry_words : List ℤ → EventEntry → List ℤ
entry_words words entry = take entry.len (drop entry.start words)

-- the events of some entries
abbrev pub told_by : List ℤ → EventEntry → Stamped
told_by words entry = seen_at entry.stamp (event_of entry.kind (entry_words words entry))

unfoldable pub events_of : List ℤ → List EventEntry → List Stamped
events_of words entries = map (told_by words) entries

-- each entry's words are among the words of all
abbrev pub AreWithin : List ℤ → List EventEntry → Type 0
AreWithin words entries = All (λ entry. entry.start + entry.len ≤ length words) entries
