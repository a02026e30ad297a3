-- What a recorded event says was seen.
use Rattle.std.specs.Prelude.{◌≡◌, List, [], ◌++◌, map}
use Rattle.std.proofs.Common.{sym, ap, ◌∙◌, append_assoc}
use Rattle.std.proofs.lemmas.List.{append-nil}
use Rattle.lt_isa.specs.Machine.{Observed, RamRead, RamWrite, EncRead, EncWrite, Oram, Halted}
use Rattle.lt_isa.specs.Trace.{Stamped, seen_at}
use Rattle.processor.specs.Keeping.{events_in-append}
use Rattle.processor.specs.Watching.{WatcherTold, events_in}
use Rattle.run_tools.specs.declared.recorder.OwnedEvent.{OwnedEvent}
use Rattle.run_tools.specs.declared.recorder.Recorded.{Recorded}
use Rattle.run_tools.specs.declared.recorder.OwnedEvent.TheVariants as owned

-- what is seen in an event that owns its words
abbrev pub observed_in : OwnedEvent → Observed
observed_in (owned.RamRead block words) = RamRead block words.items
observed_in (owned.RamWrite block words) = RamWrite block words.items
observed_in (owned.EncRead block) = EncRead block
observed_in (owned.EncWrite block) = EncWrite block
observed_in (owned.Oram bank) = Oram bank
observed_in owned.Halt = Halted

-- a recorded event as one of a trace
abbrev pub stamped_of : Recorded → Stamped
stamped_of event = seen_at event.stamp (observed_in event.event)

-- the reported events are recorded after those that were recorded before (This and what follows is for the recorder's
-- own contract.)
abbrev pub Records : List Recorded → List WatcherTold → List Recorded → Type 0
Records before told now = map stamped_of now ≡ map stamped_of before ++ events_in told

pub records-none : (events : List Recorded) → Records events [] events
records-none events = sym (append-nil (map stamped_of events))

pub records-then : (first second third : List Recorded) (told more : List WatcherTold)
    → Records first told second → Records second more third → Records first (told ++ more) third
records-then first second third told more one two =
    two ∙ ap (λ l. l ++ events_in more) one
    ∙ append_assoc (map stamped_of first) (events_in told) (events_in more)
    ∙ ap (λ l. map stamped_of first ++ l) (sym (events_in-append told more))
