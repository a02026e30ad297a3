-- What an observer sees of an event of the code. (Traces are those of the GhostRider paper, in this project's profile.)
use Rattle.lt_isa.specs.declared.events.Event.{Event}
use Rattle.lt_isa.specs.Machine.{Observed, RamRead, RamWrite, EncRead, EncWrite, Oram, Halted}
use Rattle.lt_isa.specs.declared.events.Event.TheVariants as event

abbrev pub observed_of : Event → Observed
observed_of (event.RamRead block words) = RamRead block words.now
observed_of (event.RamWrite block words) = RamWrite block words.now
observed_of (event.EncRead block) = EncRead block
observed_of (event.EncWrite block) = EncWrite block
observed_of (event.Oram bank) = Oram bank
observed_of event.Halt = Halted
