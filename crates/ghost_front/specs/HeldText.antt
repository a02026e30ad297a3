-- How contracts see a sink that keeps a text.
use Rattle.std.specs.Prelude.{ℕ, List, Option}
use Rattle.gr_outside.specs.Sink.{SinkSeen}

-- the text, unless memory for it ran out; the sink never fails
abbrev pub held_seen : Option (List ℕ) → SinkSeen
held_seen text = record { held = text; faults = 0 }
