-- What standard error gains in a call. Its failures are ignored, so it may gain less than it was handed.
use Rattle.std.specs.Prelude.{ℕ, List, ◌++◌, take, All}
use Rattle.gr_base.specs.Added.{Adds}
use Rattle.gr_outside.specs.Sink.{SinkSeen}
use Rattle.fault_texts.specs.Plain.{IsPlain}

-- some first bytes of this text
abbrev pub Gains : SinkSeen → SinkSeen → List ℕ → Type 0
Gains before after text = (n : ℕ) × Adds before.held after.held (take n text)

-- text in which nothing acts on a terminal, or nothing
abbrev pub SaysPlain : SinkSeen → SinkSeen → Type 0
SaysPlain before after = (text : List ℕ) × All IsPlain text × Adds before.held after.held text

-- some first bytes of this text, and after it text in which nothing acts on a terminal
abbrev pub Echoes : SinkSeen → SinkSeen → List ℕ → Type 0
Echoes before after text =
    (n : ℕ) × (more : List ℕ) × All IsPlain more × Adds before.held after.held (take n text ++ more)
