-- The numbers of reasons. (This project's profile.)
use Rattle.std.specs.Prelude.{ℕ}
use Rattle.trace_patterns.specs.declared.reasons.Reason.{Reason}
use Rattle.trace_patterns.specs.declared.reasons.Reason.TheVariants.{SecretAddress, SecretToRam, UnboundSlot, JumpOutside, NoNote, NoteTooLow, SecretLoop, HaltInSecret, RamStoreInSecret, UnequalArms, BadRegion, RunsOffEnd, SecretSymbolInRam}

abbrev pub reason_number : Reason → ℕ
reason_number SecretAddress = 1
reason_number SecretToRam = 2
reason_number UnboundSlot = 3
reason_number JumpOutside = 4
reason_number NoNote = 5
reason_number NoteTooLow = 6
reason_number SecretLoop = 7
reason_number HaltInSecret = 8
reason_number RamStoreInSecret = 9
reason_number UnequalArms = 10
reason_number BadRegion = 11
reason_number RunsOffEnd = 12
reason_number SecretSymbolInRam = 13
