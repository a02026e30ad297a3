-- What the code's types of traces say. (This project's profile.)
use Rattle.std.specs.Prelude.{◌≡◌, ℕ, Bool, List, map, Result, Ok, Err}
use Rattle.lt_isa.specs.Machine.{Observed, RamRead, RamWrite, EncRead, EncWrite, Oram, Halted}
use Rattle.lt_isa.specs.Trace.{Stamped, seen_at}
use Rattle.run_data.specs.declared.trace_files.SeenEvent.{SeenEvent}
use Rattle.run_data.specs.declared.trace_files.TraceLine.{TraceLine}
use Rattle.run_data.specs.declared.trace_files.TraceFile.{TraceFile}
use Rattle.run_data.specs.declared.trace_files.TraceError.{TraceError}
use Rattle.run_data.specs.declared.trace_files.TraceError.TheVariants.{BadLine, Memory}
use Rattle.run_data.specs.TraceGrammar.{BreaksAt}
use Rattle.run_data.specs.declared.trace_files.SeenEvent.TheVariants as seen

abbrev pub observed_in : SeenEvent → Observed
observed_in (seen.RamRead block words) = RamRead block words
observed_in (seen.RamWrite block words) = RamWrite block words
observed_in (seen.EncRead block) = EncRead block
observed_in (seen.EncWrite block) = EncWrite block
observed_in (seen.Oram bank) = Oram bank
observed_in seen.Halt = Halted

abbrev pub stamped_in : TraceLine → Stamped
stamped_in line = seen_at line.stamp (observed_in line.event)

abbrev pub file_events : TraceFile → List Stamped
file_events file = map stamped_in file.lines.items

-- a line that is named breaks the grammar; running out of memory says nothing about the text
abbrev pub Breaks : ℕ → List ℕ → TraceError → Type 0
Breaks size text (BadLine n) = BreaksAt size text n
Breaks size text Memory = Unit {0}

-- the file is that of these events; only running out of memory keeps it from being read
abbrev pub IsReadAs : Result TraceFile TraceError → List Stamped → Bool → Type 0
IsReadAs (Ok file) events halted = (file_events file ≡ events) × (file.halted ≡ halted)
IsReadAs (Err error) events halted = error ≡ Memory
