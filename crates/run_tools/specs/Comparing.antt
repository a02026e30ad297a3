-- What a comparison of two traces says of them.
use Rattle.std.specs.Prelude.{◌≡◌, ◌≢◌, ℕ, List, length, take, slice_get}
use Rattle.std.specs.Option.{option_map}
use Rattle.lt_isa.specs.Trace.{Stamped, HaltsAt}
use Rattle.processor.specs.declared.ends.End.{End}
use Rattle.processor.specs.declared.ends.End.TheVariants.{Halted, Spent}
use Rattle.processor.specs.Ends.{NoHalt}
use Rattle.run_tools.specs.Recorded.{stamped_of}
use Rattle.run_tools.specs.declared.comparing.Comparison.{Comparison}
use Rattle.run_tools.specs.declared.comparing.Comparison.TheVariants.{Equal, Differ}

-- a run that shows these events halts at this cycle, or shows no halt
abbrev pub Ends : List Stamped → End → Type 0
Ends events (Halted at) = HaltsAt events at
Ends events Spent = NoHalt events

-- the traces are equal, with this many events, and both runs end so
pub record AreEqual (first second : List Stamped) (count : ℕ) (end : End) : Type 0 where
  pub same : first ≡ second
  pub counted : length first ≡ count
  pub ends : Ends first end

-- The first events of the traces, this many, are equal. The next event differs, or one trace has none.
pub record DifferAfter (first second : List Stamped) (count : ℕ) : Type 0 where
  pub same : take count first ≡ take count second
  pub counted : length (take count first) ≡ count
  pub differ : slice_get first count ≢ slice_get second count

abbrev pub Compares : List Stamped → List Stamped → Comparison → Type 0
Compares first second (Equal events end) = AreEqual first second events end
Compares first second (Differ events one other) =
    DifferAfter first second events
    × (slice_get first events ≡ option_map stamped_of one)
    × (slice_get second events ≡ option_map stamped_of other)
