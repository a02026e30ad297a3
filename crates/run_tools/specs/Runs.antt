-- What a run leaves.
use Rattle.std.specs.Prelude.{◌≡◌, ℕ, ℤ, List, Option, Some, None}
use Rattle.lt_isa.specs.Object.{Parts}
use Rattle.lt_isa.specs.Outputs.{outputs}
use Rattle.lt_isa.specs.Start.{final, trace}
use Rattle.lt_isa.specs.Trace.{HaltsAt}
use Rattle.processor.specs.Ends.{NoHalt}

-- the run halts below this cycle and leaves these words for the symbols, or it doesn't halt
abbrev pub LeavesWords : Parts → List (List ℤ) → ℕ → Option (List (List ℤ)) → Type 0
LeavesWords o inputs cycles (Some words) =
    ((at : ℕ) × HaltsAt (trace o inputs cycles) at) × (words ≡ outputs o (final o inputs cycles))
LeavesWords o inputs cycles None = NoHalt (trace o inputs cycles)
