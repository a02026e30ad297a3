-- Memory-trace obliviousness, for the observer of this machine: any two inputs that agree on what is public show the
-- same events at the same cycles, at every number of cycles, and no run meets a fault.
-- (GhostRider, ASPLOS 2015: memory trace obliviousness.)
use Rattle.std.specs.Prelude.{◌≡◌, ℕ, ℤ, List}
use Rattle.lt_isa.specs.Object.{Parts}
use Rattle.lt_isa.specs.Trace.{NeverFaults}
use Rattle.lt_isa.specs.Start.{Agree, trace, start_state}

pub record IsOblivious (o : Parts) : Type 0 where
  pub same_traces : (d e : List (List ℤ)) → Agree o d e → (n : ℕ) → trace o d n ≡ trace o e n
  pub never_faults : (d e : List (List ℤ)) → Agree o d e
      → NeverFaults o (start_state o d) × NeverFaults o (start_state o e)
