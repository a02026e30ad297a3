-- Two consecutive runs. (This project's profile.)
use Rattle.std.specs.Prelude.{◌≡◌, ℕ, ◌++◌}
use Rattle.lt_isa.specs.Object.{Parts}
use Rattle.lt_isa.specs.Machine.{State}
use Rattle.lt_isa.specs.Trace.{trace_from, final_from}
use Rattle.banks.specs.Accesses.{accesses_from}
use Rattle.processor.specs.declared.ends.End.{End}
use Rattle.processor.specs.Ends.{EndsAs}

-- A run up to cycle n, and then one up to cycle m from the state that it left: what they show, concatenated, is what
-- one run up to cycle m shows, and so are the accesses that they make; the second ends as that one ends; and it leaves
-- the same state.
pub record RunsJoin (o : Parts) (s : State) (n m : ℕ) : Type 0 where
  pub events : trace_from o s m ≡ trace_from o s n ++ trace_from o (final_from o s n) m
  pub accesses : accesses_from o s m ≡ accesses_from o s n ++ accesses_from o (final_from o s n) m
  pub ends : (how : End) → EndsAs (trace_from o (final_from o s n) m) how → EndsAs (trace_from o s m) how
  pub state : final_from o s m ≡ final_from o (final_from o s n) m
