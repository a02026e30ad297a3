-- The lines of a run over recursive banks were printed. For the contract of a private function, and for proofs.
use Rattle.std.specs.Prelude.{◌≡◌, ℕ, ℤ, Bool, List, []}
use Rattle.gr_outside.specs.Sink.{SinkSeen}
use Rattle.lt_isa.specs.Object.{Parts}
use Rattle.lt_isa.specs.Start.{trace}
use Rattle.processor.specs.Watching.{WatcherTold, events_in}
use Rattle.call_steps.specs.RecursivePaths.{IsShownInTrees}
use Rattle.call_steps.specs.Showing.{run_seen}
use Rattle.machine_verbs.specs.Watched.{PutsTrace, kept}

pub record TracedInTrees (before after : SinkSeen) (o : Parts) (inputs : List (List ℤ)) (cycles seed : ℕ)
    (paths : Bool) (status : ℕ) : Type 0 where
  pub told : List WatcherTold
  pub events : events_in told ≡ trace o inputs cycles
  pub right : IsShownInTrees o inputs cycles seed (run_seen told [])
  pub put : PutsTrace before after (trace o inputs cycles) (kept paths told) (λ levels. levels ≡ []) status
