-- What a run of a core's machine reports.
use Rattle.std.proofs.Common.{◌≡◌, ℕ, List, ap, subst}
use Rattle.lt_isa.specs.Prelude.{Parts, State, trace_from}
use Rattle.banks.specs.declared.bank.Leaves.{Leaves}
use Rattle.banks.specs.Prelude.{accesses_from}
use Rattle.processor.specs.Prelude.{Broke, paths_shown, WatcherTold, run_shown}
use Rattle.processor.proofs.TellingPaths.{events_in-with_paths}
use Rattle.bus_arbiter.specs.Prelude.{moves_of, torn_by, FailedAt, Transfer, transfers_of}
use Rattle.bus_arbiter.proofs.InnerTold.{fails-at}

module _ {B : Type 0} (shows : B → List ℕ → List Leaves) (o : Parts) (s : State) (orams : List B) (n core : ℕ) where
  shown-moves : moves_of core (run_shown shows o s orams n) ≡ transfers_of core (trace_from o s n)
  shown-moves =
      ap (transfers_of core)
      (events_in-with_paths (trace_from o s n) (paths_shown shows orams (accesses_from o s n)))

  pub run-heard : (heard : List Transfer → Type 0) → heard (moves_of core (run_shown shows o s orams n))
      → heard (transfers_of core (trace_from o s n))
  run-heard heard hears = subst heard shown-moves hears

  -- the watcher that heard a prefix is given by its core and by the watcher of the bus
  pub run-failed : {V W : Type 0} (hears_inner : V → List WatcherTold → V → Type 0) (inner_was inner_is : V)
      (hears : W → List Transfer → W → Type 0) (was is : W) (torn : Transfer → Type 0)
      (torn_now : WatcherTold → Type 0)
      → ((told : List WatcherTold) → hears_inner inner_was told inner_is → hears was (moves_of core told) is)
      → ((next : WatcherTold) → torn_now next → torn_by torn core next)
      → Broke hears_inner inner_was inner_is torn_now (run_shown shows o s orams n)
      → FailedAt hears was is torn (transfers_of core (trace_from o s n))
  run-failed hears_inner inner_was inner_is hears was is torn torn_now heard tears broke =
      subst (FailedAt hears was is torn) shown-moves
      (fails-at hears was is torn core (run_shown shows o s orams n) broke.told broke.next broke.rest broke.front
      (heard broke.told broke.heard) (tears broke.next broke.at))
