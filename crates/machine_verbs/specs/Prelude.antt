-- The definitions that clauses and proofs above cite, passed on from one place. Declares nothing.
pub use Rattle.machine_verbs.specs.Bus.{Read}
unfoldable pub use Rattle.machine_verbs.specs.Bus.{all_halted, bus_said, bus_work, none_read, on_plan, one_read, shares_bus, with_core, with_cores, with_halts}
unfoldable pub use Rattle.machine_verbs.specs.Ran.{RanTo}
unfoldable pub use Rattle.machine_verbs.specs.Run.{on_halt, run_work, runs_on}
pub use Rattle.machine_verbs.specs.Sharing.{AreRead, PutsHalts, PutsJoined, PutsShared}
unfoldable pub use Rattle.machine_verbs.specs.Sharing.{AllBegin, AreHalts, halts_of}
unfoldable pub use Rattle.machine_verbs.specs.Trace.{shows_on, trace_work, traces_on}
pub use Rattle.machine_verbs.specs.TracedInTrees.{TracedInTrees}
pub use Rattle.machine_verbs.specs.TracedText.{IsTextOfTrace}
pub use Rattle.machine_verbs.specs.Watched.{Lines, PutsTrace}
unfoldable pub use Rattle.machine_verbs.specs.Watched.{Grows, HoldsLines, HoldsPart, HoldsTold, HoldsTransfers, PutsShown, Tears, TearsTransfer, kept}
