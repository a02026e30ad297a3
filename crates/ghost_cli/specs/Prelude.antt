-- The definitions that clauses and proofs above cite, passed on from one place. Declares nothing.
unfoldable pub use Rattle.ghost_cli.specs.Evaluated.{LeavesText}
pub use Rattle.ghost_cli.specs.Pure.{NoInputs, NoObject, NoProgram, NoRoom, NoRoomLeft, NoRoomOnMachine, NoRoomToRun, NotAccepted, NotChecked, NotCompiled, NotRun, NotRunnable}
pub use Rattle.ghost_cli.specs.Sampled.{IsFileOf, RanSo, SampleIsReady}
unfoldable pub use Rattle.ghost_cli.specs.Sampled.{RanCounted, SampleCameTo}
