-- The definitions that clauses and proofs above cite, passed on from one place. Declares nothing.
pub use Rattle.bus_arbiter.specs.Cores.{AllStand, Core, RanTo, Shared, Stands, StoppedBy}
unfoldable pub use Rattle.bus_arbiter.specs.Cores.{AreLive, LeftAt, LeftIf, NoneHalted, OnItsWay, OnItsWayIf, end_as, shown_if, shows_to, trace_to, traces_to}
unfoldable pub use Rattle.bus_arbiter.specs.Inner.{moves_of, torn_at, torn_by}
pub use Rattle.bus_arbiter.specs.Laws.{AreOnBus, Run}
unfoldable pub use Rattle.bus_arbiter.specs.Laws.{AllAgree, AllFit, AllOblivious, NoneOverlap, runs_of, shown_to, traces_on}
unfoldable pub use Rattle.bus_arbiter.specs.Refusals.{meets, of_overlap, of_period, or_then, refusal}
pub use Rattle.bus_arbiter.specs.Rounds.{CorePaused, IsLive, IsNext, JoinFailed, JoinedOn, JoinedSoFar, Onward}
unfoldable pub use Rattle.bus_arbiter.specs.Rounds.{AllHalted, Between, FailOn, GoOn, IsBest, NoneBefore, NoneNext, OthersHalted, Quiet, StayJoined, StayUntil, StopOn}
pub use Rattle.bus_arbiter.specs.Shares.{InReach, IsPlan, PlanTakes, ShareFits}
unfoldable pub use Rattle.bus_arbiter.specs.Shares.{EndsInPeriod, HasPeriodOf, HasWindow, IsApartFrom, Meet, PlanRefuses, end_of, longest_of, no_share, share_at, share_of}
pub use Rattle.bus_arbiter.specs.Telling.{FailedAt}
unfoldable pub use Rattle.bus_arbiter.specs.Telling.{HearsThen}
pub use Rattle.bus_arbiter.specs.Transfers.{IsDuring, IsJoined, IsTransferIn, Transfer}
unfoldable pub use Rattle.bus_arbiter.specs.Transfers.{Rise, all_transfers, bank_used, inserted, joined_of, moved_by, of_core, ordered_transfers, transfer_of, transfers_of}
pub use Rattle.bus_arbiter.specs.Turns.{AllLeft, AllOnTheirWay, PlayFailed, Played, TurnStopped, Turned}
unfoldable pub use Rattle.bus_arbiter.specs.Turns.{until}
