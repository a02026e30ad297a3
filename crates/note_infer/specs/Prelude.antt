-- The definitions that clauses and proofs above cite, passed on from one place. Declares nothing.
pub use Rattle.note_infer.specs.Branches.{BranchIsAt}
unfoldable pub use Rattle.note_infer.specs.Branches.{IsBranchOf}
pub use Rattle.note_infer.specs.Brings.{Brings, BringsInside, Enough, InCode, IsSoundAt, Looks, LoopHolds, More, Outside}
unfoldable pub use Rattle.note_infer.specs.Brings.{AllFull, AllSound, Waits, all_room, at_places, work_left}
pub use Rattle.note_infer.specs.Crossings.{Crossings}
unfoldable pub use Rattle.note_infer.specs.Crossings.{TellsCrossed}
pub use Rattle.note_infer.specs.Growth.{GrowthHolds, HasLast, HasLeast, IsLowestToJoin, MayJoinTo}
unfoldable pub use Rattle.note_infer.specs.Growth.{AnswersJoin, IsNextToJoin, places_left}
pub use Rattle.note_infer.specs.Inferred.{HasLeastNotes, IsInferred, WouldDo}
unfoldable pub use Rattle.note_infer.specs.Inferred.{IsAnswered, IsWhyNot, LeastNotesAreOne, LeastNotesExist, NoNotesWouldDo, claim_of}
pub use Rattle.note_infer.specs.Kept.{Awaits, AwaitsBelow, AwaitsOne, IsApart, IsLinked, IsWithout, LinkedBefore, LinkedHere, ListsJoiners, ListsOthers, OriginsBelow, TellsOne, Within}
unfoldable pub use Rattle.note_infer.specs.Kept.{IsAwaiting, IsFollowed, KnowsBlockAt, LedFromWithin, ListsRest, TellsOrigins, link_at}
pub use Rattle.note_infer.specs.Least.{HasGrown, IsAtLeast, IsClosed, IsFull, IsLast, IsLeast, Joins, MayJoin, NoneYet}
unfoldable pub use Rattle.note_infer.specs.Least.{States}
pub use Rattle.note_infer.specs.LeastNotes.{IsTarget, OfBranch, OfJump, OpensTheSame, StandAtTargets}
unfoldable pub use Rattle.note_infer.specs.LeastNotes.{LeastAreAccepted, with_notes}
pub use Rattle.note_infer.specs.Noting.{ByBranch, ByJump, FindsNotes, IsNoteAt, IsTargetOf, Marks, MarksBelow, MarksFrom, NotesBelow, NothingIsKnown}
unfoldable pub use Rattle.note_infer.specs.Noting.{IsFirstUnknown, IsNoteOf, TellsRefusal, WhyNoNotes, claims_at, is_marked_at}
pub use Rattle.note_infer.specs.Steps.{AtStart, Behind, Branched, IsDead, IsReachable, Jumped, LeadsTo, Onward, Past}
unfoldable pub use Rattle.note_infer.specs.Steps.{AllReachable}
pub use Rattle.note_infer.specs.UnderWay.{BanksUpTo, IsHigherOf, IsUnderWay, LabelsUpTo}
unfoldable pub use Rattle.note_infer.specs.UnderWay.{IsRaisedTo, common_bank, count_known, count_public, known_room, one_unless, room_left, with_state}
pub use Rattle.note_infer.specs.Ways.{Branches, Crosses, Jumps, Next, PublicWay, Skips}
unfoldable pub use Rattle.note_infer.specs.Ways.{is_crossed}
