-- The definitions that clauses and proofs above cite, passed on from one place. Declares nothing.
pub use Rattle.call_steps.specs.Beginning.{BankBegins, HasBegun, RecursiveBegins}
unfoldable pub use Rattle.call_steps.specs.Beginning.{BeginFrom}
pub use Rattle.call_steps.specs.CallsFollow.{AsksOn, CallsOf, Follows, Judges, Makes, NoCalls, ReadFails, ReadsMore, ReadsOn, ReadStarves, StopsHere, WriteFails, WritesLast}
unfoldable pub use Rattle.call_steps.specs.CallsFollow.{HasCalls, TriesWrite}
unfoldable pub use Rattle.call_steps.specs.Compile.{compile_on, compile_work, compiles_to, on_compiled, target_for}
pub use Rattle.call_steps.specs.Compiled.{IsCompiledTo}
unfoldable pub use Rattle.call_steps.specs.Compiled.{HasLayoutFor, HasRoom, IsCompiled, LacksRoom, held_for, most_code, plan_for, room_fault, source_for}
pub use Rattle.call_steps.specs.Counting.{CountsEvents}
unfoldable pub use Rattle.call_steps.specs.Counting.{Counts, IsCountOf, counted, counted_all, how_many, is_encrypted, is_plain, is_second}
pub use Rattle.call_steps.specs.Happened.{CallsItsFiles, FailsToRead, Happened, InOrder, NoFurther, ReadsNext, WritesOutput}
unfoldable pub use Rattle.call_steps.specs.Happened.{AreFiles}
pub use Rattle.call_steps.specs.Histogram.{IsMade, Made}
unfoldable pub use Rattle.call_steps.specs.Histogram.{figures_of, histogram_number, histogram_numbers, next_number, sample_cycles, sample_inputs, sample_profile, sample_store, sample_target, sample_text, sample_trace, sample_words, sum_left, sum_of}
pub use Rattle.call_steps.specs.Inferred.{GetsNotes}
unfoldable pub use Rattle.call_steps.specs.Inferred.{InferredOnce}
pub use Rattle.call_steps.specs.Levels.{AllStand, MayEndOn, PutsBank, PutsLast, PutsLevels}
unfoldable pub use Rattle.call_steps.specs.Levels.{AreBehind, FirstBanks, MayRun, OfOram, StandAfter, StandNow}
pub use Rattle.call_steps.specs.Objects.{SpellsObject}
unfoldable pub use Rattle.call_steps.specs.Objects.{object_limit}
pub use Rattle.call_steps.specs.Outside.{Explains, Judged, LeavesUnread, LeftBy, Long, NoRoom, NoWork, NotWritten, Outside, RefusedWrite, Stage, Starved, Unread, Worked, Written}
unfoldable pub use Rattle.call_steps.specs.Outside.{Gives, LeavesShelf, OnlyReads, PutsSaid, outside, outside_at, stage}
pub use Rattle.call_steps.specs.Paths.{IsShown, OfBank}
unfoldable pub use Rattle.call_steps.specs.Paths.{words_drawn}
pub use Rattle.call_steps.specs.PathsShown.{AnAccess, NoAccess, NoMore, ShowsPaths}
unfoldable pub use Rattle.call_steps.specs.PathsShown.{paths_of_bank}
pub use Rattle.call_steps.specs.Progress.{LeavesToSay, NoRoomLeft, NoRoomYet, NothingAsked, Stops, StopsAt, WorkStops}
unfoldable pub use Rattle.call_steps.specs.Progress.{EndsWorkWith, HasLeft, SaysInputs, SaysNotes, SaysObject, SaysSource, SaysText}
pub use Rattle.call_steps.specs.Questions.{Question, WhatIsInferred, WhatIsJoined, WhatIsLeft, WhatIsMade, WhatIsShown, WhenItHalts, WhetherAccepted, WhichAssembly, WhichCompiled, WhichInputs, WhichObject, WhichSource}
unfoldable pub use Rattle.call_steps.specs.Questions.{Answer, AreInputs, IsRight, Shows}
pub use Rattle.call_steps.specs.Reached.{HasReached, HasStopped}
unfoldable pub use Rattle.call_steps.specs.Reached.{ExplainsRest, Finds, FindsNone}
pub use Rattle.call_steps.specs.RecursivePaths.{IsShownInTrees, OfRecursiveBank}
unfoldable pub use Rattle.call_steps.specs.Runs.{HaltOf, TextsAgree, TracesAgree, run_outputs}
unfoldable pub use Rattle.call_steps.specs.Seeds.{seed_bytes, seeded_words, stream_from}
pub use Rattle.call_steps.specs.Showing.{Seen}
unfoldable pub use Rattle.call_steps.specs.Showing.{IsTraceText, bus_seen, core_line, core_lines, events_alone, halt_text, nothing_seen, run_seen, shown_line, shown_lines, transfer_line, transfer_lines}
pub use Rattle.call_steps.specs.Sources.{InCalls, InPieces, InProgram, InTokens, IsFileFault, IsFirstSourceFault, NoFile, SpellsTyped}
unfoldable pub use Rattle.call_steps.specs.Sources.{AreProgram, IsTokensFault, Spells, piece_fault, program_fault, shown_call_fault, source_limit, text_fault, token_fault}
unfoldable pub use Rattle.call_steps.specs.Steps.{input_limit, on_judged, or_ends, text_limit, with_accepted, with_assembly, with_inputs, with_object, with_source, with_variables}
pub use Rattle.call_steps.specs.Work.{Answered, Asks, Ended, Ending, Ends, Found, IsTooLong, IsUnread, IsVerdict, IsWritten, MayEnd, MayRead, MayWrite, Missing, Reads, ReadsIt, ReadsLater, ReadsThen, TooLong, Work, Writes, WritesIt, WritesLater, WritesThen, Wrote}
unfoldable pub use Rattle.call_steps.specs.Work.{Holds, files_at, said_at}
