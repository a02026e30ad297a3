-- The definitions that clauses and proofs above cite, passed on from one place. Declares nothing.
pub use Rattle.processor.specs.Ends.{Broke, BrokeOff}
unfoldable pub use Rattle.processor.specs.Ends.{EndsAs, NoHalt, is_spent, oblivious_count, one_if_oblivious, path_count}
unfoldable pub use Rattle.processor.specs.EventLists.{AreWithin, entry_words, event_of, events_of, told_by}
unfoldable pub use Rattle.processor.specs.Flat.{AreFlatForms, IsFlatForm, IsForStep, instr_of}
pub use Rattle.processor.specs.Joining.{RunsJoin}
pub use Rattle.processor.specs.Keeping.{events_in-append, tells-none, tells-then}
pub use Rattle.processor.specs.ListWatching.{Heard, KeepsMore, Told}
unfoldable pub use Rattle.processor.specs.ListWatching.{event_words, passes_room, path_at, paths_in, told_more, word_count}
pub use Rattle.processor.specs.Machines.{AreBanksOf, LiesIn, Running}
unfoldable pub use Rattle.processor.specs.Machines.{bank_numbered, fresh_state}
pub use Rattle.processor.specs.ObliviousBanks.{Accessed}
unfoldable pub use Rattle.processor.specs.ObliviousBanks.{ComeBy, MayAccess, OfBoth, ShowsOn, oram_of, paths_shown, shown_of}
pub use Rattle.processor.specs.PathsTold.{ArePathsOf}
unfoldable pub use Rattle.processor.specs.PathsTold.{is_bank, paths_of, places_of, stamps_of}
pub use Rattle.processor.specs.Pauses.{PausesAt}
unfoldable pub use Rattle.processor.specs.Pauses.{ShowsNext}
pub use Rattle.processor.specs.Quick.{RunsAlike}
unfoldable pub use Rattle.processor.specs.Quick.{CameAlike, IsLeft, PassesQuickly, RunsAlikeOn, StandsForStep, state_at}
unfoldable pub use Rattle.processor.specs.Scratchpads.{HaveRoom, cell_slot, slot_with_word}
unfoldable pub use Rattle.processor.specs.Starting.{starting_bank}
pub use Rattle.processor.specs.Stepping.{Executes, IsReady, IsSound, StepBroke, StepTold}
unfoldable pub use Rattle.processor.specs.Stepping.{CameTo, LeavesState, StaysIfFaulted, StaysOnFault, accessed_of, leaves_of, may_show, on_slot, outcome_of, told_of_step, went_of}
pub use Rattle.processor.specs.Stores.{Memories, Pad}
pub use Rattle.processor.specs.Watching.{APath, AnEvent, WatcherTold}
unfoldable pub use Rattle.processor.specs.Watching.{TellsMore, events_in, left_paths, next_of, path_behind, run_shown, with_path, with_paths}
