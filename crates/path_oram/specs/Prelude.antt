-- The definitions that clauses and proofs above cite, passed on from one place. Declares nothing.
pub use Rattle.path_oram.specs.Coming.{by-word, comes-one}
pub use Rattle.path_oram.specs.GreedyPath.{GreedyPath}
unfoldable pub use Rattle.path_oram.specs.GreedyPath.{IsOff}
unfoldable pub use Rattle.path_oram.specs.LeavesAlike.{LeavesAlike, touched}
unfoldable pub use Rattle.path_oram.specs.Literal.{TakesWhatIsLeftWhereWhole, deeper_blocks, is_left_for}
pub use Rattle.path_oram.specs.Moves.{Moves, MovesBy, MovesTo, Stays, Then}
pub use Rattle.path_oram.specs.Orams.{ComesBy, Oram}
unfoldable pub use Rattle.path_oram.specs.Orams.{leaves_ahead, paths_ahead}
pub use Rattle.path_oram.specs.Places.{Places}
unfoldable pub use Rattle.path_oram.specs.Places.{all_blocks, bucket_number, first_places, hand, held, index_on, on_path, passes_bucket, path_blocks}
unfoldable pub use Rattle.path_oram.specs.Pouring.{poured}
pub use Rattle.path_oram.specs.Rearranged.{IsRearrangement, IsWordOrder}
unfoldable pub use Rattle.path_oram.specs.Rearranged.{ShowsTheSame}
pub use Rattle.path_oram.specs.Settles.{AreLevels, Settles}
unfoldable pub use Rattle.path_oram.specs.Settles.{StandsOn, places_from}
pub use Rattle.path_oram.specs.Settling.{IsDeepest, IsSettled}
unfoldable pub use Rattle.path_oram.specs.Settling.{HasRoom, NoneFrom, NonePasses, WritesBack}
unfoldable pub use Rattle.path_oram.specs.Slots.{AllHaveLeaves, HaveLeaves, IsNotBeside, all_slots, blocks_in, leaf_in, places_of, slot_of, slots_at, tree_blocks, with_leaf}
pub use Rattle.path_oram.specs.Trees.{BlockTree, IsTree}
pub use Rattle.path_oram.specs.Whole.{IsHeightFor, IsWhole}
unfoldable pub use Rattle.path_oram.specs.Words.{first_words, leaf_of, word_at, words_left}
unfoldable pub use Rattle.path_oram.specs.WordsRead.{EachReads, EachWordOnce, ReadsWord, leaves_shown, read_word_number, words_next, words_read, words_read_after}
