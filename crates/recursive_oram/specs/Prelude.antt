-- The definitions that clauses and proofs above cite, passed on from one place. Declares nothing.
unfoldable pub use Rattle.recursive_oram.specs.ByLevel.{ShowsByLevel, block_on}
pub use Rattle.recursive_oram.specs.Descending.{IsDescent}
unfoldable pub use Rattle.recursive_oram.specs.FirstTrees.{AreFirst}
pub use Rattle.recursive_oram.specs.Levels.{Level}
unfoldable pub use Rattle.recursive_oram.specs.Levels.{block_above, leaves_now, levels_after, shown_ahead, tree_level, word_above}
pub use Rattle.recursive_oram.specs.Making.{IsMaking}
pub use Rattle.recursive_oram.specs.PositionMaps.{KeepsLeaves}
unfoldable pub use Rattle.recursive_oram.specs.PositionMaps.{IsPositionMap, count_above, kept_leaf}
pub use Rattle.recursive_oram.specs.RecLeaves.{Size}
unfoldable pub use Rattle.recursive_oram.specs.RecLeaves.{AreSizes, leaves_read, leaves_read_after, number_among_all, rec_leaves, size_of, words_made}
pub use Rattle.recursive_oram.specs.RecursiveOrams.{Recursive}
unfoldable pub use Rattle.recursive_oram.specs.RecursiveOrams.{LeadsEach, all_trees, levels_of}
