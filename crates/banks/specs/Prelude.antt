-- The definitions that clauses and proofs above cite, passed on from one place. Declares nothing.
pub use Rattle.banks.specs.Accesses.{Access, AreAccesses}
unfoldable pub use Rattle.banks.specs.Accesses.{ShowsAccess, ShowsItsAccess, access_on, accessed, accessed_by, accessed_if, accessed_then, accesses_from, accesses_within, at_most_one, in_bank}
pub use Rattle.banks.specs.Banks.{AreLeaves}
unfoldable pub use Rattle.banks.specs.Banks.{block_numbered, listed_leaves, no_leaves, one_leaf}
pub use Rattle.banks.specs.Blocks.{Blocks}
unfoldable pub use Rattle.banks.specs.Blocks.{block_of_words, cut, filled_up, in_blocks, words_of_blocks}
unfoldable pub use Rattle.banks.specs.ObliviousEvents.{accesses_shown, if_it_is, oblivious}
