-- The definitions that clauses and proofs above cite, passed on from one place. Declares nothing.
pub use Rattle.gr_word.specs.Fitting.{AreVariables}
unfoldable pub use Rattle.gr_word.specs.Fitting.{AreDistinct, AreWords, FitsWants, words_at}
unfoldable pub use Rattle.gr_word.specs.Names.{is_name, is_name_byte}
unfoldable pub use Rattle.gr_word.specs.Words.{IsWord, applied, compared, is_zero, unless_zero, unsigned_of}
