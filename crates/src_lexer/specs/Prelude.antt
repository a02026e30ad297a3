-- The definitions that clauses and proofs above cite, passed on from one place. Declares nothing.
unfoldable pub use Rattle.src_lexer.specs.Fails.{fail_of}
pub use Rattle.src_lexer.specs.Found.{Faulty, Found, Piece, Skipped}
unfoldable pub use Rattle.src_lexer.specs.Found.{found_in, run_found, sign_found, single_found}
unfoldable pub use Rattle.src_lexer.specs.KnownNames.{HoldsOwn}
pub use Rattle.src_lexer.specs.Pieces.{Apart, Big, BytePair, Is, LetterRun, Long, Mixed, Slashes, Two}
unfoldable pub use Rattle.src_lexer.specs.Pieces.{is_in_line, is_white, letter_run_of, number_run, pair_of, sign_of, word_run}
pub use Rattle.src_lexer.specs.Spans.{ByOne, ByRun, ByTwo, Spelled}
unfoldable pub use Rattle.src_lexer.specs.Spans.{AreSlices, InOrder, IsSlice}
pub use Rattle.src_lexer.specs.Splits.{Bad, Behind, Blank, Comment, Double, Ends, IsLongest, Single, Splits, StartsSign, TooBig, TooLong, Word}
unfoldable pub use Rattle.src_lexer.specs.Splits.{Lexed, token_at, with_token, with_tokens}
pub use Rattle.src_lexer.specs.Unread.{BeginsWith, Unread}
unfoldable pub use Rattle.src_lexer.specs.Unread.{left_from}
