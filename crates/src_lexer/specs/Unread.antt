-- What is left of a text after some of its tokens.
use Rattle.std.specs.Prelude.{ℕ, List, drop}
use Rattle.src_lexer.specs.declared.tokens.Token.{Token}
use Rattle.src_lexer.specs.Splits.{Lexed, with_tokens, Splits}

-- what is left of a text: its bytes from byte `at` on
pub record Unread : Type 0 where
  pub at : ℕ
  pub rest : List ℕ

abbrev pub left_from : ℕ → List ℕ → Unread
left_from at text = record { at = at; rest = drop at text }

-- these tokens are the first of what is left, and `after` is left then: they precede however it splits, or its first error
pub record BeginsWith (before : Unread) (tokens : List Token) (after : Unread) : Type 0 where
  pub splits : (reading : Lexed)
      → Splits after.at after.rest reading → Splits before.at before.rest (with_tokens tokens reading)
