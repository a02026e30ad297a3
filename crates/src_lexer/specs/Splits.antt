-- How a source text splits into white space, comments and tokens that are as long as possible; or its first error (this
-- project's profile).
use Rattle.std.specs.Prelude.{◌≡◌, ◌⊎◌, ℕ, ◌+◌, ◌<◌, Bool, true, false, List, [], ◌∷◌, ◌++◌, length, slice_index, Some, None, Result, Ok, Err}
use Rattle.std.specs.List.{list_all}
use Rattle.gr_word.specs.Names.{is_name_byte}
use Rattle.src_lexer.specs.declared.tokens.Kind.{Kind}
use Rattle.src_lexer.specs.declared.tokens.Token.{Token}
use Rattle.src_lexer.specs.declared.errors.LexFault.{LexFault}
use Rattle.src_lexer.specs.Pieces.{is_white, is_in_line, Is, Big, Long, Mixed, letter_run_of, sign_of, Two, Slashes, Apart, pair_of}
use Rattle.src_lexer.specs.declared.errors.LexFault.TheVariants as error

-- the tokens of a text, or its first error
abbrev pub Lexed : Type 0
Lexed = Result (List Token) LexFault

-- a token before the others, if none of them is an error
abbrev pub with_token : Token → Lexed → Lexed
with_token token (Ok tokens) = Ok (token ∷ tokens)
with_token token (Err e) = Err e

-- tokens before the others, if none of them is an error
abbrev pub with_tokens : List Token → Lexed → Lexed
with_tokens [] reading = reading
with_tokens (token ∷ tokens) reading = with_token token (with_tokens tokens reading)

abbrev pub token_at : Kind → ℕ → ℕ → Token
token_at k at size = record { kind = k; start = at; len = size }

-- a longest run of such bytes, before the rest of a text
pub record IsLongest (p : ℕ → Bool) (piece rest : List ℕ) : Type 0 where
  pub each : list_all p piece ≡ true
  pub ends : rest ≡ [] ⊎ (p (slice_index rest 0) ≡ false)

-- a byte that is neither white space nor part of a name or a number
pub record StartsSign (b : ℕ) : Type 0 where
  pub no_white : is_white b ≡ false
  pub no_word : is_name_byte b ≡ false

-- the splitting of a text that starts at byte `at`
pub data Splits : (at : ℕ) → List ℕ → Lexed → Type 0 where
  Ends : {at : ℕ} → Splits at [] (Ok [])
  -- one byte of white space
  Blank : {at b : ℕ} {rest : List ℕ} {reading : Lexed}
      → is_white b ≡ true → Splits (at + 1) rest reading → Splits at (b ∷ rest) reading
  -- `//` and the rest of the line
  Comment : {at : ℕ} {rest : List ℕ} {reading : Lexed} (a b : ℕ) (line : List ℕ)
      → StartsSign a → pair_of a b ≡ Slashes → IsLongest is_in_line line rest
      → Splits (at + (2 + length line)) rest reading → Splits at (a ∷ b ∷ (line ++ rest)) reading
  -- a longest run of letters, digits and `_`: a keyword, a name or a number
  Word : {at : ℕ} {rest : List ℕ} {reading : Lexed} (k : Kind) (run : List ℕ)
      → 0 < length run → IsLongest is_name_byte run rest → letter_run_of run ≡ Is k
      → Splits (at + length run) rest reading
      → Splits at (run ++ rest) (with_token (token_at k at (length run)) reading)
  -- a sign of two bytes
  Double : {at : ℕ} {rest : List ℕ} {reading : Lexed} (k : Kind) (a b : ℕ) → StartsSign a → pair_of a b ≡ Two k →
      Splits (at + 2) rest reading → Splits at (a ∷ b ∷ rest) (with_token (token_at k at 2) reading)
  -- a sign of one byte, which is neither a longer sign nor a comment together with the next byte
  Single : {at : ℕ} {rest : List ℕ} {reading : Lexed} (k : Kind) (b : ℕ)
      → StartsSign b → sign_of b ≡ Some k → pair_of b (slice_index rest 0) ≡ Apart
      → Splits (at + 1) rest reading → Splits at (b ∷ rest) (with_token (token_at k at 1) reading)
  -- a number above 2^63 - 1
  TooBig : {at : ℕ} {rest : List ℕ} (run : List ℕ) → 0 < length run → IsLongest is_name_byte run rest
      → letter_run_of run ≡ Big
      → Splits at (run ++ rest) (Err (error.NumberTooBig at))
  -- a name of more than 32 bytes
  TooLong : {at : ℕ} {rest : List ℕ} (run : List ℕ)
      → 0 < length run → IsLongest is_name_byte run rest → letter_run_of run ≡ Long
      → Splits at (run ++ rest) (Err (error.NameTooLong at))
  -- a letter or `_` directly after a number
  Behind : {at : ℕ} {rest : List ℕ} (run : List ℕ) (digits : ℕ)
      → 0 < length run → IsLongest is_name_byte run rest → letter_run_of run ≡ Mixed digits
      → Splits at (run ++ rest) (Err (error.BadByte (at + digits)))
  -- a byte with which none of these begins
  Bad : {at b : ℕ} {rest : List ℕ} → StartsSign b → sign_of b ≡ None → pair_of b (slice_index rest 0) ≡ Apart →
      Splits at (b ∷ rest) (Err (error.BadByte at))
