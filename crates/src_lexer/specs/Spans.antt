-- The places of the tokens of a text (this project's profile).
use Rattle.std.specs.Prelude.{◌≡◌, ℕ, ◌+◌, ◌<◌, ◌≤◌, List, [], ◌∷◌, take, drop, Some}
use Rattle.src_lexer.specs.declared.tokens.Kind.{Kind}
use Rattle.src_lexer.specs.declared.tokens.Token.{Token}
use Rattle.src_lexer.specs.Pieces.{Is, letter_run_of, sign_of, Two, pair_of}

-- these bytes are the text of a token of this kind
pub data Spelled : List ℕ → Kind → Type 0 where
  ByRun : (bytes : List ℕ) (k : Kind) → letter_run_of bytes ≡ Is k → Spelled bytes k
  ByOne : (b : ℕ) (k : Kind) → sign_of b ≡ Some k → Spelled (b ∷ []) k
  ByTwo : (a b : ℕ) (k : Kind) → pair_of a b ≡ Two k → Spelled (a ∷ b ∷ []) k

-- the spans of tokens are in order between two bytes, and none is empty
abbrev pub InOrder : ℕ → ℕ → List Token → Type 0
InOrder at end [] = at ≤ end
InOrder at end (token ∷ tokens) = (at ≤ token.start) × (0 < token.len) × InOrder (token.start + token.len) end tokens

-- the bytes of a token's span are the token's text
abbrev pub IsSlice : List ℕ → Token → Type 0
IsSlice text token = Spelled (take token.len (drop token.start text)) token.kind

abbrev pub AreSlices : List ℕ → List Token → Type 0
AreSlices text [] = Unit {0}
AreSlices text (token ∷ tokens) = IsSlice text token × AreSlices text tokens
