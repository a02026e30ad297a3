-- Where statements are among tokens, by their grammar. Tokens have numbers, from 0.
use Rattle.std.specs.Prelude.{◌≡◌, ℕ, ◌+◌, ◌≤◌, List, [], ◌∷◌, ◌++◌, length}
use Rattle.src_lexer.specs.declared.tokens.Kind.{Kind}
use Rattle.src_tree.specs.Trees.{Statement, SetVariable, SetElement, Choice, Loop, Block, Nothing, Then}
use Rattle.src_parser.specs.Grammar.{limits, Writes}

-- the tokens from number `start` up to number `end`, without that one, are a statement
pub record IsPlace {S : Type 0} (Is : List Kind → S → Type 0) (tokens : List Kind) (statement : S) (start end : ℕ)
    : Type 0 where
  pub before : List Kind
  pub own : List Kind
  pub after : List Kind
  pub split : tokens ≡ before ++ (own ++ after)
  pub starts : start ≡ length before
  pub ends : end ≡ length before + length own
  pub is : Is own statement

-- The places of statements in the order of their first tokens, all of which have numbers of at least `from`. Inside
-- proofs `to` is a bound that allows the places of further statements to follow.
pub data Places {S : Type 0} (Is : List Kind → S → Type 0) (tokens : List Kind)
    : (from to : ℕ) → List S → (starts ends : List ℕ) → Type 0 where
  NoMore : {from to : ℕ} → from ≤ to → Places Is tokens from to [] [] []
  Next : {from to start end : ℕ} {statement : S} {others : List S} {starts ends : List ℕ} → from ≤ start
      → IsPlace Is tokens statement start end → Places Is tokens (start + 1) to others starts ends
      → Places Is tokens from to (statement ∷ others) (start ∷ starts) (end ∷ ends)

-- the statements of a block and of the blocks in it, in reading order
abbrev mutual
  pub statements_in : Block → List Statement
  statements_in Nothing = []
  statements_in (Then statement rest) = parts_of statement ++ statements_in rest

  pub parts_of : Statement → List Statement
  parts_of (SetVariable name value) = SetVariable name value ∷ []
  parts_of (SetElement name index value) = SetElement name index value ∷ []
  parts_of (Choice test first second) = Choice test first second ∷ (statements_in first ++ statements_in second)
  parts_of (Loop test body) = Loop test body ∷ statements_in body

-- tokens that are this statement of a program
pub record IsStatement (tokens : List Kind) (statement : Statement) : Type 0 where
  pub depth : ℕ
  pub writes : Writes limits depth tokens (Then statement Nothing)

-- the places of a program's statements among its tokens
abbrev pub StatementPlaces : List Kind → Block → (starts ends : List ℕ) → Type 0
StatementPlaces tokens body starts ends =
    Places IsStatement tokens 0 (length tokens) (statements_in body) starts ends
