-- What inputs must fit. (This project's profile.)
use Rattle.std.specs.Prelude.{◌≡◌, ◌≢◌, ℕ, ℤ, List, [], ◌∷◌, length, slice_index_or, All}
use Rattle.gr_word.specs.declared.variables.Want.{Want}
use Rattle.gr_word.specs.declared.variables.Shape.TheVariants.{Scalar}
use Rattle.gr_word.specs.Words.{IsWord}

-- the words of variable number i, or none past the last variable
abbrev pub words_at : List (List ℤ) → ℕ → List ℤ
words_at lists i = slice_index_or lists i []

-- each of them is a word
abbrev pub AreWords : List ℤ → Type 0
AreWords words = All IsWord words

-- for each want, in order, a list of as many words as the want has
abbrev pub FitsWants : List Want → List (List ℤ) → Type 0
FitsWants [] [] = Unit {0}
FitsWants [] (words ∷ lists) = ⊥
FitsWants (want ∷ wants) [] = ⊥
FitsWants (want ∷ wants) (words ∷ lists) = (length words ≡ want.length) × AreWords words × FitsWants wants lists

-- no two wants have the same name
abbrev pub AreDistinct : List Want → Type 0
AreDistinct [] = Unit {0}
AreDistinct (want ∷ wants) = All (λ other. want.name ≢ other.name) wants × AreDistinct wants

-- wants that are variables: their names differ, and a scalar has one word
-- why: the symbols of every object and the variables of every typed program are such, so inputs are read by names.
pub record AreVariables (wants : List Want) : Type 0 where
  pub distinct : AreDistinct wants
  pub scalars : All (λ want. want.shape ≡ Scalar → want.length ≡ 1) wants
