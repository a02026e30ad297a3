-- Objects with a secret, as an example: the only variable is a secret scalar. (This project's profile.)
use Rattle.std.specs.Prelude.{◌≡◌, ℤ, List, [], ◌∷◌}
use Rattle.gr_word.specs.declared.variables.Label.TheVariants.{Secret}
use Rattle.lt_isa.specs.declared.symbols.Symbol.{Symbol}
use Rattle.lt_isa.specs.Object.{Parts}

pub record OneSecret (o : Parts) : Type 0 where
  pub symbol : Symbol
  pub only : o.symbols ≡ symbol ∷ []
  pub secret : symbol.label ≡ Secret
  pub scalar : symbol.length ≡ 1

-- inputs with one word for the one variable
abbrev pub one_word : ℤ → List (List ℤ)
one_word x = (x ∷ []) ∷ []
