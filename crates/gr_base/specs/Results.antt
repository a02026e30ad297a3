-- Steps in a chain, each of which may fail. (This project's profile.)
use Rattle.std.specs.Prelude.{Result, Ok, Err}

-- one step and then another, or the first error
infixl 10 ◌>>=◌
abbrev pub ◌>>=◌ : {A B E : Type 0} → Result A E → (A → Result B E) → Result B E
(Ok x) >>= f = f x
(Err e) >>= f = Err e
