-- The steps of a path.
use Rattle.std.specs.Prelude.{ℕ, Bool, not, ◌||◌, List, codes}
use Rattle.std.specs.Str.{bytes_eq}

-- a step leads to another file unless it is empty or `.`
abbrev pub leads : List ℕ → Bool
leads step = not (bytes_eq step (codes "") || bytes_eq step (codes "."))
