-- The names of `bus` in pairs.
use Rattle.std.specs.Prelude.{ℕ, List, [], ◌∷◌, length, nat_lt, if◌then◌else◌, Option, Some, None}
use Rattle.std.specs.Option.{option_map}

-- a pair of names, of an object file and of an input file
pub record Pair : Type 0 where
  pub object : List ℕ
  pub input : List ℕ

-- names in pairs; an odd number of them gives none
abbrev pub in_pairs : List (List ℕ) → Option (List Pair)
in_pairs [] = Some []
in_pairs (object ∷ []) = None
in_pairs (object ∷ input ∷ more) =
    option_map (λ pairs. record { object = object; input = input } ∷ pairs) (in_pairs more)

-- one to eight pairs
abbrev pub pairs_of : List (List ℕ) → Option (List Pair)
pairs_of names = if nat_lt 16 (length names) then None else in_pairs names
