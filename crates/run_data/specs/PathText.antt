-- The lines of paths: one after each access to an oblivious bank, and one for each such bank after the last line of a
-- trace, with the levels of its blocks (this project's profile).
use Rattle.std.specs.Prelude.{ℕ, List, [], ◌∷◌, ◌++◌, ◌+◌, codes, decimal, flat_map, Option, Some, None}

-- a space before each leaf
abbrev pub leaves_text : List ℕ → List ℕ
leaves_text leaves = flat_map (λ leaf. 32 ∷ decimal leaf) leaves

-- the paths that an access to an oblivious bank showed
-- Rules: trace/path, trace/paths.
abbrev pub path_line : ℕ → ℕ → List ℕ → List ℕ
path_line stamp bank leaves = decimal stamp ++ codes " P" ++ decimal bank ++ leaves_text leaves ++ codes "\n"

-- a block's level in the tree, or that it is in the stash
abbrev pub level_text : Option ℕ → List ℕ
level_text None = codes " s"
level_text (Some level) = 32 ∷ decimal level

abbrev pub levels_head : ℕ → List ℕ
levels_head bank = codes "levels " ++ decimal bank

-- the levels of a bank's blocks, in order
-- Rule: trace/levels.
abbrev pub levels_line : ℕ → List (Option ℕ) → List ℕ
levels_line bank levels = levels_head bank ++ flat_map level_text levels ++ codes "\n"

-- a text followed by the lines of banks from a number on
abbrev pub levels_behind : List ℕ → ℕ → List (List (Option ℕ)) → List ℕ
levels_behind text bank [] = text
levels_behind text bank (levels ∷ more) = levels_behind (text ++ levels_line bank levels) (bank + 1) more
