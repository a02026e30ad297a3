-- A program with a variable of each class, in blocks of eight words. (This project's profile.)
use Rattle.std.specs.Prelude.{ℕ, pos, List, [], ◌∷◌, Option, Some, None}
use Rattle.gr_word.specs.declared.variables.Label.{Label}
use Rattle.gr_word.specs.declared.variables.Label.TheVariants.{Public, Secret}
use Rattle.src_tree.specs.declared.trees.Decl.{Decl}
use Rattle.src_tree.specs.Trees.{Source, Number, Variable, Element, SetVariable, Nothing, Then}
use Rattle.bank_alloc.specs.declared.places.Place.{Place}

abbrev declared : ℕ → Label → Option ℕ → Decl
declared name label length = record { name = name ∷ []; label = label; length = length }

abbrev placed : ℕ → ℕ → ℕ → ℕ → Place
placed bank block word length = record { bank = bank; block = block; word = word; length = length }

-- `public int x; secret int s; public int a[9]; secret int t; secret int e[4]; secret int o[10]; s = e[3]; t = o[s];`
abbrev pub sample : Source
sample = record {
  decls = declared 120 Public None ∷ declared 115 Secret None ∷ declared 97 Public (Some 9) ∷ declared 116 Secret None
      ∷ declared 101 Secret (Some 4) ∷ declared 111 Secret (Some 10) ∷ [];
  body = Then (SetVariable (115 ∷ []) (Element (101 ∷ []) (Number (pos 3))))
      (Then (SetVariable (116 ∷ []) (Element (111 ∷ []) (Variable (115 ∷ [])))) Nothing);
}

abbrev pub sample_places : List Place
sample_places =
    placed 0 0 0 1 ∷ placed 1 0 0 1 ∷ placed 0 1 0 9 ∷ placed 1 0 1 1 ∷ placed 1 1 0 4 ∷ placed 2 0 0 10 ∷ []

abbrev pub sample_blocks : List ℕ
sample_blocks = 3 ∷ 2 ∷ 2 ∷ []
