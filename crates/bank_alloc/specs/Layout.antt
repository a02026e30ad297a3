-- The layout of an object that a program was compiled to (this project's profile): its block size, its banks, and a
-- symbol for each variable, in order of bank and place.
use Rattle.std.specs.Prelude.{◌≡◌, ℕ, ◌*◌, ◌^◌, ◌<◌, ◌≤◌, List, [], ◌∷◌, length, map, slice_index_or, None}
use Rattle.std.specs.List.{AllPairs}
use Rattle.std.specs.List.Sorted.{IsPermutation}
use Rattle.gr_word.specs.declared.variables.Label.TheVariants.{Public}
use Rattle.lt_isa.specs.declared.symbols.Symbol.{Symbol}
use Rattle.lt_isa.specs.Limits.{most_blocks}
use Rattle.lt_isa.specs.Object.{Parts, first_word}
use Rattle.src_tree.specs.declared.trees.Decl.{Decl}
use Rattle.src_tree.specs.Trees.{Source}
use Rattle.src_tree.specs.Contexts.{shape_of}
use Rattle.src_tree.specs.Limits.{words_of}
use Rattle.bank_alloc.specs.declared.places.Place.{Place}
use Rattle.bank_alloc.specs.Apart.{AreApart, end_of_place}
use Rattle.bank_alloc.specs.Places.{places_of, blocks_of_banks}

-- a variable at a place, with its name, label and shape
abbrev pub placed_symbol : Decl → Place → Symbol
placed_symbol d q = record {
  name = d.name;
  label = d.label;
  shape = shape_of d.length;
  bank = q.bank;
  block = q.block;
  word = q.word;
  length = q.length;
}

-- each variable at its place, in order of declaration
abbrev pub placed_symbols : List Decl → List Place → List Symbol
placed_symbols [] places = []
placed_symbols (d ∷ ds) [] = []
placed_symbols (d ∷ ds) (q ∷ places) = placed_symbol d q ∷ placed_symbols ds places

-- a symbol is before another: in an earlier bank, or at an earlier word of the same
pub data StandsBefore (size : ℕ) (s t : Symbol) : Type 0 where
  InEarlierBank : (bank : s.bank < t.bank) → StandsBefore size s t
  AtEarlierWord : (bank : s.bank ≡ t.bank) (word : first_word size s < first_word size t) → StandsBefore size s t

-- exactly one symbol for each variable, in order of bank and place, where the variables are at some places
pub record AreSymbolsAt (p : Source) (w : ℕ) (places : List Place) (symbols : List Symbol) : Type 0 where
  pub each : IsPermutation (placed_symbols p.decls places) symbols
  pub order : AllPairs (StandsBefore (2 ^ w)) symbols

-- the object has these places and numbers of blocks
pub record IsLaidOut (p : Source) (w : ℕ) (places : List Place) (counts : List ℕ) (o : Parts) : Type 0 where
  pub block_size : o.profile.block_log ≡ w
  pub blocks : map (λ b. b.blocks) o.banks ≡ counts
  pub symbols : AreSymbolsAt p w places o.symbols

abbrev pub AreSymbolsOf : Source → ℕ → List Symbol → Type 0
AreSymbolsOf p w symbols = AreSymbolsAt p w (places_of p w) symbols

abbrev pub HasLayout : Source → ℕ → Parts → Type 0
HasLayout p w o = IsLaidOut p w (places_of p w) (blocks_of_banks p w) o

-- the defaults for a declaration and for a place past the last
abbrev pub no_decl : Decl
no_decl = record { name = []; label = Public; length = None }

abbrev pub no_place : Place
no_place = record { bank = 0; block = 0; word = 0; length = 0 }

-- a variable is within its bank, where a block has `size` words
pub record IsWithinBank (size : ℕ) (blocks : List ℕ) (d : Decl) (q : Place) : Type 0 where
  pub bank : q.bank < length blocks
  pub words : q.length ≡ words_of d
  pub word : q.word < size
  pub inside : end_of_place size q ≤ slice_index_or blocks q.bank 0 * size

-- Places for the variables of a program, in banks with these numbers of blocks: each variable is within its bank, no two
-- share a word, and no bank has more blocks than it may have.
pub record ArePlacesIn (p : Source) (w : ℕ) (blocks : List ℕ) (places : List Place) : Type 0 where
  pub count : length places ≡ length p.decls
  pub limits : (b : ℕ) → b < length blocks → slice_index_or blocks b 0 ≤ most_blocks b
  pub place : (k : ℕ) → k < length p.decls
      → IsWithinBank (2 ^ w) blocks (slice_index_or p.decls k no_decl) (slice_index_or places k no_place)
  pub apart : (i j : ℕ) → i < j → j < length p.decls
      → AreApart (2 ^ w) (slice_index_or places i no_place) (slice_index_or places j no_place)
