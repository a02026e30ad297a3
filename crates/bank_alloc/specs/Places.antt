-- The places of a program's variables (this project's profile). Scalars share the first block of plain memory, bank 0,
-- or of encrypted memory, bank 1; arrays have whole blocks, in order of declaration; the oblivious ones go to banks 2
-- to 9 in turn. Here they are computed in sequence; `PlaceRules` states the same of each by itself.
use Rattle.std.specs.Prelude.{◌≡◌, ℕ, ◌+◌, ◌-◌, ◌/◌, ◌%◌, ◌^◌, min, nat_le, Bool, ◌==◌, ◌&&◌, ◌||◌, not, if◌then◌else◌, List, [], ◌∷◌, ◌++◌, map, sum_by, count_by}
use Rattle.std.specs.List.{range_with_len}
use Rattle.src_tree.specs.declared.trees.Decl.{Decl}
use Rattle.src_tree.specs.Trees.{Source}
use Rattle.src_tree.specs.Limits.{words_of}
use Rattle.bank_alloc.specs.declared.classes.Class.{Class}
use Rattle.bank_alloc.specs.declared.classes.Class.TheVariants.{PublicScalar, SecretScalar, PublicArray, EncryptedArray, ObliviousArray}
use Rattle.bank_alloc.specs.declared.places.Place.{Place}
use Rattle.bank_alloc.specs.declared.places.Places.{Places}
use Rattle.bank_alloc.specs.Classes.{class_of}

-- the blocks that some words take, where a block has `size` words
abbrev pub blocks_for : ℕ → ℕ → ℕ
blocks_for size words = (words + (size - 1)) / size

-- A place is an oblivious bank's, or an array's: an array is stored in an oblivious bank or after the first block.
abbrev pub is_oblivious : Place → Bool
is_oblivious q = nat_le 2 q.bank

abbrev pub is_array : Place → Bool
is_array q = is_oblivious q || nat_le 1 q.block

abbrev pub is_scalar_in : ℕ → Place → Bool
is_scalar_in bank q = (q.bank == bank) && not (is_array q)

abbrev pub is_array_in : ℕ → Place → Bool
is_array_in bank q = (q.bank == bank) && is_array q

-- how many scalars of a bank there are among some places, how many arrays of it, and how many arrays of all oblivious
-- banks
abbrev pub scalars_in : ℕ → List Place → ℕ
scalars_in bank places = count_by (is_scalar_in bank) places

abbrev pub arrays_in : ℕ → List Place → ℕ
arrays_in bank places = count_by (is_array_in bank) places

abbrev pub oblivious_arrays : List Place → ℕ
oblivious_arrays places = count_by is_oblivious places

-- arrays begin after the block of the scalars, and in an oblivious bank at the first block
abbrev pub first_block : ℕ → ℕ
first_block bank = if nat_le 2 bank then 0 else 1

-- the blocks of a bank that a place takes, which are none where it isn't an array of that bank
abbrev pub blocks_taken : ℕ → ℕ → Place → ℕ
blocks_taken size bank q = if is_array_in bank q then blocks_for size q.length else 0

-- the first block of a bank that is free after some places
abbrev pub first_free_block : ℕ → ℕ → List Place → ℕ
first_free_block size bank places = first_block bank + sum_by (blocks_taken size bank) places

-- a scalar after others, and an array: at the next word, and at the next free block
abbrev pub scalar_place : List Place → ℕ → ℕ → Place
scalar_place before bank words = record { bank = bank; block = 0; word = scalars_in bank before; length = words }

abbrev pub array_place : ℕ → List Place → ℕ → ℕ → Place
array_place size before bank words =
    record { bank = bank; block = first_free_block size bank before; word = 0; length = words }

-- the place of a variable of a class and this many words, after others
abbrev pub place_behind : ℕ → List Place → Class → ℕ → Place
place_behind size before PublicScalar words = scalar_place before 0 words
place_behind size before SecretScalar words = scalar_place before 1 words
place_behind size before PublicArray words = array_place size before 0 words
place_behind size before EncryptedArray words = array_place size before 1 words
place_behind size before ObliviousArray words = array_place size before (2 + oblivious_arrays before % 8) words

-- the places of some declarations after others, in sequence, if each has a class
unfoldable pub places_behind : (Decl → Class) → ℕ → List Place → List Decl → List Place
places_behind class size before [] = []
places_behind class size before (d ∷ ds) =
    let q = place_behind size before (class d) (words_of d) in q ∷ places_behind class size (before ++ q ∷ []) ds

-- the places of all variables, in order of declaration, where a block has 2^w words
abbrev pub places_of : Source → ℕ → List Place
places_of p w = places_behind (class_of p) (2 ^ w) [] p.decls

-- Plain and encrypted memory are always there, and as many oblivious banks as are used; and each bank has the blocks
-- that are needed.
abbrev pub bank_count : List Place → ℕ
bank_count places = 2 + min 8 (oblivious_arrays places)

abbrev pub blocks_needed : Source → ℕ → ℕ → ℕ
blocks_needed p w bank = first_free_block (2 ^ w) bank (places_of p w)

unfoldable pub blocks_of_banks : Source → ℕ → List ℕ
blocks_of_banks p w = map (blocks_needed p w) (range_with_len 0 (bank_count (places_of p w)))

-- the places of a program's variables and the blocks of its banks
pub record IsPlacesOf (p : Source) (w : ℕ) (pl : Places) : Type 0 where
  pub of_var : pl.of_var.items ≡ places_of p w
  pub blocks : pl.blocks.items ≡ blocks_of_banks p w
