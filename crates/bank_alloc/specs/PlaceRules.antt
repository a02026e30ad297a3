-- The place of each variable of a program, by the variables that are declared before it. (This project's profile.)
-- why: these rules are here and not in `src_tree`, since they need the limits of objects, and `src_tree` doesn't know
-- the machine.
use Rattle.std.specs.Prelude.{◌≡◌, ℕ, ◌+◌, ◌%◌, ◌^◌, ◌<◌, Bool, true, false, ◌==◌, if◌then◌else◌, List, [], ◌∷◌, length, take, min, sum_by, count_by, slice_index_or}
use Rattle.src_tree.specs.declared.trees.Decl.{Decl}
use Rattle.src_tree.specs.Trees.{Source}
use Rattle.src_tree.specs.Limits.{words_of}
use Rattle.bank_alloc.specs.declared.classes.Class.{Class}
use Rattle.bank_alloc.specs.declared.classes.Class.TheVariants.{PublicScalar, SecretScalar, PublicArray, EncryptedArray, ObliviousArray}
use Rattle.bank_alloc.specs.declared.places.Place.{Place}
use Rattle.bank_alloc.specs.Classes.{class_of}
use Rattle.bank_alloc.specs.Places.{blocks_for, places_of, blocks_needed, bank_count}

abbrev pub is_same : Class → Class → Bool
is_same PublicScalar PublicScalar = true
is_same SecretScalar SecretScalar = true
is_same PublicArray PublicArray = true
is_same EncryptedArray EncryptedArray = true
is_same ObliviousArray ObliviousArray = true
is_same c other = false

-- how many of some variables are of a class, and how many blocks of `size` words these take
abbrev pub class_count : (Decl → Class) → Class → List Decl → ℕ
class_count class c ds = count_by (λ d. is_same c (class d)) ds

abbrev pub blocks_of_class : (Decl → Class) → ℕ → Class → List Decl → ℕ
blocks_of_class class size c ds = sum_by (λ d. if is_same c (class d) then blocks_for size (words_of d) else 0) ds

-- the blocks of the oblivious arrays among some variables, from number j on, whose number has this rest by 8
abbrev pub blocks_in_turn : (Decl → Class) → ℕ → ℕ → ℕ → List Decl → ℕ
blocks_in_turn class size turn j [] = 0
blocks_in_turn class size turn j (d ∷ ds) =
    if is_same ObliviousArray (class d)
    then (if j % 8 == turn then blocks_for size (words_of d) else 0) + blocks_in_turn class size turn (j + 1) ds
    else blocks_in_turn class size turn j ds

abbrev pub word_of_block : ℕ → ℕ → ℕ → ℕ → Place
word_of_block bank block word words = record { bank = bank; block = block; word = word; length = words }

-- The place of a variable, by its class, its words and the variables before it. Scalars are stored in the first block,
-- each at the next word. Public arrays follow in bank 0, and encrypted ones in bank 1, on whole blocks. The j-th
-- oblivious array, from 0, is stored in bank 2 + j mod 8, after those that are there.
abbrev pub place_by : (Decl → Class) → ℕ → List Decl → Class → ℕ → Place
place_by class size before PublicScalar words = word_of_block 0 0 (class_count class PublicScalar before) words
place_by class size before SecretScalar words = word_of_block 1 0 (class_count class SecretScalar before) words
place_by class size before PublicArray words =
    word_of_block 0 (1 + blocks_of_class class size PublicArray before) 0 words
place_by class size before EncryptedArray words =
    word_of_block 1 (1 + blocks_of_class class size EncryptedArray before) 0 words
place_by class size before ObliviousArray words =
    let turn = class_count class ObliviousArray before % 8 in
    word_of_block (2 + turn) (blocks_in_turn class size turn 0 before) 0 words

-- Each variable of a program has one place, by those that are declared before it.
pub record ArePlaced (p : Source) (w : ℕ) (places : List Place) : Type 0 where
  pub count : length places ≡ length p.decls
  pub each : (k : ℕ) → (d : Decl) → (q : Place) → k < length p.decls
      → slice_index_or places k q ≡ place_by (class_of p) (2 ^ w) (take k p.decls)
      (class_of p (slice_index_or p.decls k d)) (words_of (slice_index_or p.decls k d))

-- Plain and encrypted memory have one block more than their arrays take. There are as many oblivious banks as are used,
-- and each has the blocks that its arrays take.
pub record BanksNeed (p : Source) (w : ℕ) : Type 0 where
  pub plain : blocks_needed p w 0 ≡ 1 + blocks_of_class (class_of p) (2 ^ w) PublicArray p.decls
  pub encrypted : blocks_needed p w 1 ≡ 1 + blocks_of_class (class_of p) (2 ^ w) EncryptedArray p.decls
  pub oblivious : (turn : ℕ) → blocks_needed p w (2 + turn) ≡ blocks_in_turn (class_of p) (2 ^ w) turn 0 p.decls
  pub banks : bank_count (places_of p w) ≡ 2 + min 8 (class_count (class_of p) ObliviousArray p.decls)
