-- The place of each variable of a program, by its number: a scalar, an array, and its bank.
use Rattle.std.proofs.Common.{◌≡◌, ℕ, zero, suc, ◌+◌, ◌-◌, ◌*◌, ◌%◌, ◌^◌, ◌<◌, ◌≤◌, Bool, true, false, cond, List, [], ◌∷◌, ◌++◌, length, take, get_or, Option, Some, None, refl, sym, ap, ◌∙◌, subst, arith, append_assoc}
use Rattle.std.specs.Prelude.{nat_le, ◌&&◌, ◌||◌, min, sum_by}
use Rattle.std.proofs.Math.Nat.{mod-le, lt-div-mul-add}
use Rattle.std.proofs.lemmas.Nat.{le-div}
use Rattle.std.proofs.lemmas.Bool.{eq-eqb, le-leb}
use Rattle.std.proofs.lemmas.List.{append-nil, get_or-take, length-take-le, take-take}
use Rattle.std.proofs.lemmas.List.Sums.{sum_by_more_le}
use Rattle.gr_word.specs.declared.variables.Label.{Label}
use Rattle.gr_word.specs.declared.variables.Label.TheVariants.{Public, Secret}
use Rattle.src_tree.specs.declared.trees.Decl.{Decl}
use Rattle.src_tree.specs.Prelude.{words_of_length, words_of, Source}
use Rattle.bank_alloc.specs.declared.classes.Class.{Class}
use Rattle.bank_alloc.specs.declared.places.Place.{Place}
use Rattle.bank_alloc.specs.Prelude.{has_secret_index, scalar_bank, IsBankOf, class_by, class_of, blocks_for, is_array, scalars_in, oblivious_arrays, blocks_taken, first_free_block, array_place, place_behind, places_behind, places_of}

-- any declaration and any place, where a read of a list wants one
abbrev pub any_decl : Decl
any_decl = record { name = []; label = Public; length = None }

-- the default of a look-up that finds nothing
abbrev pub any_place : Place
any_place = record { bank = 0; block = 0; word = 0; length = 0 }

-- as many places as declarations
pub length-places_behind : (class : Decl → Class) (size : ℕ) (before : List Place) (ds : List Decl)
    → length (places_behind class size before ds) ≡ length ds
unfolding places_behind
length-places_behind class size before [] = refl
length-places_behind class size before (d ∷ ds) =
    let rest = length-places_behind class size (before ++ place_behind size before (class d) (words_of d) ∷ []) ds in
    omega (arith, rest)

-- each variable has a place
pub length-places : (p : Source) (w : ℕ) → length (places_of p w) ≡ length p.decls
length-places p w = length-places_behind (class_of p) (2 ^ w) [] p.decls

-- the place of declaration number k
pub get_or-places_behind : (class : Decl → Class) (size : ℕ) (before : List Place) (ds : List Decl) (k : ℕ) (d : Decl)
    (q : Place) → k < length ds → get_or (places_behind class size before ds) k q ≡ place_behind size
    (before ++ take k (places_behind class size before ds)) (class (get_or ds k d)) (words_of (get_or ds k d))
unfolding places_behind
get_or-places_behind class size before [] k d q within = absurd (omega (arith, within))
get_or-places_behind class size before (x ∷ ds) zero d q within =
    ap (λ (b : List Place). place_behind size b (class x) (words_of x)) (sym (append-nil before))
get_or-places_behind class size before (x ∷ ds) (suc k) d q within =
    let first = place_behind size before (class x) (words_of x) in
    get_or-places_behind class size (before ++ first ∷ []) ds k d q (omega (arith, within))
    ∙ ap (λ (b : List Place). place_behind size b (class (get_or ds k d)) (words_of (get_or ds k d)))
    (append_assoc before (first ∷ []) (take k (places_behind class size (before ++ first ∷ []) ds)))

-- the place of variable number k: after those before it
pub get_or-places : (p : Source) (w k : ℕ) (d : Decl) (q : Place) → k < length p.decls
    → get_or (places_of p w) k q
    ≡ place_behind (2 ^ w) (take k (places_of p w)) (class_of p (get_or p.decls k d)) (words_of (get_or p.decls k d))
get_or-places p w k d q within = get_or-places_behind (class_of p) (2 ^ w) [] p.decls k d q within

-- the place of a scalar after others
pub record IsScalarPlace (label : Label) (before : List Place) (q : Place) : Type 0 where
  pub bank : q.bank ≡ scalar_bank label
  pub block : q.block ≡ 0
  pub word : q.word ≡ scalars_in (scalar_bank label) before
  pub one_word : q.length ≡ 1
  pub scalar : is_array q ≡ false

-- the place of an array of this many words after others
pub record IsArrayPlace (label : Label) (size words : ℕ) (before : List Place) (q : Place) : Type 0 where
  pub bank : IsBankOf label q.bank
  pub known : q.bank < 2 + min 8 (oblivious_arrays before + 1)
  pub used : 2 ≤ q.bank → q.bank ≡ 2 + oblivious_arrays before % 8
  pub block : q.block ≡ first_free_block size q.bank before
  pub word : q.word ≡ 0
  pub all_words : q.length ≡ words
  pub array : is_array q ≡ true

-- an array of a bank with scalars is stored after their block
pub array_block : (block : ℕ) → nat_le 1 (1 + block) ≡ true
array_block block = le-leb 1 (1 + block) (omega arith)

oblivious_array : (turn : ℕ) (b : Bool) → (nat_le 2 (2 + turn) || b) ≡ true
oblivious_array turn b = ap (λ c. c || b) (le-leb 2 (2 + turn) (omega arith))

mod_lt_min : (m : ℕ) → m % 8 < min 8 (m + 1)
mod_lt_min m = omega (arith, mod-le m 8)

scalar_by_class : (label : Label) (indexed : Bool) (size : ℕ) (before : List Place)
    → IsScalarPlace label before (place_behind size before (class_by label None indexed) 1)
scalar_by_class Public indexed size before =
    record { bank = refl; block = refl; word = refl; one_word = refl; scalar = refl }
scalar_by_class Secret indexed size before =
    record { bank = refl; block = refl; word = refl; one_word = refl; scalar = refl }

array_in : (label : Label) (size words : ℕ) (before : List Place) (bank : ℕ) → IsBankOf label bank
    → bank < 2 + min 8 (oblivious_arrays before + 1)
    → (2 ≤ bank → bank ≡ 2 + oblivious_arrays before % 8)
    → is_array (array_place size before bank words) ≡ true
    → IsArrayPlace label size words before (array_place size before bank words)
array_in label size words before bank is known used array =
    record { bank = is; known = known; used = used; block = refl; word = refl; all_words = refl; array = array }

array_by_class : (label : Label) (indexed : Bool) (size words : ℕ) (before : List Place)
    → IsArrayPlace label size words before (place_behind size before (class_by label (Some words) indexed) words)
array_by_class Public indexed size words before =
    array_in Public size words before 0 refl (omega arith) (λ past. absurd (omega (arith, past)))
    (array_block (sum_by (blocks_taken size 0) before))
array_by_class Secret false size words before =
    array_in Secret size words before 1 (omega arith) (omega arith) (λ past. absurd (omega (arith, past)))
    (array_block (sum_by (blocks_taken size 1) before))
array_by_class Secret true size words before =
    let turn = oblivious_arrays before % 8 in
    array_in Secret size words before (2 + turn) (omega arith) (omega (arith, mod_lt_min (oblivious_arrays before)))
    (λ past. refl) (oblivious_array turn _)

-- variable number k is a scalar
pub scalar_place_at : (p : Source) (w k : ℕ) (d : Decl) (q : Place)
    → k < length p.decls → (get_or p.decls k d).length ≡ None
    → IsScalarPlace (get_or p.decls k d).label (take k (places_of p w)) (get_or (places_of p w) k q)
scalar_place_at p w k d q within none =
    let v = get_or p.decls k d in
    let before = take k (places_of p w) in
    subst (IsScalarPlace v.label before)
    (sym (get_or-places p w k d q within
    ∙ ap (λ l. place_behind (2 ^ w) before (class_by v.label l (has_secret_index p v.name)) (words_of_length l)) none))
    (scalar_by_class v.label (has_secret_index p v.name) (2 ^ w) before)

-- variable number k is an array
pub array_place_at : (p : Source) (w k n : ℕ) (d : Decl) (q : Place)
    → k < length p.decls → (get_or p.decls k d).length ≡ Some n
    → IsArrayPlace (get_or p.decls k d).label (2 ^ w) n (take k (places_of p w)) (get_or (places_of p w) k q)
array_place_at p w k n d q within some =
    let v = get_or p.decls k d in
    let before = take k (places_of p w) in
    subst (IsArrayPlace v.label (2 ^ w) n before)
    (sym (get_or-places p w k d q within
    ∙ ap (λ l. place_behind (2 ^ w) before (class_by v.label l (has_secret_index p v.name)) (words_of_length l)) some))
    (array_by_class v.label (has_secret_index p v.name) (2 ^ w) n before)

-- blocks for words are some and hold them, and no fewer would
pub blocks_for-hold : (size words : ℕ) → 0 < size → words ≤ blocks_for size words * size
blocks_for-hold size words some = let h = lt-div-mul-add {a = words + (size - 1)} {b = size} some in omega (arith, h)

-- some words take a block at least
pub blocks_for-some : (size words : ℕ) → 0 < size → 0 < words → 1 ≤ blocks_for size words
blocks_for-some size words some word = le-div 1 (words + (size - 1)) size some (omega (arith, some, word))

-- the blocks that an array takes in its bank
pub blocks_taken-array : (size : ℕ) (q : Place)
    → is_array q ≡ true → blocks_taken size q.bank q ≡ blocks_for size q.length
blocks_taken-array size q array =
    ap (λ b. cond (b && is_array q) (blocks_for size q.length) 0) (eq-eqb q.bank q.bank refl)
    ∙ ap (λ b. cond b (blocks_for size q.length) 0) array

-- an array's blocks come before the next free ones
pub array_before_free : (size : ℕ) (places : List Place) (k : ℕ) (q : Place)
    → k < length places → is_array (get_or places k q) ≡ true
    → first_free_block size (get_or places k q).bank (take k places) + blocks_for size (get_or places k q).length
    ≤ first_free_block size (get_or places k q).bank places
array_before_free size places k q within array =
    let v = get_or places k q in
    omega (arith, sum_by_more_le (blocks_taken size v.bank) places k q within, blocks_taken-array size v array)

-- the same after some of the others
pub array_before_later : (size : ℕ) (places : List Place) (i j : ℕ) (q : Place) → i < j → j ≤ length places
    → is_array (get_or places i q) ≡ true
    → first_free_block size (get_or places i q).bank (take i places) + blocks_for size (get_or places i q).length
    ≤ first_free_block size (get_or places i q).bank (take j places)
array_before_later size places i j q less within array =
    let here = get_or-take j places i q less in
    let front = take-take i j places (omega (arith, less)) in
    subst (λ (v : Place).
    first_free_block size v.bank (take i places) + blocks_for size v.length
    ≤ first_free_block size v.bank (take j places)) here
    (subst (λ (before : List Place). first_free_block size (get_or (take j places) i q).bank before
    + blocks_for size (get_or (take j places) i q).length
    ≤ first_free_block size (get_or (take j places) i q).bank (take j places)) front
    (array_before_free size (take j places) i q (omega (arith, length-take-le j places within, less))
    (ap is_array here ∙ array)))

-- a variable is stored in a bank of its label
pub bank_of_label : (p : Source) (w k : ℕ) (d : Decl) (q : Place) → k < length p.decls
    → IsBankOf (get_or p.decls k d).label (get_or (places_of p w) k q).bank
bank_of_label p w k d q within = by (get_or p.decls k d).length refl where
  scalars : (label : Label) (bank : ℕ) → bank ≡ scalar_bank label → IsBankOf label bank
  scalars Public bank is = is
  scalars Secret bank is = omega (arith, is)

  by : (l : Option ℕ)
      → (get_or p.decls k d).length ≡ l → IsBankOf (get_or p.decls k d).label (get_or (places_of p w) k q).bank
  by None none =
      scalars (get_or p.decls k d).label (get_or (places_of p w) k q).bank (scalar_place_at p w k d q within none).bank
  by (Some n) some = (array_place_at p w k n d q within some).bank
