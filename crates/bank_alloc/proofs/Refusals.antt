-- A program is rejected for what lacks room first. Nothing lacks room exactly if the program has room.
use Rattle.std.proofs.Common.{◌≡◌, ℕ, zero, suc, ◌+◌, ◌%◌, ◌^◌, ◌<◌, ◌≤◌, nat_lt, Bool, true, false, cond, List, [], ◌∷◌, ◌++◌, length, get_or, Option, Some, None, refl, sym, ap, ◌∙◌, subst, arith}
use Rattle.std.specs.Prelude.{nat_le, ◌&&◌, not, ◌||◌, count_by, sum_by, is_none}
use Rattle.std.proofs.lemmas.Bool.{ltb-true, ltb-false, le-leb}
use Rattle.std.proofs.lemmas.List.Sums.{sum_by-cons}
use Rattle.std.proofs.lemmas.List.FromFn.{get_or-map-range_with_len, length-map-range_with_len}
use Rattle.gr_word.specs.declared.variables.Label.{Label}
use Rattle.gr_word.specs.declared.variables.Label.TheVariants.{Public, Secret}
use Rattle.lt_isa.specs.Prelude.{most_blocks}
use Rattle.src_tree.specs.declared.trees.Decl.{Decl}
use Rattle.src_tree.specs.Prelude.{words_of, Source}
use Rattle.bank_alloc.specs.declared.classes.Class.{Class}
use Rattle.bank_alloc.specs.declared.classes.Class.TheVariants.{PublicScalar, SecretScalar, PublicArray, EncryptedArray, ObliviousArray}
use Rattle.bank_alloc.specs.declared.places.Place.{Place}
use Rattle.bank_alloc.specs.declared.places.Places.{Places}
use Rattle.bank_alloc.specs.declared.places.PlaceError.{PlaceError}
use Rattle.bank_alloc.specs.declared.places.PlaceError.TheVariants.{TooManyScalars, BankFull}
use Rattle.bank_alloc.specs.Prelude.{has_secret_index, class_by, class_of, is_labelled, is_scalar, scalars_of, ScalarsFit, Fits, Refuses, first_full, first_lack, blocks_taken, is_scalar_in, oblivious_arrays, scalars_in, place_behind, places_behind, places_of, bank_count, blocks_needed, blocks_of_banks, IsPlacesOf}

-- whether a class is that of scalars of a label, and their bank
abbrev pub is_scalar_class : Label → Class → Bool
is_scalar_class Public PublicScalar = true
is_scalar_class Secret SecretScalar = true
is_scalar_class label class = false

abbrev bank_of : Label → ℕ
bank_of Public = 0
bank_of Secret = 1

pub scalar_by : (label of : Label) (length : Option ℕ) (indexed : Bool)
    → is_scalar_class label (class_by of length indexed) ≡ (is_none length && is_labelled label of)
scalar_by Public Public None indexed = refl
scalar_by Public Secret None indexed = refl
scalar_by Secret Public None indexed = refl
scalar_by Secret Secret None indexed = refl
scalar_by Public Public (Some n) indexed = refl
scalar_by Public Secret (Some n) true = refl
scalar_by Public Secret (Some n) false = refl
scalar_by Secret Public (Some n) indexed = refl
scalar_by Secret Secret (Some n) true = refl
scalar_by Secret Secret (Some n) false = refl

-- an array's place isn't a scalar's
array_no_scalar : (b c : Bool) (block : ℕ) → (b && not (c || nat_le 1 (1 + block))) ≡ false
array_no_scalar b c block =
    subst (λ d. (b && not (c || d)) ≡ false) (sym (le-leb 1 (1 + block) (omega arith))) (by b c)
  where
    by : (b c : Bool) → (b && not (c || true)) ≡ false
    by true true = refl
    by true false = refl
    by false true = refl
    by false false = refl

oblivious_no_scalar : (b c : Bool) (turn : ℕ) → (b && not (nat_le 2 (2 + turn) || c)) ≡ false
oblivious_no_scalar b c turn =
    subst (λ d. (b && not (d || c)) ≡ false) (sym (le-leb 2 (2 + turn) (omega arith))) (by b)
  where
    by : (b : Bool) → (b && not true) ≡ false
    by true = refl
    by false = refl

scalar_at : (label : Label) (size : ℕ) (before : List Place) (class : Class) (words : ℕ)
    → is_scalar_in (bank_of label) (place_behind size before class words) ≡ is_scalar_class label class
scalar_at Public size before PublicArray words = array_no_scalar true false (sum_by (blocks_taken size 0) before)
scalar_at Public size before ObliviousArray words = oblivious_no_scalar _ _ (oblivious_arrays before % 8)
scalar_at Public size before other words = refl
scalar_at Secret size before PublicScalar words = refl
scalar_at Secret size before SecretScalar words = refl
scalar_at Secret size before PublicArray words = refl
scalar_at Secret size before EncryptedArray words = array_no_scalar true false (sum_by (blocks_taken size 1) before)
scalar_at Secret size before ObliviousArray words = oblivious_no_scalar _ _ (oblivious_arrays before % 8)

-- among the places of declarations there are as many scalars of a label as among the declarations
pub scalars_behind : (p : Source) (label : Label) (size : ℕ) (before : List Place) (ds : List Decl)
    → scalars_in (bank_of label) (places_behind (class_of p) size before ds) ≡ count_by (is_scalar label) ds
unfolding places_behind
scalars_behind p label size before [] = refl
scalars_behind p label size before (d ∷ ds) =
    let q = place_behind size before (class_of p d) (words_of d) in
    sum_by-cons (λ x. cond (is_scalar_in (bank_of label) x) 1 0) q
    (places_behind (class_of p) size (before ++ q ∷ []) ds)
    ∙ ap (λ b. cond b 1 0 + scalars_in (bank_of label) (places_behind (class_of p) size (before ++ q ∷ []) ds))
    (scalar_at label size before (class_of p d) (words_of d)
    ∙ scalar_by label d.label d.length (has_secret_index p d.name))
    ∙ ap (λ n. cond (is_scalar label d) 1 0 + n) (scalars_behind p label size (before ++ q ∷ []) ds)
    ∙ sym (sum_by-cons (λ x. cond (is_scalar label x) 1 0) d ds)

-- a bank, from a number on, that is the first to need more than it may have
pub record IsFull (bank : ℕ) (blocks : List ℕ) (e : PlaceError) : Type 0 where
  pub behind : ℕ
  pub within : behind < length blocks
  pub is : e ≡ BankFull (bank + behind)
  pub full : most_blocks (bank + behind) < get_or blocks behind 0
  pub first : (j : ℕ) → j < behind → get_or blocks j 0 ≤ most_blocks (bank + j)

pub some_is : (e f : PlaceError) → ◌≡◌ {A = Option PlaceError} (Some e) (Some f) → e ≡ f
some_is e f same = cc

-- one bank and those after it
earlier : (bank b : ℕ) (rest : List ℕ) (k : ℕ)
    → b ≤ most_blocks bank → ((j : ℕ) → j < k → get_or rest j 0 ≤ most_blocks (bank + 1 + j))
    → (j : ℕ) → j < suc k → get_or (b ∷ rest) j 0 ≤ most_blocks (bank + j)
earlier bank b rest k this rest_fits zero less =
    let same : bank ≡ bank + 0 = omega arith in subst (λ n. b ≤ most_blocks n) same this
earlier bank b rest k this rest_fits (suc j) less =
    let same : bank + 1 + j ≡ bank + suc j = omega arith in
    subst (λ n. get_or rest j 0 ≤ most_blocks n) same (rest_fits j (omega (arith, less)))

pub found_full : (bank : ℕ) (blocks : List ℕ) (e : PlaceError) → first_full bank blocks ≡ Some e → IsFull bank blocks e
found_full bank [] e found = absurd cc
found_full bank (b ∷ rest) e found = by (nat_lt (most_blocks bank) b) refl found (found_full (bank + 1) rest e) where
  by : (over : Bool)
      → nat_lt (most_blocks bank) b ≡ over → cond over (Some (BankFull bank)) (first_full (bank + 1) rest) ≡ Some e
      → (first_full (bank + 1) rest ≡ Some e → IsFull (bank + 1) rest e) → IsFull bank (b ∷ rest) e
  by true over is later =
      let same : bank + 0 ≡ bank = omega arith in
      record {
        behind = 0;
        within = omega arith;
        is = sym (some_is (BankFull bank) e is) ∙ ap (λ n. BankFull n) (sym same);
        full = subst (λ n. most_blocks n < b) (sym same) (ltb-true (most_blocks bank) b over);
        first = λ j less. absurd (omega (arith, less));
      }
  by false over is later =
      let l = later is in
      let same : bank + 1 + l.behind ≡ bank + suc l.behind = omega arith in
      record {
        behind = suc l.behind;
        within = omega (arith, l.within);
        is = l.is ∙ ap (λ n. BankFull n) same;
        full = subst (λ n. most_blocks n < get_or rest l.behind 0) same l.full;
        first = earlier bank b rest l.behind (ltb-false (most_blocks bank) b over) l.first;
      }

pub none_full : (bank : ℕ) (blocks : List ℕ)
    → first_full bank blocks ≡ None → (j : ℕ) → j < length blocks → get_or blocks j 0 ≤ most_blocks (bank + j)
none_full bank [] none j within = absurd (omega (arith, within))
none_full bank (b ∷ rest) none j within =
    by (nat_lt (most_blocks bank) b) refl none (none_full (bank + 1) rest) j within
  where
    by : (over : Bool)
        → nat_lt (most_blocks bank) b ≡ over → cond over (Some (BankFull bank)) (first_full (bank + 1) rest) ≡ None
        → (first_full (bank + 1) rest ≡ None → (j : ℕ) → j < length rest → get_or rest j 0 ≤ most_blocks (bank + 1 + j))
        → (j : ℕ) → j < length (b ∷ rest) → get_or (b ∷ rest) j 0 ≤ most_blocks (bank + j)
    by true over is later j within = absurd cc
    by false over is later j within =
        earlier bank b rest (length rest) (ltb-false (most_blocks bank) b over) (later is) j (omega (arith, within))

-- the banks of a program
pub length-blocks : (p : Source) (w : ℕ) → length (blocks_of_banks p w) ≡ bank_count (places_of p w)
unfolding blocks_of_banks
length-blocks p w = length-map-range_with_len (blocks_needed p w) 0 (bank_count (places_of p w))

-- the blocks of a bank are those that it needs
pub get_or-blocks : (p : Source) (w bank d : ℕ)
    → bank < bank_count (places_of p w) → get_or (blocks_of_banks p w) bank d ≡ blocks_needed p w bank
unfolding blocks_of_banks
get_or-blocks p w bank d within =
    get_or-map-range_with_len (blocks_needed p w) 0 (bank_count (places_of p w)) bank bank d within (omega arith)

-- there are ten banks at most
pub bank_count-le : (places : List Place) → bank_count places ≤ 10
bank_count-le places = omega arith

scalars_fit : (p : Source) (w : ℕ)
    → nat_lt (2 ^ w) (scalars_of Public p) ≡ false → nat_lt (2 ^ w) (scalars_of Secret p) ≡ false → ScalarsFit p w
scalars_fit p w public secret = record {
  public = ltb-false (2 ^ w) (scalars_of Public p) public;
  secret = ltb-false (2 ^ w) (scalars_of Secret p) secret;
}

-- the first lack, by the counts of a program's scalars
lack_by : Source → ℕ → Bool → Bool → Option PlaceError
lack_by p w public secret =
    cond public (Some (TooManyScalars Public))
    (cond secret (Some (TooManyScalars Secret)) (first_full 0 (blocks_of_banks p w)))

lack_is : (p : Source) (w size : ℕ) (pl : Places) → size ≡ 2 ^ w → IsPlacesOf p w pl
    → first_lack size pl.of_var.items pl.blocks.items
    ≡ lack_by p w (nat_lt (2 ^ w) (scalars_of Public p)) (nat_lt (2 ^ w) (scalars_of Secret p))
unfolding lack_by
lack_is p w size pl is of =
    ap (λ s. first_lack s pl.of_var.items pl.blocks.items) is
    ∙ ap (λ places. first_lack (2 ^ w) places pl.blocks.items) of.of_var
    ∙ ap (first_lack (2 ^ w) (places_of p w)) of.blocks
    ∙ ap
    (λ n. cond (nat_lt (2 ^ w) n) (Some (TooManyScalars Public)) (cond (nat_lt (2 ^ w) (scalars_in 1 (places_of p w)))
    (Some (TooManyScalars Secret)) (first_full 0 (blocks_of_banks p w))))
    (scalars_behind p Public (2 ^ w) [] p.decls)
    ∙ ap (λ n. cond (nat_lt (2 ^ w) (scalars_of Public p)) (Some (TooManyScalars Public))
    (cond (nat_lt (2 ^ w) n) (Some (TooManyScalars Secret)) (first_full 0 (blocks_of_banks p w))))
    (scalars_behind p Secret (2 ^ w) [] p.decls)

full_bank : (p : Source) (w : ℕ) (e : PlaceError) → ScalarsFit p w → IsFull 0 (blocks_of_banks p w) e → Refuses p w e
full_bank p w e fit full =
    let within : full.behind < bank_count (places_of p w) = omega (arith, full.within, length-blocks p w) in
    let same : 0 + full.behind ≡ full.behind = omega arith in
    subst (Refuses p w) (sym (full.is ∙ ap (λ n. BankFull n) same)) (
      fit,
      record {
        full = omega (
          arith,
          subst (λ n. most_blocks n < get_or (blocks_of_banks p w) full.behind 0) same full.full,
          get_or-blocks p w full.behind 0 within,
        );
        first = λ b less.
            let other : 0 + b ≡ b = omega arith in
            omega (
              arith,
              subst (λ n. get_or (blocks_of_banks p w) b 0 ≤ most_blocks n) other (full.first b less),
              get_or-blocks p w b 0 (omega (arith, less, within)),
            );
      },
    )

refused_by : (p : Source) (w : ℕ) (public secret : Bool) (e : PlaceError)
    → nat_lt (2 ^ w) (scalars_of Public p) ≡ public
    → nat_lt (2 ^ w) (scalars_of Secret p) ≡ secret → lack_by p w public secret ≡ Some e → Refuses p w e
unfolding lack_by
refused_by p w true secret e many other is =
    subst (Refuses p w) (some_is (TooManyScalars Public) e is) (ltb-true (2 ^ w) (scalars_of Public p) many)
refused_by p w false true e few many is =
    subst (Refuses p w) (some_is (TooManyScalars Secret) e is)
    (ltb-false (2 ^ w) (scalars_of Public p) few, ltb-true (2 ^ w) (scalars_of Secret p) many)
refused_by p w false false e few other is =
    full_bank p w e (scalars_fit p w few other) (found_full 0 (blocks_of_banks p w) e is)

-- the first lack is what the program is refused for
pub refused : (p : Source) (w size : ℕ) (pl : Places) (e : PlaceError) → size ≡ 2 ^ w → IsPlacesOf p w pl
    → first_lack size pl.of_var.items pl.blocks.items ≡ Some e → Refuses p w e
refused p w size pl e is of found =
    refused_by p w (nat_lt (2 ^ w) (scalars_of Public p)) (nat_lt (2 ^ w) (scalars_of Secret p)) e refl refl
    (sym (lack_is p w size pl is of) ∙ found)

fits_by : (p : Source) (w : ℕ) (public secret : Bool) → nat_lt (2 ^ w) (scalars_of Public p) ≡ public
    → nat_lt (2 ^ w) (scalars_of Secret p) ≡ secret → lack_by p w public secret ≡ None → Fits p w
unfolding lack_by
fits_by p w true secret many other is = absurd cc
fits_by p w false true few many is = absurd cc
fits_by p w false false few other is = record {
  scalars = scalars_fit p w few other;
  banks = λ b within.
      let same : 0 + b ≡ b = omega arith in
      omega (
        arith,
        subst (λ n. get_or (blocks_of_banks p w) b 0 ≤ most_blocks n) same
            (none_full 0 (blocks_of_banks p w) is b (omega (arith, within, length-blocks p w))),
        get_or-blocks p w b 0 within,
      );
}

-- where nothing lacks room, the program fits
pub fits : (p : Source) (w size : ℕ) (pl : Places) → size ≡ 2 ^ w → IsPlacesOf p w pl
    → first_lack size pl.of_var.items pl.blocks.items ≡ None → Fits p w
fits p w size pl is of none =
    fits_by p w (nat_lt (2 ^ w) (scalars_of Public p)) (nat_lt (2 ^ w) (scalars_of Secret p)) refl refl
    (sym (lack_is p w size pl is of) ∙ none)

-- the banks that are answered are few
pub few_banks : (p : Source) (w : ℕ) (pl : Places) → IsPlacesOf p w pl → length pl.blocks.items ≤ 10
few_banks p w pl of =
    omega (arith, ap (λ (bs : List ℕ). length bs) of.blocks, length-blocks p w, bank_count-le (places_of p w))
