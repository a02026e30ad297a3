-- Each variable is within its bank, and two variables of one bank are apart.
use Rattle.std.proofs.Common.{◌≡◌, ℕ, zero, suc, ◌+◌, ◌*◌, ◌^◌, ◌<◌, ◌≤◌, Bool, false, cond, List, [], ◌∷◌, length, take, get_or, Option, Some, None, ◌⊎◌, inl, inr, ⊎_elim, refl, sym, ap, ◌∙◌, subst, arith}
use Rattle.std.specs.Prelude.{◌&&◌, not, min}
use Rattle.std.specs.List.{AllByRecursion}
use Rattle.std.proofs.Math.Nat.{mul-le-mul_left, zero-mul}
use Rattle.std.proofs.lemmas.Nat.{pow_pos}
use Rattle.std.proofs.lemmas.Bool.{eq-eqb, le-leb, cases_lt}
use Rattle.std.proofs.lemmas.List.{get_or-take, length-take-le, take-take}
use Rattle.std.proofs.lemmas.List.Sums.{sum_by_more_le}
use Rattle.gr_base.specs.Prelude.{Within}
use Rattle.gr_word.specs.declared.variables.Label.{Label}
use Rattle.gr_word.specs.declared.variables.Label.TheVariants.{Public, Secret}
use Rattle.lt_isa.specs.Prelude.{most_words}
use Rattle.src_tree.specs.declared.trees.Decl.{Decl}
use Rattle.src_tree.specs.Prelude.{shape_of, LengthFits, IsWithinLimits, Source}
use Rattle.bank_alloc.specs.declared.places.Place.{Place}
use Rattle.bank_alloc.specs.Prelude.{start_of_place, end_of_place, scalar_bank, LiesWithin, AreApart, Fits, ScalarsFit, blocks_for, is_oblivious, is_array, is_scalar_in, scalars_in, oblivious_arrays, first_free_block, places_of, bank_count, blocks_needed}
use Rattle.bank_alloc.proofs.EachPlace.{length-places, scalar_place_at, array_place_at, blocks_for-hold, blocks_for-some, array_before_free, array_before_later}
use Rattle.bank_alloc.proofs.Refusals.{scalars_behind}

-- there is a block for the scalars
scalars_block : (label : Label) (size : ℕ) (places : List Place) → 1 ≤ first_free_block size (scalar_bank label) places
scalars_block Public size places = omega arith
scalars_block Secret size places = omega arith

-- scalars are stored in plain or encrypted memory
pub scalar_bank-lt : (label : Label) → scalar_bank label < 2
scalar_bank-lt Public = omega arith
scalar_bank-lt Secret = omega arith

-- scalars of a label are as many as the program has
scalars_counted : (p : Source) (w : ℕ)
    → ScalarsFit p w → (label : Label) → scalars_in (scalar_bank label) (places_of p w) ≤ 2 ^ w
scalars_counted p w fit Public = omega (arith, scalars_behind p Public (2 ^ w) [] p.decls, fit.public)
scalars_counted p w fit Secret = omega (arith, scalars_behind p Secret (2 ^ w) [] p.decls, fit.secret)

abbrev one_if : Bool → ℕ
one_if b = cond b 1 0

counted : (bank : ℕ) (q : Place) → q.bank ≡ bank → is_array q ≡ false → one_if (is_scalar_in bank q) ≡ 1
counted bank q here scalar =
    ap (λ b. one_if (b && not (is_array q))) (eq-eqb q.bank bank here) ∙ ap (λ b. one_if (not b)) scalar

-- the words of scalars rise
pub scalar_before_later : (bank : ℕ) (places : List Place) (i j : ℕ) (q : Place) → i < j → j ≤ length places
    → (get_or places i q).bank ≡ bank → is_array (get_or places i q) ≡ false
    → scalars_in bank (take i places) + 1 ≤ scalars_in bank (take j places)
scalar_before_later bank places i j q less within here scalar =
    let same = get_or-take j places i q less in
    let more =
    sum_by_more_le (λ x. one_if (is_scalar_in bank x)) (take j places) i q
    (omega (arith, length-take-le j places within, less)) in
    omega (
      arith,
      more,
      counted bank (get_or places i q) here scalar,
      ap (λ x. one_if (is_scalar_in bank x)) same,
      ap (scalars_in bank) (take-take i j places (omega (arith, less))),
    )

scalar_before_all : (bank : ℕ) (places : List Place) (i : ℕ) (q : Place) → i < length places
    → (get_or places i q).bank ≡ bank → is_array (get_or places i q) ≡ false
    → scalars_in bank (take i places) + 1 ≤ scalars_in bank places
scalar_before_all bank places i q within here scalar =
    omega (
      arith,
      sum_by_more_le (λ x. one_if (is_scalar_in bank x)) places i q within,
      counted bank (get_or places i q) here scalar,
    )

scalar_lies : (p : Source) (w k : ℕ) (d : Decl) (q : Place)
    → Fits p w → k < length p.decls → (get_or p.decls k d).length ≡ None
    → LiesWithin p w (get_or p.decls k d) (get_or (places_of p w) k q)
scalar_lies p w k d q fit within none =
    let v = get_or p.decls k d in
    let r = get_or (places_of p w) k q in
    let is = scalar_place_at p w k d q within none in
    let some : 1 ≤ blocks_needed p w r.bank =
    subst (λ b. 1 ≤ blocks_needed p w b) (sym is.bank) (scalars_block v.label (2 ^ w) (places_of p w)) in
    let few : r.word + 1 ≤ 2 ^ w = omega (
      arith,
      is.word,
      scalars_counted p w fit.scalars v.label,
      scalar_before_all (scalar_bank v.label) (places_of p w) k q
          (omega (arith, within, length-places p w)) is.bank is.scalar,
    ) in
    let one : 2 ^ w * 1 ≤ 2 ^ w * blocks_needed p w r.bank = mul-le-mul_left (2 ^ w) some in
    record {
      bank = omega (arith, is.bank, scalar_bank-lt v.label);
      block = omega (arith, is.block, some);
      word = omega (arith, few);
      size = subst (λ l. Within 1 (most_words (shape_of l)) r.length) (sym none)
          (omega (arith, is.one_word), omega (arith, is.one_word));
      inside = let first : r.block * 2 ^ w ≡ 0 = ap (λ b. b * 2 ^ w) is.block ∙ zero-mul (2 ^ w) in
          omega (arith, first, few, is.one_word, one);
    }

-- the length of a variable
pub length_at : (ds : List Decl) → AllByRecursion (λ d. LengthFits d.length) ds → (k : ℕ) (d : Decl) → k < length ds
    → LengthFits (get_or ds k d).length
length_at [] fits k d within = absurd (omega (arith, within))
length_at (x ∷ ds) fits zero d within = fits.0
length_at (x ∷ ds) fits (suc k) d within = length_at ds fits.1 k d (omega (arith, within))

-- an array's bank is there
bank_used : (places : List Place) (k : ℕ) (q : Place)
    → k < length places → (get_or places k q).bank < 2 + min 8 (oblivious_arrays (take k places) + 1)
    → (get_or places k q).bank < bank_count places
bank_used places k q within known =
    let bank = (get_or places k q).bank in
    ⊎_elim
    (λ plain. omega (arith, plain))
    (λ past. omega
    (arith, known, ap one_if (le-leb 2 bank past), sum_by_more_le (λ x. one_if (is_oblivious x)) places k q within))
    (cases_lt bank 2)

array_lies : (p : Source) (w k n : ℕ) (d : Decl) (q : Place)
    → IsWithinLimits p → k < length p.decls → (get_or p.decls k d).length ≡ Some n
    → LiesWithin p w (get_or p.decls k d) (get_or (places_of p w) k q)
array_lies p w k n d q limits within some =
    let v = get_or p.decls k d in
    let r = get_or (places_of p w) k q in
    let is = array_place_at p w k n d q within some in
    let here : k < length (places_of p w) = omega (arith, within, length-places p w) in
    let fits : Within 1 1048576 n = subst LengthFits some (length_at p.decls limits.lengths k d within) in
    let end = array_before_free (2 ^ w) (places_of p w) k q here is.array in
    let words : r.length ≡ n = is.all_words in
    let taken : 1 ≤ blocks_for (2 ^ w) r.length =
    blocks_for-some (2 ^ w) r.length (pow_pos w) (omega (arith, words, fits.0)) in
    let holds = blocks_for-hold (2 ^ w) r.length (pow_pos w) in
    let most : 2 ^ w * (r.block + blocks_for (2 ^ w) r.length) ≤ 2 ^ w * blocks_needed p w r.bank =
    mul-le-mul_left (2 ^ w) (omega (arith, end, is.block)) in
    record {
      bank = bank_used (places_of p w) k q here is.known;
      block = omega (arith, is.block, end, taken);
      word = omega (arith, is.word, pow_pos w);
      size = subst (λ l. Within 1 (most_words (shape_of l)) r.length) (sym some)
          (omega (arith, words, fits.0), omega (arith, words, fits.1));
      inside = omega (arith, is.word, holds, most);
    }

-- variable number k is within its bank
pub lies_within : (p : Source) (w k : ℕ) (d : Decl) (q : Place) → IsWithinLimits p → Fits p w → k < length p.decls
    → LiesWithin p w (get_or p.decls k d) (get_or (places_of p w) k q)
lies_within p w k d q limits fit within = by (get_or p.decls k d).length refl where
  by : (l : Option ℕ)
      → (get_or p.decls k d).length ≡ l → LiesWithin p w (get_or p.decls k d) (get_or (places_of p w) k q)
  by None none = scalar_lies p w k d q fit within none
  by (Some n) some = array_lies p w k n d q limits within some

-- of two arrays of one bank the blocks of the earlier come before the later
pub arrays_apart : (p : Source) (w i j n m : ℕ) (d : Decl) (q : Place) → i < j → j < length p.decls
    → (get_or p.decls i d).length ≡ Some n → (get_or p.decls j d).length ≡ Some m
    → (get_or (places_of p w) i q).bank ≡ (get_or (places_of p w) j q).bank
    → (get_or (places_of p w) i q).block + blocks_for (2 ^ w) n ≤ (get_or (places_of p w) j q).block
arrays_apart p w i j n m d q less within first second same =
    let a = array_place_at p w i n d q (omega (arith, less, within)) first in
    let b = array_place_at p w j m d q within second in
    let later =
    array_before_later (2 ^ w) (places_of p w) i j q less (omega (arith, within, length-places p w)) a.array in
    omega (
      arith,
      later,
      a.block,
      b.block,
      ap (λ k. blocks_for (2 ^ w) k) a.all_words,
      ap (λ k. first_free_block (2 ^ w) k (take j (places_of p w))) same,
    )

-- arrays of plain and encrypted memory follow the block of the scalars
pub array_behind_scalars : (p : Source) (w k n : ℕ) (d : Decl) (q : Place)
    → k < length p.decls → (get_or p.decls k d).length ≡ Some n
    → (label : Label) → (get_or (places_of p w) k q).bank ≡ scalar_bank label → 1 ≤ (get_or (places_of p w) k q).block
array_behind_scalars p w k n d q within some label same =
    let a = array_place_at p w k n d q within some in
    omega (
      arith,
      a.block,
      ap (λ b. first_free_block (2 ^ w) b (take k (places_of p w))) same,
      scalars_block label (2 ^ w) (take k (places_of p w)),
    )

-- of two scalars of one bank the earlier is at an earlier word
pub scalars_apart : (p : Source) (w i j : ℕ) (d : Decl) (q : Place) → i < j → j < length p.decls
    → (get_or p.decls i d).length ≡ None → (get_or p.decls j d).length ≡ None
    → (get_or (places_of p w) i q).bank ≡ (get_or (places_of p w) j q).bank
    → (get_or (places_of p w) i q).word < (get_or (places_of p w) j q).word
scalars_apart p w i j d q less within first second same =
    let a = scalar_place_at p w i d q (omega (arith, less, within)) first in
    let b = scalar_place_at p w j d q within second in
    let bank = scalar_bank (get_or p.decls j d).label in
    let here : (get_or (places_of p w) i q).bank ≡ bank = same ∙ b.bank in
    let later =
    scalar_before_later bank (places_of p w) i j q less (omega (arith, within, length-places p w)) here a.scalar in
    omega (arith, later, a.word, b.word, ap (λ k. scalars_in k (take i (places_of p w))) (sym a.bank ∙ here))

-- a scalar's word is before all arrays of its bank
scalar_before_array : (p : Source) (w i j n : ℕ) (d : Decl) (q : Place)
    → Fits p w → i < length p.decls → j < length p.decls
    → (get_or p.decls i d).length ≡ None → (get_or p.decls j d).length ≡ Some n
    → (get_or (places_of p w) i q).bank ≡ (get_or (places_of p w) j q).bank
    → end_of_place (2 ^ w) (get_or (places_of p w) i q) ≤ start_of_place (2 ^ w) (get_or (places_of p w) j q)
scalar_before_array p w i j n d q fit scalar array none some same =
    let r = get_or (places_of p w) i q in
    let t = get_or (places_of p w) j q in
    let a = scalar_place_at p w i d q scalar none in
    let lies = scalar_lies p w i d q fit scalar none in
    let behind = array_behind_scalars p w j n d q array some (get_or p.decls i d).label (sym same ∙ a.bank) in
    let first : r.block * 2 ^ w ≡ 0 = ap (λ b. b * 2 ^ w) a.block ∙ zero-mul (2 ^ w) in
    let second : 2 ^ w * 1 ≤ 2 ^ w * t.block = mul-le-mul_left (2 ^ w) behind in
    omega (arith, first, second, lies.word, a.one_word)

-- two variables of one bank are apart
pub variables_apart : (p : Source) (w i j : ℕ) (d : Decl) (q : Place) → Fits p w → i < j → j < length p.decls
    → AreApart (2 ^ w) (get_or (places_of p w) i q) (get_or (places_of p w) j q)
variables_apart p w i j d q fit less within same =
    by (get_or p.decls i d).length (get_or p.decls j d).length refl refl
  where
    by : (l m : Option ℕ) → (get_or p.decls i d).length ≡ l → (get_or p.decls j d).length ≡ m
        → (end_of_place (2 ^ w) (get_or (places_of p w) i q) ≤ start_of_place (2 ^ w) (get_or (places_of p w) j q))
        ⊎ (end_of_place (2 ^ w) (get_or (places_of p w) j q) ≤ start_of_place (2 ^ w) (get_or (places_of p w) i q))
    by None None first second =
        let a = scalar_place_at p w i d q (omega (arith, less, within)) first in
        let b = scalar_place_at p w j d q within second in
        let words = scalars_apart p w i j d q less within first second same in
        let blocks = ap (λ k. k * 2 ^ w) (a.block ∙ sym b.block) in
        inl (omega (arith, words, blocks, a.one_word))
    by None (Some m) first second =
        inl (scalar_before_array p w i j m d q fit (omega (arith, less, within)) within first second same)
    by (Some n) None first second =
        inr (scalar_before_array p w j i n d q fit within (omega (arith, less, within)) second first (sym same))
    by (Some n) (Some m) first second =
        let r = get_or (places_of p w) i q in
        let t = get_or (places_of p w) j q in
        let a = array_place_at p w i n d q (omega (arith, less, within)) first in
        let b = array_place_at p w j m d q within second in
        let apart = arrays_apart p w i j n m d q less within first second same in
        let holds = blocks_for-hold (2 ^ w) n (pow_pos w) in
        let most : 2 ^ w * (r.block + blocks_for (2 ^ w) n) ≤ 2 ^ w * t.block = mul-le-mul_left (2 ^ w) apart in
        inl (omega (arith, holds, most, a.word, b.word, a.all_words))
