-- The places of declarations, one more at a time; how few they are; and the classes by which they are placed.
use Rattle.std.proofs.Common.{◌≡◌, ℕ, ◌+◌, ◌*◌, ◌%◌, ◌^◌, ◌<◌, ◌≤◌, Bool, List, [], ◌∷◌, ◌++◌, length, map, drop, get_or, Option, Some, None, sym, ap, ◌∙◌, subst, arith, append_assoc}
use Rattle.std.specs.List.{All, AllByRecursion, range_with_len}
use Rattle.std.specs.Borrow.{Bor}
use Rattle.std.specs.BTreeMap.{BTreeMap}
use Rattle.std.specs.BTreeSet.{BTreeSet}
use Rattle.std.proofs.Math.Path.{fun_ext}
use Rattle.std.proofs.Math.Pow.{pow_mono}
use Rattle.std.proofs.Math.Nat.{mod-eq_of_lt}
use Rattle.std.proofs.lemmas.List.{append-nil, drop_more, drop_all}
use Rattle.std.proofs.lemmas.List.Elements.{All-push, All-nil, All-cons}
use Rattle.std.proofs.lemmas.List.FromFn.{map-range_with_len_more}
use Rattle.gr_base.specs.Prelude.{Within, found_under}
use Rattle.gr_word.specs.declared.variables.Label.{Label}
use Rattle.gr_word.specs.declared.variables.Shape.{Shape}
use Rattle.src_tree.specs.declared.trees.Decl.{Decl}
use Rattle.src_tree.specs.Prelude.{Context, context_of, LengthFits, words_of, words_of_length, Source}
use Rattle.bank_alloc.specs.declared.classes.Class.{Class}
use Rattle.bank_alloc.specs.declared.places.Place.{Place}
use Rattle.bank_alloc.specs.declared.places.Places.{Places}
use Rattle.bank_alloc.specs.Prelude.{secret_index_in_block, class_by, class_of, is_member, class_in, AreFew, place_behind, places_behind, first_free_block, bank_count, blocks_of_banks, IsPlacesOf}

-- one more declaration, whose place was appended to the others
pub places_more : (class : Decl → Class) (size : ℕ) (ds : List Decl) (i : ℕ) (d : Decl) (places more : List Place)
    (q : Place)
    → i < length ds → d ≡ get_or ds i d → q ≡ place_behind size places (class d) (words_of d) → more ≡ places ++ q ∷ []
    → places ++ places_behind class size places (drop i ds) ≡ places_behind class size [] ds
    → more ++ places_behind class size more (drop (i + 1) ds) ≡ places_behind class size [] ds
unfolding places_behind
places_more class size ds i d places more q within read placed pushed so_far =
    ap (λ m. m ++ places_behind class size m (drop (i + 1) ds)) (pushed ∙ ap (λ x. places ++ x ∷ []) placed)
    ∙ append_assoc places (place_behind size places (class d) (words_of d) ∷ []) _
    ∙ ap (λ (left : List Decl). places ++ places_behind class size places left)
    (sym (drop_more ds i d within ∙ ap (λ x. x ∷ drop (i + 1) ds) (sym read)))
    ∙ so_far

-- after the last declaration the places so far are all
pub places_all : (class : Decl → Class) (size : ℕ) (ds : List Decl) (i : ℕ) (places : List Place) → length ds ≤ i
    → places ++ places_behind class size places (drop i ds) ≡ places_behind class size [] ds
    → places ≡ places_behind class size [] ds
unfolding places_behind
places_all class size ds i places past so_far =
    sym (append-nil places)
    ∙ ap (λ (left : List Decl). places ++ places_behind class size places left) (sym (drop_all i ds past))
    ∙ so_far

-- few places and one more
pub few_more : (ds : List Decl) (i : ℕ) (places more : List Place) (q : Place)
    → length ds ≤ 256 → i < length ds → length places ≡ i
    → q.length ≤ 1048576 → more ≡ places ++ q ∷ [] → length more ≡ i + 1 → AreFew places → AreFew more
few_more ds i places more q few within count fits pushed one few_so_far = record {
  count = omega (arith, one, within, few);
  lengths = subst (All (λ q. q.length ≤ 1048576)) (sym pushed)
      (All-push (λ (q : Place). q.length ≤ 1048576) places q few_so_far.lengths fits);
}

words_fit_in : (words : Option ℕ) → LengthFits words → words_of_length words ≤ 1048576
words_fit_in None fits = omega arith
words_fit_in (Some n) fits = fits.1

-- the variables of a program are short enough
pub words_fit : (ds : List Decl) → AllByRecursion (λ d. LengthFits d.length) ds → All (λ d. words_of d ≤ 1048576) ds
words_fit [] fits = All-nil _
words_fit (d ∷ ds) fits =
    All-cons (λ (d : Decl). words_of d ≤ 1048576) d ds (words_fit_in d.length fits.0) (words_fit ds fits.1)

-- classes by a set of arrays are those of the program
pub classes_are : (p : Source) (names : BTreeMap (Bor (List ℕ)) (Label × Shape)) (indexed : BTreeSet (Bor (List ℕ)))
    → found_under names ≡ context_of p.decls
    → is_member indexed ≡ (λ name. secret_index_in_block (found_under names) name p.body)
    → class_in indexed ≡ class_of p
classes_are p names indexed known found =
    fun_ext (λ d. ap (λ b. class_by d.label d.length b)
    (ap (λ (f : List ℕ → Bool). f d.name) found ∙ ap (λ (k : Context). secret_index_in_block k d.name p.body) known))

-- the places and the blocks that were found are those of the program
pub laid_out : (p : Source) (w size : ℕ) (class : Decl → Class) (pl : Places) (places : List Place)
    → size ≡ 2 ^ w → class ≡ class_of p
    → pl.of_var.items ≡ places_behind class size [] p.decls → places ≡ pl.of_var.items
    → pl.blocks.items ≡ map (λ bank. first_free_block size bank places) (range_with_len 0 (bank_count places))
    → IsPlacesOf p w pl
unfolding blocks_of_banks
laid_out p w size class pl places is same placed read blocks =
    let all =
    placed ∙ ap (λ s. places_behind class s [] p.decls) is
    ∙ ap (λ (c : Decl → Class). places_behind c (2 ^ w) [] p.decls) same in
    record {
      of_var = all;
      blocks = blocks ∙ ap (λ s. map (λ bank. first_free_block s bank places) (range_with_len 0 (bank_count places))) is
          ∙ ap (λ (qs : List Place). map (λ bank. first_free_block (2 ^ w) bank qs) (range_with_len 0 (bank_count qs)))
          (read ∙ all);
    }

-- the blocks of one bank more
pub blocks_more : (f : ℕ → ℕ) (n needed : ℕ) (blocks more : List ℕ) → blocks ≡ map f (range_with_len 0 n) → needed ≡ f n
    → more ≡ blocks ++ needed ∷ [] → more ≡ map f (range_with_len 0 (n + 1))
blocks_more f n needed blocks more so_far is pushed =
    pushed ∙ ap (λ (bs : List ℕ). bs ++ needed ∷ []) so_far ∙ ap (λ b. map f (range_with_len 0 n) ++ b ∷ []) is
    ∙ sym (map-range_with_len_more f 0 n n (omega arith))

-- a block has 8 to 512 words
pub block_range : (w : ℕ) → Within 3 9 w → Within 8 512 (2 ^ w)
block_range w within = (pow_mono {i = 3} {j = w} within.0, pow_mono {i = w} {j = 9} within.1)

-- a power of two from 8 to 512, as it is computed in a machine word
pub shifted_range : (w : ℕ) → Within 3 9 w → Within 8 512 (1 * 2 ^ w % 4294967296)
shifted_range w within =
    let range = block_range w within in
    let small : 1 * 2 ^ w < 4294967296 = omega (arith, range.1) in
    subst (Within 8 512) (sym (mod-eq_of_lt small)) (omega (arith, range.0), omega (arith, range.1))
