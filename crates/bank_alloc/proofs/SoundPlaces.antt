-- The places of a program's variables are within its banks, and no two variables share a word.
use Rattle.std.proofs.Common.{◌≡◌, ℕ, ◌*◌, ◌^◌, ◌<◌, ◌≤◌, length, get_or, Option, Some, None, refl, sym, ap, ◌∙◌, subst, arith}
use Rattle.lt_isa.specs.Prelude.{most_blocks}
use Rattle.src_tree.specs.Prelude.{IsWithinLimits, words_of, words_of_length, Source}
use Rattle.bank_alloc.specs.Prelude.{end_of_place, Fits, ArePlacesIn, no_decl, no_place, places_of, blocks_of_banks, bank_count}
use Rattle.bank_alloc.proofs.Apart.{lies_within, variables_apart}
use Rattle.bank_alloc.proofs.EachPlace.{length-places, scalar_place_at, array_place_at}
use Rattle.bank_alloc.proofs.Refusals.{length-blocks, get_or-blocks}

-- a place is as long as its variable
pub length-place_at : (p : Source) (w k : ℕ) → k < length p.decls
    → (get_or (places_of p w) k no_place).length ≡ words_of (get_or p.decls k no_decl)
length-place_at p w k within = by (get_or p.decls k no_decl).length refl where
  by : (l : Option ℕ) → (get_or p.decls k no_decl).length ≡ l
      → (get_or (places_of p w) k no_place).length ≡ words_of (get_or p.decls k no_decl)
  by None none = (scalar_place_at p w k no_decl no_place within none).one_word ∙ ap words_of_length (sym none)
  by (Some n) some = (array_place_at p w k n no_decl no_place within some).all_words ∙ ap words_of_length (sym some)

-- the places of a program with room for its variables
pub places_sound : (p : Source) (w : ℕ)
    → IsWithinLimits p → Fits p w → ArePlacesIn p w (blocks_of_banks p w) (places_of p w)
places_sound p w limits fit = record {
  count = length-places p w;
  limits = λ b there.
      let within : b < bank_count (places_of p w) = omega (arith, there, length-blocks p w) in
      subst (λ n. n ≤ most_blocks b) (sym (get_or-blocks p w b 0 within)) (fit.banks b within);
  place = λ k below.
      let lies = lies_within p w k no_decl no_place limits fit below in
      record {
        bank = omega (arith, lies.bank, length-blocks p w);
        words = length-place_at p w k below;
        word = lies.word;
        inside = subst (λ n. end_of_place (2 ^ w) (get_or (places_of p w) k no_place) ≤ n * 2 ^ w)
            (sym (get_or-blocks p w (get_or (places_of p w) k no_place).bank 0 lies.bank)) lies.inside;
      };
  apart = λ i j less below. variables_apart p w i j no_decl no_place fit less below;
}
