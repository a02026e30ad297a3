-- Where the blocks are at the end of a run over a new bank.
use Rattle.std.proofs.Common.{◌≡◌, ℕ, zero, suc, ◌+◌, List, ◌∷◌, Option, length, map, take, drop, refl, sym, ap, ◌∙◌, subst, arith}
use Rattle.rand_core.specs.Stream.{Stream, next_u64}
use Rattle.path_oram.specs.Prelude.{Moves, ComesBy, Places, first_places, AreLevels, Settles, places_from, first_words, leaf_of, words_left}

-- the first words of a source, from more of its words
take-first_words : (n m : ℕ) (words : Stream) → take n (first_words (n + m) words) ≡ first_words n words
take-first_words zero m words = refl
take-first_words (suc n) m words =
    let sum : suc n + m ≡ suc (n + m) = omega arith in
    ap (λ k. take (suc n) (first_words k words)) sum
    ∙ ap (λ l. (next_u64 words).0 ∷ l) (take-first_words n m (next_u64 words).1)

drop-first_words : (n m : ℕ) (words : Stream) → drop n (first_words (n + m) words) ≡ first_words m (words_left n words)
drop-first_words zero m words =
    let sum : 0 + m ≡ m = omega arith in ap (λ k. first_words k words) sum
drop-first_words (suc n) m words =
    let sum : suc n + m ≡ suc (n + m) = omega arith in
    ap (λ k. drop (suc n) (first_words k words)) sum ∙ drop-first_words n m (next_u64 words).1

-- the levels in a bank after accesses to a new one
pub settled_after : (count height : ℕ) (words stream left : Stream) (before after : Places) (blocks : List ℕ)
    (levels : List (Option ℕ)) → before ≡ first_places height (map (leaf_of height) (first_words count words))
    → stream ≡ words_left count words → ComesBy before stream blocks after left → AreLevels after levels
    → Settles count height blocks (first_words (count + length blocks) words) levels
settled_after count height words stream left before after blocks levels first drawn come stand =
    let m = length blocks in
    let leaves : places_from count height (first_words (count + m) words) ≡ before =
    ap (λ l. first_places height (map (leaf_of height) l)) (take-first_words count m words) ∙ sym first in
    let rest : drop count (first_words (count + m) words) ≡ first_words m stream =
    drop-first_words count m words ∙ ap (first_words m) (sym drawn) in
    record {
      places = after;
      moves = subst (λ p. Moves p blocks (drop count (first_words (count + m) words)) after) (sym leaves)
          (subst (λ l. Moves before blocks l after) (sym rest) come.moves);
      stand = stand;
    }
