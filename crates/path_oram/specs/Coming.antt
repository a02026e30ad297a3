-- For the proofs and for private clauses only: accesses in sequence, for the laws of the bank.
use Rattle.std.proofs.Common.{◌≡◌, ℕ, suc, List, [], ◌∷◌, ◌++◌, length, get_or, set, refl, sym, ap, ◌∙◌, subst}
use Rattle.std.proofs.lemmas.List.{length-map}
use Rattle.rand_core.specs.Stream.{Stream, next_u64}
use Rattle.banks.specs.Banks.{one_leaf}
use Rattle.path_oram.specs.Places.{Places}
use Rattle.path_oram.specs.GreedyPath.{GreedyPath}
use Rattle.path_oram.specs.Moves.{Moves, MovesBy, MovesTo, Stays, Then}
use Rattle.path_oram.specs.Orams.{ComesBy, leaves_ahead, paths_ahead}
use Rattle.path_oram.specs.Words.{first_words, leaf_of, words_left}

pub moves-then : (p q r : Places) (blocks words more others : List ℕ)
    → Moves p blocks words q → Moves q more others r → Moves p (blocks ++ more) (words ++ others) r
moves-then _ _ r _ _ more others (Stays p) two = two
moves-then _ _ r _ _ more others (Then p block word between blocks words q by one) two =
    Then p block word between (blocks ++ more) (words ++ others) r by
    (moves-then between q r blocks words more others one two)

-- the first words of two runs in sequence are those of the first run and then those of the second
pub first_words-then : (blocks more : List ℕ) (words : Stream)
    → first_words (length (blocks ++ more)) words
    ≡ first_words (length blocks) words ++ first_words (length more) (words_left (length blocks) words)
first_words-then [] more words = refl
first_words-then (block ∷ blocks) more words =
    ap (λ l. (next_u64 words).0 ∷ l) (first_words-then blocks more (next_u64 words).1)

pub words_left-then : (blocks more : List ℕ) (words : Stream)
    → words_left (length (blocks ++ more)) words ≡ words_left (length more) (words_left (length blocks) words)
words_left-then [] more words = refl
words_left-then (block ∷ blocks) more words = words_left-then blocks more (next_u64 words).1

leaves-each : (height : ℕ) (leaves : List ℕ) (words : Stream) (blocks : List ℕ)
    → length (leaves_ahead height leaves words blocks) ≡ length blocks
leaves-each height leaves words [] = refl
leaves-each height leaves words (block ∷ blocks) =
    ap suc
    (leaves-each height (set leaves block (leaf_of height (next_u64 words).0)) (next_u64 words).1 blocks)

-- each access shows one path
pub paths-each : (places : Places) (words : Stream) (blocks : List ℕ)
    → length (paths_ahead places words blocks) ≡ length blocks
paths-each places words blocks =
    length-map (leaves_ahead places.height places.leaves words blocks) one_leaf
    ∙ leaves-each places.height places.leaves words blocks

pub comes-none : (places : Places) (words : Stream) → ComesBy places words [] places words
comes-none places words = record { moves = Stays places; drawn = refl }

pub comes-then : (p q r : Places) (s t u : Stream) (blocks more : List ℕ)
    → ComesBy p s blocks q t → ComesBy q t more r u → ComesBy p s (blocks ++ more) r u
comes-then p q r s t u blocks more one two = record {
  moves =
      subst (λ words. Moves p (blocks ++ more) words r)
      (ap (λ left. first_words (length blocks) s ++ first_words (length more) left) one.drawn
      ∙ sym (first_words-then blocks more s))
      (moves-then p q r blocks (first_words (length blocks) s) more (first_words (length more) t) one.moves two.moves);
  drawn = two.drawn ∙ ap (words_left (length more)) one.drawn ∙ sym (words_left-then blocks more s);
}

-- one access
pub comes-one : (p q : Places) (s t : Stream) (block : ℕ)
    → MovesBy p block (next_u64 s).0 q → t ≡ (next_u64 s).1 → ComesBy p s (block ∷ []) q t
comes-one p q s t block by drawn = record {
  moves = Then p block (next_u64 s).0 q [] [] q by (Stays q);
  drawn = drawn;
}

-- an access that gives a block the leaf of a word
pub by-word : (p now q : Places) (block old new word : ℕ) → now ≡ p → old ≡ get_or p.leaves block 0
    → new ≡ leaf_of p.height word → MovesTo now block old new q → MovesBy p block word q
by-word p now q block old new word same is made moved = record {
  path = subst (λ shown. GreedyPath p block shown q) is (subst (λ r. GreedyPath r block old q) same moved.path);
  leaves = moved.leaves ∙ ap (λ r. set r.leaves block new) same ∙ ap (set p.leaves block) made;
}
