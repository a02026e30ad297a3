-- The start of an oblivious bank: the first words determine the leaves of its blocks.
use Rattle.std.proofs.Common.{◌≡◌, ℕ, ◌+◌, ◌<◌, ◌^◌, List, length, map, All, sym, ap, ◌∙◌, subst}
use Rattle.std.proofs.lemmas.List.{length-map}
use Rattle.std.proofs.lemmas.List.Elements.{All-map}
use Rattle.std.proofs.lemmas.Nat.{pow_pos}
use Rattle.std.proofs.Math.Nat.{mod-lt}
use Rattle.rand_core.specs.Stream.{Stream}
use Rattle.banks.specs.Prelude.{one_leaf}
use Rattle.path_oram.specs.Prelude.{paths_ahead, Places, first_places, first_words, leaf_of, words_left, leaves_shown}
use Rattle.path_oram.proofs.Ahead.{ahead-shown, length-first_words}

module _ (words : Stream) (all count height : ℕ) (leaves : List ℕ) (same : count ≡ all)
    (made : leaves ≡ map (leaf_of height) (first_words count words)) where
  -- one leaf for each block
  pub leaf_count : length leaves ≡ all
  leaf_count =
      ap length made ∙ length-map (first_words count words) (leaf_of height) ∙ length-first_words count words ∙ same

  -- each leaf is a leaf of the tree
  pub leaves_below : All (λ leaf. leaf < 2 ^ height) leaves
  leaves_below =
      subst (All (λ leaf. leaf < 2 ^ height)) (sym made)
      (All-map (λ leaf. leaf < 2 ^ height) (leaf_of height) (first_words count words)
      (λ k d within. mod-lt _ (pow_pos height)))

  module _ (places : Places) (first : places ≡ first_places height leaves) where
    pub place_is : places ≡ first_places height (map (leaf_of height) (first_words all words))
    place_is = first ∙ ap (first_places height) (made ∙ ap (λ n. map (leaf_of height) (first_words n words)) same)

    -- the places at the start
    pub place_first : places ≡ first_places places.height (map (leaf_of places.height) (first_words all words))
    place_first =
        place_is ∙ ap (λ n. first_places n (map (leaf_of n) (first_words all words)))
        (sym (ap (λ (p : Places). p.height) place_is))

    -- what is shown from the start on
    pub start_shown : (left : Stream)
        → left ≡ words_left count words → (list : List ℕ) → All (λ block. block < all) list
        → paths_ahead places left list
        ≡ map one_leaf (leaves_shown all places.height (first_words (all + length list) words) list)
    start_shown left drawn list exist =
        let after : left ≡ words_left all words = drawn ∙ ap (λ n. words_left n words) same in
        subst (λ (p : Places). paths_ahead p left list
        ≡ map one_leaf (leaves_shown all p.height (first_words (all + length list) words) list)) (sym place_is)
        (ap (λ stream. paths_ahead (first_places height (map (leaf_of height) (first_words all words))) stream list)
        after
        ∙ ap (map one_leaf) (ahead-shown all height words list exist))
