-- An access comes down one tree.
use Rattle.std.proofs.Common.{nat_abs, ◌≡◌, ℕ, suc, ◌^◌, ◌<◌, ℤ, pos, List, [], ◌∷◌, ◌++◌, length, get_or, refl, sym, ap, ◌∙◌}
use Rattle.rand_core.specs.Stream.{Stream, next_u64}
use Rattle.banks.specs.declared.bank.Leaves.{Leaves}
use Rattle.banks.specs.Prelude.{listed_leaves}
use Rattle.path_oram.specs.Prelude.{by-word, MovesTo, BlockTree, IsTree, leaf_of, word_at}
use Rattle.path_oram.proofs.Ahead.{words_left-one}
use Rattle.recursive_oram.specs.Prelude.{block_above, leaves_now, shown_ahead, IsDescent, IsPositionMap, kept_leaf, LeadsEach, levels_of}
use Rattle.recursive_oram.proofs.Kept.{map-replaced, with_kept}
use Rattle.recursive_oram.proofs.Led.{shown-step}

-- the number that a word is
pub number_of : (raw value : ℤ) (n : ℕ) → raw ≡ value → value ≡ pos n → pos (nat_abs raw) ≡ value
number_of raw value n same is = ap (λ x. pos (nat_abs x)) (same ∙ is) ∙ sym is

-- the tree below is accessed too
pub descent-led : (below after : BlockTree) (above others : List BlockTree) (plain : List ℕ) (words left : Stream)
    (block was becomes : ℕ) (shown : Leaves) → IsDescent below above others plain words left block was becomes shown
    → MovesTo below.places block was becomes after.places → LeadsEach (below ∷ above) block words (after ∷ others)
descent-led below after above others plain words left block was becomes shown way moved = (
  by-word below.places below.places after.places block was becomes (word_at words (length above)) refl
      way.old way.new moved,
  way.led,
)

pub descent-shown : (below after : BlockTree) (above others : List BlockTree) (plain : List ℕ) (words left : Stream)
    (block was becomes : ℕ) (shown : Leaves) → IsDescent below above others plain words left block was becomes shown
    → MovesTo below.places block was becomes after.places → (later : List ℕ)
    → shown_ahead (levels_of (below ∷ above)) words (block ∷ later)
    ≡ shown ∷ shown_ahead (levels_of (after ∷ others)) left later
descent-shown below after above others plain words left block was becomes shown way moved later =
    shown-step (below ∷ above) (after ∷ others) words left block shown later
    (descent-led below after above others plain words left block was becomes shown way moved) way.drawn way.listing

-- a tree is above, and an access has come down to it
module _ (below tree after : BlockTree) (rest others : List BlockTree) (last plain : List ℕ)
    (words between left : Stream)
    (block old new was becomes : ℕ) (before shown : Leaves)
    (way : IsDescent tree rest others plain words between (block_above block) old new before) where
  pub descent-more : IsPositionMap below.places.leaves (tree ∷ rest) last → block < length below.places.leaves
      → pos was ≡ kept_leaf tree.contents block
      → becomes ≡ leaf_of below.places.height (next_u64 between).0 → becomes < 2 ^ below.places.height
      → after.contents ≡ with_kept tree.contents block (pos becomes) → after.width ≡ tree.width → IsTree after
      → MovesTo tree.places (block_above block) old new after.places
      → ((leaves : List ℕ) → before ≡ listed_leaves leaves → shown ≡ listed_leaves (leaves ++ was ∷ []))
      → left ≡ (next_u64 between).1
      → IsDescent below (tree ∷ rest) (after ∷ others) plain words left block was becomes shown
  descent-more map exists read made small replaced width whole moved lists drawn =
      let is : was ≡ get_or below.places.leaves block 0 = injective (read ∙ map.0.each block exists) in record {
        old = is;
        new = made ∙ ap (λ s. leaf_of below.places.height (next_u64 s).0) way.drawn;
        small = small;
        map = map-replaced below.places.leaves tree after rest others last plain block becomes old new map exists
            replaced width whole moved way.map;
        led = (
          by-word tree.places tree.places after.places (block_above block) old new (word_at words (length rest)) refl
              way.old way.new moved,
          way.led,
        );
        listing =
            lists (leaves_now (levels_of (tree ∷ rest)) (block_above block)) way.listing
            ∙ ap (λ leaf. listed_leaves (leaves_now (levels_of (tree ∷ rest)) (block_above block) ++ leaf ∷ [])) is;
        drawn = drawn ∙ (ap (λ s. (next_u64 s).1) way.drawn ∙ sym (words_left-one words (suc (length rest))));
      }
    where
      injective : {a b : ℕ} → pos a ≡ pos b → a ≡ b
      injective e = cc
