-- How the trees of a recursive oblivious bank begin. (Stefanov et al., Path ORAM, CCS 2013; that all blocks begin in the
-- stash, and the order of the words, are this project's profile.)
use Rattle.std.specs.Prelude.{◌≡◌, ℕ, ◌+◌, List, [], ◌∷◌, length, map}
use Rattle.rand_core.specs.Stream.{Stream}
use Rattle.path_oram.specs.Places.{first_places}
use Rattle.path_oram.specs.Trees.{BlockTree}
use Rattle.path_oram.specs.Words.{first_words, leaf_of, words_left}

-- Every block of these trees is in the stash. The first of the words from number `start` on make the leaves of the
-- lowest tree, one a block, and the words after them those of the trees above it.
abbrev pub AreFirst : Stream → ℕ → List BlockTree → Type 0
AreFirst words start [] = Unit {0}
AreFirst words start (tree ∷ above) =
    (tree.places
    ≡ first_places tree.places.height
    (map (leaf_of tree.places.height) (first_words (length tree.contents) (words_left start words))))
    × AreFirst words (start + length tree.contents) above
