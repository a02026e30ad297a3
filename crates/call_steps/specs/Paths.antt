-- The paths that a run shows, and the levels that its blocks have at the end, over the random words that a seed makes.
-- (Stefanov et al., Path ORAM, CCS 2013. Nothing is stated about probability: the words are those that their source is
-- specified to give.)
use Rattle.std.specs.Prelude.{◌≡◌, ℕ, ◌+◌, ◌-◌, ◌<◌, ◌≤◌, ℤ, List, [], length, map, Option, slice_index_or}
use Rattle.lt_isa.specs.Object.{Parts, blocks_of}
use Rattle.lt_isa.specs.Start.{trace}
use Rattle.banks.specs.declared.bank.Leaves.{Leaves}
use Rattle.banks.specs.Banks.{one_leaf}
use Rattle.path_oram.specs.LeavesAlike.{touched}
use Rattle.path_oram.specs.Settles.{Settles}
use Rattle.path_oram.specs.Whole.{IsHeightFor}
use Rattle.path_oram.specs.Words.{first_words}
use Rattle.path_oram.specs.WordsRead.{leaves_shown}
use Rattle.call_steps.specs.PathsShown.{ShowsPaths, paths_of_bank}
use Rattle.call_steps.specs.Seeds.{seeded_words}
use Rattle.call_steps.specs.Showing.{Seen}

-- the words that bank b draws in a run: one for each block, and one for each access
abbrev pub words_drawn : Parts → List (List ℤ) → ℕ → ℕ → ℕ → List ℕ
words_drawn o inputs cycles seed b =
    first_words (blocks_of o b + length (touched o inputs cycles b)) (seeded_words seed 0 b)

-- Bank b shows one path for each access, with the leaf of the word that the access reads. At the end its blocks are on
-- levels that the accesses may reach.
pub record OfBank (o : Parts) (inputs : List (List ℤ)) (cycles seed b : ℕ) (paths : List Leaves)
    (levels : List (Option ℕ)) : Type 0 where
  pub height : ℕ
  pub least : IsHeightFor (blocks_of o b) height
  pub shown : paths
      ≡ map one_leaf
      (leaves_shown (blocks_of o b) height (words_drawn o inputs cycles seed b) (touched o inputs cycles b))
  pub settles : Settles (blocks_of o b) height (touched o inputs cycles b) (words_drawn o inputs cycles seed b) levels

-- what a run shows: its trace with the paths of each oblivious bank, and the levels of each
pub record IsShown (o : Parts) (inputs : List (List ℤ)) (cycles seed : ℕ) (seen : Seen) : Type 0 where
  pub shown : ShowsPaths (trace o inputs cycles) seen.shown
  pub alone : (seen.transfers ≡ []) × (seen.halts ≡ [])
  pub count : length seen.levels ≡ length o.banks - 2
  pub banks : (b : ℕ) → 2 ≤ b → b < length o.banks
      → OfBank o inputs cycles seed b (paths_of_bank b seen.shown) (slice_index_or seen.levels (b - 2) [])
