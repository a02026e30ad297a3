-- The paths that a run shows over recursive oblivious banks, over the random words that a seed makes. (Stefanov et al.,
-- Path ORAM, CCS 2013, section 4.7.)
use Rattle.std.specs.Prelude.{◌≡◌, ℕ, ◌+◌, ◌*◌, ◌<◌, ◌≤◌, ℤ, List, [], length}
use Rattle.lt_isa.specs.Object.{Parts, blocks_of}
use Rattle.lt_isa.specs.Start.{trace}
use Rattle.banks.specs.declared.bank.Leaves.{Leaves}
use Rattle.path_oram.specs.LeavesAlike.{touched}
use Rattle.path_oram.specs.Words.{first_words}
use Rattle.recursive_oram.specs.RecLeaves.{AreSizes, Size, rec_leaves, words_made}
use Rattle.call_steps.specs.PathsShown.{ShowsPaths, paths_of_bank}
use Rattle.call_steps.specs.Seeds.{seeded_words}
use Rattle.call_steps.specs.Showing.{Seen}

-- Bank b shows a path of each of its trees an access, with the leaves of the words that the access reads.
pub record OfRecursiveBank (o : Parts) (inputs : List (List ℤ)) (cycles seed b : ℕ) (paths : List Leaves) : Type 0 where
  pub sizes : List Size
  pub are : AreSizes (blocks_of o b) sizes
  pub shown : paths
      ≡ rec_leaves
      (first_words (words_made sizes + length (touched o inputs cycles b) * length sizes) (seeded_words seed 0 b)) sizes
      (touched o inputs cycles b)

-- what a run shows: its trace with the paths of each oblivious bank, and no levels
pub record IsShownInTrees (o : Parts) (inputs : List (List ℤ)) (cycles seed : ℕ) (seen : Seen) : Type 0 where
  pub shown : ShowsPaths (trace o inputs cycles) seen.shown
  pub alone : (seen.transfers ≡ []) × (seen.halts ≡ [])
  pub none : seen.levels ≡ []
  pub banks : (b : ℕ) → 2 ≤ b → b < length o.banks
      → OfRecursiveBank o inputs cycles seed b (paths_of_bank b seen.shown)
