-- Two runs on inputs that agree show the same leaves of each oblivious bank after a rearrangement of the random words.
-- Only the accesses determine the rearrangement, and it serves for all words. Nothing is stated about chance. (Path
-- ORAM, Stefanov et al., CCS 2013, in this project's profile.)
use Rattle.std.specs.Prelude.{◌≡◌, ℕ, ◌+◌, ◌<◌, ◌≤◌, ℤ, List, length, slice_index}
use Rattle.lt_isa.specs.Object.{Parts, blocks_of}
use Rattle.lt_isa.specs.Start.{Agree, start_state}
use Rattle.banks.specs.Accesses.{accesses_from, in_bank}
use Rattle.path_oram.specs.Rearranged.{IsRearrangement}
use Rattle.path_oram.specs.WordsRead.{leaves_shown}

-- the blocks that a run accesses in a bank, in order
abbrev pub touched : Parts → List (List ℤ) → ℕ → ℕ → List ℕ
touched o inputs n b = in_bank b (accesses_from o (start_state o inputs) n)

-- two lists of as many accesses to a bank of `count` blocks, and a rearrangement of the words with which they show the
-- same leaves
pub record ShowAlike (count : ℕ) (first second : List ℕ) : Type 0 where
  pub as_many : length second ≡ length first
  pub rearranged : List ℕ
  pub is : IsRearrangement count first second rearranged
  pub leaves :
      (height : ℕ) (words others : List ℕ)
      → ((k : ℕ) → k < count + length first → slice_index others (slice_index rearranged k) ≡ slice_index words k)
      → leaves_shown count height words first ≡ leaves_shown count height others second

abbrev pub LeavesAlike : Parts → Type 0
LeavesAlike o =
    (d e : List (List ℤ)) → Agree o d e → (n b : ℕ) → 2 ≤ b → b < length o.banks
    → ShowAlike (blocks_of o b) (touched o d n b) (touched o e n b)
