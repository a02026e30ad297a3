-- The words of one run rearranged for another that shows the same leaves: the words that their accesses read correspond
-- one by one, and then the words that no access reads, in rising order. (Path ORAM, Stefanov et al., CCS 2013, in this
-- project's profile.)
use Rattle.std.specs.Prelude.{◌≡◌, ℕ, ◌+◌, ◌<◌, List, ◌++◌, length, slice_index}
use Rattle.std.specs.List.{range_with_len}
use Rattle.std.specs.List.Sorted.{IsPermutation, IsNonDecreasing}
use Rattle.path_oram.specs.WordsRead.{words_read, leaves_shown}

-- the words that the accesses of a run read, and then all others: each word once
pub record IsWordOrder (count : ℕ) (blocks order : List ℕ) : Type 0 where
  pub left : List ℕ
  pub parts : order ≡ words_read count blocks ++ left
  pub rising : IsNonDecreasing left
  pub once : IsPermutation (range_with_len 0 (count + length blocks)) order

-- entry k is the number, in the second run, of word k of the first
pub record IsRearrangement (count : ℕ) (first second rearranged : List ℕ) : Type 0 where
  pub from : List ℕ
  pub to : List ℕ
  pub from_first : IsWordOrder count first from
  pub to_second : IsWordOrder count second to
  pub pairs : (i : ℕ) → i < count + length first → slice_index rearranged (slice_index from i) ≡ slice_index to i
  pub permutation : IsPermutation (range_with_len 0 (count + length first)) rearranged

-- if each word of a first run is moved to the number that the rearrangement has for it, a second run shows the same
-- leaves
abbrev pub ShowsTheSame : Type 0
ShowsTheSame =
    (count height : ℕ) (first second rearranged : List ℕ)
    → length second ≡ length first → IsRearrangement count first second rearranged
    → (words others : List ℕ)
    → ((k : ℕ) → k < count + length first → slice_index others (slice_index rearranged k) ≡ slice_index words k)
    → leaves_shown count height words first ≡ leaves_shown count height others second
