-- The parts of an event by which it is compared. (Only private clauses and proofs say so.)
use Rattle.std.specs.Prelude.{◌≡◌, ℕ, ℤ, List, []}
use Rattle.lt_isa.specs.Machine.{Observed, RamRead, RamWrite, EncRead, EncWrite, Oram, Halted}
use Rattle.run_tools.specs.Recorded.{observed_in}
use Rattle.run_tools.specs.declared.recorder.Recorded.{Recorded}

abbrev pub kind_of : Observed → ℕ
kind_of (RamRead block words) = 0
kind_of (RamWrite block words) = 1
kind_of (EncRead block) = 2
kind_of (EncWrite block) = 3
kind_of (Oram bank) = 4
kind_of Halted = 5

abbrev pub number_of : Observed → ℕ
number_of (RamRead block words) = block
number_of (RamWrite block words) = block
number_of (EncRead block) = block
number_of (EncWrite block) = block
number_of (Oram bank) = bank
number_of Halted = 0

abbrev pub words_of : Observed → List ℤ
words_of (RamRead block words) = words
words_of (RamWrite block words) = words
words_of other = []

pub record HaveEqualParts (one other : Recorded) : Type 0 where
  pub stamps : one.stamp ≡ other.stamp
  pub kinds : kind_of (observed_in one.event) ≡ kind_of (observed_in other.event)
  pub numbers : number_of (observed_in one.event) ≡ number_of (observed_in other.event)
  pub words : words_of (observed_in one.event) ≡ words_of (observed_in other.event)
