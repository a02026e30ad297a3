-- The banks that a run starts with.
use Rattle.std.specs.Prelude.{ℕ, ℤ, List}
use Rattle.lt_isa.specs.Object.{Parts, block_words}
use Rattle.lt_isa.specs.Start.{start_bank}
use Rattle.banks.specs.Blocks.{Blocks}

-- bank b of an object at the start, as a bank of blocks
abbrev pub starting_bank : Parts → List (List ℤ) → ℕ → Blocks
starting_bank o inputs b = record { contents = start_bank o inputs b; width = block_words o }
