-- The machine as its callers see it, and what it is loaded with.
-- (GhostRider, ASPLOS 2015: the machine that runs L_T; how it starts is this project's profile.)
use Rattle.std.specs.Prelude.{◌≡◌, ℕ, ◌*◌, ◌<◌, ◌≤◌, Bool, ℤ, pos, List, [], length, replicate, slice_index_or, All}
use Rattle.lt_isa.specs.declared.symbols.Symbol.{Symbol}
use Rattle.lt_isa.specs.Object.{Parts, block_words, blocks_of, end_word}
use Rattle.lt_isa.specs.Machine.{State, Unbound}
use Rattle.lt_isa.specs.Shape.{IsBlock}
use Rattle.banks.specs.Banks.{block_numbered}

-- The object that a machine runs, the state that it is in, its oblivious banks, and whether it may be run on. What the
-- oblivious banks hold is also part of the state; the banks themselves say what paths they show.
pub record Running (B : Type 0) : Type 0 where
  pub object : Parts
  pub state : State
  pub orams : List B
  pub live : Bool

-- The state of a machine that was loaded with these banks: the first instruction, cycle 0, registers 0, slots unbound.
unfoldable pub fresh_state : List (List (List ℤ)) → State
fresh_state banks = record {
  registers = replicate 32 (pos 0);
  slots = replicate 8 Unbound;
  banks = banks;
  place = 0;
  cycle = 0;
}

-- bank number b of some banks
abbrev pub bank_numbered : List (List (List ℤ)) → ℕ → List (List ℤ)
bank_numbered banks b = slice_index_or banks b []

-- Banks of these contents and widths are those of an object: as many as it has, each of its number of blocks, and each
-- block of its number of words.
pub record AreBanksOf (o : Parts) (banks : List (List (List ℤ))) (widths : List ℕ) : Type 0 where
  pub bank_count : length banks ≡ length o.banks
  pub block_counts : (b : ℕ) → b < length o.banks → length (bank_numbered banks b) ≡ blocks_of o b
  pub blocks : (b a : ℕ) → b < length o.banks → a < blocks_of o b → IsBlock o (block_numbered (bank_numbered banks b) a)
  pub block_sizes : All (λ w. w ≡ block_words o) widths

-- a symbol is within a bank of an object
pub record LiesIn (o : Parts) (s : Symbol) : Type 0 where
  pub bank_exists : s.bank < length o.banks
  pub inside : end_word (block_words o) s ≤ blocks_of o s.bank * block_words o
