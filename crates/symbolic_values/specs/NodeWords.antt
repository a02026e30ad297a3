-- The word by which a table of values looks for a node. It determines how long a look-up takes, but not its result.
-- (This project's profile.)
use Rattle.std.specs.Prelude.{ℕ, ◌+◌, ◌*◌, ◌%◌, ◌^◌, bit_or, bit_xor}
use Rattle.std.specs.Int.{w64, bit_not, cast_unsigned}
use Rattle.symbolic_values.specs.declared.nodes.Node.{Node}
use Rattle.symbolic_values.specs.declared.nodes.Node.TheVariants.{Const, Reg, SlotAt, SlotWord, MemWord, Apply}

-- a word of two halves
abbrev pub pair_word : ℕ → ℕ → ℕ
pair_word high low = bit_or ((high * 2 ^ 32) % 2 ^ 64) low

abbrev pub node_word : Node → ℕ
node_word (Const word) = bit_xor (cast_unsigned w64 word) (2 ^ 62)
node_word (Reg r) = pair_word (2 ^ 31) r
node_word (SlotAt k) = pair_word (2 ^ 31 + 1) k
node_word (SlotWord k place) = pair_word (2 ^ 31 + 2 + k) place
node_word (MemWord block place) = bit_not w64 (pair_word block place)
node_word (Apply op left right) = pair_word left right
