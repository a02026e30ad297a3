-- For the proofs and for private clauses only: a number by which symbols are sorted, that rises with the bank, then
-- with the block, and then with the word.
use Rattle.std.specs.Prelude.{ℕ, ◌+◌, ◌*◌}
use Rattle.lt_isa.specs.declared.symbols.Symbol.{Symbol}

abbrev pub symbol_key : Symbol → ℕ
symbol_key s = (s.bank * 4294967296 + s.block) * 65536 + s.word
