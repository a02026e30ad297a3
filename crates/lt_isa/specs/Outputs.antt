-- What a state holds for each symbol. (This project's profile.)
use Rattle.std.specs.Prelude.{ℕ, ◌+◌, ◌/◌, ◌%◌, ℤ, List, map}
use Rattle.std.specs.List.{range_with_len}
use Rattle.lt_isa.specs.declared.symbols.Symbol.{Symbol}
use Rattle.lt_isa.specs.Object.{Parts, block_words, first_word}
use Rattle.lt_isa.specs.Machine.{State, block_at, word_in}

-- word number i of bank b, if a block has w words
abbrev pub bank_word_numbered : ℕ → State → ℕ → ℕ → ℤ
bank_word_numbered w s b i = word_in (block_at s b (i / w)) (i % w)

-- word number i of a symbol, and all its words
abbrev pub symbol_word : Parts → State → Symbol → ℕ → ℤ
symbol_word o s symbol i = bank_word_numbered (block_words o) s symbol.bank (first_word (block_words o) symbol + i)

unfoldable pub symbol_words : Parts → State → Symbol → List ℤ
symbol_words o s symbol = map (symbol_word o s symbol) (range_with_len 0 symbol.length)

-- the words of each symbol, in the order of the symbols
unfoldable pub outputs : Parts → State → List (List ℤ)
outputs o s = map (symbol_words o s) o.symbols
