-- The limits of objects (this project's profile).
use Rattle.std.specs.Prelude.{ℕ, if◌then◌else◌, nat_lt}
use Rattle.gr_word.specs.declared.variables.Shape.{Shape}
use Rattle.gr_word.specs.declared.variables.Shape.TheVariants.{Scalar, Array}

-- the base-2 logarithm of a block's number of words
abbrev pub least_block_log : ℕ
least_block_log = 3

abbrev pub most_block_log : ℕ
most_block_log = 9

-- of an operation, and of reading or writing a word of the scratchpad, in cycles
abbrev pub most_cycles : ℕ
most_cycles = 127

-- of a jump, and of a taken branch, in cycles
abbrev pub most_taken : ℕ
most_taken = 32

-- plain and encrypted memory
abbrev pub fewest_banks : ℕ
fewest_banks = 2

abbrev pub most_banks : ℕ
most_banks = 10

abbrev pub most_symbols : ℕ
most_symbols = 1024

-- of all symbols together
abbrev pub most_symbol_words : ℕ
most_symbol_words = 4194304

abbrev pub most_notes : ℕ
most_notes = 262144

abbrev pub most_instructions : ℕ
most_instructions = 1048576

-- of an access to a bank, in cycles
abbrev pub most_latency : ℕ
most_latency = 1000000

-- of the period in which memory opens and closes once, in cycles
abbrev pub most_period : ℕ
most_period = 1000000

-- the most blocks of the bank with this number: the first two banks are plain and encrypted memory
abbrev pub most_blocks : ℕ → ℕ
most_blocks index = if nat_lt index 2 then 65536 else 4096

-- the most words of a variable of a shape
abbrev pub most_words : Shape → ℕ
most_words Scalar = 1
most_words Array = 1048576
