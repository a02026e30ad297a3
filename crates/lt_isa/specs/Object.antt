-- Objects, which the machine runs. (GhostRider, ASPLOS 2015: the target language L_T; sizes and cycles are this
-- project's profile.)
use Rattle.std.specs.Prelude.{ℕ, ◌+◌, ◌*◌, ◌^◌, Bool, ◌==◌, if◌then◌else◌, List, slice_index_or}
use Rattle.lt_isa.specs.declared.profiles.Profile.{Profile}
use Rattle.lt_isa.specs.declared.profiles.Latencies.{Latencies}
use Rattle.lt_isa.specs.declared.profiles.BankSpec.{BankSpec}
use Rattle.lt_isa.specs.declared.profiles.BankKind.{BankKind}
use Rattle.lt_isa.specs.declared.profiles.BankKind.TheVariants.{Plain, Encrypted, Oblivious}
use Rattle.lt_isa.specs.declared.symbols.Symbol.{Symbol}
use Rattle.lt_isa.specs.declared.symbols.Note.{Note}
use Rattle.lt_isa.specs.declared.instructions.Instr.{Instr}

-- the five parts of an object
pub record Parts : Type 0 where
  pub profile : Profile
  pub banks : List BankSpec
  pub symbols : List Symbol
  pub notes : List Note
  pub code : List Instr

-- the usual cycles with memory that is always open, and the usual latencies
abbrev pub usual_profile : ℕ → Profile
usual_profile block_log =
    record { block_log = block_log; alu = 1; mul = 70; word = 2; taken = 3; period = 1; opens = 0; closes = 1 }

abbrev pub usual_latencies : Latencies
usual_latencies = record { ram = 634; eram = 662; oram = 4262 }

-- the number of words of a block
-- Rule: profile/block-log.
abbrev pub block_words : Parts → ℕ
block_words o = 2 ^ o.profile.block_log

-- used instead of a bank that an object lacks
abbrev pub no_bank : BankSpec
no_bank = record { blocks = 0; latency = 0 }

-- the blocks and the latency of bank b
abbrev pub blocks_of : Parts → ℕ → ℕ
blocks_of o b = (slice_index_or o.banks b no_bank).blocks

-- Rule: profile/latency.
abbrev pub latency_of : Parts → ℕ → ℕ
latency_of o b = (slice_index_or o.banks b no_bank).latency

-- bank 0 is plain memory, bank 1 encrypted memory, and the rest are oblivious
abbrev pub is_ram : ℕ → Bool
is_ram b = b == 0

abbrev pub is_eram : ℕ → Bool
is_eram b = b == 1

abbrev pub bank_kind : ℕ → BankKind
bank_kind b = if is_ram b then Plain else (if is_eram b then Encrypted else Oblivious)

-- the number of a symbol's first word in its bank, if a block has w words, and the number of the word after its last
-- one
abbrev pub first_word : ℕ → Symbol → ℕ
first_word w s = s.block * w + s.word

abbrev pub end_word : ℕ → Symbol → ℕ
end_word w s = first_word w s + s.length
