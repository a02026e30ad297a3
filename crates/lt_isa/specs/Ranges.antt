-- The ranges of an object's fields (this project's profile).
use Rattle.std.specs.Prelude.{◌≡◌, ◌≢◌, ℕ, ◌+◌, ◌-◌, ◌^◌, ◌<◌, ◌≤◌, nat_lt, Bool, ◌||◌, ◌==◌, ℤ, List, [], length, sum_by, All, IsTrue, FitsSigned}
use Rattle.std.specs.Int.{w32}
use Rattle.gr_word.specs.Names.{is_name}
use Rattle.gr_base.specs.Lists.{Within, EachAfter, at_last}
use Rattle.gr_word.specs.Words.{IsWord}
use Rattle.lt_isa.specs.declared.profiles.Profile.{Profile}
use Rattle.lt_isa.specs.declared.profiles.BankSpec.{BankSpec}
use Rattle.lt_isa.specs.declared.symbols.Symbol.{Symbol}
use Rattle.lt_isa.specs.declared.symbols.Note.{Note}
use Rattle.lt_isa.specs.declared.instructions.Instr.{Instr}
use Rattle.lt_isa.specs.declared.instructions.Instr.TheVariants.{Nop, Halt, Li, Alu, Ldb, Stb, Idb, Ldw, Stw, Jmp, Br}
use Rattle.lt_isa.specs.Object.{Parts, block_words}
use Rattle.lt_isa.specs.Limits.{least_block_log, most_block_log, most_cycles, most_taken, fewest_banks, most_banks, most_symbols, most_symbol_words, most_notes, most_instructions, most_latency, most_period, most_blocks}
use Rattle.lt_isa.specs.SymbolPlaces.{LiesBehind}

-- The window opens and closes within its period; a period of 1 has one window, which is always open.
pub record ProfileFits (p : Profile) : Type 0 where
  pub block_log : Within least_block_log most_block_log p.block_log
  pub alu : Within 1 most_cycles p.alu
  pub mul : Within 1 most_cycles p.mul
  pub word : Within 1 most_cycles p.word
  pub taken : Within 1 most_taken p.taken
  pub period : Within 1 most_period p.period
  pub opens : p.opens < p.period
  pub closes : Within (p.opens + 1) p.period p.closes

pub record BankFits (before : List BankSpec) (b : BankSpec) : Type 0 where
  pub blocks : Within 1 (most_blocks (length before)) b.blocks
  pub latency : Within 1 most_latency b.latency

-- the lengths of some symbols together
abbrev pub total_length : List Symbol → ℕ
total_length symbols = sum_by (λ s. s.length) symbols

-- A symbol's name is new, its place is after those of the symbols before it, and all symbols together have no more
-- words than the limit.
pub record SymbolFits (w : ℕ) (banks : List BankSpec) (before : List Symbol) (s : Symbol) : Type 0 where
  pub name : IsTrue (is_name s.name)
  pub new : All (λ t. t.name ≢ s.name) before
  pub lies : LiesBehind w banks before s
  pub total : total_length before + s.length ≤ most_symbol_words

-- the first place after those of some notes
abbrev pub next_place : List Note → ℕ
next_place notes = at_last (λ n. n.pc + 1) notes

-- a note's claim about a slot: a bank's number, or 255 for any bank or none
abbrev pub any_bank : ℕ
any_bank = 255

abbrev pub is_slot_claim : ℕ → ℕ → Bool
is_slot_claim banks claim = nat_lt claim banks || (claim == any_bank)

-- notes are in rising order of place
pub record NoteFits (banks : ℕ) (before : List Note) (n : Note) : Type 0 where
  pub pc : Within (next_place before) (2 ^ 32 - 1) n.pc
  pub secrets : n.secrets < 2 ^ 32
  pub slot_count : length n.slots ≡ 8
  pub slots : All (λ claim. IsTrue (is_slot_claim banks claim)) n.slots

-- a register, a slot, and the offset of a jump
abbrev pub IsRegister : ℕ → Type 0
IsRegister r = r < 32

abbrev pub IsSlot : ℕ → Type 0
IsSlot k = k < 8

abbrev pub IsOffset : ℤ → Type 0
IsOffset offset = FitsSigned w32 offset

-- the ranges of an instruction's operands, in an object with this number of banks
abbrev pub InstrFits : ℕ → Instr → Type 0
InstrFits banks Nop = Unit {0}
InstrFits banks Halt = Unit {0}
InstrFits banks (Li rd value) = IsRegister rd × IsWord value
InstrFits banks (Alu op rd ra rb) = IsRegister rd × IsRegister ra × IsRegister rb
InstrFits banks (Ldb k b r) = IsSlot k × (b < banks) × IsRegister r
InstrFits banks (Stb k) = IsSlot k
InstrFits banks (Idb rd k) = IsRegister rd × IsSlot k
InstrFits banks (Ldw rd k ro) = IsRegister rd × IsSlot k × IsRegister ro
InstrFits banks (Stw rs k ro) = IsRegister rs × IsSlot k × IsRegister ro
InstrFits banks (Jmp offset) = IsOffset offset
InstrFits banks (Br cmp ra rb offset) = IsRegister ra × IsRegister rb × IsOffset offset

pub record IsInRange (o : Parts) : Type 0 where
  pub profile : ProfileFits o.profile
  pub bank_count : Within fewest_banks most_banks (length o.banks)
  pub banks : EachAfter BankFits [] o.banks
  pub symbol_count : length o.symbols ≤ most_symbols
  pub symbols : EachAfter (SymbolFits (block_words o) o.banks) [] o.symbols
  pub note_count : length o.notes ≤ most_notes
  pub notes : EachAfter (NoteFits (length o.banks)) [] o.notes
  pub code_size : Within 1 most_instructions (length o.code)
  pub behind_notes : next_place o.notes ≤ length o.code
  pub code : All (InstrFits (length o.banks)) o.code
