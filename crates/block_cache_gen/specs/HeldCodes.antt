-- For proofs, and for functions that code_gen builds on: the code that loads the words that registers hold for the whole
-- run, and the code that stores the scalars among it at the end.
use Rattle.std.specs.Prelude.{◌≡◌, ℕ, ◌+◌, ◌<◌, pos, List, [], ◌∷◌, ◌++◌, length, slice_index_or, Some}
use Rattle.gr_word.specs.declared.operations.Op.TheVariants.{Sub}
use Rattle.lt_isa.specs.declared.instructions.Instr.{Instr}
use Rattle.lt_isa.specs.declared.instructions.Instr.TheVariants.{Li, Alu, Ldw, Stw}
use Rattle.held_registers.specs.declared.registers.Held.TheVariants.{SecretZero, Number, Scalar}
use Rattle.held_registers.specs.Held.{secret_zero}
use Rattle.block_cache_gen.specs.Homes.{Held, Home, Pin, Setting, no_home, pin_at}

-- the home of a variable with a number
abbrev pub home_numbered : Setting → ℕ → Home
home_numbered f n = slice_index_or f.homes n no_home

-- A secret word less itself is a secret zero; slot 1 holds one.
abbrev pub begin_code : Setting → (r : ℕ) → Held → List Instr
begin_code f r SecretZero = Ldw r 1 0 ∷ Alu Sub r r r ∷ []
begin_code f r (Number z) = Li r z ∷ []
begin_code f r (Scalar n) = Li 0 (pos (home_numbered f n).word) ∷ Ldw r (home_numbered f n).slot 0 ∷ []

-- the word of a scalar is stored in its slot
abbrev pub end_code : Setting → (r : ℕ) → Held → List Instr
end_code f r SecretZero = []
end_code f r (Number z) = []
end_code f r (Scalar n) = Li 0 (pos (home_numbered f n).word) ∷ Stw r (home_numbered f n).slot 0 ∷ []

-- the code of each register from one on, in order
abbrev pub each_held : ((r : ℕ) → Held → List Instr) → (r : ℕ) → List Held → List Instr
each_held code r [] = []
each_held code r (h ∷ hs) = code r h ++ each_held code (r + 1) hs

abbrev pub held_beginning : Setting → List Instr
held_beginning f = each_held (begin_code f) secret_zero f.held

abbrev pub held_ending : Setting → List Instr
held_ending f = each_held (end_code f) secret_zero f.held

-- slot 1 holds a block of encrypted memory for the whole run if a register holds the secret zero
abbrev pub HasSecretSlot : Setting → Type 0
HasSecretSlot f = 0 < length f.held → (p : Pin) × (pin_at f 1 ≡ Some p) × (p.bank ≡ 1)
