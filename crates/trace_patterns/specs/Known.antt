-- What is known at a place of the code, for any secrets: which registers may hold a secret, and to which bank each slot
-- of the scratchpad is bound. (GhostRider, ASPLOS 2015: the security types of L_T; that notes claim them is this
-- project's profile.)
use Rattle.std.specs.Prelude.{◌≡◌, ℕ, Bool, true, false, not, ◌&&◌, ◌||◌, ◌==◌, if◌then◌else◌, List, map, replicate, slice_index_or, slice_set, Option, Some, None}
use Rattle.std.specs.List.{range_with_len, list_all}
use Rattle.std.specs.Int.{bit_at}
use Rattle.lt_isa.specs.declared.symbols.Note.{Note}
use Rattle.lt_isa.specs.Ranges.{any_bank}

pub record Known : Type 0 where
  pub secret : List Bool
  pub banks : List (Option ℕ)

-- The register may hold a secret; and the bank to which the slot is bound, if it is known. A register or a slot that
-- isn't listed may hold anything.
abbrev pub is_secret : Known → ℕ → Bool
is_secret k r = slice_index_or k.secret r true

abbrev pub bank_known : Known → ℕ → Option ℕ
bank_known k slot = slice_index_or k.banks slot None

-- what is known, with another label of a register or another bank of a slot
abbrev pub set_secret : Known → ℕ → Bool → Known
set_secret k r secret = record k { secret = slice_set k.secret r secret }

abbrev pub set_bank : Known → ℕ → ℕ → Known
set_bank k slot bank = record k { banks = slice_set k.banks slot (Some bank) }

-- at the start every register is 0, which is public, and no slot is bound
-- Rule: known/start.
unfoldable pub start_known : Known
start_known = record { secret = replicate 32 false; banks = replicate 8 None }

-- a note's claim about register r, and about a slot
abbrev pub is_marked : ℕ → ℕ → Bool
is_marked mask r = bit_at mask r == 1

abbrev pub claimed_bank : ℕ → Option ℕ
claimed_bank claim = if claim == any_bank then None else Some claim

unfoldable pub marks : ℕ → ℕ → List Bool
marks count mask = map (is_marked mask) (range_with_len 0 count)

unfoldable pub claims : ℕ → List ℕ → List (Option ℕ)
claims count slots = map (λ k. claimed_bank (slice_index_or slots k 255)) (range_with_len 0 count)

abbrev pub note_known : Note → Known
note_known n = record { secret = marks 32 n.secrets; banks = claims 8 n.slots }

-- What is known fits a claim: the claim marks each register that may hold a secret, and each slot is bound to the bank
-- that the claim names for it, if it names one.
pub record FitsClaim (known claimed : Known) : Type 0 where
  pub registers : (r : ℕ) → is_secret known r ≡ true → is_secret claimed r ≡ true
  pub slots : (slot bank : ℕ) → bank_known claimed slot ≡ Some bank → bank_known known slot ≡ Some bank

-- `FitsClaim` as a test, for the 32 registers and the 8 slots of a note's claim
abbrev pub register_fits : Known → Known → ℕ → Bool
register_fits k claimed r = not (is_secret k r) || is_secret claimed r

abbrev pub bank_fits : Option ℕ → Option ℕ → Bool
bank_fits known None = true
bank_fits None (Some claim) = false
bank_fits (Some bank) (Some claim) = bank == claim

abbrev pub slot_fits : Known → Known → ℕ → Bool
slot_fits k claimed slot = bank_fits (bank_known k slot) (bank_known claimed slot)

unfoldable pub registers_fit : ℕ → Known → Known → Bool
registers_fit count k claimed = list_all (register_fits k claimed) (range_with_len 0 count)

unfoldable pub slots_fit : ℕ → Known → Known → Bool
slots_fit count k claimed = list_all (slot_fits k claimed) (range_with_len 0 count)

-- Rules: known/note, check/note-claim.
abbrev pub fits : Known → Known → Bool
fits k claimed = registers_fit 32 k claimed && slots_fit 8 k claimed
