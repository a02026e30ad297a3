-- The check's ruling on each instruction of public code, given what is known at its place. (GhostRider, ASPLOS 2015:
-- the type system of L_T; what each kind of bank shows is this project's own choice.)
use Rattle.std.specs.Prelude.{ℕ, Bool, true, false, not, ◌&&◌, ◌||◌, ◌==◌, nat_lt, if◌then◌else◌, ℤ, List, length, slice_get, find, Option, Some, None}
use Rattle.std.specs.Option.{option_map}
use Rattle.lt_isa.specs.declared.symbols.Note.{Note}
use Rattle.lt_isa.specs.declared.instructions.Instr.{Instr}
use Rattle.lt_isa.specs.declared.instructions.Instr.TheVariants.{Nop, Halt, Li, Alu, Ldb, Stb, Idb, Ldw, Stw, Jmp, Br}
use Rattle.lt_isa.specs.Object.{Parts, is_ram, is_eram}
use Rattle.lt_isa.specs.Step.{target_of}
use Rattle.trace_patterns.specs.declared.reasons.Reason.{Reason}
use Rattle.trace_patterns.specs.declared.reasons.Reason.TheVariants.{SecretAddress, SecretToRam, UnboundSlot, JumpOutside, NoNote, NoteTooLow}
use Rattle.trace_patterns.specs.Known.{Known, is_secret, bank_known, set_secret, set_bank, note_known, fits}

-- An instruction is refused; or it falls through to the next place, with what is known there; or it never continues to
-- the next place; or it is a branch on a secret, which opens a region.
pub data Ruling : Type 0 where
  Refused : (reason : Reason) → Ruling
  Falls : (known : Known) → Ruling
  Leaves : Ruling
  Opens : (offset : ℤ) → Ruling

-- the note at a place, and what it claims
abbrev pub note_of_place : List Note → ℕ → Option Note
note_of_place notes p = find (λ n. n.pc == p) notes

unfoldable pub claimed_at : Parts → ℕ → Option Known
claimed_at o p = option_map note_known (note_of_place o.notes p)

-- the observer sees the number of the block in plain and encrypted memory
abbrev pub shows_block : ℕ → Bool
shows_block bank = is_ram bank || is_eram bank

-- refused for a reason if a test is true, and otherwise what follows
abbrev pub refused_if : Bool → Reason → Ruling → Ruling
refused_if true reason next = Refused reason
refused_if false reason next = next

-- the ruling on a slot whose bank must be known
-- Rule: check/slot-bank.
abbrev pub at_bank : Option ℕ → (ℕ → Ruling) → Ruling
at_bank None go = Refused UnboundSlot
at_bank (Some bank) go = go bank

-- a jump leads to a place of the code that has a note, and what is known fits that note
-- Rule: check/note-at-target.
abbrev pub at_claim : Option Known → Known → Ruling → Ruling
at_claim None k next = Refused NoNote
at_claim (Some claimed) k next = refused_if (not (fits k claimed)) NoteTooLow next

-- Rules: known/jump, check/target.
abbrev pub jumped : Parts → ℕ → Known → Ruling → Ruling
jumped o target k next =
    refused_if (not (nat_lt target (length o.code))) JumpOutside (at_claim (claimed_at o target) k next)

-- the ruling on instruction i at place p, if k is known there
-- Rules: known/nop, known/halt, known/li, known/alu, known/ldb, known/stb, known/idb, known/ldw, known/stw,
-- check/block-number, check/plain-store.
unfoldable pub ruling_of : Parts → ℕ → Known → Instr → Ruling
ruling_of o p k Nop = Falls k
ruling_of o p k Halt = Leaves
ruling_of o p k (Li rd value) = Falls (set_secret k rd false)
ruling_of o p k (Alu op rd ra rb) = Falls (set_secret k rd (is_secret k ra || is_secret k rb))
ruling_of o p k (Ldb slot bank r) =
    refused_if (shows_block bank && is_secret k r) SecretAddress (Falls (set_bank k slot bank))
ruling_of o p k (Stb slot) = at_bank (bank_known k slot) (λ bank. Falls k)
ruling_of o p k (Idb rd slot) =
    at_bank (bank_known k slot) (λ bank. Falls (set_secret k rd (not (shows_block bank))))
ruling_of o p k (Ldw rd slot ro) =
    at_bank (bank_known k slot) (λ bank. Falls (set_secret k rd (not (is_ram bank) || is_secret k ro)))
ruling_of o p k (Stw rs slot ro) = at_bank (bank_known k slot) (λ bank.
    refused_if (is_ram bank && (is_secret k rs || is_secret k ro)) SecretToRam (Falls k))
ruling_of o p k (Jmp offset) = jumped o (target_of o p offset) k Leaves
ruling_of o p k (Br cmp ra rb offset) =
    if is_secret k ra || is_secret k rb then Opens offset else jumped o (target_of o p offset) k (Falls k)

-- the ruling at place p; outside the code there is no instruction, and nothing continues
abbrev pub ruling_if : Parts → ℕ → Known → Option Instr → Ruling
ruling_if o p k None = Leaves
ruling_if o p k (Some i) = ruling_of o p k i

unfoldable pub ruling_at : Parts → ℕ → Known → Ruling
ruling_at o p k = ruling_if o p k (slice_get o.code p)
