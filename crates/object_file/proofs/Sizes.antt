-- The lengths of encodings.
use Rattle.std.proofs.Common.{◌≡◌, ℕ, ◌+◌, ◌*◌, ◌≤◌, Bool, true, false, cond, List, [], ◌∷◌, ◌++◌, length, flat_map, refl, arith}
use Rattle.std.specs.Prelude.{◌==◌}
use Rattle.std.proofs.lemmas.List.{length-append}
use Rattle.byteorder.specs.Numbers.{length-bytes_low_first}
use Rattle.lt_isa.specs.declared.profiles.Profile.{Profile}
use Rattle.lt_isa.specs.declared.profiles.BankSpec.{BankSpec}
use Rattle.lt_isa.specs.declared.symbols.Symbol.{Symbol}
use Rattle.lt_isa.specs.declared.symbols.Note.{Note}
use Rattle.lt_isa.specs.declared.instructions.Instr.{Instr}
use Rattle.lt_isa.specs.Prelude.{Parts, block_words, BankFits, SymbolFits, NoteFits, InstrFits, IsInRange}
use Rattle.gr_base.specs.Prelude.{EachAfter}
use Rattle.object_file.specs.Prelude.{number, listed, cycles, window, profile, bank, name, symbol, note, instruction, spelling}
use Rattle.object_file.proofs.ListLaws.{EachAfter-All}
use Rattle.object_file.proofs.NameLaws.{length-name}

length-number : (n x : ℕ) → length (number n x) ≡ n
unfolding number
length-number n x = length-bytes_low_first 0 n x

-- items that have at most k bytes each
length-flat_map : {X : Type 0} (text : X → List ℕ) (k : ℕ) (Fits : List X → X → Type 0)
    → ((before : List X) (x : X) → Fits before x → length (text x) ≤ k)
    → (before xs : List X) → EachAfter Fits before xs → length (flat_map text xs) ≤ k * length xs
length-flat_map text k Fits few before [] each = omega arith
length-flat_map text k Fits few before (x ∷ xs) each =
    omega (
      arith,
      length-append (text x) (flat_map text xs),
      few before x each.0,
      length-flat_map text k Fits few (before ++ x ∷ []) xs each.1,
    )

length-cycles : (p : Profile) → length (cycles p) ≡ 5
unfolding cycles
length-cycles p = simp (length-append, length-number)

length-window : (p : Profile) → length (window p) ≡ 12
unfolding window
length-window p = simp (length-append, length-number)

length-profile : (p : Profile) → length (profile p) ≤ 19
unfolding profile
length-profile p = by_window (p.period == 1)
  where
    by_window : (b : Bool) → length (number 2 (cond b 1 2) ++ cycles p ++ cond b [] (window p)) ≤ 19
    by_window true = simp (length-append, length-number, length-cycles) (omega arith)
    by_window false = simp (length-append, length-number, length-cycles, length-window) (omega arith)

length-bank : (b : BankSpec) → length (bank b) ≡ 8
length-bank b = simp (length-append, length-number)

length-symbol : (w : ℕ) (banks : List BankSpec) (before : List Symbol) (s : Symbol) → SymbolFits w banks before s
    → length (symbol s) ≤ 46
unfolding name
length-symbol w banks before s h =
    let size = length-name s.name h.name in simp (length-append, length-number) (omega (arith, size.1))

length-claims : (claims : List ℕ) → length (flat_map (number 1) claims) ≡ length claims
length-claims [] = refl
length-claims (c ∷ claims) =
    omega (arith, length-append (number 1 c) (flat_map (number 1) claims), length-number 1 c, length-claims claims)

length-note : (banks : ℕ) (before : List Note) (n : Note) → NoteFits banks before n → length (note n) ≤ 16
length-note banks before n h = omega (
  arith,
  length-append (number 4 n.pc ++ number 4 n.secrets) (flat_map (number 1) n.slots),
  length-append (number 4 n.pc) (number 4 n.secrets),
  length-number 4 n.pc,
  length-number 4 n.secrets,
  length-claims n.slots,
  h.slot_count,
)

length-instruction : (i : Instr) → length (instruction i) ≤ 16
unfolding instruction
length-instruction i = simp (length-append, length-number) (omega arith)

length-listed : {X : Type 0} (n : ℕ) (text : X → List ℕ) (xs : List X)
    → length (listed n text xs) ≡ n + length (flat_map text xs)
unfolding listed
length-listed n text xs = simp (length-append, length-number)

-- no object's encoding is longer than this
pub short_spelling : (o : Parts) → IsInRange o → length (spelling o) ≤ 33554432
unfolding spelling
short_spelling o h =
    let b = length-flat_map bank 8 BankFits (λ before x _. omega (arith, length-bank x)) [] o.banks h.banks in
    let s =
    length-flat_map symbol 46 (SymbolFits (block_words o) o.banks)
    (length-symbol (block_words o) o.banks) [] o.symbols h.symbols in
    let n = length-flat_map note 16 (NoteFits (length o.banks)) (length-note (length o.banks)) [] o.notes h.notes in
    let c =
    length-flat_map instruction 16 (λ before. InstrFits (length o.banks)) (λ before x _. length-instruction x) [] o.code
    (EachAfter-All (InstrFits (length o.banks)) [] o.code h.code) in
    simp (length-append, length-listed, length-number)
    (omega (arith, length-profile o.profile, b, s, n, c, h.bank_count.1, h.symbol_count, h.note_count, h.code_size.1))
