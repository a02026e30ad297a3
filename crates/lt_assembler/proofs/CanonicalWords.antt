-- The words of canonical lines consist of plain bytes.
use Rattle.std.proofs.Common.{◌≡◌, ℕ, suc, ◌^◌, ◌<◌, ◌≤◌, Bool, true, false, eqb, ltb, cond, List, [], ◌∷◌, ◌++◌, length, map, refl, arith}
use Rattle.std.specs.Prelude.{◌||◌, All, IsTrue, ℤ, pos, negsuc, codes, decimal}
use Rattle.std.specs.Fmt.{signed_decimal}
use Rattle.std.specs.List.{list_all}
use Rattle.std.proofs.lemmas.Bool.{and_parts, and_from, leb-true, eq-eqb}
use Rattle.std.proofs.lemmas.Bool.Decides.{nat_tests}
use Rattle.std.proofs.lemmas.Int.{ints}
use Rattle.std.proofs.lemmas.List.Elements.{All-head, All-tail}
use Rattle.gr_word.specs.declared.operations.Op.{Op}
use Rattle.gr_word.specs.declared.operations.Op.TheVariants.{Add}
use Rattle.gr_word.specs.declared.operations.Cmp.{Cmp}
use Rattle.gr_word.specs.declared.operations.Cmp.TheVariants.{Eq}
use Rattle.gr_word.specs.declared.variables.Label.{Label}
use Rattle.gr_word.specs.declared.variables.Label.TheVariants.{Public, Secret}
use Rattle.gr_word.specs.declared.variables.Shape.{Shape}
use Rattle.gr_word.specs.declared.variables.Shape.TheVariants.{Scalar, Array}
use Rattle.gr_word.specs.Prelude.{is_name, is_name_byte, IsWord}
use Rattle.lt_isa.specs.declared.profiles.Profile.{Profile}
use Rattle.lt_isa.specs.declared.profiles.BankSpec.{BankSpec}
use Rattle.lt_isa.specs.declared.symbols.Symbol.{Symbol}
use Rattle.lt_isa.specs.declared.symbols.Note.{Note}
use Rattle.lt_isa.specs.declared.instructions.Instr.{Instr}
use Rattle.lt_isa.specs.declared.instructions.Instr.TheVariants.{Nop, Halt, Li, Alu, Ldb, Stb, Idb, Ldw, Stw, Jmp, Br}
use Rattle.lt_isa.specs.Prelude.{ProfileFits, InstrFits, IsOffset, is_slot_claim, op_word, cmp_word, HasUnitPeriod, has_unit_period}
use Rattle.lt_isa.proofs.Windows.{windowed}
use Rattle.lt_assembler.specs.Prelude.{Word, label_word, shape_word, register_word, bank_word, claim_word, hex_word, offset_word, has_bytes, cycles_words, window_words, profile_words, object_words, words_for_bank, words_for_symbol, note_words, instruction_words}
use Rattle.lt_assembler.proofs.PlainWords.{is_plain, IsPlain, ArePlain}
use Rattle.lt_assembler.proofs.NumberWords.{decimal_plain, hex_again}

constant_plain : (z : ℤ) → IsWord z → IsPlain (signed_decimal z)
constant_plain (pos n) h = let small : n < 2 ^ 63 = omega (arith, ints) in decimal_plain n (omega arith)
constant_plain (negsuc n) h =
    let small : n < 2 ^ 63 = omega (arith, ints) in
    record { some = refl; bytes = (decimal_plain (suc n) (omega arith)).bytes }

offset_plain : (z : ℤ) → IsOffset z → IsPlain (offset_word z)
offset_plain (pos n) h =
    let small : n < 2 ^ 31 = omega (arith, ints) in
    record { some = refl; bytes = (decimal_plain n (omega arith)).bytes }
offset_plain (negsuc n) h =
    let small : n < 2 ^ 31 = omega (arith, ints) in
    record { some = refl; bytes = (decimal_plain (suc n) (omega arith)).bytes }

register_plain : (r : ℕ) → r < 32 → IsPlain (register_word r)
register_plain r h = record { some = refl; bytes = (decimal_plain r (omega arith)).bytes }

either : (t : Bool) (v w : Word) → IsPlain v → IsPlain w → IsPlain (cond t v w)
either true v w h k = h
either false v w h k = k

bank_plain : (b : ℕ) → b < 10 → IsPlain (bank_word b)
bank_plain b h =
    either (eqb b 0) _ _ (record { some = refl; bytes = refl })
    (either (eqb b 1) _ _ (record { some = refl; bytes = refl })
    (record { some = refl; bytes = (decimal_plain b (omega arith)).bytes }))

claim_plain : (c : ℕ) → c < 256 → IsPlain (claim_word c)
claim_plain c h = either (eqb c 255) _ _ (record { some = refl; bytes = refl }) (decimal_plain c (omega arith))

some_bytes : (w : Word) → 0 < length w → has_bytes w ≡ true
some_bytes [] h = absurd (omega arith)
some_bytes (b ∷ w) h = refl

mask_plain : (m : ℕ) → m < 2 ^ 32 → IsPlain (hex_word 8 m)
mask_plain m h =
    let x = hex_again 8 m (omega arith) in
    record { some = some_bytes (hex_word 8 m) (omega (arith, x.size)); bytes = x.plain }

name_byte_plain : (b : ℕ) → is_name_byte b ≡ true → is_plain b ≡ true
name_byte_plain b e = grind (arith, nat_tests)

name_bytes_plain : (w : Word) → list_all is_name_byte w ≡ true → list_all is_plain w ≡ true
name_bytes_plain [] e = refl
name_bytes_plain (b ∷ w) e = let p = and_parts _ _ e in and_from _ _ (name_byte_plain b p.0) (name_bytes_plain w p.1)

name_plain : (w : Word) → IsTrue (is_name w) → IsPlain w
name_plain w h =
    let p = and_parts _ _ h in
    let q = and_parts _ _ p.1 in
    let r = and_parts _ _ q.1 in
    record { some = some_bytes w (omega (arith, leb-true 1 (length w) p.0)); bytes = name_bytes_plain w r.1 }

op_plain : (op : Op) → IsPlain (op_word op)
op_plain Add = record { some = refl; bytes = refl }
op_plain _ = record { some = refl; bytes = refl }

cmp_plain : (cmp : Cmp) → IsPlain (cmp_word cmp)
cmp_plain Eq = record { some = refl; bytes = refl }
cmp_plain _ = record { some = refl; bytes = refl }

label_plain : (l : Label) → IsPlain (label_word l)
label_plain Public = record { some = refl; bytes = refl }
label_plain Secret = record { some = refl; bytes = refl }

shape_plain : (s : Shape) → IsPlain (shape_word s)
shape_plain Scalar = record { some = refl; bytes = refl }
shape_plain Array = record { some = refl; bytes = refl }

fixed : (w : Word) → has_bytes w ≡ true → list_all is_plain w ≡ true → IsPlain w
fixed w h k = record { some = h; bytes = k }

-- the words of each line

-- the words of a profile by its window
pub open_words : (p : Profile) → HasUnitPeriod p → profile_words p ≡ codes "1" ∷ cycles_words p
open_words p whole = rw (eq-eqb _ _ whole.period) refl

-- the words of a profile with a window
pub windowed_words : (p : Profile) → 2 ≤ p.period → profile_words p ≡ codes "2" ∷ (cycles_words p ++ window_words p)
windowed_words p longer = rw (windowed p longer) refl

cycles_plain : (p : Profile) → ProfileFits p → (rest : List Word) → ArePlain rest → ArePlain (cycles_words p ++ rest)
cycles_plain p h rest plain = (
  decimal_plain p.block_log (omega (arith, h.block_log.1)),
  (
    decimal_plain p.alu (omega (arith, h.alu.1)),
    (
      decimal_plain p.mul (omega (arith, h.mul.1)),
      (decimal_plain p.word (omega (arith, h.word.1)), (decimal_plain p.taken (omega (arith, h.taken.1)), plain)),
    ),
  ),
)

window_plain : (p : Profile) → ProfileFits p → ArePlain (window_words p)
window_plain p h = (
  decimal_plain p.period (omega (arith, h.period.1)),
  (
    decimal_plain p.opens (omega (arith, h.period.1, h.opens)),
    (decimal_plain p.closes (omega (arith, h.period.1, h.closes.1)), tt),
  ),
)

-- the words of the first line are plain
pub object_plain : (p : Profile) → ProfileFits p → ArePlain (object_words p)
object_plain p h = (fixed (codes ".object") refl refl, by_test (has_unit_period p))
  where
    by_test : (b : Bool)
        → ArePlain (cond b (codes "1" ∷ cycles_words p) (codes "2" ∷ (cycles_words p ++ window_words p)))
    by_test true = (fixed (codes "1") refl refl, cycles_plain p h [] tt)
    by_test false = (fixed (codes "2") refl refl, cycles_plain p h (window_words p) (window_plain p h))

-- the words of a bank's line are plain
pub bank_line_plain : (b : BankSpec) → b.blocks ≤ 65536 → b.latency ≤ 1000000 → ArePlain (words_for_bank b)
bank_line_plain b h k = (
  fixed (codes ".bank") refl refl,
  (decimal_plain b.blocks (omega arith), (decimal_plain b.latency (omega arith), tt)),
)

-- the numbers of a symbol are small
pub record HasSmallNumbers (s : Symbol) : Type 0 where
  pub name : IsTrue (is_name s.name)
  pub bank : s.bank < 10
  pub block : s.block < 65536
  pub word : s.word < 512
  pub length : s.length ≤ 1048576

-- the words of a symbol's line are plain
pub symbol_plain : (s : Symbol) → HasSmallNumbers s → ArePlain (words_for_symbol s)
symbol_plain s h = (
  fixed (codes ".symbol") refl refl,
  (
    name_plain s.name h.name,
    (
      label_plain s.label,
      (
        shape_plain s.shape,
        (
          decimal_plain s.bank (omega (arith, h.bank)),
          (
            decimal_plain s.block (omega (arith, h.block)),
            (
              decimal_plain s.word (omega (arith, h.word)),
              (decimal_plain s.length (omega (arith, h.length)), tt),
            ),
          ),
        ),
      ),
    ),
  ),
)

small_claim : (banks c : ℕ) → banks ≤ 10 → (ltb c banks || eqb c 255) ≡ true → c < 256
small_claim banks c few h = grind (arith, nat_tests)

claims_plain : (banks : ℕ) (slots : List ℕ) → banks ≤ 10 → All (λ c. IsTrue (is_slot_claim banks c)) slots
    → ArePlain (map claim_word slots)
claims_plain banks [] few h = tt
claims_plain banks (c ∷ slots) few h = (
  claim_plain c (small_claim banks c few (All-head (λ c. IsTrue (is_slot_claim banks c)) c slots h)),
  claims_plain banks slots few (All-tail (λ c. IsTrue (is_slot_claim banks c)) c slots h),
)

-- the words of a note's line are plain
pub note_plain : (banks : ℕ) (n : Note) → banks ≤ 10 → n.secrets < 2 ^ 32
    → All (λ c. IsTrue (is_slot_claim banks c)) n.slots → ArePlain (note_words n)
note_plain banks n few h k =
    (fixed (codes ".note") refl refl, (mask_plain n.secrets h, claims_plain banks n.slots few k))

slot_plain : (k : ℕ) → k < 8 → IsPlain (decimal k)
slot_plain k h = decimal_plain k (omega arith)

-- the words of an instruction's line are plain
pub instruction_plain : (banks : ℕ) (i : Instr) → banks ≤ 10 → InstrFits banks i → ArePlain (instruction_words i)
instruction_plain banks Nop few h = (fixed (codes "nop") refl refl, tt)
instruction_plain banks Halt few h = (fixed (codes "halt") refl refl, tt)
instruction_plain banks (Li rd value) few h =
    (fixed (codes "li") refl refl, (register_plain rd h.0, (constant_plain value h.1, tt)))
instruction_plain banks (Alu op rd ra rb) few h =
    (op_plain op, (register_plain rd h.0, (register_plain ra h.1, (register_plain rb h.2, tt))))
instruction_plain banks (Ldb k b r) few h =
    (fixed (codes "ldb") refl refl, (slot_plain k h.0, (bank_plain b (omega (arith, h.1)), (register_plain r h.2, tt))))
instruction_plain banks (Stb k) few h = (fixed (codes "stb") refl refl, (slot_plain k h, tt))
instruction_plain banks (Idb rd k) few h =
    (fixed (codes "idb") refl refl, (register_plain rd h.0, (slot_plain k h.1, tt)))
instruction_plain banks (Ldw rd k ro) few h =
    (fixed (codes "ldw") refl refl, (register_plain rd h.0, (slot_plain k h.1, (register_plain ro h.2, tt))))
instruction_plain banks (Stw rs k ro) few h =
    (fixed (codes "stw") refl refl, (register_plain rs h.0, (slot_plain k h.1, (register_plain ro h.2, tt))))
instruction_plain banks (Jmp offset) few h =
    (fixed (codes "jmp") refl refl, (fixed (codes "->") refl refl, (offset_plain offset h, tt)))
instruction_plain banks (Br cmp ra rb offset) few h = (
  fixed (codes "br") refl refl,
  (
    cmp_plain cmp,
    (register_plain ra h.0, (register_plain rb h.1, (fixed (codes "->") refl refl, (offset_plain offset h.2, tt)))),
  ),
)
