-- The length of the canonical text of an object.
use Rattle.std.proofs.Common.{◌≡◌, ℕ, suc, ◌+◌, ◌*◌, ◌^◌, ◌<◌, ◌≤◌, Bool, true, false, eqb, cond, List, [], ◌∷◌, ◌++◌, length, map, refl, ap, ◌∙◌, arith, length-append}
use Rattle.std.specs.Prelude.{All, IsTrue, ℤ, pos, negsuc, codes, decimal, flat_map}
use Rattle.std.specs.Fmt.{signed_decimal}
use Rattle.std.proofs.lemmas.Bool.{and_parts, leb-true}
use Rattle.std.proofs.lemmas.Fmt.{length-decimal-le}
use Rattle.std.proofs.lemmas.Int.{ints}
use Rattle.std.proofs.lemmas.List.Concat.{flat_map-append}
use Rattle.std.proofs.lemmas.List.Elements.{All-head, All-tail}
use Rattle.gr_word.specs.declared.operations.Op.{Op}
use Rattle.gr_word.specs.declared.operations.Op.TheVariants.{Add}
use Rattle.gr_word.specs.declared.operations.Cmp.{Cmp}
use Rattle.gr_word.specs.declared.operations.Cmp.TheVariants.{Eq}
use Rattle.gr_word.specs.declared.variables.Label.{Label}
use Rattle.gr_word.specs.declared.variables.Label.TheVariants.{Public, Secret}
use Rattle.gr_word.specs.declared.variables.Shape.{Shape}
use Rattle.gr_word.specs.declared.variables.Shape.TheVariants.{Scalar, Array}
use Rattle.gr_word.specs.Prelude.{is_name, IsWord}
use Rattle.gr_base.specs.Prelude.{EachAfter}
use Rattle.lt_isa.specs.declared.profiles.Profile.{Profile}
use Rattle.lt_isa.specs.declared.profiles.BankSpec.{BankSpec}
use Rattle.lt_isa.specs.declared.symbols.Symbol.{Symbol}
use Rattle.lt_isa.specs.declared.symbols.Note.{Note}
use Rattle.lt_isa.specs.declared.instructions.Instr.{Instr}
use Rattle.lt_isa.specs.declared.instructions.Instr.TheVariants.{Nop, Halt, Li, Alu, Ldb, Stb, Idb, Ldw, Stw, Jmp, Br}
use Rattle.lt_isa.specs.Prelude.{Parts, ProfileFits, BankFits, SymbolFits, NoteFits, InstrFits, IsOffset, IsInRange, is_slot_claim, op_word, cmp_word, has_unit_period}
use Rattle.lt_assembler.specs.Prelude.{Word, label_word, shape_word, register_word, bank_word, claim_word, offset_word, cycles_words, window_words, object_words, words_for_bank, words_for_symbol, note_words, instruction_words, code_words, line, canonical}
use Rattle.lt_assembler.proofs.PlainWords.{joined}
use Rattle.lt_assembler.proofs.NumberWords.{hex_again, claim_below}
use Rattle.lt_assembler.proofs.CanonicalWords.{HasSmallNumbers}
use Rattle.lt_isa.proofs.SymbolPlaces.{most_blocks-le}
use Rattle.lt_assembler.proofs.SpelledRead.{IsSmall, small_memory, small_symbol}

-- the bytes of words with one more byte after each
abbrev size : List Word → ℕ
size [] = 0
size (w ∷ ws) = length w + (1 + size ws)

joined_size : (ws : List Word) → length (joined ws) ≤ size ws
joined_size [] = omega arith
joined_size (w ∷ []) = omega arith
joined_size (w ∷ v ∷ ws) = omega (arith, length-append w (32 ∷ joined (v ∷ ws)), joined_size (v ∷ ws))

line_size : (ws : List Word) → length (line ws) ≤ size ws + 1
line_size ws = omega (arith, length-append (joined ws) (10 ∷ []), joined_size ws)

-- words

digits : (k n : ℕ) → 0 < k → n < 10 ^ k → n < 2 ^ 64 → length (decimal n) ≤ k
digits = length-decimal-le

op_size : (op : Op) → length (op_word op) ≤ 4
op_size Add = omega arith
op_size _ = omega arith

cmp_size : (cmp : Cmp) → length (cmp_word cmp) ≤ 2
cmp_size Eq = omega arith
cmp_size _ = omega arith

register_size : (r : ℕ) → r < 32 → length (register_word r) ≤ 3
register_size r h = omega (arith, digits 2 r (omega arith) (omega arith) (omega arith))

slot_size : (k : ℕ) → k < 8 → length (decimal k) ≤ 1
slot_size k h = digits 1 k (omega arith) (omega arith) (omega arith)

either : (t : Bool) (v w : Word) (n : ℕ) → length v ≤ n → length w ≤ n → length (cond t v w) ≤ n
either true v w n h k = h
either false v w n h k = k

either_if : (t : Bool) (v w : Word) (n : ℕ) → length v ≤ n → (t ≡ false → length w ≤ n) → length (cond t v w) ≤ n
either_if true v w n h k = h
either_if false v w n h k = k refl

bank_size : (b : ℕ) → b < 10 → length (bank_word b) ≤ 2
bank_size b h =
    either (eqb b 0) _ _ 2 (omega arith)
    (either (eqb b 1) _ _ 2 (omega arith) (omega (arith, digits 1 b (omega arith) (omega arith) (omega arith))))

claim_size : (banks claim : ℕ) → banks ≤ 10 → IsTrue (is_slot_claim banks claim) → length (claim_word claim) ≤ 1
claim_size banks claim few h =
    either_if (eqb claim 255) _ _ 1 (omega arith) (λ e. slot_or_bank (claim_below banks claim e h)) where
      slot_or_bank : claim < banks → length (decimal claim) ≤ 1
      slot_or_bank lt = digits 1 claim (omega arith) (omega (arith, lt, few)) (omega (arith, lt, few))

constant_size : (z : ℤ) → IsWord z → length (signed_decimal z) ≤ 20
constant_size (pos n) h =
    let small : n < 2 ^ 63 = omega (arith, ints) in omega (arith, digits 19 n (omega arith) (omega arith) (omega arith))
constant_size (negsuc n) h =
    let small : n < 2 ^ 63 = omega (arith, ints) in
    omega (arith, digits 19 (suc n) (omega arith) (omega arith) (omega arith))

offset_size : (z : ℤ) → IsOffset z → length (offset_word z) ≤ 11
offset_size (pos n) h =
    let small : n < 2 ^ 31 = omega (arith, ints) in omega (arith, digits 10 n (omega arith) (omega arith) (omega arith))
offset_size (negsuc n) h =
    let small : n < 2 ^ 31 = omega (arith, ints) in
    omega (arith, digits 10 (suc n) (omega arith) (omega arith) (omega arith))

-- lines

instruction_size : (banks : ℕ) (i : Instr) → banks ≤ 10 → InstrFits banks i → size (instruction_words i) ≤ 40
instruction_size banks Nop few h = omega arith
instruction_size banks Halt few h = omega arith
instruction_size banks (Li rd value) few h = omega (arith, register_size rd h.0, constant_size value h.1)
instruction_size banks (Alu op rd ra rb) few h =
    omega (arith, op_size op, register_size rd h.0, register_size ra h.1, register_size rb h.2)
instruction_size banks (Ldb k b r) few h =
    let bank : b < 10 = omega (arith, h.1) in omega (arith, slot_size k h.0, bank_size b bank, register_size r h.2)
instruction_size banks (Stb k) few h = omega (arith, slot_size k h)
instruction_size banks (Idb rd k) few h = omega (arith, register_size rd h.0, slot_size k h.1)
instruction_size banks (Ldw rd k ro) few h = omega (arith, register_size rd h.0, slot_size k h.1, register_size ro h.2)
instruction_size banks (Stw rs k ro) few h = omega (arith, register_size rs h.0, slot_size k h.1, register_size ro h.2)
instruction_size banks (Jmp offset) few h = omega (arith, offset_size offset h)
instruction_size banks (Br cmp ra rb offset) few h =
    omega (arith, cmp_size cmp, register_size ra h.0, register_size rb h.1, offset_size offset h.2)

claims_size : (banks : ℕ) (claims : List ℕ) → banks ≤ 10 → All (λ claim. IsTrue (is_slot_claim banks claim)) claims
    → size (map claim_word claims) ≤ 2 * length claims
claims_size banks [] few all = omega arith
claims_size banks (c ∷ claims) few all =
    omega (
      arith,
      claim_size banks c few (All-head (λ claim. IsTrue (is_slot_claim banks claim)) c claims all),
      claims_size banks claims few (All-tail (λ claim. IsTrue (is_slot_claim banks claim)) c claims all),
    )

note_size : (banks : ℕ) (before : List Note) (m : Note) → banks ≤ 10 → NoteFits banks before m
    → size (note_words m) ≤ 40
note_size banks before m few h =
    let mask = hex_again 8 m.secrets (omega (arith, h.secrets)) in
    omega (arith, mask.size, claims_size banks m.slots few h.slots, h.slot_count)

label_size : (l : Label) → length (label_word l) ≤ 6
label_size Public = omega arith
label_size Secret = omega arith

shape_size : (s : Shape) → length (shape_word s) ≤ 6
shape_size Scalar = omega arith
shape_size Array = omega arith

name_size : (name : Word) → IsTrue (is_name name) → length name ≤ 32
name_size name h = leb-true _ _ (and_parts _ _ (and_parts _ _ h).1).0

symbol_size : (s : Symbol) → HasSmallNumbers s → size (words_for_symbol s) ≤ 90
symbol_size s h =
    omega (
      arith,
      name_size s.name h.name,
      label_size s.label,
      shape_size s.shape,
      digits 2 s.bank (omega arith) (omega (arith, h.bank)) (omega (arith, h.bank)),
      digits 5 s.block (omega arith) (omega (arith, h.block)) (omega (arith, h.block)),
      digits 3 s.word (omega arith) (omega (arith, h.word)) (omega (arith, h.word)),
      digits 7 s.length (omega arith) (omega (arith, h.length)) (omega (arith, h.length)),
    )

bank_line_size : (before : List BankSpec) (b : BankSpec) → BankFits before b → size (words_for_bank b) ≤ 30
bank_line_size before b h =
    let small = most_blocks-le (length before) in
    omega (
      arith,
      digits 5 b.blocks (omega arith) (omega (arith, h.blocks.1, small)) (omega (arith, h.blocks.1, small)),
      digits 7 b.latency (omega arith) (omega (arith, h.latency.1)) (omega (arith, h.latency.1)),
    )

cycles_size : (p : Profile) → ProfileFits p → size (cycles_words p) ≤ 17
cycles_size p h =
    omega (
      arith,
      digits 1 p.block_log (omega arith) (omega (arith, h.block_log.1)) (omega (arith, h.block_log.1)),
      digits 3 p.alu (omega arith) (omega (arith, h.alu.1)) (omega (arith, h.alu.1)),
      digits 3 p.mul (omega arith) (omega (arith, h.mul.1)) (omega (arith, h.mul.1)),
      digits 3 p.word (omega arith) (omega (arith, h.word.1)) (omega (arith, h.word.1)),
      digits 2 p.taken (omega arith) (omega (arith, h.taken.1)) (omega (arith, h.taken.1)),
    )

window_size : (p : Profile) → ProfileFits p → size (window_words p) ≤ 24
window_size p h =
    omega (
      arith,
      digits 7 p.period (omega arith) (omega (arith, h.period.1)) (omega (arith, h.period.1)),
      digits 7 p.opens (omega arith) (omega (arith, h.period.1, h.opens)) (omega (arith, h.period.1, h.opens)),
      digits 7 p.closes (omega arith) (omega (arith, h.period.1, h.closes.1)) (omega (arith, h.period.1, h.closes.1)),
    )

object_size : (p : Profile) → ProfileFits p → size (object_words p) ≤ 52
object_size p h = by_window (has_unit_period p)
  where
    by_window : (b : Bool)
        → size (codes ".object" ∷ cond b (codes "1" ∷ cycles_words p) (codes "2" ∷ (cycles_words p ++ window_words p)))
        ≤ 52
    by_window true = omega (arith, cycles_size p h)
    by_window false = omega (arith, cycles_size p h, window_size p h)

-- lists of lines

first_line : (ws : List Word) (wss : List (List Word)) (n m : ℕ) → size ws ≤ n → length (flat_map line wss) ≤ m
    → length (flat_map line (ws ∷ wss)) ≤ n + 1 + m
first_line ws wss n m h k = omega (arith, length-append (line ws) (flat_map line wss), line_size ws, h, k)

banks_size : (before bs : List BankSpec) → EachAfter BankFits before bs
    → length (flat_map line (map words_for_bank bs)) ≤ 31 * length bs
banks_size before [] each = omega arith
banks_size before (b ∷ bs) each =
    omega (
      arith,
      first_line (words_for_bank b) (map words_for_bank bs) 30 (31 * length bs) (bank_line_size before b each.0)
          (banks_size (before ++ b ∷ []) bs each.1),
    )

symbols_size : (p : Profile) (banks : List BankSpec) (before ss : List Symbol) → IsSmall p banks
    → EachAfter (SymbolFits (2 ^ p.block_log) banks) before ss
    → length (flat_map line (map words_for_symbol ss)) ≤ 91 * length ss
symbols_size p banks before [] memory each = omega arith
symbols_size p banks before (s ∷ ss) memory each =
    omega (
      arith,
      first_line (words_for_symbol s) (map words_for_symbol ss) 90 (91 * length ss) (symbol_size s
          (small_symbol p banks before s memory each.0)) (symbols_size p banks (before ++ s ∷ []) ss memory each.1),
    )

chosen : (b : Bool) (xs ys : List (List Word)) (n : ℕ) → length (flat_map line xs) ≤ n
    → length (flat_map line ys) ≤ n → length (flat_map line (cond b xs ys)) ≤ n
chosen true xs ys n h k = h
chosen false xs ys n h k = k

code_size : (banks : ℕ) (before notes : List Note) (place : ℕ) (code : List Instr) → banks ≤ 10
    → EachAfter (NoteFits banks) before notes → All (InstrFits banks) code
    → length (flat_map line (code_words notes place code)) ≤ 41 * length code + 41 * length notes
code_size banks before notes place [] few each all = omega arith
code_size banks before [] place (i ∷ code) few each all =
    let rest = code_size banks before [] (place + 1) code few each (All-tail (InstrFits banks) i code all) in
    omega (
      arith,
      first_line (instruction_words i) (code_words [] (place + 1) code) 40 (41 * length code)
          (instruction_size banks i few (All-head (InstrFits banks) i code all)) (omega (arith, rest)),
    )
code_size banks before (m ∷ notes) place (i ∷ code) few each all =
    let here = instruction_size banks i few (All-head (InstrFits banks) i code all) in
    let less =
    code_size banks (before ++ m ∷ []) notes (place + 1) code few each.1 (All-tail (InstrFits banks) i code all) in
    let more = code_size banks before (m ∷ notes) (place + 1) code few each (All-tail (InstrFits banks) i code all) in
    let after = first_line (instruction_words i) (code_words notes (place + 1) code) 40 _ here less in
    let noted =
    first_line (note_words m) (instruction_words i ∷ code_words notes (place + 1) code) 40 _
    (note_size banks before m few each.0) after in
    let alone = first_line (instruction_words i) (code_words (m ∷ notes) (place + 1) code) 40 _ here more in
    chosen (eqb m.pc place) _ _ _ (omega (arith, noted)) (omega (arith, alone))

lines_append : (xs ys : List (List Word))
    → length (flat_map line (xs ++ ys)) ≡ length (flat_map line xs) + length (flat_map line ys)
lines_append xs ys = ap length (flat_map-append line xs ys) ∙ length-append (flat_map line xs) (flat_map line ys)

-- the canonical text is no longer than the limit of texts that are assembled
pub canonical_short : (o : Parts) → IsInRange o → length (canonical o) ≤ 67108864
unfolding canonical
canonical_short o h =
    let banks = banks_size [] o.banks h.banks in
    let symbols = symbols_size o.profile o.banks [] o.symbols (small_memory o h) h.symbols in
    let code = code_size (length o.banks) [] o.notes 0 o.code h.bank_count.1 h.notes h.code in
    let front = lines_append (map words_for_bank o.banks) (map words_for_symbol o.symbols) in
    let whole = lines_append (map words_for_bank o.banks
    ++ map words_for_symbol o.symbols) (code_words o.notes 0 o.code) in
    let first =
    first_line (object_words o.profile)
    (map words_for_bank o.banks ++ map words_for_symbol o.symbols ++ code_words o.notes 0 o.code) 52
    (length (flat_map line (map words_for_bank o.banks ++ map words_for_symbol o.symbols
    ++ code_words o.notes 0 o.code)))
    (object_size o.profile h.profile) (omega arith) in
    omega (arith, first, front, banks, symbols, code, h.bank_count.1, h.symbol_count, h.note_count, h.code_size.1)
