-- A line whose words encode an item is read as that item, if the item fits what was read before.
use Rattle.std.proofs.Common.{◌≡◌, ◌≢◌, ℕ, ◌+◌, ◌-◌, ◌*◌, ◌<◌, ◌≤◌, Bool, true, false, not, eqb, ltb, List, [], ◌∷◌, ◌++◌, length, map, get_or, Option, Some, None, Result, Ok, refl, sym, ap, ◌∙◌, ⊎_elim, arith, length-append}
use Rattle.std.specs.Prelude.{◌&&◌, All, pos, codes, decimal, is_none}
use Rattle.std.specs.Char.{is_ascii_digit}
use Rattle.std.proofs.Math.Seq.{get_or-append_seam, take-append_seam}
use Rattle.std.proofs.lemmas.Bool.{and_parts, and_from, le-leb, lt-ltb, le-ltb, eq-eqb, not-true}
use Rattle.std.proofs.lemmas.Bool.Decides.{nat_tests}
use Rattle.std.proofs.lemmas.List.{length-map}
use Rattle.gr_word.specs.declared.operations.Op.TheVariants.{Add}
use Rattle.gr_word.specs.declared.operations.Cmp.{Cmp}
use Rattle.gr_word.specs.declared.variables.Label.{Label}
use Rattle.gr_word.specs.declared.variables.Label.TheVariants.{Public, Secret}
use Rattle.gr_word.specs.declared.variables.Shape.{Shape}
use Rattle.gr_word.specs.declared.variables.Shape.TheVariants.{Scalar, Array}
use Rattle.gr_word.specs.Prelude.{is_name, is_name_byte}
use Rattle.lt_isa.specs.declared.profiles.Profile.{Profile}
use Rattle.lt_isa.specs.declared.profiles.BankSpec.{BankSpec}
use Rattle.lt_isa.specs.declared.symbols.Symbol.{Symbol}
use Rattle.lt_isa.specs.declared.symbols.Note.{Note}
use Rattle.lt_isa.specs.declared.instructions.Instr.{Instr}
use Rattle.lt_isa.specs.declared.instructions.Instr.TheVariants.{Nop, Alu, Jmp, Br}
use Rattle.lt_isa.specs.Prelude.{ProfileFits, BankFits, SymbolFits, NoteFits, InstrFits, IsRegister, total_length, next_place, most_blocks, LiesBehind, last_bank, blocks_in, first_free_word, most_length, cmp_word}
use Rattle.lt_isa.proofs.OtherNames.{pass_others}
use Rattle.lt_isa.proofs.SymbolPlaces.{most_blocks-le, fields_of_lies}
use Rattle.lt_assembler.specs.Prelude.{Word, register_word, label_word, shape_word, claim_word, hex_word, is_number, begins_with, number_within, op_named, mnemonic_named, label_named, shape_named, profile_words, object_words, words_for_bank, words_for_symbol, instruction_words, aim_read, jmp_read, br_read, instruction_read, is_instruction, unless_not, Draft, place_of, takes_bank, takes_symbol, takes_code, is_noted, cycles_read, window_read, profile_read, object_line, bank_read, bank_line, site_read, symbol_read, width, is_new, has_room, symbol_line, note_read, note_line, label_name, label_line, code_line, by_first_word, Target, ToPlace, ToLabel, SpellsTarget, InDigits, ByName, Item, Nothing, AnObject, ABank, ASymbol, ALabel, ANote, AnInstruction, WordsSpell, Empty, Object, Bank, Variable, Noted, Instruction, Jump, Branch}
use Rattle.gr_base.specs.Prelude.{is_within, is_canonical_numeral, ◌>>=◌}
use Rattle.lt_assembler.specs.declared.faults.Fault.{Fault}
use Rattle.lt_assembler.specs.declared.faults.Fault.TheVariants.{WrongForm, RepeatedName, Limit}
use Rattle.lt_assembler.specs.Items.{Label as LabelWords}
use Rattle.lt_assembler.proofs.Added.{coded_in, added}
use Rattle.lt_assembler.proofs.InstructionsRead.{aim_in}
use Rattle.lt_assembler.proofs.NumberWords.{decimal_digits, no_other, number_again, register_again, mask_again, claims_again}
use Rattle.lt_assembler.proofs.InstructionWords.{cmp_again, instruction_again, formed, instruction_formed}
use Rattle.lt_assembler.proofs.CanonicalWords.{HasSmallNumbers, open_words, windowed_words}
use Rattle.lt_isa.proofs.Windows.{by_window, opened, opened-is}

one : number_within 1 1 (codes "1") ≡ Some 1
unfolding number_within is_within is_number is_canonical_numeral
one = refl

two : number_within 2 2 (codes "2") ≡ Some 2
unfolding number_within is_within is_number is_canonical_numeral
two = refl

cycles_again : (p : Profile) → ProfileFits p
    → cycles_read (decimal p.block_log) (decimal p.alu) (decimal p.mul) (decimal p.word) (decimal p.taken)
    ≡ Ok (opened p)
unfolding cycles_read
cycles_again p h =
    rw (
      number_again 3 9 p.block_log h.block_log.0 h.block_log.1 (omega (arith, h.block_log.1)),
      number_again 1 127 p.alu h.alu.0 h.alu.1 (omega (arith, h.alu.1)),
      number_again 1 127 p.mul h.mul.0 h.mul.1 (omega (arith, h.mul.1)),
      number_again 1 127 p.word h.word.0 h.word.1 (omega (arith, h.word.1)),
      number_again 1 32 p.taken h.taken.0 h.taken.1 (omega (arith, h.taken.1)),
    ) refl

window_again : (before p : Profile) → ProfileFits p → 2 ≤ p.period
    → window_read (Ok before) (decimal p.period) (decimal p.opens) (decimal p.closes)
    ≡ Ok (record before { period = p.period; opens = p.opens; closes = p.closes })
unfolding window_read
window_again before p h longer =
    rw (
      number_again 2 1000000 p.period longer h.period.1 (omega (arith, h.period.1)),
      number_again 0 (p.period - 1) p.opens (omega arith) (omega (arith, h.opens)) (omega (arith, h.opens, h.period.1)),
      number_again (p.opens + 1) p.period p.closes h.closes.0 h.closes.1 (omega (arith, h.closes.1, h.period.1)),
    ) refl

profile_again : (p : Profile) → ProfileFits p → profile_read (profile_words p) ≡ Ok p
unfolding profile_read
profile_again p h =
    ⊎_elim
    (λ whole. ap profile_read (open_words p whole) ∙ rw (one, cycles_again p h) (ap (λ q. Ok q) (opened-is p whole)))
    (λ longer.
    ap profile_read (windowed_words p longer)
    ∙ rw (two, cycles_again p h, window_again (opened p) p h longer) refl)
    (by_window p h)

-- what an item needs of a draft: that it is allowed there, a new name, and room

abbrev pub may_stand : Bool → Draft → Item → Bool
may_stand follows d Nothing = true
may_stand follows d (AnObject p) = is_none d.profile
may_stand follows d (ABank b) = takes_bank d
may_stand follows d (ASymbol s) = takes_symbol d
may_stand follows d (ALabel name) = takes_code d && true
may_stand follows d (ANote mask claims) = takes_code d && (not (is_noted d) && follows)
may_stand follows d (AnInstruction i t) = takes_code d

abbrev pub is_new_in : Draft → Item → Bool
is_new_in d (ASymbol s) = is_new d.symbols s.name
is_new_in d (ALabel name) = is_none (place_of d.labels name)
is_new_in d item = true

abbrev pub has_room_in : Draft → Item → Bool
has_room_in d (ABank b) = ltb (length d.banks) 10
has_room_in d (ASymbol s) = has_room d.symbols s
has_room_in d (ANote mask claims) = ltb (length d.notes) 262144
has_room_in d (AnInstruction i t) = ltb (length d.code) 1048576
has_room_in d item = true

-- three tests, and then the draft
abbrev pub passing : Bool → Bool → Bool → Draft → Result Draft Fault
passing there new room d =
    unless_not WrongForm there
    >>= (λ _. unless_not RepeatedName new >>= (λ _. unless_not Limit room >>= (λ _. Ok d)))

abbrev pub judged : ℕ → Bool → Item → Draft → Result Draft Fault
judged n follows item d = passing (may_stand follows d item) (is_new_in d item) (has_room_in d item) (added n item d)

object_judged : (n : ℕ) (follows : Bool) (d : Draft) (p : Profile) → ProfileFits p
    → by_first_word n follows (object_words p) d ≡ judged n follows (AnObject p) d
unfolding by_first_word object_line
object_judged n follows d p h = rw (profile_again p h) refl

bank_judged : (n : ℕ) (follows : Bool) (d : Draft) (b : BankSpec) → BankFits d.banks b
    → by_first_word n follows (words_for_bank b) d ≡ judged n follows (ABank b) d
unfolding by_first_word bank_line bank_read
bank_judged n follows d b h =
    let small = most_blocks-le (length d.banks) in
    rw (
      number_again 1 (most_blocks (length d.banks)) b.blocks h.blocks.0 h.blocks.1 (omega (arith, h.blocks.1, small)),
      number_again 1 1000000 b.latency h.latency.0 h.latency.1 (omega (arith, h.latency.1)),
    ) refl

-- symbols

pub label_reads : (l : Label) → label_named (label_word l) ≡ Some l
unfolding label_named
label_reads Public = refl
label_reads Secret = refl

pub shape_reads : (s : Shape) → shape_named (shape_word s) ≡ Some s
unfolding shape_named
shape_reads Scalar = refl
shape_reads Array = refl

pub new_reads : (before : List Symbol) (text : List ℕ) → All (λ s. s.name ≢ text) before → is_new before text ≡ true
unfolding is_new
new_reads before text all = pass_others before text all

symbol_of_words : (w : ℕ) (banks : List BankSpec) (before : List Symbol) (s : Symbol) → HasSmallNumbers s
    → LiesBehind w banks before s → symbol_read w banks before (s.name ∷ label_word s.label ∷ shape_word s.shape
    ∷ decimal s.bank ∷ decimal s.block ∷ decimal s.word ∷ decimal s.length ∷ []) ≡ Ok s
unfolding symbol_read site_read
symbol_of_words w banks before s small h =
    let lies = fields_of_lies w banks before s h in
    let last : s.bank ≤ length banks - 1 = omega (arith, lies.bank) in
    rw (
      small.name,
      label_reads s.label,
      shape_reads s.shape,
      number_again (last_bank before) (length banks - 1) s.bank lies.order last (omega (arith, small.bank)),
      number_again 0 (blocks_in banks s.bank - 1) s.block (omega arith) (omega (arith, lies.block))
          (omega (arith, small.block)),
      number_again (first_free_word w before s.bank s.block) (w - 1) s.word lies.free (omega (arith, lies.word))
          (omega (arith, small.word)),
      number_again 1 (most_length w banks s.shape s.bank (s.block * w + s.word)) s.length lies.length.0 lies.length.1
          (omega (arith, small.length)),
    ) refl

symbol_judged : (n : ℕ) (follows : Bool) (d : Draft) (s : Symbol) → HasSmallNumbers s
    → LiesBehind (width d.profile) d.banks d.symbols s
    → by_first_word n follows (words_for_symbol s) d ≡ judged n follows (ASymbol s) d
unfolding by_first_word symbol_line
symbol_judged n follows d s small h = rw (symbol_of_words (width d.profile) d.banks d.symbols s small h) refl

-- notes

note_of_words : (banks : ℕ) (before : List Note) (m : Note) → banks ≤ 10 → NoteFits banks before m
    → note_read banks m.pc (hex_word 8 m.secrets ∷ map claim_word m.slots) ≡ Ok m
unfolding note_read
note_of_words banks before m few h =
    let size : length (map claim_word m.slots) ≡ 8 = length-map m.slots claim_word ∙ h.slot_count in
    rw (
      eq-eqb (length (map claim_word m.slots)) 8 size,
      mask_again m.secrets h.secrets,
      claims_again banks m.slots few h.slots,
    ) refl

note_judged : (n : ℕ) (follows : Bool) (d : Draft) (mask : ℕ) (claims : List ℕ) → length d.banks ≤ 10
    → NoteFits (length d.banks) d.notes (record { pc = length d.code; secrets = mask; slots = claims })
    → by_first_word n follows (codes ".note" ∷ hex_word 8 mask ∷ map claim_word claims) d
    ≡ judged n follows (ANote mask claims) d
unfolding by_first_word note_line
note_judged n follows d mask claims most h =
    rw (note_of_words (length d.banks) d.notes (record { pc = length d.code; secrets = mask; slots = claims }) most h)
    refl

-- labels

-- a name has a first byte
pub record IsNamed (name : Word) : Type 0 where
  pub first : ℕ
  pub rest : List ℕ
  pub whole : name ≡ first ∷ rest
  pub byte : is_name_byte first ≡ true
  pub letter : is_ascii_digit first ≡ false

-- a word that passes the test of names has a first byte
pub named : (name : Word) → is_name name ≡ true → IsNamed name
named [] e = absurd cc
named (b ∷ rest) e =
    let p = and_parts _ _ (and_parts _ _ (and_parts _ _ e).1).1 in
    record { first = b; rest = rest; whole = refl; byte = (and_parts _ _ p.1).0; letter = not-true _ p.0 }

other_byte : (c b : ℕ) → is_name_byte c ≡ true → b < 48 → eqb c b ≡ false
other_byte c b e lt = grind (arith, nat_tests)

-- the name before a ':'
pub label_name_again : (name : Word) → label_name (name ++ codes ":") ≡ Some name
unfolding label_name
label_name_again name =
    let size : length (name ++ codes ":") - 1 ≡ length name = omega (arith, length-append name (codes ":")) in
    rw (size, get_or-append_seam name 58 [] 0, take-append_seam name (codes ":")) refl

label_line_judged : (n : ℕ) (follows : Bool) (d : Draft) (name : Word) → is_name name ≡ true
    → label_line name [] d ≡ judged n follows (ALabel name) d
unfolding label_line
label_line_judged n follows d name fits = rw fits refl

pub label_reads_by : (n : ℕ) (follows : Bool) (d : Draft) (word name : Word) (c : ℕ) (rest : Word) → word ≡ c ∷ rest
    → is_name_byte c ≡ true → label_name word ≡ Some name
    → by_first_word n follows (word ∷ []) d ≡ label_line name [] d
unfolding by_first_word
label_reads_by n follows d word name c rest is byte found =
    let label : label_name (c ∷ rest) ≡ Some name = ap label_name (sym is) ∙ found in
    rw (is, other_byte c 46 byte (omega arith), label) refl

label_judged : (n : ℕ) (follows : Bool) (d : Draft) (name : Word) → is_name name ≡ true
    → by_first_word n follows ((name ++ codes ":") ∷ []) d ≡ judged n follows (ALabel name) d
label_judged n follows d name fits =
    let h = named name fits in
    label_reads_by n follows d (name ++ codes ":") name h.first (h.rest ++ codes ":")
    (ap (λ (w : Word). w ++ codes ":") h.whole) h.byte (label_name_again name)
    ∙ label_line_judged n follows d name fits

-- targets

-- a byte from 0 to 9
pub digit_byte : (c : ℕ) → 48 ≤ c → c ≤ 57 → is_ascii_digit c ≡ true
digit_byte c low high = grind (arith, nat_tests)

target_again : (place : ℕ) (word : Word) (target : Target) → SpellsTarget word target
    → aim_read place word ≡ Ok (aim_in place target)
unfolding aim_read
target_again place _ _ (InDigits to lt) =
    let h = decimal_digits to (omega (arith, lt)) in
    let digit : is_ascii_digit (get_or (decimal to) 0 0) ≡ true = rw h.whole (digit_byte h.first h.low h.high) in
    rw (
      no_other (decimal to) 43 h (omega arith),
      no_other (decimal to) 45 h (omega arith),
      digit,
      number_again 0 2147483647 to (omega arith) (omega (arith, lt)) (omega (arith, lt)),
    ) refl
target_again place _ _ (ByName name fits) =
    let h = named name fits in
    let letter : is_ascii_digit (get_or name 0 0) ≡ false = rw h.whole h.letter in
    let plus : begins_with 43 name ≡ false = rw h.whole (other_byte h.first 43 h.byte (omega arith)) in
    let minus : begins_with 45 name ≡ false = rw h.whole (other_byte h.first 45 h.byte (omega arith)) in
    rw (fits, plus, minus, letter) refl

-- instructions

jump_again : (banks place : ℕ) (word : Word) (target : Target) → SpellsTarget word target
    → instruction_read banks place (codes "jmp" ∷ codes "->" ∷ word ∷ [])
    ≡ Ok (coded_in place (Jmp (pos 0)) (Some target))
unfolding instruction_read mnemonic_named op_named jmp_read
jump_again banks place word (ToPlace to) s = rw (target_again place word (ToPlace to) s) refl
jump_again banks place word (ToLabel name) s = rw (target_again place word (ToLabel name) s) refl

branch_again : (banks place : ℕ) (cmp : Cmp) (ra rb : ℕ) (word : Word) (target : Target) → IsRegister ra
    → IsRegister rb → SpellsTarget word target → instruction_read banks place
    (codes "br" ∷ cmp_word cmp ∷ register_word ra ∷ register_word rb ∷ codes "->" ∷ word ∷ [])
    ≡ Ok (coded_in place (Br cmp ra rb (pos 0)) (Some target))
unfolding instruction_read mnemonic_named op_named br_read
branch_again banks place cmp ra rb word (ToPlace to) ha hb s =
    rw (cmp_again cmp, register_again ra ha, register_again rb hb, target_again place word (ToPlace to) s) refl
branch_again banks place cmp ra rb word (ToLabel name) ha hb s =
    rw (cmp_again cmp, register_again ra ha, register_again rb hb, target_again place word (ToLabel name) s) refl

is_jump_line : (n : ℕ) (follows : Bool) (word : Word) (d : Draft)
    → by_first_word n follows (codes "jmp" ∷ codes "->" ∷ word ∷ []) d
    ≡ code_line n (codes "jmp" ∷ codes "->" ∷ word ∷ []) d
unfolding by_first_word label_name
is_jump_line n follows word d = refl

is_branch_line : (n : ℕ) (follows : Bool) (cmp : Cmp) (ra rb : ℕ) (word : Word) (d : Draft)
    → by_first_word n follows (codes "br" ∷ cmp_word cmp ∷ register_word ra ∷ register_word rb ∷ codes "->" ∷ word
    ∷ []) d
    ≡ code_line n (codes "br" ∷ cmp_word cmp ∷ register_word ra ∷ register_word rb ∷ codes "->" ∷ word ∷ []) d
unfolding by_first_word label_name
is_branch_line n follows cmp ra rb word d = refl

nothing_reads : (n : ℕ) (follows : Bool) (d : Draft) → by_first_word n follows [] d ≡ Ok d
unfolding by_first_word
nothing_reads n follows d = refl

is_plain_line : (n : ℕ) (follows : Bool) (i : Instr) (d : Draft)
    → by_first_word n follows (instruction_words i) d ≡ code_line n (instruction_words i) d
unfolding by_first_word label_name
is_plain_line n follows Nop d = refl
is_plain_line n follows (Alu Add rd ra rb) d = refl
is_plain_line n follows _ d = refl

coded_again : (banks place : ℕ) (words : List Word) (i : Instr) (t : Option Target) → banks ≤ 10 → InstrFits banks i
    → WordsSpell words (AnInstruction i t)
    → instruction_read banks place words ≡ Ok (coded_in place i t)
coded_again banks place _ _ _ few h (Instruction i) = instruction_again banks place i few h
coded_again banks place _ _ _ few h (Jump word target s) = jump_again banks place word target s
coded_again banks place _ _ _ few h (Branch cmp ra rb word target s) =
    branch_again banks place cmp ra rb word target h.0 h.1 s

-- an instruction's line is read as one
is_code_line : (n : ℕ) (follows : Bool) (d : Draft) (words : List Word) (i : Instr) (t : Option Target)
    → WordsSpell words (AnInstruction i t) → by_first_word n follows words d ≡ code_line n words d
is_code_line n follows d _ _ _ (Instruction i) = is_plain_line n follows i d
is_code_line n follows d _ _ _ (Jump word target s) = is_jump_line n follows word d
is_code_line n follows d _ _ _ (Branch cmp ra rb word target s) = is_branch_line n follows cmp ra rb word d

code_judged : (n : ℕ) (follows : Bool) (d : Draft) (words : List Word) (i : Instr) (t : Option Target)
    → length d.banks ≤ 10 → InstrFits (length d.banks) i → WordsSpell words (AnInstruction i t)
    → code_line n words d ≡ judged n follows (AnInstruction i t) d
unfolding code_line
code_judged n follows d words i t few h s =
    rw (coded_again (length d.banks) (length d.code) words i t few h s) refl

-- an item's fields are in range, after what a draft has
abbrev pub InRange : Draft → Item → Type 0
InRange d Nothing = Unit {0}
InRange d (AnObject p) = ProfileFits p
InRange d (ABank b) = BankFits d.banks b
InRange d (ASymbol s) = HasSmallNumbers s × LiesBehind (width d.profile) d.banks d.symbols s
InRange d (ALabel name) = Unit {0}
InRange d (ANote mask claims) =
    (length d.banks ≤ 10)
    × NoteFits (length d.banks) d.notes (record { pc = length d.code; secrets = mask; slots = claims })
InRange d (AnInstruction i t) = (length d.banks ≤ 10) × InstrFits (length d.banks) i

-- words that encode an item in range are tested for its place, its name and room
pub item_judged : (n : ℕ) (follows : Bool) (words : List Word) (item : Item) (d : Draft) → WordsSpell words item
    → InRange d item → by_first_word n follows words d ≡ judged n follows item d
item_judged n follows _ _ d Empty h = nothing_reads n follows d
item_judged n follows _ _ d (Object p) h = object_judged n follows d p h
item_judged n follows _ _ d (Bank b) h = bank_judged n follows d b h
item_judged n follows _ _ d (Variable s) h = symbol_judged n follows d s h.0 h.1
item_judged n follows _ _ d (LabelWords name fits) h = label_judged n follows d name fits
item_judged n follows _ _ d (Noted mask claims) h = note_judged n follows d mask claims h.0 h.1
item_judged n follows _ _ d (Instruction i) h =
    is_code_line n follows d _ _ _ (Instruction i) ∙ code_judged n follows d _ _ _ h.0 h.1 (Instruction i)
item_judged n follows _ _ d (Jump word target s) h =
    is_code_line n follows d _ _ _ (Jump word target s) ∙ code_judged n follows d _ _ _ h.0 h.1 (Jump word target s)
item_judged n follows _ _ d (Branch cmp ra rb word target s) h =
    is_code_line n follows d _ _ _ (Branch cmp ra rb word target s)
    ∙ code_judged n follows d _ _ _ h.0 h.1 (Branch cmp ra rb word target s)

-- what an item that is read needs of a draft
abbrev pub ItemFits : Bool → Draft → Item → Type 0
ItemFits follows d Nothing = Unit {0}
ItemFits follows d (AnObject p) = (is_none d.profile ≡ true) × ProfileFits p
ItemFits follows d (ABank b) = (takes_bank d ≡ true) × BankFits d.banks b × (length d.banks < 10)
ItemFits follows d (ASymbol s) =
    (takes_symbol d ≡ true) × HasSmallNumbers s × SymbolFits (width d.profile) d.banks d.symbols s
    × (length d.symbols < 1024)
ItemFits follows d (ALabel name) = (takes_code d ≡ true) × (place_of d.labels name ≡ None)
ItemFits follows d (ANote mask claims) =
    (takes_code d ≡ true) × (length d.banks ≤ 10)
    × NoteFits (length d.banks) d.notes (record { pc = length d.code; secrets = mask; slots = claims })
    × (length d.notes < 262144) × (follows ≡ true)
ItemFits follows d (AnInstruction i t) =
    (takes_code d ≡ true) × (length d.banks ≤ 10) × InstrFits (length d.banks) i × (length d.code < 1048576)

-- an item that fits passes the tests
record Passes (follows : Bool) (d : Draft) (item : Item) : Type 0 where
  there : may_stand follows d item ≡ true
  new : is_new_in d item ≡ true
  room : has_room_in d item ≡ true

fits_range : (follows : Bool) (d : Draft) (item : Item) → ItemFits follows d item → InRange d item
fits_range follows d Nothing h = tt
fits_range follows d (AnObject p) h = h.1
fits_range follows d (ABank b) h = h.1
fits_range follows d (ASymbol s) h = (h.1, h.2.lies)
fits_range follows d (ALabel name) h = tt
fits_range follows d (ANote mask claims) h = (h.1, h.2)
fits_range follows d (AnInstruction i t) h = (h.1, h.2)

fits_passes : (follows : Bool) (d : Draft) (item : Item) → ItemFits follows d item → Passes follows d item
fits_passes follows d Nothing h = record { there = refl; new = refl; room = refl }
fits_passes follows d (AnObject p) h = record { there = h.0; new = refl; room = refl }
fits_passes follows d (ABank b) h = record { there = h.0; new = refl; room = lt-ltb (length d.banks) 10 h.2 }
fits_passes follows d (ASymbol s) h = record {
  there = h.0;
  new = new_reads d.symbols s.name h.2.new;
  room = and_from _ _ (lt-ltb (length d.symbols) 1024 h.3)
      (le-leb (total_length d.symbols + s.length) 4194304 h.2.total);
}
fits_passes follows d (ALabel name) h = record { there = rw h.0 refl; new = ap is_none h.1; room = refl }
fits_passes follows d (ANote mask claims) h = record {
  there = rw (h.0, le-ltb (length d.code) (next_place d.notes) h.2.pc.0, h.4) refl;
  new = refl;
  room = lt-ltb (length d.notes) 262144 h.3;
}
fits_passes follows d (AnInstruction i t) h =
    record { there = h.0; new = refl; room = lt-ltb (length d.code) 1048576 h.3 }

pass : (a b c : Bool) (d : Draft) → a ≡ true → b ≡ true → c ≡ true → passing a b c d ≡ Ok d
pass true true true d p q r = refl
pass false b c d p q r = absurd cc
pass true false c d p q r = absurd cc
pass true true false d p q r = absurd cc

-- words that encode an item are read as it
pub item_reads : (n : ℕ) (follows : Bool) (words : List Word) (item : Item) (d : Draft) → WordsSpell words item
    → ItemFits follows d item → by_first_word n follows words d ≡ Ok (added n item d)
item_reads n follows words item d s h =
    let p = fits_passes follows d item h in
    item_judged n follows words item d s (fits_range follows d item h)
    ∙ pass (may_stand follows d item) (is_new_in d item) (has_room_in d item) (added n item d) p.there p.new p.room

-- an instruction's line has the form of one
pub instruction_form : (banks : ℕ) (words : List Word) (i : Instr) (t : Option Target) → banks ≤ 10
    → InstrFits banks i → WordsSpell words (AnInstruction i t) → is_instruction words ≡ true
instruction_form banks _ _ _ few h (Instruction i) = instruction_formed banks i few h
instruction_form banks _ _ _ few h (Jump word target s) = formed _ _ (jump_again 2 0 word target s)
instruction_form banks _ _ _ few h (Branch cmp ra rb word target s) =
    formed _ _ (branch_again 2 0 cmp ra rb word target h.0 h.1 s)
