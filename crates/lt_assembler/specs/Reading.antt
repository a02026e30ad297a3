-- For the proofs and for private clauses only: reading a text line by line up to the first error, and what each line
-- adds to what was read before. This is the computing form of `LineRules` and `FirstFaults`; the law `first_fault`
-- connects them. (This project's profile.)
use Rattle.std.specs.Prelude.{ℕ, ◌+◌, ◌-◌, ◌*◌, ◌^◌, nat_le, nat_lt, ◌==◌, Bool, not, ◌&&◌, if◌then◌else◌, List, [], ◌∷◌, ◌++◌, length, take, codes, Option, Some, None, is_none, is_some, Result, Ok, Err, bytes_eq, slice_index}
use Rattle.std.specs.List.{list_all, list_any}
use Rattle.gr_word.specs.declared.variables.Label.{Label}
use Rattle.gr_word.specs.declared.variables.Shape.{Shape}
use Rattle.gr_word.specs.Names.{is_name}
use Rattle.lt_isa.specs.declared.profiles.Profile.{Profile}
use Rattle.lt_isa.specs.declared.profiles.BankSpec.{BankSpec}
use Rattle.lt_isa.specs.declared.symbols.Symbol.{Symbol}
use Rattle.lt_isa.specs.declared.symbols.Note.{Note}
use Rattle.lt_isa.specs.Limits.{least_block_log, most_block_log, most_cycles, most_taken, most_banks, most_blocks, most_latency, most_period, most_symbols, most_symbol_words, most_notes, most_instructions}
use Rattle.lt_isa.specs.SymbolPlaces.{last_bank, blocks_in, first_free_word, most_length}
use Rattle.lt_isa.specs.Ranges.{total_length}
use Rattle.lt_assembler.specs.declared.faults.Fault.{Fault}
use Rattle.lt_assembler.specs.declared.faults.Fault.TheVariants.{WrongForm, Number, RepeatedName, Limit}
use Rattle.lt_assembler.specs.declared.errors.AsmError.{AsmError}
use Rattle.lt_assembler.specs.declared.symbol_lines.Site.{Site}
use Rattle.lt_assembler.specs.Words.{Word}
use Rattle.lt_assembler.specs.Lines.{words, is_ascii_line}
use Rattle.lt_assembler.specs.Numbers.{number_within}
use Rattle.lt_assembler.specs.Operands.{label_named, shape_named, mask_of, claims_of}
use Rattle.gr_base.specs.Results.{◌>>=◌}
use Rattle.lt_assembler.specs.Faults.{form, number_or, unless_not, in_line}
use Rattle.lt_assembler.specs.Instructions.{Coded, instruction_read, is_instruction}
use Rattle.lt_assembler.specs.Drafts.{Use, Draft, place_of, with_label, takes_bank, takes_symbol, takes_code, is_noted}

-- the block size and cycles of instructions from five words, with memory that is always open
unfoldable pub cycles_read : (block_log alu mul word taken : Word) → Result Profile Fault
cycles_read block_log alu mul word taken = do
  block_log ← number_or (number_within least_block_log most_block_log block_log)
  alu ← number_or (number_within 1 most_cycles alu)
  mul ← number_or (number_within 1 most_cycles mul)
  word ← number_or (number_within 1 most_cycles word)
  taken ← number_or (number_within 1 most_taken taken)
  Ok (record {
    block_log = block_log;
    alu = alu;
    mul = mul;
    word = word;
    taken = taken;
    period = 1;
    opens = 0;
    closes = 1;
  })

-- the profile of these cycles, with the window in three words
unfoldable pub window_read : Result Profile Fault → (period opens closes : Word) → Result Profile Fault
window_read cycles period opens closes = do
  p ← cycles
  period ← number_or (number_within 2 most_period period)
  opens ← number_or (number_within 0 (period - 1) opens)
  closes ← number_or (number_within (opens + 1) period closes)
  Ok (record p { period = period; opens = opens; closes = closes })

-- a word is the number of this version
abbrev pub is_version : ℕ → Word → Bool
is_version version word = is_some (number_within version version word)

-- version 1 has no window
abbrev pub versioned_read : Word → Result Profile Fault → List Word → Result Profile Fault
versioned_read version cycles [] = do
  known ← unless_not Number (is_version 1 version)
  cycles
versioned_read version cycles (period ∷ opens ∷ closes ∷ []) = do
  known ← unless_not Number (is_version 2 version)
  window_read cycles period opens closes
versioned_read version cycles _ = Err WrongForm

unfoldable pub profile_read : List Word → Result Profile Fault
profile_read (version ∷ block_log ∷ alu ∷ mul ∷ word ∷ taken ∷ window) =
    versioned_read version (cycles_read block_log alu mul word taken) window
profile_read _ = Err WrongForm

unfoldable pub object_line : List Word → Draft → Result Draft Fault
object_line words d = do
  there ← unless_not WrongForm (is_none d.profile)
  profile ← profile_read words
  Ok (record d { profile = Some profile })

-- bank number `index`
abbrev pub bank_with : ℕ → (blocks latency : Word) → Result BankSpec Fault
bank_with index blocks latency = do
  blocks ← number_or (number_within 1 (most_blocks index) blocks)
  latency ← number_or (number_within 1 most_latency latency)
  Ok (record { blocks = blocks; latency = latency })

unfoldable pub bank_read : ℕ → List Word → Result BankSpec Fault
bank_read index (blocks ∷ latency ∷ []) = bank_with index blocks latency
bank_read index _ = Err WrongForm

unfoldable pub bank_line : List Word → Draft → Result Draft Fault
bank_line words d = do
  there ← unless_not WrongForm (takes_bank d)
  bank ← bank_read (length d.banks) words
  room ← unless_not Limit (nat_lt (length d.banks) most_banks)
  Ok (record d { banks = d.banks ++ bank ∷ [] })

-- the place of a symbol, from four words
abbrev pub site_at_read : ℕ → List BankSpec → List Symbol → Shape → (bank block word size : Word) → Result Site Fault
site_at_read w banks before shape bank block word size = do
  bank ← number_or (number_within (last_bank before) (length banks - 1) bank)
  block ← number_or (number_within 0 (blocks_in banks bank - 1) block)
  word ← number_or (number_within (first_free_word w before bank block) (w - 1) word)
  size ← number_or (number_within 1 (most_length w banks shape bank (block * w + word)) size)
  Ok (record { bank = bank; block = block; word = word; length = size })

unfoldable pub site_read : ℕ → List BankSpec → List Symbol → Shape → List Word → Result Site Fault
site_read w banks before shape (bank ∷ block ∷ word ∷ size ∷ []) =
    site_at_read w banks before shape bank block word size
site_read w banks before shape _ = Err WrongForm

abbrev pub four : List Word → Bool
four words = length words == 4

-- the symbol with this name at a place
abbrev pub symbol_at : Word → Label → Shape → Site → Symbol
symbol_at name label shape site = record {
  name = name;
  label = label;
  shape = shape;
  bank = site.bank;
  block = site.block;
  word = site.word;
  length = site.length;
}

-- the next symbol after those before, from its name, its label, its shape and the words after them, if a block has w
-- words
abbrev pub symbol_with : ℕ → List BankSpec → List Symbol → (name label shape : Word) → List Word → Result Symbol Fault
symbol_with w banks before name label shape site = do
  whole ← unless_not WrongForm (four site && is_name name)
  label ← form (label_named label)
  shape ← form (shape_named shape)
  site ← site_read w banks before shape site
  Ok (symbol_at name label shape site)

unfoldable pub symbol_read : ℕ → List BankSpec → List Symbol → List Word → Result Symbol Fault
symbol_read w banks before (name ∷ label ∷ shape ∷ site) = symbol_with w banks before name label shape site
symbol_read w banks before _ = Err WrongForm

-- the number of words of a block
abbrev pub width : Option Profile → ℕ
width None = 0
width (Some p) = 2 ^ p.block_log

-- no symbol has the name
unfoldable pub is_new : List Symbol → Word → Bool
is_new symbols name = list_all (λ s. not (bytes_eq s.name name)) symbols

-- room for one more symbol, and for its words
abbrev pub has_room : List Symbol → Symbol → Bool
has_room symbols symbol =
    nat_lt (length symbols) most_symbols && nat_le (total_length symbols + symbol.length) most_symbol_words

-- one more symbol, unless its name is repeated or there is no room for it
abbrev pub add_symbol : Symbol → Draft → Result Draft Fault
add_symbol symbol d = do
  new ← unless_not RepeatedName (is_new d.symbols symbol.name)
  room ← unless_not Limit (has_room d.symbols symbol)
  Ok (record d { symbols = d.symbols ++ symbol ∷ [] })

unfoldable pub symbol_line : List Word → Draft → Result Draft Fault
symbol_line words d = do
  there ← unless_not WrongForm (takes_symbol d)
  symbol ← symbol_read (width d.profile) d.banks d.symbols words
  add_symbol symbol d

-- a note at a place, in an object with this number of banks
unfoldable pub note_read : ℕ → ℕ → List Word → Result Note Fault
note_read banks place [] = Err WrongForm
note_read banks place (mask ∷ claims) = do
  whole ← unless_not WrongForm (length claims == 8)
  secrets ← form (mask_of mask)
  slots ← number_or (claims_of banks claims)
  Ok (record { pc = place; secrets = secrets; slots = slots })

-- one more note, if there is room for it
abbrev pub add_note : Note → Draft → Result Draft Fault
add_note note d = do
  room ← unless_not Limit (nat_lt (length d.notes) most_notes)
  Ok (record d { notes = d.notes ++ note ∷ [] })

-- A note needs an instruction after it, and is the only one there.
unfoldable pub note_line : Bool → List Word → Draft → Result Draft Fault
note_line follows words d = do
  there ← unless_not WrongForm (takes_code d && (not (is_noted d) && follows))
  note ← note_read (length d.banks) (length d.code) words
  add_note note d

-- the name before the ':' at the end of a word
unfoldable pub label_name : Word → Option Word
label_name word = if slice_index word (length word - 1) == 58 then Some (take (length word - 1) word) else None

unfoldable pub label_line : Word → List Word → Draft → Result Draft Fault
label_line name words d = do
  there ← unless_not WrongForm (takes_code d && (is_name name && (length words == 0)))
  new ← unless_not RepeatedName (is_none (place_of d.labels name))
  Ok (record d { labels = with_label name (length d.code) d.labels })

-- the use of a label, if there is one
abbrev pub uses_of : ℕ → ℕ → Option Word → List Use
uses_of place n None = []
uses_of place n (Some name) = record { name = name; place = place; line = n } ∷ []

abbrev pub with_code : ℕ → Coded → Draft → Draft
with_code n coded d =
    record d { code = d.code ++ coded.instr ∷ []; uses = d.uses ++ uses_of (length d.code) n coded.label }

-- the instruction of line n, if there is room for it
abbrev pub add_code : ℕ → Coded → Draft → Result Draft Fault
add_code n coded d = do
  room ← unless_not Limit (nat_lt (length d.code) most_instructions)
  Ok (with_code n coded d)

unfoldable pub code_line : ℕ → List Word → Draft → Result Draft Fault
code_line n words d = do
  there ← unless_not WrongForm (takes_code d)
  coded ← instruction_read (length d.banks) (length d.code) words
  add_code n coded d

-- a label's line, or an instruction
abbrev pub label_or_code : ℕ → Option Word → Word → List Word → Draft → Result Draft Fault
label_or_code n (Some name) word words d = label_line name words d
label_or_code n None word words d = code_line n (word ∷ words) d

-- line n, by its first word; `follows` means that an instruction follows
unfoldable pub by_first_word : ℕ → Bool → List Word → Draft → Result Draft Fault
by_first_word n follows [] d = Ok d
by_first_word n follows (word ∷ words) d =
    if bytes_eq word (codes ".object") then object_line words d
    else (if bytes_eq word (codes ".bank") then bank_line words d
    else (if bytes_eq word (codes ".symbol") then symbol_line words d
    else (if bytes_eq word (codes ".note") then note_line follows words d
    else label_or_code n (label_name word) word words d)))

unfoldable pub line_read : ℕ → Bool → List ℕ → Draft → Result Draft Fault
line_read n follows line d = if is_ascii_line line then by_first_word n follows (words line) d else Err WrongForm

unfoldable pub is_instruction_line : List ℕ → Bool
is_instruction_line line = is_ascii_line line && is_instruction (words line)

-- some line has the form of an instruction
abbrev pub instruction_follows : List (List ℕ) → Bool
instruction_follows lines = list_any is_instruction_line lines

-- lines from number n on
unfoldable pub read_lines : ℕ → List (List ℕ) → Draft → Result Draft AsmError
read_lines n [] d = Ok d
read_lines n (line ∷ rest) d = in_line n (line_read n (instruction_follows rest) line d) >>= read_lines (n + 1) rest
