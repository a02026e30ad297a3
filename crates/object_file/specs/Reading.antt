-- Reading an object from left to right, up to the first error: the computing form of the first error. An error names
-- the place of the first byte of its field; `all` is the number of bytes of the whole file. (This project's profile.)
use Rattle.std.specs.Prelude.{◌≡◌, ◌≢◌, ℕ, zero, suc, ◌+◌, ◌-◌, ◌*◌, ◌^◌, max, Bool, ◌||◌, nat_lt, ◌==◌, if◌then◌else◌, List, [], ◌∷◌, ◌++◌, length, take, drop, Option, Some, None, Result, Ok, Err}
use Rattle.std.specs.Int.{w32, w64, cast_signed}
use Rattle.byteorder.specs.Endian.{little_number}
use Rattle.gr_base.specs.Results.{◌>>=◌}
use Rattle.lt_isa.specs.declared.profiles.Profile.{Profile}
use Rattle.lt_isa.specs.declared.profiles.BankSpec.{BankSpec}
use Rattle.lt_isa.specs.declared.symbols.Symbol.{Symbol}
use Rattle.lt_isa.specs.declared.symbols.Note.{Note}
use Rattle.lt_isa.specs.declared.instructions.Instr.{Instr}
use Rattle.lt_isa.specs.declared.instruction_table.Kind.{Kind}
use Rattle.lt_isa.specs.InstructionTable.{kind_named, limits_of, instruction_of}
use Rattle.lt_isa.specs.Object.{Parts}
use Rattle.lt_isa.specs.Limits.{fewest_banks, most_banks, least_block_log, most_block_log, most_cycles, most_taken, most_symbols, most_notes, most_instructions, most_latency, most_period, most_blocks}
use Rattle.lt_isa.specs.SymbolPlaces.{last_bank, blocks_in, first_free_word}
use Rattle.lt_isa.specs.Ranges.{next_place, is_slot_claim}
use Rattle.object_file.specs.declared.errors.DecodeError.{DecodeError}
use Rattle.object_file.specs.declared.errors.DecodeError.TheVariants.{Truncated, BadMagic, BadVersion, BadField, TrailingBytes, Memory}
use Rattle.object_file.specs.Spelling.{magic}
use Rattle.gr_base.specs.Lists.{is_within}
use Rattle.object_file.specs.FieldRules.{is_new_name, label_numbered, shape_numbered, most_length_behind}

-- The result of a function, after `view` was applied to its value, is the result of reading, unless memory ran out.
abbrev pub Fails : {Y : Type 0} → DecodeError → Result Y DecodeError → Type 0
Fails e read = e ≢ Memory → read ≡ Err e

abbrev pub Decodes : {X Y : Type 0} → (X → Y) → Result X DecodeError → Result Y DecodeError → Type 0
Decodes view (Ok x) read = read ≡ Ok (view x)
Decodes view (Err e) read = Fails e read

-- Reading yields a value and the bytes after it.
abbrev pub Read : Type 0 → Type 0
Read X = Result (X × List ℕ) DecodeError

-- the place of the first of the remaining bytes
abbrev pub place : ℕ → List ℕ → ℕ
place all bytes = all - length bytes

-- a number of n bytes
unfoldable pub number_at : ℕ → ℕ → List ℕ → Read ℕ
number_at n all bytes =
    if nat_lt (length bytes) n then Err (Truncated (place all bytes)) else Ok (little_number n bytes, drop n bytes)

-- a number of n bytes that is allowed
unfoldable pub field_at : ℕ → ℕ → (ℕ → Bool) → List ℕ → Read ℕ
field_at n all allowed bytes = do
  x ← number_at n all bytes
  if allowed x.0 then Ok x else Err (BadField (place all bytes))

-- n items, where reading each may depend on the items before it
unfoldable pub items_at : {X : Type 0} → (List X → List ℕ → Read X) → ℕ → List X → List ℕ → Read (List X)
items_at read zero before bytes = Ok (before, bytes)
items_at read (suc n) before bytes = do
  item ← read before bytes
  items_at read n (before ++ item.0 ∷ []) item.1

-- a number of items, and then the items
unfoldable pub list_at : {X : Type 0} → ℕ → ℕ → (ℕ → Bool) → (List X → List ℕ → Read X) → List ℕ → Read (List X)
list_at n all allowed read bytes = do
  count ← field_at n all allowed bytes
  items_at read count.0 [] count.1

unfoldable pub magic_at : ℕ → List ℕ → Result (List ℕ) DecodeError
magic_at all bytes = do
  x ← number_at 4 all bytes
  if x.0 == little_number 4 magic then Ok x.1 else Err BadMagic

-- The format has two versions.
unfoldable pub version_at : ℕ → List ℕ → Read ℕ
version_at all bytes = do
  x ← number_at 2 all bytes
  if (x.0 == 1) || (x.0 == 2) then Ok x else Err (BadVersion x.0)

-- the size of blocks and cycles of instructions, with memory that is always open
unfoldable pub cycles_at : ℕ → List ℕ → Read Profile
cycles_at all bytes = do
  block_log ← field_at 1 all (is_within least_block_log most_block_log) bytes
  alu ← field_at 1 all (is_within 1 most_cycles) block_log.1
  mul ← field_at 1 all (is_within 1 most_cycles) alu.1
  word ← field_at 1 all (is_within 1 most_cycles) mul.1
  taken ← field_at 1 all (is_within 1 most_taken) word.1
  Ok (
    record {
      block_log = block_log.0;
      alu = alu.0;
      mul = mul.0;
      word = word.0;
      taken = taken.0;
      period = 1;
      opens = 0;
      closes = 1;
    },
    taken.1,
  )

-- a profile with the window that is read
unfoldable pub window_at : ℕ → Profile → List ℕ → Read Profile
window_at all p bytes = do
  period ← field_at 4 all (is_within 2 most_period) bytes
  opens ← field_at 4 all (is_within 0 (period.0 - 1)) period.1
  closes ← field_at 4 all (is_within (opens.0 + 1) period.0) opens.1
  Ok (record p { period = period.0; opens = opens.0; closes = closes.0 }, closes.1)

-- the version and a profile; version 2 has a window
unfoldable pub profile_at : ℕ → List ℕ → Read Profile
profile_at all bytes = do
  version ← version_at all bytes
  cycles ← cycles_at all version.1
  if version.0 == 1 then Ok cycles else window_at all cycles.0 cycles.1

unfoldable pub bank_at : ℕ → List BankSpec → List ℕ → Read BankSpec
bank_at all before bytes = do
  blocks ← field_at 4 all (is_within 1 (most_blocks (length before))) bytes
  latency ← field_at 4 all (is_within 1 most_latency) blocks.1
  Ok (record { blocks = blocks.0; latency = latency.0 }, latency.1)

-- n bytes that are a new name
unfoldable pub name_bytes_at : ℕ → ℕ → List Symbol → List ℕ → Read (List ℕ)
name_bytes_at all n before bytes =
    if nat_lt (length bytes) n then Err (Truncated (place all bytes))
    else (if is_new_name before (take n bytes) then Ok (take n bytes, drop n bytes)
    else Err (BadField (place all bytes)))

unfoldable pub name_at : ℕ → List Symbol → List ℕ → Read (List ℕ)
name_at all before bytes = do
  n ← field_at 1 all (is_within 1 32) bytes
  name_bytes_at all n.0 before n.1

unfoldable pub symbol_at : ℕ → List BankSpec → ℕ → List Symbol → List ℕ → Read Symbol
symbol_at w banks all before bytes = do
  name ← name_at all before bytes
  label ← field_at 1 all (is_within 0 1) name.1
  shape ← field_at 1 all (is_within 0 1) label.1
  bank ← field_at 1 all (is_within (last_bank before) (length banks - 1)) shape.1
  block ← field_at 4 all (is_within 0 (blocks_in banks bank.0 - 1)) bank.1
  word ← field_at 2 all (is_within (first_free_word w before bank.0 block.0) (w - 1)) block.1
  length ←
      field_at 4 all
      (is_within 1 (most_length_behind w banks before (shape_numbered shape.0) bank.0 (block.0 * w + word.0))) word.1
  Ok (
    record {
      name = name.0;
      label = label_numbered label.0;
      shape = shape_numbered shape.0;
      bank = bank.0;
      block = block.0;
      word = word.0;
      length = length.0;
    },
    length.1,
  )

unfoldable pub slots_at : ℕ → ℕ → List ℕ → Read (List ℕ)
slots_at banks all bytes = items_at (λ before. field_at 1 all (is_slot_claim banks)) 8 [] bytes

unfoldable pub note_at : ℕ → ℕ → List Note → List ℕ → Read Note
note_at banks all before bytes = do
  pc ← field_at 4 all (is_within (next_place before) (2 ^ 32 - 1)) bytes
  secrets ← number_at 4 all pc.1
  slots ← slots_at banks all secrets.1
  Ok (record { pc = pc.0; secrets = secrets.0; slots = slots.0 }, slots.1)

-- the kind that an opcode names, or the error that it names none
abbrev pub known : ℕ → List ℕ → Option Kind → Read Kind
known at rest None = Err (BadField at)
known at rest (Some kind) = Ok (kind, rest)

unfoldable pub kind_at : ℕ → List ℕ → Read Kind
kind_at all bytes = do
  opcode ← number_at 1 all bytes
  known (place all bytes) opcode.1 (kind_named opcode.0)

unfoldable pub instruction_at : ℕ → ℕ → List ℕ → Read Instr
instruction_at banks all bytes = do
  kind ← kind_at all bytes
  a ← field_at 1 all (is_within 0 (limits_of banks kind.0).a) kind.1
  b ← field_at 1 all (is_within 0 (limits_of banks kind.0).b) a.1
  c ← field_at 1 all (is_within 0 (limits_of banks kind.0).c) b.1
  offset ← field_at 4 all (is_within 0 (limits_of banks kind.0).offset) c.1
  constant ← field_at 8 all (is_within 0 (limits_of banks kind.0).constant) offset.1
  Ok (
    instruction_of kind.0 (record {
      a = a.0;
      b = b.0;
      c = c.0;
      offset = cast_signed w32 offset.0;
      constant = cast_signed w64 constant.0;
    }),
    constant.1,
  )

unfoldable pub banks_at : ℕ → List ℕ → Read (List BankSpec)
banks_at all bytes = list_at 1 all (is_within fewest_banks most_banks) (bank_at all) bytes

unfoldable pub symbols_at : ℕ → List BankSpec → ℕ → List ℕ → Read (List Symbol)
symbols_at w banks all bytes = list_at 2 all (is_within 0 most_symbols) (symbol_at w banks all) bytes

unfoldable pub notes_at : ℕ → ℕ → List ℕ → Read (List Note)
notes_at banks all bytes = list_at 4 all (is_within 0 most_notes) (note_at banks all) bytes

unfoldable pub code_at : ℕ → ℕ → ℕ → List ℕ → Read (List Instr)
code_at banks fewest all bytes =
    list_at 4 all (is_within fewest most_instructions) (λ before. instruction_at banks all) bytes

-- the object, if no bytes are left
abbrev pub ended : ℕ → Parts → List ℕ → Result Parts DecodeError
ended all o rest = if length rest == 0 then Ok o else Err (TrailingBytes (place all rest))

-- the parts of an object, and the bytes after them
unfoldable pub parts_at : ℕ → List ℕ → Read Parts
parts_at all bytes = do
  behind_magic ← magic_at all bytes
  profile ← profile_at all behind_magic
  banks ← banks_at all profile.1
  symbols ← symbols_at (2 ^ profile.0.block_log) banks.0 all banks.1
  notes ← notes_at (length banks.0) all symbols.1
  code ← code_at (length banks.0) (max 1 (next_place notes.0)) all notes.1
  Ok (record { profile = profile.0; banks = banks.0; symbols = symbols.0; notes = notes.0; code = code.0 }, code.1)

unfoldable pub object_at : ℕ → List ℕ → Result Parts DecodeError
object_at all bytes = parts_at all bytes >>= (λ parts. ended all parts.0 parts.1)

-- the object that a file encodes, or the file's first error
unfoldable pub decoded : List ℕ → Result Parts DecodeError
decoded bytes = object_at (length bytes) bytes
