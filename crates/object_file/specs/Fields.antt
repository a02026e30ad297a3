-- The fields of an object file in order: how many bytes each has, what is allowed in it, and what is reported if
-- something else is there. Which fields follow depends on the contents of those before. (This project's profile.)
use Rattle.std.specs.Prelude.{ℕ, zero, suc, ◌+◌, ◌-◌, ◌*◌, ◌^◌, max, Bool, true, ◌||◌, ◌==◌, if◌then◌else◌, List, [], ◌∷◌, ◌++◌, length, is_some}
use Rattle.std.specs.Option.{unwrap_or}
use Rattle.std.specs.Int.{w32, w64, cast_signed}
use Rattle.byteorder.specs.Endian.{little_number}
use Rattle.lt_isa.specs.declared.profiles.Profile.{Profile}
use Rattle.lt_isa.specs.declared.profiles.BankSpec.{BankSpec}
use Rattle.lt_isa.specs.declared.symbols.Symbol.{Symbol}
use Rattle.lt_isa.specs.declared.symbols.Note.{Note}
use Rattle.lt_isa.specs.declared.instructions.Instr.{Instr}
use Rattle.lt_isa.specs.declared.instruction_table.Kind.{Kind}
use Rattle.lt_isa.specs.declared.instruction_table.Kind.TheVariants.{Nop}
use Rattle.lt_isa.specs.InstructionTable.{kind_named, limits_of, instruction_of}
use Rattle.lt_isa.specs.Object.{Parts}
use Rattle.lt_isa.specs.Limits.{fewest_banks, most_banks, least_block_log, most_block_log, most_cycles, most_taken, most_symbols, most_notes, most_instructions, most_latency, most_period, most_blocks}
use Rattle.lt_isa.specs.SymbolPlaces.{last_bank, blocks_in, first_free_word}
use Rattle.lt_isa.specs.Ranges.{next_place, is_slot_claim}
use Rattle.object_file.specs.Spelling.{magic}
use Rattle.gr_base.specs.Lists.{is_within}
use Rattle.object_file.specs.FieldRules.{is_new_name, label_numbered, shape_numbered, most_length_behind}

-- what is reported of a field that isn't allowed: that the file isn't an object, its version, or the field's place
pub data Telling : Type 0 where
  NoObject : Telling
  Version : Telling
  Place : Telling

pub record Field : Type 0 where
  pub size : ℕ
  pub allowed : List ℕ → Bool
  pub telling : Telling

-- fields in order: none are left, and the value of those before is this; or there is a field, and its contents
-- determine the fields after it
pub data Fields (X : Type 0) : Type 0 where
  NoField : X → Fields X
  FieldThen : (field : Field) → (next : List ℕ → Fields X) → Fields X

-- some fields, and then others that depend on their value
unfoldable pub followed : {X Y : Type 0} → Fields X → (X → Fields Y) → Fields Y
followed (NoField x) others = others x
followed (FieldThen field next) others = FieldThen field (λ text. followed (next text) others)

infixl 10 ◌>>=◌
abbrev pub ◌>>=◌ : {X Y : Type 0} → Fields X → (X → Fields Y) → Fields Y
fields >>= others = followed fields others

-- a number of n bytes
abbrev pub number_told : Telling → ℕ → (ℕ → Bool) → Fields ℕ
number_told telling n allowed =
    FieldThen (record { size = n; allowed = λ text. allowed (little_number n text); telling = telling })
    (λ text. NoField (little_number n text))

abbrev pub number_field : ℕ → (ℕ → Bool) → Fields ℕ
number_field n allowed = number_told Place n allowed

-- n items, where the fields of each may depend on the items before it
unfoldable pub items_fields : {X : Type 0} → (List X → Fields X) → ℕ → List X → Fields (List X)
items_fields item zero before = NoField before
items_fields item (suc n) before = do
  x ← item before
  items_fields item n (before ++ x ∷ [])

-- the number of items, and then the items
unfoldable pub list_fields : {X : Type 0} → ℕ → (ℕ → Bool) → (List X → Fields X) → Fields (List X)
list_fields n allowed item = do
  count ← number_field n allowed
  items_fields item count []

-- Rule: object/magic.
unfoldable pub magic_field : Fields ℕ
magic_field = number_told NoObject 4 (λ n. n == little_number 4 magic)

-- The format has two versions.
-- Rule: object/version.
unfoldable pub version_field : Fields ℕ
version_field = number_told Version 2 (λ n. (n == 1) || (n == 2))

-- the size of blocks and cycles of instructions, with memory that is always open
-- Rules: object/block-log, object/cycles, object/taken.
unfoldable pub cycles_fields : Fields Profile
cycles_fields = do
  block_log ← number_field 1 (is_within least_block_log most_block_log)
  alu ← number_field 1 (is_within 1 most_cycles)
  mul ← number_field 1 (is_within 1 most_cycles)
  word ← number_field 1 (is_within 1 most_cycles)
  taken ← number_field 1 (is_within 1 most_taken)
  NoField (record {
    block_log = block_log;
    alu = alu;
    mul = mul;
    word = word;
    taken = taken;
    period = 1;
    opens = 0;
    closes = 1;
  })

-- the window of a profile
-- Rules: object/period, object/open, object/close.
unfoldable pub window_fields : Profile → Fields Profile
window_fields p = do
  period ← number_field 4 (is_within 2 most_period)
  opens ← number_field 4 (is_within 0 (period - 1))
  closes ← number_field 4 (is_within (opens + 1) period)
  NoField (record p { period = period; opens = opens; closes = closes })

-- the version and a profile; version 2 has a window
unfoldable pub profile_fields : Fields Profile
profile_fields = do
  version ← version_field
  cycles ← cycles_fields
  if version == 1 then NoField cycles else window_fields cycles

-- Rules: object/blocks, object/latency.
unfoldable pub bank_fields : List BankSpec → Fields BankSpec
bank_fields before = do
  blocks ← number_field 4 (is_within 1 (most_blocks (length before)))
  latency ← number_field 4 (is_within 1 most_latency)
  NoField (record { blocks = blocks; latency = latency })

-- a length and as many bytes, which are a name that no earlier symbol has
-- Rules: object/name-length, object/name.
unfoldable pub name_fields : List Symbol → Fields (List ℕ)
name_fields before = do
  n ← number_field 1 (is_within 1 32)
  FieldThen (record { size = n; allowed = is_new_name before; telling = Place }) NoField

-- Rules: object/label, object/shape, object/bank, object/first-block, object/first-word, object/length.
unfoldable pub symbol_fields : ℕ → List BankSpec → List Symbol → Fields Symbol
symbol_fields w banks before = do
  name ← name_fields before
  label ← number_field 1 (is_within 0 1)
  shape ← number_field 1 (is_within 0 1)
  bank ← number_field 1 (is_within (last_bank before) (length banks - 1))
  block ← number_field 4 (is_within 0 (blocks_in banks bank - 1))
  word ← number_field 2 (is_within (first_free_word w before bank block) (w - 1))
  length ← number_field 4 (is_within 1 (most_length_behind w banks before (shape_numbered shape) bank
      (block * w + word)))
  NoField (record {
    name = name;
    label = label_numbered label;
    shape = shape_numbered shape;
    bank = bank;
    block = block;
    word = word;
    length = length;
  })

-- Rules: object/note-place, object/note-secrets, object/note-slots.
unfoldable pub note_fields : ℕ → List Note → Fields Note
note_fields banks before = do
  pc ← number_field 4 (is_within (next_place before) (2 ^ 32 - 1))
  secrets ← number_field 4 (λ any. true)
  slots ← items_fields (λ earlier. number_field 1 (is_slot_claim banks)) 8 []
  NoField (record { pc = pc; secrets = secrets; slots = slots })

-- the operands of a kind of instruction; a field that isn't used is 0
-- Rule: object/unused-field.
unfoldable pub operand_fields : ℕ → Kind → Fields Instr
operand_fields banks kind = do
  a ← number_field 1 (is_within 0 (limits_of banks kind).a)
  b ← number_field 1 (is_within 0 (limits_of banks kind).b)
  c ← number_field 1 (is_within 0 (limits_of banks kind).c)
  offset ← number_field 4 (is_within 0 (limits_of banks kind).offset)
  constant ← number_field 8 (is_within 0 (limits_of banks kind).constant)
  NoField (instruction_of kind
      (record { a = a; b = b; c = c; offset = cast_signed w32 offset; constant = cast_signed w64 constant }))

-- an opcode that names a kind of instruction, and then the operands
-- Rule: object/instruction.
unfoldable pub instruction_fields : ℕ → Fields Instr
instruction_fields banks = do
  opcode ← number_field 1 (λ n. is_some (kind_named n))
  operand_fields banks (unwrap_or (kind_named opcode) Nop)

-- the whole file; the code extends past the place of the last note
-- Rules: object/banks, object/symbols, object/notes, object/instructions.
unfoldable pub object_fields : Fields Parts
object_fields = do
  begins ← magic_field
  profile ← profile_fields
  banks ← list_fields 1 (is_within fewest_banks most_banks) bank_fields
  symbols ← list_fields 2 (is_within 0 most_symbols) (symbol_fields (2 ^ profile.block_log) banks)
  notes ← list_fields 4 (is_within 0 most_notes) (note_fields (length banks))
  code ←
      list_fields 4 (is_within (max 1 (next_place notes)) most_instructions)
      (λ before. instruction_fields (length banks))
  NoField (record { profile = profile; banks = banks; symbols = symbols; notes = notes; code = code })
