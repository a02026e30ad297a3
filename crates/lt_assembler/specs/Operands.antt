-- For the proofs and for private clauses only: what the words of a line name, for the computing form. (This project's
-- profile.)
use Rattle.std.specs.Prelude.{ℕ, ◌-◌, nat_le, Bool, ◌&&◌, ◌||◌, ◌==◌, if◌then◌else◌, List, [], ◌∷◌, length, codes, find, Option, Some, None, option_map, option_and_then, bytes_eq}
use Rattle.std.specs.List.{list_all}
use Rattle.std.specs.Option.{option_or}
use Rattle.std.specs.Char.{is_ascii_digit}
use Rattle.std.specs.Str.Parse.{digits_value}
use Rattle.gr_word.specs.declared.operations.Op.{Op}
use Rattle.gr_word.specs.declared.operations.Cmp.{Cmp}
use Rattle.gr_word.specs.declared.operations.Cmp.TheVariants.{Eq}
use Rattle.gr_word.specs.declared.variables.Label.{Label}
use Rattle.gr_word.specs.declared.variables.Label.TheVariants.{Public, Secret}
use Rattle.gr_word.specs.declared.variables.Shape.{Shape}
use Rattle.gr_word.specs.declared.variables.Shape.TheVariants.{Scalar, Array}
use Rattle.lt_assembler.specs.declared.mnemonics.Mnemonic.{Mnemonic}
use Rattle.lt_isa.specs.Limits.{fewest_banks, most_banks}
use Rattle.lt_isa.specs.InstructionTable.{operations, comparisons, op_word, cmp_word, mnemonic_of}
use Rattle.lt_isa.specs.Ranges.{any_bank}
use Rattle.lt_assembler.specs.Words.{Word, label_word, shape_word}
use Rattle.lt_assembler.specs.Numbers.{begins_with, but_first, number_within}
use Rattle.lt_assembler.specs.declared.mnemonics.Mnemonic.TheVariants as mnemonic
use Rattle.lt_isa.specs.declared.instruction_table.Kind.TheVariants as kind

-- the first item that a word names
abbrev pub named : {X : Type 0} → (X → Word) → List X → Word → Option X
named word_of things word = find (λ x. bytes_eq (word_of x) word) things

unfoldable pub op_named : Word → Option Op
op_named word = named op_word operations word

unfoldable pub cmp_named : Word → Option Cmp
cmp_named word = named cmp_word comparisons word

unfoldable pub label_named : Word → Option Label
label_named word = named label_word (Public ∷ Secret ∷ []) word

unfoldable pub shape_named : Word → Option Shape
shape_named word = named shape_word (Scalar ∷ Array ∷ []) word

-- the first word of each instruction
abbrev pub mnemonic_word : Mnemonic → Word
mnemonic_word mnemonic.Nop = mnemonic_of kind.Nop
mnemonic_word mnemonic.Halt = mnemonic_of kind.Halt
mnemonic_word mnemonic.Li = mnemonic_of kind.Li
mnemonic_word mnemonic.Ldb = mnemonic_of kind.Ldb
mnemonic_word mnemonic.Stb = mnemonic_of kind.Stb
mnemonic_word mnemonic.Idb = mnemonic_of kind.Idb
mnemonic_word mnemonic.Ldw = mnemonic_of kind.Ldw
mnemonic_word mnemonic.Stw = mnemonic_of kind.Stw
mnemonic_word mnemonic.Jmp = mnemonic_of kind.Jmp
mnemonic_word mnemonic.Br = mnemonic_of (kind.Br Eq)
mnemonic_word (mnemonic.Alu op) = op_word op

abbrev pub mnemonics : List Mnemonic
mnemonics =
    mnemonic.Nop ∷ mnemonic.Halt ∷ mnemonic.Li ∷ mnemonic.Ldb ∷ mnemonic.Stb ∷ mnemonic.Idb
    ∷ mnemonic.Ldw ∷ mnemonic.Stw ∷ mnemonic.Jmp ∷ mnemonic.Br ∷ []

unfoldable pub mnemonic_named : Word → Option Mnemonic
mnemonic_named word = option_or (named mnemonic_word mnemonics word) (option_map mnemonic.Alu (op_named word))

-- a register, r0 to r31
unfoldable pub register_of : Word → Option ℕ
register_of word = if begins_with 114 word then number_within 0 31 (but_first word) else None

unfoldable pub slot_named : Word → Option ℕ
slot_named word = number_within 0 7 word

-- a bank as an operand: D, E, or O2 to O9
unfoldable pub bank_named : Word → Option ℕ
bank_named word =
    if bytes_eq word (codes "D") then Some 0
    else (if bytes_eq word (codes "E") then Some 1
    else (if begins_with 79 word then number_within fewest_banks (most_banks - 1) (but_first word) else None))

-- a mask: eight hexadecimal digits, in lower case
abbrev pub is_hex : ℕ → Bool
is_hex byte = is_ascii_digit byte || (nat_le 97 byte && nat_le byte 102)

unfoldable pub mask_of : Word → Option ℕ
mask_of word = if (length word == 8) && list_all is_hex word then Some (digits_value 16 word) else None

-- a note's claim about a slot, in an object with this number of banks
unfoldable pub claim_of : ℕ → Word → Option ℕ
claim_of banks word = if bytes_eq word (codes "-") then Some any_bank else number_within 0 (banks - 1) word

-- the claims about all slots
abbrev pub claims_of : ℕ → List Word → Option (List ℕ)
claims_of banks [] = Some []
claims_of banks (word ∷ words) =
    option_and_then (λ claim. option_map (λ claims. claim ∷ claims) (claims_of banks words)) (claim_of banks word)
