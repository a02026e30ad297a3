-- How the words of assembly text are written (this project's profile).
use Rattle.std.specs.Prelude.{ℕ, zero, suc, ◌+◌, ◌/◌, ◌%◌, nat_lt, ◌==◌, if◌then◌else◌, ℤ, pos, negsuc, List, [], ◌∷◌, ◌++◌, codes, decimal}
use Rattle.gr_word.specs.declared.variables.Label.{Label}
use Rattle.gr_word.specs.declared.variables.Label.TheVariants.{Public, Secret}
use Rattle.gr_word.specs.declared.variables.Shape.{Shape}
use Rattle.gr_word.specs.declared.variables.Shape.TheVariants.{Scalar, Array}
use Rattle.lt_isa.specs.Ranges.{any_bank}

abbrev pub Word : Type 0
Word = List ℕ

abbrev pub label_word : Label → Word
label_word Public = codes "public"
label_word Secret = codes "secret"

abbrev pub shape_word : Shape → Word
shape_word Scalar = codes "scalar"
shape_word Array = codes "array"

-- r0 to r31
abbrev pub register_word : ℕ → Word
register_word r = codes "r" ++ decimal r

-- D and E are plain and encrypted memory; oblivious banks are O2 to O9.
abbrev pub bank_word : ℕ → Word
bank_word b = if b == 0 then codes "D" else (if b == 1 then codes "E" else codes "O" ++ decimal b)

-- a note's claim about a slot: a bank's number, or '-' for any bank or none
abbrev pub claim_word : ℕ → Word
claim_word claim = if claim == any_bank then codes "-" else decimal claim

-- a hexadecimal digit, in lower case
abbrev pub hex_digit : ℕ → ℕ
hex_digit n = if nat_lt n 10 then 48 + n else 87 + n

-- the lowest k hexadecimal digits of a number
unfoldable pub hex_word : ℕ → ℕ → Word
hex_word zero n = []
hex_word (suc k) n = hex_word k (n / 16) ++ hex_digit (n % 16) ∷ []

-- an offset always has a sign, even 0
abbrev pub offset_word : ℤ → Word
offset_word (pos n) = codes "+" ++ decimal n
offset_word (negsuc n) = codes "-" ++ decimal (suc n)
