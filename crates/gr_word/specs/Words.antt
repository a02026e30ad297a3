-- Words, and the operations on them. A word is a number from -2^63 to 2^63 - 1, 64-bit two's complement. Division and
-- remainders follow the M extension of RISC-V; the rest is two's complement arithmetic.
use Rattle.std.specs.Prelude.{ℕ, ◌%◌, Bool, not, if◌then◌else◌, ◌==◌, ℤ, negsuc, ◌+ℤ◌, ◌-ℤ◌, ◌*ℤ◌, int_rem, int_lt, int_le, FitsSigned}
use Rattle.std.specs.Int.{w64, int_wrap, int_wrapping_div, int_bit_and, int_bit_or, int_bit_xor, int_shl, int_shr, cast_unsigned, cast_signed}
use Rattle.gr_word.specs.declared.operations.Op.{Op}
use Rattle.gr_word.specs.declared.operations.Op.TheVariants.{Add, Sub, Mul, Div, Rem, Remu, And, Or, Xor, Shl, Shr}
use Rattle.gr_word.specs.declared.operations.Cmp.{Cmp}
use Rattle.gr_word.specs.declared.operations.Cmp.TheVariants.{Eq, Ne, Lt, Le, Gt, Ge}

-- the unsigned value of a word
abbrev pub unsigned_of : ℤ → ℕ
unsigned_of word = cast_unsigned w64 word

-- the word is 0
abbrev pub is_zero : ℤ → Bool
is_zero word = unsigned_of word == 0

-- one number if the divisor isn't 0, another if it is
-- Rules: meaning/division-by-zero, meaning/remainder-by-zero.
abbrev pub unless_zero : ℤ → ℤ → ℤ → ℤ
unless_zero divisor otherwise at_zero = if is_zero divisor then at_zero else otherwise

-- the result of an operation
-- Rules: step/alu, step/mul, meaning/sum, meaning/quotient, meaning/least-quotient, meaning/remainder, meaning/bits,
-- meaning/shift-count, meaning/shift-right.
abbrev pub applied : Op → ℤ → ℤ → ℤ
applied Add a b = int_wrap w64 (a +ℤ b)
applied Sub a b = int_wrap w64 (a -ℤ b)
applied Mul a b = int_wrap w64 (a *ℤ b)
applied Div a b = unless_zero b (int_wrapping_div w64 a b) (negsuc 0)
applied Rem a b = unless_zero b (int_rem a b) a
applied Remu a b = unless_zero b (cast_signed w64 (unsigned_of a % unsigned_of b)) a
applied And a b = int_bit_and w64 a b
applied Or a b = int_bit_or w64 a b
applied Xor a b = int_bit_xor w64 a b
applied Shl a b = int_shl w64 a (unsigned_of b % 64)
applied Shr a b = int_shr a (unsigned_of b % 64)

-- whether a comparison is true
abbrev pub compared : Cmp → ℤ → ℤ → Bool
compared Eq a b = unsigned_of a == unsigned_of b
compared Ne a b = not (unsigned_of a == unsigned_of b)
compared Lt a b = int_lt a b
compared Le a b = int_le a b
compared Gt a b = int_lt b a
compared Ge a b = int_le b a

-- a number that is a word
abbrev pub IsWord : ℤ → Type 0
IsWord z = FitsSigned w64 z
