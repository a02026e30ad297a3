-- The steps that replace an operation with a constant: a product by a number of few bits, and quotients and remainders
-- by powers of two. (This project's own choice.)
use Rattle.std.specs.Prelude.{ℕ, ◌-◌, ◌^◌, Bool, ◌==◌, nat_le, nat_lt, if◌then◌else◌, ℤ, pos, negsuc, List, [], ◌∷◌, ◌++◌, length, Option, Some, None}
use Rattle.std.specs.Option.{option_map}
use Rattle.std.specs.List.{filter, range_with_len}
use Rattle.std.specs.Int.{bit_at}
use Rattle.gr_word.specs.Words.{unsigned_of}
use Rattle.gr_word.specs.declared.operations.Op.{Op}
use Rattle.gr_word.specs.declared.operations.Op.TheVariants.{Add, Sub, Mul, Div, Rem, Remu, And, Or, Xor, Shl, Shr}
use Rattle.strength_reduction.specs.Steps.{Step, Constant, Compute}

-- the positions of the bits of a word that are 1, from the lowest up
unfoldable pub set_bits : ℤ → List ℕ
set_bits word = filter (λ k. bit_at (unsigned_of word) k == 1) (range_with_len 0 64)

-- The result is 0, but depends on the value: the check must not take 0 times a secret for a public number.
abbrev pub zero_steps : List Step
zero_steps = Compute Xor 0 0 0 ∷ []

-- where a sum is left: in register 0 if no bit follows, and otherwise in register 1
abbrev pub sum_register : List ℕ → ℕ
sum_register [] = 0
sum_register (k ∷ bits) = 1

-- adds the value times 2^k to a sum
abbrev pub term_steps : ℕ → ℕ → ℕ → List Step
term_steps result sum k = Constant 2 (pos k) ∷ Compute Shl 2 0 2 ∷ Compute Add result sum 2 ∷ []

-- adds the value times 2^k, for each of some bits k, to the sum that a register has
abbrev pub sum_steps : ℕ → List ℕ → List Step
sum_steps sum [] = []
sum_steps sum (k ∷ bits) = term_steps (sum_register bits) sum k ++ sum_steps 1 bits

-- the same, where the first term is the value times 2^k
abbrev pub shifted_steps : ℕ → List ℕ → List Step
shifted_steps k bits = Constant 2 (pos k) ∷ Compute Shl (sum_register bits) 0 2 ∷ sum_steps 1 bits

-- a product by a number that has these bits
abbrev pub product_steps : List ℕ → List Step
product_steps [] = zero_steps
product_steps (k ∷ bits) = if k == 0 then sum_steps 0 bits else shifted_steps k bits

-- 2^k - 1, whose lowest k bits are 1
abbrev pub low_bits : ℕ → ℤ
low_bits k = pos (2 ^ k - 1)

-- Register 1 becomes 2^k - 1 if the value is negative and 0 otherwise, and register 2 becomes 2^k - 1. A quotient is
-- rounded towards 0 and a shift towards below, so this is added to the value.
abbrev pub rounding_steps : ℕ → List Step → List Step
rounding_steps k steps =
    Constant 1 (pos 63)
    ∷ Compute Shr 1 0 1
    ∷ Constant 2 (low_bits k)
    ∷ Compute And 1 1 2
    ∷ Compute Add 0 0 1
    ∷ steps

-- a quotient by 2^k
abbrev pub quotient_steps : ℕ → List Step
quotient_steps k =
    if k == 0 then [] else rounding_steps k (Constant 2 (pos k) ∷ Compute Shr 0 0 2 ∷ [])

-- a remainder by 2^k, which has the sign of the value
abbrev pub remainder_steps : ℕ → List Step
remainder_steps k =
    if k == 0 then zero_steps else rounding_steps k (Compute And 0 0 2 ∷ Compute Sub 0 0 1 ∷ [])

-- a remainder of unsigned words by 2^k
abbrev pub mask_steps : ℕ → List Step
mask_steps k = if k == 0 then zero_steps else (Constant 1 (low_bits k) ∷ Compute And 0 0 1 ∷ [])

-- k if the only bit is bit k and isn't the sign: then the number is 2^k
abbrev pub power_of : List ℕ → Option ℕ
power_of [] = None
power_of (k ∷ []) = if nat_le k 62 then Some k else None
power_of (k ∷ l ∷ bits) = None

-- the steps for the bits of a number
abbrev pub steps_by_bits : Op → List ℕ → Option (List Step)
steps_by_bits Mul bits = if nat_le (length bits) 8 then Some (product_steps bits) else None
steps_by_bits Div bits = option_map quotient_steps (power_of bits)
steps_by_bits Rem bits = option_map remainder_steps (power_of bits)
steps_by_bits Remu bits = option_map mask_steps (power_of bits)
steps_by_bits other bits = None

-- whether a number is a word
abbrev pub is_word : ℤ → Bool
is_word (pos n) = nat_lt n (2 ^ 63)
is_word (negsuc n) = nat_lt n (2 ^ 63)

-- the steps that replace an operation with a constant, if there are any; none replace it if the number isn't a word
unfoldable pub steps_by_number : Op → ℤ → Option (List Step)
steps_by_number op number = if is_word number then steps_by_bits op (set_bits number) else None
