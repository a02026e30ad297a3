-- The operators of modules on two words: the machine's operations, `>>>`, comparisons, `&&` and `||`. Both operands are
-- always evaluated. (The language of modules is this project's own.)
use Rattle.std.specs.Prelude.{ℤ, pos, ◌-◌, ◌%◌, ◌^◌, ◌&&◌, ◌||◌, Bool, if◌then◌else◌}
use Rattle.std.specs.Int.{w64, cast_signed}
use Rattle.gr_word.specs.Words.{applied, compared, unsigned_of}
use Rattle.gr_word.specs.declared.operations.Op.{Op}
use Rattle.gr_word.specs.declared.operations.Op.TheVariants.{Shr}
use Rattle.gr_word.specs.declared.operations.Cmp.{Cmp}
use Rattle.gr_word.specs.declared.operations.Cmp.TheVariants.{Ne}

pub data Operator : Type 0 where
  Machine : (op : Op) → Operator
  LogicalShift : Operator
  Compare : (cmp : Cmp) → Operator
  Conjunction : Operator
  Disjunction : Operator

-- A word is true if it isn't 0. A comparison, `&&` and `||` return 1 or 0.
abbrev pub is_true : ℤ → Bool
is_true word = compared Ne word (pos 0)

abbrev pub bit : Bool → ℤ
bit b = if b then pos 1 else pos 0

-- `a >>> b` is `a >> b` with zeros in place of the copies of the sign. The count is taken modulo 64.
abbrev pub shifted_logically : ℤ → ℤ → ℤ
shifted_logically a b = cast_signed w64 (unsigned_of (applied Shr a b) % 2 ^ (64 - unsigned_of b % 64))

-- the result of an operator
abbrev pub result : Operator → ℤ → ℤ → ℤ
result (Machine op) a b = applied op a b
result LogicalShift a b = shifted_logically a b
result (Compare cmp) a b = bit (compared cmp a b)
result Conjunction a b = bit (is_true a && is_true b)
result Disjunction a b = bit (is_true a || is_true b)
