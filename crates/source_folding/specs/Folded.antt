-- A program with cheaper expressions. An operation on two numbers is the number that results; a product by a power of
-- two is a shift; the number of any other product is written on the right; and an unsigned remainder by a power of two
-- is what a mask leaves. An expression with a variable in it never becomes a number, so it keeps its label. (This
-- project's compiler.)
use Rattle.std.specs.Prelude.{ℕ, ◌-◌, ◌^◌, ◌==◌, Bool, true, false, if◌then◌else◌, ℤ, pos, find, Option, Some, None}
use Rattle.std.specs.Int.{w64, cast_signed}
use Rattle.std.specs.List.{range_with_len}
use Rattle.gr_word.specs.Words.{applied, unsigned_of}
use Rattle.gr_word.specs.declared.operations.Op.{Op}
use Rattle.gr_word.specs.declared.operations.Op.TheVariants.{Add, Sub, Mul, Div, Rem, Remu, And, Or, Xor, Shl, Shr}
use Rattle.src_tree.specs.Trees.{Tree, Number, Variable, Element, Operation, Test, Statement, SetVariable, SetElement, Choice, Loop, Block, Nothing, Then, Source}

-- the number that an expression is
abbrev pub number_of : Tree → Option ℤ
number_of (Number z) = Some z
number_of other = None

-- whether an operation is a product, of which a number on the left is written on the right; and whether it is an
-- unsigned remainder
abbrev pub is_product : Op → Bool
is_product Mul = true
is_product other = false

abbrev pub is_remainder : Op → Bool
is_remainder Remu = true
is_remainder other = false

-- k, for a number 2^k below 2^63
unfoldable pub power_of : ℕ → Option ℕ
power_of n = find (λ k. 2 ^ k == n) (range_with_len 0 63)

-- the mask for a remainder by a power of two
abbrev pub mask_of : ℤ → ℤ
mask_of z = cast_signed w64 (unsigned_of z - 1)

-- an operation with a number on its right, which may be a power of two
abbrev pub by_power : Op → Tree → ℤ → Tree → Option ℕ → Tree
by_power op a z b None = Operation op a b
by_power op a z b (Some k) =
    if is_product op then Operation Shl a (Number (pos k))
    else (if is_remainder op then Operation And a (Number (mask_of z)) else Operation op a b)

abbrev pub by_right : Op → Tree → ℤ → Tree → Tree
by_right op a z b = by_power op a z b (power_of (unsigned_of z))

-- and with a number on its left
abbrev pub by_left : Op → Tree → ℤ → Tree → Tree
by_left op a y b = if is_product op then by_right op b y a else Operation op a b

-- an operation on two expressions, each of which may be a number
abbrev pub by_numbers : Op → Tree → Tree → Option ℤ → Option ℤ → Tree
by_numbers op a b (Some y) (Some z) = Number (applied op y z)
by_numbers op a b (Some y) None = by_left op a y b
by_numbers op a b None (Some z) = by_right op a z b
by_numbers op a b None None = Operation op a b

abbrev pub operation : Op → Tree → Tree → Tree
operation op a b = by_numbers op a b (number_of a) (number_of b)

abbrev pub folded : Tree → Tree
folded (Number z) = Number z
folded (Variable x) = Variable x
folded (Element x i) = Element x (folded i)
folded (Operation op a b) = operation op (folded a) (folded b)

abbrev pub folded_test : Test → Test
folded_test t = record { cmp = t.cmp; left = folded t.left; right = folded t.right }

abbrev mutual
  pub folded_statement : Statement → Statement
  folded_statement (SetVariable x e) = SetVariable x (folded e)
  folded_statement (SetElement x i e) = SetElement x (folded i) (folded e)
  folded_statement (Choice t a b) = Choice (folded_test t) (folded_block a) (folded_block b)
  folded_statement (Loop t a) = Loop (folded_test t) (folded_block a)

  pub folded_block : Block → Block
  folded_block Nothing = Nothing
  folded_block (Then s rest) = Then (folded_statement s) (folded_block rest)

abbrev pub folded_source : Source → Source
folded_source p = record { decls = p.decls; body = folded_block p.body }
