-- `a >>> b` in the machine's operations: `(a >> b) & mask`. The mask has the bits into which no copy of the sign is
-- shifted: it is the complement of `(-2^63 >> b) << 1`. (A pass of this project's compiler of modules.)
use Rattle.std.specs.Prelude.{pos, negsuc}
use Rattle.gr_word.specs.declared.operations.Op.TheVariants.{And, Xor, Shl, Shr}
use Rattle.module_tree.specs.Operators.{Machine}
use Rattle.flat_tree.specs.Trees.{Term, Number, Operation}

-- the word -2^63, which has only the sign's bit
abbrev pub sign_bit : Term
sign_bit = Number (negsuc 9223372036854775807)

abbrev pub shift_mask : Term → Term
shift_mask b =
    Operation (Machine Xor)
    (Operation (Machine Shl) (Operation (Machine Shr) sign_bit b) (Number (pos 1))) (Number (negsuc 0))

abbrev pub shifted : Term → Term → Term
shifted a b = Operation (Machine And) (Operation (Machine Shr) a b) (shift_mask b)
