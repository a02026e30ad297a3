-- Whether two trees are equal as they are written: nothing is calculated (this project's profile).
use Rattle.std.specs.Prelude.{Bool, true, false, ◌&&◌, ◌==◌}
use Rattle.std.specs.Ordering.{int_eq}
use Rattle.gr_word.specs.declared.operations.Op.{Op}
use Rattle.gr_word.specs.declared.operations.Op.TheVariants.{Add, Sub, Mul, Div, Rem, Remu, And, Or, Xor, Shl, Shr}
use Rattle.symbolic_values.specs.Trees.{Value, Const, Reg, SlotAt, SlotWord, MemWord, Apply}

unfoldable pub same_op : Op → Op → Bool
same_op Add Add = true
same_op Sub Sub = true
same_op Mul Mul = true
same_op Div Div = true
same_op Rem Rem = true
same_op Remu Remu = true
same_op And And = true
same_op Or Or = true
same_op Xor Xor = true
same_op Shl Shl = true
same_op Shr Shr = true
same_op _ _ = false

unfoldable pub same_tree : Value → Value → Bool
same_tree (Const a) (Const b) = int_eq a b
same_tree (Reg a) (Reg b) = a == b
same_tree (SlotAt a) (SlotAt b) = a == b
same_tree (SlotWord k a) (SlotWord l b) = (k == l) && same_tree a b
same_tree (MemWord a i) (MemWord b j) = same_tree a b && same_tree i j
same_tree (Apply op a b) (Apply oq c d) = same_op op oq && (same_tree a c && same_tree b d)
same_tree _ _ = false
