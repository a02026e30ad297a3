-- Nodes are equal exactly if they compare as equal.
use Rattle.std.proofs.Common.{◌≡◌, true, rules}
use denote.Enum.Bare.{same_true}
use Rattle.std.proofs.lemmas.Bool.{false≢true}
use Rattle.gr_word.specs.declared.operations.Op.{Op}
use Rattle.gr_word.specs.contracts.operations.Op.{the_type}
use Rattle.gr_word.specs.contracts.operations.OpPartialEq.TheImpl.{ghosts as operations}
use Rattle.symbolic_values.specs.declared.nodes.Node.{Node}
use Rattle.symbolic_values.specs.declared.nodes.Node.TheVariants.{Const, Reg, SlotAt, SlotWord, MemWord, Apply}
use Rattle.symbolic_values.specs.contracts.nodes.NodePartialEq.TheImpl.{ghosts}

same_op : (op oq : Op) → operations.eq op oq ≡ true → op ≡ oq
same_op op oq e = same_true the_type (search rules) op oq e

-- nodes that the derived test finds equal are equal
pub same_node : (m n : Node) → ghosts.eq m n ≡ true → m ≡ n
same_node (Const a) (Const b) e = grind rules
same_node (Reg a) (Reg b) e = grind rules
same_node (SlotAt a) (SlotAt b) e = grind rules
same_node (SlotWord a k) (SlotWord b j) e = grind rules
same_node (MemWord a k) (MemWord b j) e = grind rules
same_node (Apply op a b) (Apply oq c d) e = grind (rules, same_op)
same_node m n e = absurd (false≢true e)
