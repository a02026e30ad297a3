-- The test of trees decides whether they are equal.
use Rattle.std.proofs.Common.{◌≡◌, ℕ, true, ◌&&◌, ◌==◌, refl, ap, ◌∙◌}
use Rattle.std.proofs.lemmas.Bool.{false≢true, and_parts, and_from, eqb-true, eq-eqb}
use Rattle.std.proofs.lemmas.Bool.Decides.{Decides-int_eq}
use Rattle.gr_word.specs.declared.operations.Op.{Op}
use Rattle.gr_word.specs.declared.operations.Op.TheVariants.{Add, Sub, Mul, Div, Rem, Remu, And, Or, Xor, Shl, Shr}
use Rattle.symbolic_values.specs.Prelude.{Value, Const, Reg, SlotAt, SlotWord, MemWord, Apply, same_op, same_tree}

-- operations that the test finds equal are equal
pub same_op-true : (op oq : Op) → same_op op oq ≡ true → op ≡ oq
unfolding same_op
same_op-true Add Add e = refl
same_op-true Sub Sub e = refl
same_op-true Mul Mul e = refl
same_op-true Div Div e = refl
same_op-true Rem Rem e = refl
same_op-true Remu Remu e = refl
same_op-true And And e = refl
same_op-true Or Or e = refl
same_op-true Xor Xor e = refl
same_op-true Shl Shl e = refl
same_op-true Shr Shr e = refl
same_op-true op oq e = absurd (false≢true e)

-- the test finds an operation equal to itself
pub same_op-own : (op : Op) → same_op op op ≡ true
unfolding same_op
same_op-own Add = refl
same_op-own Sub = refl
same_op-own Mul = refl
same_op-own Div = refl
same_op-own Rem = refl
same_op-own Remu = refl
same_op-own And = refl
same_op-own Or = refl
same_op-own Xor = refl
same_op-own Shl = refl
same_op-own Shr = refl

-- trees that the test finds equal are equal
pub same_tree-true : (t u : Value) → same_tree t u ≡ true → t ≡ u
unfolding same_tree
same_tree-true (Const a) (Const b) e = ap Const ((Decides-int_eq a b).0 e)
same_tree-true (Reg a) (Reg b) e = ap Reg (eqb-true a b e)
same_tree-true (SlotAt a) (SlotAt b) e = ap SlotAt (eqb-true a b e)
same_tree-true (SlotWord k a) (SlotWord l b) e =
    let parts = and_parts (k == l) (same_tree a b) e in
    ap (λ (n : ℕ). SlotWord n a) (eqb-true k l parts.0) ∙ ap (SlotWord l) (same_tree-true a b parts.1)
same_tree-true (MemWord a i) (MemWord b j) e =
    let parts = and_parts (same_tree a b) (same_tree i j) e in
    ap (λ (x : Value). MemWord x i) (same_tree-true a b parts.0) ∙ ap (MemWord b) (same_tree-true i j parts.1)
same_tree-true (Apply op a b) (Apply oq c d) e =
    let parts = and_parts (same_op op oq) (same_tree a c && same_tree b d) e in
    let below = and_parts (same_tree a c) (same_tree b d) parts.1 in
    ap (λ (o : Op). Apply o a b) (same_op-true op oq parts.0)
    ∙ ap (λ (x : Value). Apply oq x b) (same_tree-true a c below.0) ∙ ap (Apply oq c) (same_tree-true b d below.1)
same_tree-true t u e = absurd (false≢true e)

-- the test finds a tree equal to itself
pub same_tree-own : (t : Value) → same_tree t t ≡ true
unfolding same_tree
same_tree-own (Const a) = (Decides-int_eq a a).1 refl
same_tree-own (Reg a) = eq-eqb a a refl
same_tree-own (SlotAt a) = eq-eqb a a refl
same_tree-own (SlotWord k a) = and_from (k == k) (same_tree a a) (eq-eqb k k refl) (same_tree-own a)
same_tree-own (MemWord a i) = and_from (same_tree a a) (same_tree i i) (same_tree-own a) (same_tree-own i)
same_tree-own (Apply op a b) =
    and_from (same_op op op) (same_tree a a && same_tree b b) (same_op-own op)
    (and_from (same_tree a a) (same_tree b b) (same_tree-own a) (same_tree-own b))
