-- A table that grows keeps what numbers represent.
use Rattle.std.proofs.Common.{◌≡◌, ℕ, ◌+◌, ◌-◌, ◌<◌, ◌≤◌, pos, List, length, refl, ap, ◌∙◌, ⊎_elim, arith}
use Rattle.std.proofs.lemmas.Bool.{cases_eq}
use Rattle.gr_word.specs.declared.operations.Op.TheVariants.{Remu}
use Rattle.symbolic_values.specs.declared.nodes.Node.{Node}
use Rattle.symbolic_values.specs.Prelude.{Value, Const, SlotWord, MemWord, Apply, tree_of, IsTable, KeepsTrees}
use Rattle.region_walk.specs.Prelude.{TableGains, FindsNumber}

-- each number keeps its tree
pub keeps-tree : (old new : List Node) → KeepsTrees old new → (i : ℕ) → i < length old → tree_of new i ≡ tree_of old i
keeps-tree old new keeps i h = (keeps i (tree_of old i) (record { inside = h; tree = refl })).tree

-- the table doesn't become shorter
pub keeps-longer : (old new : List Node) → KeepsTrees old new → length old ≤ length new
keeps-longer old new keeps =
    ⊎_elim
    (λ (none : length old ≡ 0). omega arith)
    (λ (some : length old ≡ 0 → ⊥).
    let last = length old - 1 in
    let inside : last < length old = omega arith in
    let kept = (keeps last (tree_of old last) (record { inside = inside; tree = refl })).inside in
    omega arith)
    (cases_eq (length old) 0)

-- what is kept in two steps is kept
pub keeps-then : (a b c : List Node) → KeepsTrees a b → KeepsTrees b c → KeepsTrees a c
keeps-then a b c first second = λ i t h. second i t (first i t h)

-- a table gains nothing if it stays as it is
pub gains-own : (nodes : List Node) → IsTable nodes → TableGains 0 nodes nodes
gains-own nodes table = record { table = table; keeps = λ i t h. h; room = omega arith }

-- a greater bound for what a table gains
pub gains-more : (m n : ℕ) (a b : List Node) → m ≤ n → TableGains m a b → TableGains n a b
gains-more m n a b le h = record { table = h.table; keeps = h.keeps; room = omega arith }

-- what a table gains in two steps
pub gains-then : (m n : ℕ) (a b c : List Node) → TableGains m a b → TableGains n b c → TableGains (m + n) a c
gains-then m n a b c first second = record {
  table = second.table;
  keeps = keeps-then a b c first.keeps second.keeps;
  room = omega arith;
}

-- the number of a tree, found after a table has gained other values
pub found-then : (m n : ℕ) (old mid new : List Node) (t u : Value) (i : ℕ) → TableGains m old mid → u ≡ t
    → FindsNumber n mid new u i → FindsNumber (m + n) old new t i
found-then m n old mid new t u i gains same h = record {
  gains = gains-then m n old mid new gains h.gains;
  number = record { inside = h.number.inside; tree = h.number.tree ∙ same };
}

-- a number of the table and a number that was found are in the table afterwards
pub found-both : (n : ℕ) (old new : List Node) (t : Value) (i found : ℕ) → i < length old
    → FindsNumber n old new t found
    → (i < length new) × (found < length new)
found-both n old new t i found inside h =
    (omega (arith, keeps-longer old new h.gains.keeps), h.number.inside)

-- the number of the block that a register names is found
pub named-found : (old mid new : List Node) (number count i found : ℕ) → number < length old
    → FindsNumber 1 old mid (Const (pos count)) i
    → FindsNumber 1 mid new (Apply Remu (tree_of mid number) (tree_of mid i)) found
    → FindsNumber 2 old new (Apply Remu (tree_of old number) (Const (pos count))) found
named-found old mid new number count i found inside first second =
    found-then 1 1 old mid new _ _ found first.gains
    (ap (λ (t : Value). Apply Remu t (tree_of mid i)) (keeps-tree old mid first.gains.keeps number inside)
    ∙ ap (Apply Remu (tree_of old number)) first.number.tree) second

-- the number of a word of a slot at the entry is found
pub slot_word-found : (old mid new : List Node) (slot i found : ℕ) (t : Value) → FindsNumber 2 old mid t i
    → FindsNumber 1 mid new (SlotWord slot (tree_of mid i)) found → FindsNumber 3 old new (SlotWord slot t) found
slot_word-found old mid new slot i found t first second =
    found-then 2 1 old mid new _ _ found first.gains (ap (SlotWord slot) first.number.tree) second

-- the number of a word of plain memory is found
pub memory_word-found : (old mid new : List Node) (block i found : ℕ) (t : Value) → block < length old
    → FindsNumber 2 old mid t i → FindsNumber 1 mid new (MemWord (tree_of mid block) (tree_of mid i)) found
    → FindsNumber 3 old new (MemWord (tree_of old block) t) found
memory_word-found old mid new block i found t inside first second =
    found-then 2 1 old mid new _ _ found first.gains
    (ap (λ (b : Value). MemWord b (tree_of mid i)) (keeps-tree old mid first.gains.keeps block inside)
    ∙ ap (MemWord (tree_of old block)) first.number.tree) second
