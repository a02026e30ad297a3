-- The meaning of flat trees: what statements leave of a memory, and how many iterations of loops are left. (This
-- project's own.)
use Rattle.std.specs.Prelude.{ℕ, suc, zero, ℤ, Bool, if◌then◌else◌, List, Option, Some, None}
use Rattle.std.specs.Option.{option_and_then, option_map}
pub use Rattle.module_tree.specs.Memory.{Memory, first_word, word_at, with_word, with_words, with_scalar, with_element}
use Rattle.module_tree.specs.Operators.{result, is_true}
use Rattle.flat_tree.specs.Trees.{Term, Number, Scalar, Element, Operation, Select, Statement, Skip, Seq, Set, Put, If, While, Local}

abbrev pub value : Memory → Term → ℤ
value memory (Number z) = z
value memory (Scalar k) = first_word (memory k)
value memory (Element k i) = word_at (memory k) (value memory i)
value memory (Operation operator a b) = result operator (value memory a) (value memory b)
value memory (Select c a b) = if is_true (value memory c) then value memory a else value memory b

abbrev pub holds : Term → Memory → Bool
holds c memory = is_true (value memory c)

-- the state between two statements
pub record State : Type 0 where
  pub memory : Memory
  pub turns : ℕ

abbrev pub at : Memory → ℕ → State
at memory turns = record { memory = memory; turns = turns }

-- what statements leave, or nothing if a loop needed an iteration when none was left
abbrev pub Execution : Type 0
Execution = Memory → ℕ → Option State

abbrev pub onward : Execution → State → Option State
onward next s = next s.memory s.turns

abbrev pub in_turn : Execution → Execution → Execution
in_turn first second memory turns = option_and_then (onward second) (first memory turns)

abbrev pub turn_taken : Execution → Execution → Execution
turn_taken body rest memory zero = None
turn_taken body rest memory (suc turns) = in_turn body rest memory turns

-- A loop that iterates at most `most` times. That is no bound if no more iterations than that are left.
unfoldable pub looped : (Memory → Bool) → Execution → ℕ → Execution
looped test body zero memory turns = if test memory then None else Some (at memory turns)
looped test body (suc most) memory turns =
    if test memory then turn_taken body (looped test body most) memory turns else Some (at memory turns)

abbrev pub loop : (Memory → Bool) → Execution → Execution
loop test body memory turns = looped test body turns memory turns

-- a state in which a variable has the words that it had before
abbrev pub restored : ℕ → List ℤ → State → State
restored k words s = record s { memory = with_words s.memory k words }

abbrev pub run : Statement → Execution
run Skip memory turns = Some (at memory turns)
run (Seq a b) memory turns = in_turn (run a) (run b) memory turns
run (Set k e) memory turns = Some (at (with_scalar memory k (value memory e)) turns)
run (Put k i e) memory turns = Some (at (with_element memory k (value memory i) (value memory e)) turns)
run (If c a b) memory turns = if holds c memory then run a memory turns else run b memory turns
run (While c a) memory turns = loop (holds c) (run a) memory turns
run (Local k e a) memory turns =
    option_map (restored k (memory k)) (run a (with_scalar memory k (value memory e)) turns)
