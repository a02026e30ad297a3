-- The relation between statements before and after a pass, for the variables with numbers below n. If both start with
-- the same words of these variables and the same number of iterations, then both run out of iterations, or both end with
-- the same words of these variables and the same number of iterations left. (This project's own.)
use Rattle.std.specs.Prelude.{◌≡◌, ℕ, ◌<◌, ◌==◌, ◌||◌, Bool, false, Option, Some, None}
use Rattle.flat_tree.specs.Trees.{Term, Number, Scalar, Element, Operation, Select, Statement, Skip, Seq, Set, Put, If, While, Local}
use Rattle.flat_tree.specs.Meaning.{Memory, State, Execution, run}

-- memories with the same words of these variables
pub record Agree (n : ℕ) (one other : Memory) : Type 0 where
  pub same : (k : ℕ) → k < n → one k ≡ other k

pub data Alike (n : ℕ) : Option State → Option State → Type 0 where
  BothSpent : Alike n None None
  BothLeft : {a b : State} → a.turns ≡ b.turns → Agree n a.memory b.memory → Alike n (Some a) (Some b)

pub record Follows (n : ℕ) (one other : Execution) : Type 0 where
  pub alike : (m l : Memory) (turns : ℕ) → Agree n m l → Alike n (one m turns) (other l turns)

pub record Keeps (n : ℕ) (a b : Statement) : Type 0 where
  pub alike : (m l : Memory) (turns : ℕ) → Agree n m l → Alike n (run a m turns) (run b l turns)

-- a term, and statements, in which all variables have numbers below n
abbrev pub TermBelow : ℕ → Term → Type 0
TermBelow n (Number z) = Unit {0}
TermBelow n (Scalar k) = k < n
TermBelow n (Element k i) = (k < n) × TermBelow n i
TermBelow n (Operation operator a b) = TermBelow n a × TermBelow n b
TermBelow n (Select c a b) = TermBelow n c × TermBelow n a × TermBelow n b

abbrev pub Below : ℕ → Statement → Type 0
Below n Skip = Unit {0}
Below n (Seq a b) = Below n a × Below n b
Below n (Set k e) = (k < n) × TermBelow n e
Below n (Put k i e) = (k < n) × TermBelow n i × TermBelow n e
Below n (If c a b) = TermBelow n c × Below n a × Below n b
Below n (While c a) = TermBelow n c × Below n a
Below n (Local k e a) = (k < n) × TermBelow n e × Below n a

-- whether a term reads variable number k
abbrev pub reads : ℕ → Term → Bool
reads k (Number z) = false
reads k (Scalar j) = j == k
reads k (Element j i) = (j == k) || reads k i
reads k (Operation operator a b) = reads k a || reads k b
reads k (Select c a b) = reads k c || (reads k a || reads k b)
