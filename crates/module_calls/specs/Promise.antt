-- What inlining keeps: the statement does with the module's variables what the module means. (This project's own.)
use Rattle.std.specs.Prelude.{ℕ, ℤ, List, length, Option, Some, None}
use Rattle.module_tree.specs.Memory.{Memory}
use Rattle.module_tree.specs.Trees.{Module}
use Rattle.module_tree.specs.FirstWords.{at_start}
use Rattle.module_tree.specs.Meaning.{module_meaning}
use Rattle.flat_tree.specs.Meaning.{State, run}
use Rattle.flat_tree.specs.Keeps.{Agree}
use Rattle.flat_tree.specs.Trees.{Statement, Seq}
use Rattle.module_calls.specs.Tails.{tailed}
use Rattle.module_calls.specs.Inlining.{inlined}
use Rattle.module_calls.specs.FirstAssignments.{first_assignments, before_start, OnlyForZeros}

-- both run out of iterations, or both leave the same words in the variables with numbers below n
pub data LeaveAlike (n : ℕ) : Option Memory → Option State → Type 0 where
  BothSpent : LeaveAlike n None None
  BothLeft : {m : Memory} {s : State} → Agree n m s.memory → LeaveAlike n (Some m) (Some s)

-- for all inputs, all numbers of iterations, and all words of other variables at the start
abbrev pub InliningKeeps : Module → List ℕ → Type 0
InliningKeeps m main =
    (inputs : ℕ → Option (List ℤ)) (turns : ℕ) (l : Memory) → Agree (length m.items) (at_start m.items inputs) l
    → LeaveAlike (length m.items) (module_meaning m main inputs turns) (run (inlined m main) l turns)

-- the statement that a module becomes: the first assignments, and then `main`
abbrev pub flattened : Module → List ℕ → Statement
flattened m main = Seq (first_assignments m.items) (inlined (tailed m) main)

-- the same for this statement, which begins with zeros and the inputs
abbrev pub FlattensMeaning : Module → List ℕ → Type 0
FlattensMeaning m main =
    (inputs : ℕ → Option (List ℤ)) (turns : ℕ) (l : Memory) → OnlyForZeros m.items inputs
    → Agree (length m.items) (before_start m.items inputs) l
    → LeaveAlike (length m.items) (module_meaning m main inputs turns) (run (flattened m main) l turns)
