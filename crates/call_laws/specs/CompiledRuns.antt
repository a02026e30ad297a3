-- What the runs of a compiled object show and leave, said of the stores of its program.
-- (GhostRider, ASPLOS 2015: the compiler keeps the meaning, and what it makes is memory-trace oblivious.)
use Rattle.std.specs.Prelude.{◌≡◌, ℕ, ◌+◌, ◌*◌, List, Some}
use Rattle.gr_word.specs.Fitting.{FitsWants}
use Rattle.call_steps.specs.declared.targets.Target.{Target}
use Rattle.lt_isa.specs.Object.{Parts}
use Rattle.lt_isa.specs.Outputs.{outputs}
use Rattle.lt_isa.specs.Runs.{Halts}
use Rattle.lt_isa.specs.Start.{trace, final}
use Rattle.stretches.specs.Standing.{greatest_costs}
use Rattle.src_tree.specs.Limits.{IsWithinLimits}
use Rattle.src_tree.specs.Meaning.{Store, meaning}
use Rattle.src_tree.specs.Trees.{Source}
use Rattle.src_tree.specs.Typing.{IsTyped}
use Rattle.flow_types.specs.Wants.{declared_wants}
use Rattle.compiled_objects.specs.AgreeingStores.{AgreeOnPublic}
use Rattle.compiled_objects.specs.Implements.{HasSymbols, by_name}
use Rattle.call_steps.specs.Compiled.{IsCompiledTo}
use Rattle.call_steps.specs.Objects.{SpellsObject}

-- a store that gives each variable of the program its number of words
abbrev pub IsStoreOf : Source → Store → Type 0
IsStoreOf p store = FitsWants (declared_wants p.decls) store

-- Each variable of the program has a symbol. Runs on stores that agree on the program's public variables show the same
-- events, at every number of cycles. A run that has halted within n cycles leaves the values that the program leaves,
-- which is done within n turns. Where the program is done within n turns, the run halts within n + 1 times the greatest
-- costs of the instructions together.
pub record RunsAsMeant (p : Source) (o : Parts) : Type 0 where
  pub symbols : HasSymbols p o
  pub shows_public : (one other : Store) (n : ℕ) → IsStoreOf p one → IsStoreOf p other → AgreeOnPublic p.decls one other
      → trace o (by_name p o one) n ≡ trace o (by_name p o other) n
  pub leaves : (store : Store) (n : ℕ) → IsStoreOf p store → Halts o (by_name p o store) n
      → (left : Store)
      × (meaning p store n ≡ Some left)
      × (outputs o (final o (by_name p o store) n) ≡ by_name p o left)
  pub halts : (store left : Store) (n : ℕ) → IsStoreOf p store → meaning p store n ≡ Some left
      → Halts o (by_name p o store) (greatest_costs o o.code * (n + 1))

-- any object that a compiled program's bytes encode runs as the program means
abbrev pub CompiledRuns : Type 0
CompiledRuns = (p : Source) (target : Target) (bytes : List ℕ) (o : Parts) → IsTyped p → IsWithinLimits p
    → IsCompiledTo p target bytes → SpellsObject bytes o → RunsAsMeant p o
