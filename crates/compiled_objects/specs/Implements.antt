-- When an object does what a program means: on every store, for every number of turns or cycles.
-- (GhostRider, ASPLOS 2015: the compiler keeps the meaning; the bound on cycles is this project's profile.)
use Rattle.std.specs.Prelude.{◌≡◌, ℕ, ◌+◌, ◌*◌, ℤ, List, All, Contains, map, Some}
use Rattle.gr_word.specs.Fitting.{FitsWants}
use Rattle.lt_isa.specs.declared.symbols.Symbol.{Symbol}
use Rattle.lt_isa.specs.Object.{Parts}
use Rattle.stretches.specs.Standing.{greatest_costs}
use Rattle.lt_isa.specs.Start.{final}
use Rattle.lt_isa.specs.Outputs.{outputs}
use Rattle.lt_isa.specs.Runs.{Halts}
use Rattle.src_tree.specs.Trees.{Source}
use Rattle.src_tree.specs.Meaning.{Store, variable_number, words_of_number, meaning}
use Rattle.flow_types.specs.Wants.{declared_wants}

-- what a store holds for each symbol of an object, by the symbol's name
abbrev pub by_name : Source → Parts → Store → List (List ℤ)
by_name p o store = map (λ s. words_of_number store (variable_number p.decls s.name)) o.symbols

-- each variable of the program has a symbol of its name and label
abbrev pub HasSymbols : Source → Parts → Type 0
HasSymbols p o = All (λ d. (s : Symbol) × Contains o.symbols s × (s.name ≡ d.name) × (s.label ≡ d.label)) p.decls

-- Each variable has its symbol. Let C be the greatest costs of the object's instructions together. Where the program is done within n turns, the run
-- on the store's words has halted within C * (n + 1) cycles; where the run has halted within n cycles, the program is
-- done within n turns; and either way the words that the run leaves are those of the store that the program leaves.
pub record Implements (p : Source) (o : Parts) : Type 0 where
  pub symbols : HasSymbols p o
  pub halts : (store left : Store) (n : ℕ) → FitsWants (declared_wants p.decls) store → meaning p store n ≡ Some left
      → Halts o (by_name p o store) (greatest_costs o o.code * (n + 1))
  pub leaves : (store left : Store) (n : ℕ) → FitsWants (declared_wants p.decls) store → meaning p store n ≡ Some left
      → outputs o (final o (by_name p o store) (greatest_costs o o.code * (n + 1))) ≡ by_name p o left
  pub done : (store : Store) (n : ℕ) → FitsWants (declared_wants p.decls) store → Halts o (by_name p o store) n
      → (left : Store)
      × (meaning p store n ≡ Some left)
      × (outputs o (final o (by_name p o store) n) ≡ by_name p o left)
