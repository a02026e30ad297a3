-- What is read and written as JSON text for the runs of a compiled object, said of the variables of its program.
use Rattle.std.specs.Prelude.{◌≡◌, ℕ, ℤ, List, length, Some, Ok}
use Rattle.std.specs.Result.{result_map_both}
use Rattle.call_steps.specs.declared.targets.Target.{Target}
use Rattle.lt_isa.specs.Object.{Parts}
use Rattle.lt_isa.specs.Runs.{Halts}
use Rattle.lt_isa.specs.Start.{wants_of}
use Rattle.run_data.specs.InputsOf.{json_of, inputs_of}
use Rattle.run_data.specs.OutputText.{output_of}
use Rattle.src_tree.specs.Limits.{IsWithinLimits}
use Rattle.src_tree.specs.Meaning.{Store, meaning}
use Rattle.src_tree.specs.Trees.{Source}
use Rattle.src_tree.specs.Typing.{IsTyped}
use Rattle.flow_types.specs.Wants.{declared_wants}
use Rattle.compiled_objects.specs.Implements.{by_name}
use Rattle.call_steps.specs.Compiled.{IsCompiledTo}
use Rattle.call_laws.specs.CompiledRuns.{IsStoreOf}
use Rattle.call_steps.specs.Objects.{SpellsObject}
use Rattle.call_steps.specs.Runs.{run_outputs}

-- An input text gives the object, by name, the store that it gives the program, or is rejected for both with the same
-- fault. The store that it gives the program is one of the program. The output text of a store's words by name is that
-- of the store. So if an input text gives the program a store, and the program leaves values on it, then `run` of the
-- object on that text, once halted, writes what `eval` of the program writes: the output text of those values.
pub record TextsAsMeant (p : Source) (o : Parts) : Type 0 where
  pub given : (text : List ℕ) → inputs_of (wants_of o) (json_of text)
      ≡ result_map_both (by_name p o) (λ fault. fault) (inputs_of (declared_wants p.decls) (json_of text))
  pub fits : (text : List ℕ) (store : Store) → inputs_of (declared_wants p.decls) (json_of text) ≡ Ok store
      → IsStoreOf p store
  pub shown : (store : Store) → length store ≡ length p.decls
      → output_of (wants_of o) (by_name p o store) ≡ output_of (declared_wants p.decls) store
  pub written : (text : List ℕ) (store left : Store) (inputs : List (List ℤ)) (turns cycles : ℕ)
      → inputs_of (declared_wants p.decls) (json_of text) ≡ Ok store
      → meaning p store turns ≡ Some left
      → inputs_of (wants_of o) (json_of text) ≡ Ok inputs → Halts o inputs cycles
      → run_outputs o inputs cycles ≡ output_of (declared_wants p.decls) left

-- any object that a compiled program's bytes encode reads and writes what the program does
abbrev pub CompiledTexts : Type 0
CompiledTexts = (p : Source) (target : Target) (bytes : List ℕ) (o : Parts) → IsTyped p → IsWithinLimits p
    → IsCompiledTo p target bytes → SpellsObject bytes o → TextsAsMeant p o
