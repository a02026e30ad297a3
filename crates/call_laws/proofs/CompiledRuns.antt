-- The runs of a compiled object are those that its program means.
use Rattle.std.proofs.Common.{ℕ, List, sym, ◌∙◌, subst}
use Rattle.object_file.proofs.ObjectLaws.{spelling-injective}
use Rattle.call_steps.specs.declared.targets.Target.{Target}
use Rattle.src_tree.specs.Prelude.{Source, IsWithinLimits, IsTyped}
use Rattle.lt_checker.proofs.Soundness.{accepted_is_oblivious}
use Rattle.code_gen.proofs.AgreeingStores.{planned-inputs_agree}
use Rattle.call_steps.specs.Prelude.{IsCompiledTo, plan_for}
use Rattle.call_laws.specs.Prelude.{CompiledRuns, RunsAsMeant}
use Rattle.call_laws.proofs.OnTarget.{target-sound}

-- the object that was compiled
own-runs : (p : Source) (target : Target) (bytes : List ℕ) → IsTyped p → IsWithinLimits p
    → (compiled : IsCompiledTo p target bytes) → RunsAsMeant p compiled.o
own-runs p target bytes typed limits compiled = record {
  symbols = compiled.implements.symbols;
  shows_public = λ one other n first second agree.
      (accepted_is_oblivious compiled.o compiled.spells.in_range compiled.accepted).same_traces _ _
      (planned-inputs_agree p target.profile.block_log (plan_for target.fast p target.profile.block_log) typed.once limits
      (target-sound p target bytes limits compiled) compiled.o compiled.layout one other first second agree) n;
  leaves = compiled.implements.done;
  halts = compiled.implements.halts;
}

-- it is the only object that its bytes encode
pub compiled-runs : CompiledRuns
compiled-runs p target bytes o typed limits compiled spells =
    subst (RunsAsMeant p)
    (spelling-injective compiled.o o compiled.spells.in_range spells.in_range
    (sym compiled.spells.spelled ∙ spells.spelled))
    (own-runs p target bytes typed limits compiled)
