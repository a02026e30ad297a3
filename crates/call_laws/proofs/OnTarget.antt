-- The plan of a program's memory on a target is sound.
use Rattle.std.proofs.Common.{ℕ, Bool, true, false, List, subst}
use Rattle.gr_base.specs.Prelude.{Within}
use Rattle.src_tree.specs.Prelude.{IsWithinLimits, Source}
use Rattle.scratch_alloc.specs.Prelude.{IsSoundPlan}
use Rattle.scratch_alloc.proofs.StandardPlan.{standard_sound}
use Rattle.compiled_objects.proofs.FastPlans.{fast-sound}
use Rattle.call_steps.specs.declared.targets.Target.{Target}
use Rattle.call_steps.specs.Prelude.{HasRoom, IsCompiledTo, plan_for}

plan-sound : (fast : Bool) (p : Source) (w : ℕ) → IsWithinLimits p → Within 3 9 w → HasRoom fast p w
    → IsSoundPlan p w (plan_for fast p w)
plan-sound false p w limits log room = standard_sound p w limits log room
plan-sound true p w limits log room = fast-sound p w limits log room

pub target-sound : (p : Source) (target : Target) (bytes : List ℕ) → IsWithinLimits p
    → (compiled : IsCompiledTo p target bytes)
    → IsSoundPlan p target.profile.block_log (plan_for target.fast p target.profile.block_log)
target-sound p target bytes limits compiled =
    plan-sound target.fast p target.profile.block_log limits
    (subst (Within 3 9) compiled.layout.block_size compiled.spells.in_range.profile.block_log) compiled.room
