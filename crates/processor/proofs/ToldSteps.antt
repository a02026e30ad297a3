-- What is reported of a step, by what its instruction left to report.
use Rattle.std.proofs.Common.{◌≡◌, ℕ, List, [], ◌∷◌, ◌++◌, length, Option, None, refl, sym, ap, subst, arith, length-append}
use Rattle.lt_isa.specs.Prelude.{Parts, State, Faults, step, step_start}
use Rattle.banks.specs.declared.bank.Leaves.{Leaves}
use Rattle.banks.specs.Prelude.{Access, accessed, no_leaves}
use Rattle.processor.specs.declared.done.Untold.{Untold}
use Rattle.processor.specs.Prelude.{Broke, MayAccess, LeavesState, StepBroke, StepTold, accessed_of, leaves_of, outcome_of, told_of_step, WatcherTold}
use Rattle.processor.specs.declared.done.Untold.TheVariants as done

module _ {B W : Type 0} (shows : B → List ℕ → List Leaves) (comes : B → List ℕ → B → Type 0)
    (hears : W → List WatcherTold → W → Type 0) (o : Parts) (s : State) (before : List B) where
  -- a place outside the code
  pub told_nothing : (watch : W) → hears watch [] watch
      → accessed o s ≡ None → step o s ≡ Faults → StepTold shows comes hears o s before before watch watch
  told_nothing watch nothing none faults = record {
    leaves = no_leaves;
    orams = subst (λ (access : Option Access). MayAccess shows comes before before access no_leaves) (sym none) refl;
    heard = subst (λ outcome. hears watch (told_of_step (step_start o s) outcome no_leaves) watch) (sym faults)
        nothing;
  }

  -- what was to be reported of a step wasn't a fault
  left_by : (left : Untold) (t : State) (stamp : ℕ) (told : List WatcherTold) (next : WatcherTold)
      (rest : List WatcherTold) → told_of_step stamp (outcome_of left t) (leaves_of left) ≡ told ++ next ∷ rest
      → LeavesState (outcome_of left t) t
  left_by done.Fault t stamp told next rest is =
      absurd (omega (arith, ap length is, length-append told (next ∷ rest)))
  left_by other t stamp told next rest is = refl

  -- an instruction
  module _ (now : List B) (was is : W) where
    -- a step after which the run continues was reported
    pub told_step : (left : Untold) (t : State) (stamp : ℕ) → step o s ≡ outcome_of left t
        → accessed o s ≡ accessed_of left t → MayAccess shows comes before now (accessed_of left t) (leaves_of left)
        → stamp ≡ step_start o s → hears was (told_of_step stamp (outcome_of left t) (leaves_of left)) is
        → StepTold shows comes hears o s before now was is
    told_step left t stamp came access made start told = record {
      leaves = leaves_of left;
      orams = subst (λ (access : Option Access). MayAccess shows comes before now access (leaves_of left))
          (sym access) made;
      heard = subst (λ outcome. hears was (told_of_step (step_start o s) outcome (leaves_of left)) is) (sym came)
          (subst (λ at. hears was (told_of_step at (outcome_of left t) (leaves_of left)) is) start told);
    }

    -- a step that was reported in part
    pub broke_step : (torn : WatcherTold → Type 0) (left : Untold) (t : State) (stamp : ℕ) → step o s
        ≡ outcome_of left t
        → accessed o s ≡ accessed_of left t → MayAccess shows comes before now (accessed_of left t) (leaves_of left)
        → stamp ≡ step_start o s → Broke hears was is torn (told_of_step stamp (outcome_of left t) (leaves_of left))
        → StepBroke shows comes hears o s before now t was is torn
    broke_step torn left t stamp came access made start broke = record {
      leaves = leaves_of left;
      orams = subst (λ (access : Option Access). MayAccess shows comes before now access (leaves_of left))
          (sym access) made;
      left = subst (λ outcome. LeavesState outcome t) (sym came)
          (left_by left t stamp broke.told broke.next broke.rest broke.front);
      broke = subst (λ outcome. Broke hears was is torn (told_of_step (step_start o s) outcome (leaves_of left)))
          (sym came)
          (subst (λ at. Broke hears was is torn (told_of_step at (outcome_of left t) (leaves_of left))) start broke);
    }
