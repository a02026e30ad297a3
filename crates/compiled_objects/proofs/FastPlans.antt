-- The plan of memory of a program that is compiled with `--fast` is sound, and slot 1 holds a block of encrypted memory.
use Rattle.std.proofs.Common.{◌≡◌, ℕ, Some, refl, arith}
use Rattle.gr_base.specs.Prelude.{Within}
use Rattle.src_tree.specs.Prelude.{IsWithinLimits, Source}
use Rattle.scratch_alloc.specs.declared.plans.Pin.{Pin}
use Rattle.scratch_alloc.specs.Prelude.{IsSoundPlan, pin_of_slot}
use Rattle.resident_alloc.specs.Prelude.{ResidentsFit, resident_plan}
use Rattle.resident_alloc.proofs.SoundPlan.{resident_sound}
use Rattle.spread_alloc.specs.Prelude.{spread_plan}
use Rattle.spread_alloc.proofs.KeptPins.{spread-pins}
use Rattle.spread_alloc.proofs.SoundSpread.{spread_plan_sound}
use Rattle.compiled_objects.specs.Prelude.{fast_plan}

pub fast-is : (p : Source) (w : ℕ) → spread_plan w (resident_plan p w) ≡ fast_plan p w
unfolding fast_plan
fast-is p w = refl

pub fast-sound : (p : Source) (w : ℕ) → IsWithinLimits p → Within 3 9 w → ResidentsFit p w
    → IsSoundPlan p w (fast_plan p w)
unfolding fast_plan
fast-sound p w limits log room =
    spread_plan_sound p w (resident_plan p w) (resident_sound p w limits log room) refl

pub fast-secret_slot : (p : Source) (w : ℕ) → (pin : Pin) × (pin_of_slot (fast_plan p w) 1 ≡ Some pin) × (pin.bank ≡ 1)
unfolding fast_plan
fast-secret_slot p w =
    (record { bank = 1; block = 0 }, spread-pins w (resident_plan p w) 1 (omega arith), refl)
