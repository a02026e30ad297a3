-- Where all other cores have halted, one core runs to the end at once: nothing can start between its transfers.
use Rattle.std.proofs.Common.{◌≡◌, ◌≢◌, ℕ, ◌≤◌, List, Contains, Some, arith}
use Rattle.std.specs.Prelude.{slice_get}
use Rattle.lt_isa.specs.Prelude.{IsInRange, IsShaped}
use Rattle.bus_arbiter.specs.Prelude.{Core, shows_to, FailOn, GoOn, OthersHalted, FailedAt, Transfer, Turned}
use Rattle.bus_arbiter.proofs.Joining.{joins-on, shown-live}
use Rattle.bus_arbiter.proofs.Rounding.{slot-failed}

module _ {B : Type 0} (between : List (Core B)) (core at n : ℕ) (early : at ≤ n) (alone : OthersHalted between core)
    (stand : (k : ℕ) (c : Core B) → slice_get between k ≡ Some c
    → IsInRange c.machine.object × IsShaped c.machine.object c.machine.state) where
  none-else : (k : ℕ) (d : Core B) → k ≢ core → slice_get between k ≡ Some d → (t : Transfer)
      → Contains (shows_to k d n) t → at ≤ t.stamp → n ≤ t.stamp
  none-else k d other here t found late = absurd (alone k d other here (shown-live k d n t found).0)

  pub alone-on : (after : List (Core B)) (heard : List Transfer → Type 0) → Turned between after core n heard
      → GoOn between after at n n heard
  alone-on after heard turned first told so_far = record {
    more = shows_to core turned.was n;
    joined =
        joins-on first between after told at n n n core stand so_far turned.was turned.now turned.there turned.put
        turned.left (omega arith) (λ t found below. below) early none-else (λ t found late. late);
    hears = turned.told;
  }

  pub alone-fails : {W : Type 0} (hears : W → List Transfer → W → Type 0) (was is : W) (torn : Transfer → Type 0)
      → (c : Core B) × (slice_get between core ≡ Some c) × FailedAt hears was is torn (shows_to core c n)
      → FailOn between at n hears was is torn
  alone-fails hears was is torn failed first told so_far =
      slot-failed between at n n n core stand failed.0 failed.1 (omega arith) (omega arith) none-else hears was is
      torn failed.2 first told so_far
