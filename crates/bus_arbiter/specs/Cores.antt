-- The cores of a bus: machines, of which some have halted, and what a run of one of them up to a cycle shows and leaves.
use Rattle.std.specs.Prelude.{◌≡◌, ℕ, Bool, List, [], map, length, ◌≤◌, Option, Some, None, is_none, slice_get}
use Rattle.lt_isa.specs.Ranges.{IsInRange}
use Rattle.lt_isa.specs.Shape.{IsShaped}
use Rattle.lt_isa.specs.Trace.{HaltsAt, Stamped, trace_from, final_from}
use Rattle.processor.specs.Machines.{Running}
use Rattle.processor.specs.Ends.{EndsAs}
use Rattle.processor.specs.declared.ends.End.{End}
use Rattle.bus_arbiter.specs.declared.shares.Share.{Share}
use Rattle.bus_arbiter.specs.Shares.{share_of, share_at}
use Rattle.bus_arbiter.specs.Transfers.{Transfer, transfers_of}
use Rattle.processor.specs.declared.ends.End.TheVariants as end

-- a machine, and the stamp of its halt where it was run that far
pub record Core (B : Type 0) : Type 0 where
  pub machine : Running B
  pub halted : Option ℕ

-- what is seen of a bus
pub record Shared (B : Type 0) : Type 0 where
  pub plan : List Share
  pub cores : List (Core B)
  pub sound : Bool
  pub fresh : Bool

abbrev pub end_as : Option ℕ → End
end_as None = end.Spent
end_as (Some at) = end.Halted at

-- the events of a core's run up to cycle n, and those of all cores
abbrev pub trace_to : {B : Type 0} → Core B → ℕ → List Stamped
trace_to c n = trace_from c.machine.object c.machine.state n

abbrev pub traces_to : {B : Type 0} → List (Core B) → ℕ → List (List Stamped)
traces_to cores n = map (λ c. trace_to c n) cores

-- what is reported of core k when it runs up to cycle n: nothing if it has halted before
abbrev pub shown_if : Option ℕ → List Transfer → List Transfer
shown_if None transfers = transfers
shown_if (Some at) transfers = []

abbrev pub shows_to : {B : Type 0} → ℕ → Core B → ℕ → List Transfer
shows_to k c n = shown_if c.halted (transfers_of k (trace_to c n))

-- a core that hadn't halted has run up to cycle n
pub record RanTo {B : Type 0} (before : Core B) (n : ℕ) (after : Core B) : Type 0 where
  pub object : after.machine.object ≡ before.machine.object
  pub state : after.machine.state ≡ final_from before.machine.object before.machine.state n
  pub ends : EndsAs (trace_to before n) (end_as after.halted)

-- a core has run up to cycle n; one that had halted stays as it was
abbrev pub LeftIf : {B : Type 0} → Option ℕ → Core B → ℕ → Core B → Type 0
LeftIf None before n after = RanTo before n after
LeftIf (Some at) before n after = after ≡ before

abbrev pub LeftAt : {B : Type 0} → Core B → ℕ → Core B → Type 0
LeftAt before n after = LeftIf before.halted before n after

-- A core was run on and stopped on its way to cycle n. It has the same object, and is in the state that its run up to
-- some cycle leaves. If it has halted, that run has.
pub record StoppedBy {B : Type 0} (before : Core B) (n : ℕ) (after : Core B) : Type 0 where
  pub object : after.machine.object ≡ before.machine.object
  pub at : ℕ
  pub within : at ≤ n
  pub state : after.machine.state ≡ final_from before.machine.object before.machine.state at
  pub halts : (stamp : ℕ) → after.halted ≡ Some stamp → HaltsAt (trace_to before at) stamp

-- the same of any core: one that had halted stays as it was
abbrev pub OnItsWayIf : {B : Type 0} → Option ℕ → Core B → ℕ → Core B → Type 0
OnItsWayIf None before n after = StoppedBy before n after
OnItsWayIf (Some at) before n after = after ≡ before

abbrev pub OnItsWay : {B : Type 0} → Core B → ℕ → Core B → Type 0
OnItsWay before n after = OnItsWayIf before.halted before n after

-- a core is on the bus with its share
pub record Stands {B : Type 0} (c : Core B) (s : Share) : Type 0 where
  pub in_range : IsInRange c.machine.object
  pub shaped : IsShaped c.machine.object c.machine.state
  pub share : share_of c.machine.object ≡ s

-- all of them do
pub record AllStand {B : Type 0} (plan : List Share) (cores : List (Core B)) : Type 0 where
  pub count : length cores ≤ length plan
  pub each : (k : ℕ) (c : Core B) → slice_get cores k ≡ Some c → Stands c (share_at plan k)

-- a sound bus may run each core that hasn't halted
abbrev pub AreLive : {B : Type 0} → List (Core B) → Type 0
AreLive cores = (k : ℕ) (c : Core _) → slice_get cores k ≡ Some c → c.machine.live ≡ is_none c.halted

abbrev pub NoneHalted : {B : Type 0} → List (Core B) → Type 0
NoneHalted cores = (k : ℕ) (c : Core _) → slice_get cores k ≡ Some c → c.halted ≡ None
