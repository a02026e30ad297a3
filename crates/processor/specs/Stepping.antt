-- What one instruction of the machine leaves to be told. (GhostRider, ASPLOS 2015: the events of an execution.)
use Rattle.std.specs.Prelude.{◌≡◌, ℕ, ◌<◌, ◌^◌, ℤ, List, [], length, Option, Some, None}
use Rattle.lt_isa.specs.declared.instructions.Instr.{Instr}
use Rattle.lt_isa.specs.Object.{Parts, block_words}
use Rattle.lt_isa.specs.Ranges.{IsInRange, InstrFits}
use Rattle.lt_isa.specs.Machine.{Slot, Unbound, Bound, State, Observed, Halted, slot, read_event, write_event}
use Rattle.lt_isa.specs.Shape.{IsShaped}
use Rattle.lt_isa.specs.Step.{StepResult, Goes, Stops, Faults, executed, step, step_start}
use Rattle.lt_isa.specs.Trace.{seen_at}
use Rattle.banks.specs.declared.bank.Leaves.{Leaves}
use Rattle.banks.specs.Accesses.{Access, access_on, accessed, accessed_by}
use Rattle.banks.specs.Banks.{no_leaves}
use Rattle.processor.specs.declared.done.Untold.{Untold}
use Rattle.processor.specs.declared.done.Went.{Went}
use Rattle.processor.specs.Ends.{Broke}
use Rattle.processor.specs.Machines.{Running}
use Rattle.processor.specs.ObliviousBanks.{MayAccess}
use Rattle.processor.specs.Watching.{WatcherTold, with_path}
use Rattle.processor.specs.declared.done.Untold.TheVariants as done
use Rattle.processor.specs.declared.done.Went.TheVariants as went

-- A machine is sound: its state has the shape of its object, scratchpad and banks have room for the object's blocks,
-- and its cycle is far from the greatest number.
pub record IsSound (o : Parts) (s : State) (pad banks : ℕ) : Type 0 where
  pub shaped : IsShaped o s
  pub pad_words : pad ≡ block_words o
  pub bank_words : banks ≡ block_words o
  pub far : s.cycle < 2 ^ 34

-- a machine that is about to execute an instruction of its object
pub record IsReady {B : Type 0} (m : Running B) (i : Instr) : Type 0 where
  pub in_range : IsInRange m.object
  pub shaped : IsShaped m.object m.state
  pub fits : InstrFits (length m.object.banks) i
  pub place : m.state.place < length m.object.code
  pub early : m.state.cycle < 2 ^ 32

-- the event of an access to the block that a slot is bound to
abbrev pub on_slot : Slot → (ℕ → ℕ → List ℤ → Observed) → Option Observed
on_slot Unbound event = None
on_slot (Bound b a words) event = Some (event b a words)

-- the outcome of an instruction that left this to report and led to this state
abbrev pub outcome_of : Untold → State → StepResult
outcome_of (done.Read k leaves) t = Goes (on_slot (slot t k) read_event) t
outcome_of (done.Wrote k leaves) t = Goes (on_slot (slot t k) write_event) t
outcome_of done.Stopped t = Stops t
outcome_of done.Fault t = Faults

-- how a step went that left this
abbrev pub went_of : Untold → Went
went_of (done.Read k leaves) = went.On
went_of (done.Wrote k leaves) = went.On
went_of done.Stopped = went.Halted
went_of done.Fault = went.Faulted

-- the outcome of a step whose instruction had this outcome and led to this state
abbrev pub CameTo : Went → StepResult → State → Type 0
CameTo went.On outcome t = (event : Option Observed) × (outcome ≡ Goes event t)
CameTo went.Halted outcome t = outcome ≡ Stops t
CameTo went.Faulted outcome t = outcome ≡ Faults

abbrev pub StaysIfFaulted : Went → State → State → Type 0
StaysIfFaulted went.On before now = Unit {0}
StaysIfFaulted went.Halted before now = Unit {0}
StaysIfFaulted went.Faulted before now = now ≡ before

-- only a fault changes nothing at all
abbrev pub StaysOnFault : {B : Type 0} → Untold → Running B → Running B → Type 0
StaysOnFault done.Fault before now = now ≡ before
StaysOnFault other before now = Unit {0}

-- the access that is still to be reported is of a slot that exists and is bound
abbrev pub NamesSlot : Untold → State → Type 0
NamesSlot (done.Read k leaves) t = k < 8
NamesSlot (done.Wrote k leaves) t = k < 8
NamesSlot done.Stopped t = Unit {0}
NamesSlot done.Fault t = Unit {0}

-- the access that was made, and the paths that it showed
abbrev pub accessed_of : Untold → State → Option Access
accessed_of (done.Read k leaves) t = access_on (slot t k)
accessed_of (done.Wrote k leaves) t = access_on (slot t k)
accessed_of done.Stopped t = None
accessed_of done.Fault t = None

abbrev pub leaves_of : Untold → Leaves
leaves_of (done.Read k leaves) = leaves
leaves_of (done.Wrote k leaves) = leaves
leaves_of done.Stopped = no_leaves
leaves_of done.Fault = no_leaves

-- a machine executed an instruction, and left this to be told of it
pub record Executes {B : Type 0} (shows : B → List ℕ → List Leaves) (comes : B → List ℕ → B → Type 0)
    (before now : Running B) (i : Instr) (left : Untold) : Type 0 where
  pub outcome : executed before.object before.state i ≡ outcome_of left now.state
  pub object : now.object ≡ before.object
  pub live : now.live ≡ before.live
  pub stays : StaysOnFault left before now
  pub slot : NamesSlot left now.state
  pub access : accessed_by before.object before.state i ≡ accessed_of left now.state
  pub orams : MayAccess shows comes before.orams now.orams (accessed_of left now.state) (leaves_of left)

-- what an outcome shows, where its access showed these paths
abbrev pub may_show : ℕ → Option Observed → Leaves → List WatcherTold
may_show start None leaves = []
may_show start (Some event) leaves = with_path (seen_at start event) leaves

abbrev pub told_of_step : ℕ → StepResult → Leaves → List WatcherTold
told_of_step start (Goes event t) leaves = may_show start event leaves
told_of_step start (Stops t) leaves = may_show start (Some Halted) leaves
told_of_step start Faults leaves = []

-- the next step was reported, with the paths that its access showed
pub record StepTold {B W : Type 0} (shows : B → List ℕ → List Leaves) (comes : B → List ℕ → B → Type 0)
    (hears : W → List WatcherTold → W → Type 0) (o : Parts) (s : State) (before now : List B) (was is : W)
    : Type 0 where
  pub leaves : Leaves
  pub orams : MayAccess shows comes before now (accessed o s) leaves
  pub heard : hears was (told_of_step (step_start o s) (step o s) leaves) is

-- the state after a step that isn't a fault
abbrev pub LeavesState : StepResult → State → Type 0
LeavesState (Goes event next) t = t ≡ next
LeavesState (Stops last) t = t ≡ last
LeavesState Faults t = ⊥

-- a watcher failed at the next step, which left this state
pub record StepBroke {B W : Type 0} (shows : B → List ℕ → List Leaves) (comes : B → List ℕ → B → Type 0)
    (hears : W → List WatcherTold → W → Type 0) (o : Parts) (s : State) (before now : List B) (last : State) (was is : W)
    (torn : WatcherTold → Type 0) : Type 0 where
  pub leaves : Leaves
  pub left : LeavesState (step o s) last
  pub orams : MayAccess shows comes before now (accessed o s) leaves
  pub broke : Broke hears was is torn (told_of_step (step_start o s) (step o s) leaves)
