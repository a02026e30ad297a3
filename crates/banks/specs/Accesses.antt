-- The accesses to blocks that the steps of a run make. (GhostRider, ASPLOS 2015: a block is loaded into the scratchpad,
-- and stored from it.)
use Rattle.std.specs.Prelude.{◌≡◌, ◌<◌, ◌≤◌, ℕ, zero, suc, if◌then◌else◌, nat_lt, ◌==◌, List, [], ◌∷◌, ◌++◌, Option, Some, None, slice_get}
use Rattle.lt_isa.specs.declared.instructions.Instr.{Instr}
use Rattle.lt_isa.specs.declared.instructions.Instr.TheVariants.{Nop, Halt, Li, Alu, Ldb, Stb, Idb, Ldw, Stw, Jmp, Br}
use Rattle.lt_isa.specs.Object.{Parts}
use Rattle.lt_isa.specs.Machine.{Slot, Unbound, Bound, State, Observed, RamRead, RamWrite, EncRead, EncWrite, Oram, Halted, register, slot}
use Rattle.lt_isa.specs.Shape.{IsShaped}
use Rattle.lt_isa.specs.Step.{StepResult, Goes, Stops, Faults, block_named, step, step_start}

-- an access to a block of a bank
pub record Access : Type 0 where
  pub bank : ℕ
  pub block : ℕ

-- an access to the block to which a slot is bound
abbrev pub access_on : Slot → Option Access
access_on Unbound = None
access_on (Bound b a words) = Some (record { bank = b; block = a })

-- the access that an instruction makes, if it makes one
abbrev pub accessed_by : Parts → State → Instr → Option Access
accessed_by o s (Ldb k b r) = Some (record { bank = b; block = block_named o b (register s r) })
accessed_by o s (Stb k) = access_on (slot s k)
accessed_by o s other = None

abbrev pub accessed_if : Parts → State → Option Instr → Option Access
accessed_if o s None = None
accessed_if o s (Some i) = accessed_by o s i

-- the access that the next step makes, if it makes one
unfoldable pub accessed : Parts → State → Option Access
accessed o s = accessed_if o s (slice_get o.code s.place)

abbrev pub at_most_one : Option Access → List Access
at_most_one None = []
at_most_one (Some access) = access ∷ []

-- an event shows an access: its bank and, in plain and encrypted memory, its block
abbrev pub ShowsAccess : Observed → Access → Type 0
ShowsAccess (RamRead block words) access = (access.bank ≡ 0) × (access.block ≡ block)
ShowsAccess (RamWrite block words) access = (access.bank ≡ 0) × (access.block ≡ block)
ShowsAccess (EncRead block) access = (access.bank ≡ 1) × (access.block ≡ block)
ShowsAccess (EncWrite block) access = (access.bank ≡ 1) × (access.block ≡ block)
ShowsAccess (Oram bank) access = (access.bank ≡ bank) × (2 ≤ bank)
ShowsAccess Halted access = ⊥

-- A step makes an access exactly if it leads to a state and shows an event, and the event shows that access.
abbrev pub ShowsItsAccess : StepResult → Option Access → Type 0
ShowsItsAccess (Goes None t) made = made ≡ None
ShowsItsAccess (Goes (Some event) t) made = (access : Access) × (made ≡ Some access) × ShowsAccess event access
ShowsItsAccess (Stops t) made = made ≡ None
ShowsItsAccess Faults made = made ≡ None

-- the accesses from the state after a step
abbrev pub accessed_then : StepResult → (State → List Access) → List Access
accessed_then (Goes event next) rest = rest next
accessed_then (Stops last) rest = []
accessed_then Faults rest = []

-- The accesses below cycle n, defined without counting steps. There are none if the next step starts at n or later.
-- Otherwise they are the access of that step, if it makes one, followed by those from the state after it.
pub record AreAccesses (o : Parts) (accesses : State → ℕ → List Access) : Type 0 where
  pub past : (s : State) (n : ℕ) → n ≤ step_start o s → accesses s n ≡ []
  pub more : (s : State) (n : ℕ) → IsShaped o s → step_start o s < n
      → accesses s n ≡ at_most_one (accessed o s) ++ accessed_then (step o s) (λ t. accesses t n)

-- the accesses of the steps from a state that start below cycle n, in at most this many steps
unfoldable pub accesses_within : ℕ → Parts → State → ℕ → List Access
accesses_within zero o s n = []
accesses_within (suc steps) o s n =
    if nat_lt (step_start o s) n
    then at_most_one (accessed o s) ++ accessed_then (step o s) (λ t. accesses_within steps o t n)
    else []

-- Each step takes at least one cycle, so n steps are enough for all that start below cycle n.
unfoldable pub accesses_from : Parts → State → ℕ → List Access
accesses_from o s n = accesses_within n o s n

-- the blocks of bank b among some accesses, in their order
abbrev pub in_bank : ℕ → List Access → List ℕ
in_bank b [] = []
in_bank b (access ∷ accesses) =
    if b == access.bank then access.block ∷ in_bank b accesses else in_bank b accesses
