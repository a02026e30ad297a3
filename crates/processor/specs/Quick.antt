-- How a machine continues between its accesses, over its registers and slots only. Only for proofs and for the
-- contracts of private functions.
use Rattle.std.specs.Prelude.{◌≡◌, ℕ, ◌<◌, ◌≤◌, ◌^◌, ◌⊎◌, ℤ, List, Option, Some, None, IfSome, slice_get}
use Rattle.lt_isa.specs.declared.instructions.Instr.{Instr}
use Rattle.lt_isa.specs.declared.instructions.Instr.TheVariants.{Nop, Halt, Li, Alu, Ldb, Stb, Idb, Ldw, Stw, Jmp, Br}
use Rattle.lt_isa.specs.Object.{Parts}
use Rattle.lt_isa.specs.Machine.{Slot, State}
use Rattle.lt_isa.specs.Shape.{IsShaped}
use Rattle.lt_isa.specs.Step.{Goes, Faults, executed}
use Rattle.lt_isa.specs.Trace.{trace_from, final_from}
use Rattle.banks.specs.Accesses.{accesses_from}
use Rattle.processor.specs.declared.quick.Point.{Point}
use Rattle.processor.specs.Stores.{Pad}

-- the state with these registers and slots over some banks, at a place and a cycle
abbrev pub state_at : List ℤ → List Slot → List (List (List ℤ)) → Point → State
state_at registers slots banks at =
    record { registers = registers; slots = slots; banks = banks; place = at.place; cycle = at.cycle }

-- An instruction is left for a step: a halt, or a load or a store of a block. Any other is a fault.
abbrev pub IsLeft : Parts → State → Instr → Type 0
IsLeft o s Nop = executed o s Nop ≡ Faults
IsLeft o s (Li rd value) = executed o s (Li rd value) ≡ Faults
IsLeft o s (Alu op rd ra rb) = executed o s (Alu op rd ra rb) ≡ Faults
IsLeft o s (Idb rd k) = executed o s (Idb rd k) ≡ Faults
IsLeft o s (Ldw rd k ro) = executed o s (Ldw rd k ro) ≡ Faults
IsLeft o s (Stw rs k ro) = executed o s (Stw rs k ro) ≡ Faults
IsLeft o s (Jmp offset) = executed o s (Jmp offset) ≡ Faults
IsLeft o s (Br cmp ra rb offset) = executed o s (Br cmp ra rb offset) ≡ Faults
IsLeft o s other = Unit {0}

-- the next instruction is left for a step, or there is none
abbrev pub StandsForStep : Parts → State → Type 0
StandsForStep o s = IfSome (slice_get o.code s.place) (IsLeft o s)

-- an instruction continued to another point without an access, over any banks; or it is left, and nothing changed
abbrev pub PassesQuickly : Parts → Instr → List ℤ → Pad → Point → Option Point → List ℤ → Pad → Type 0
PassesQuickly o i registers pad at None registers' pad' =
    (registers' ≡ registers) × (pad' ≡ pad)
    × ((banks : List (List (List ℤ))) → IsLeft o (state_at registers pad.slots banks at) i)
PassesQuickly o i registers pad at (Some next) registers' pad' =
    (pad'.words ≡ pad.words) × (at.cycle < next.cycle) × (next.cycle < 2 ^ 34)
    × ((banks : List (List (List ℤ)))
    → executed o (state_at registers pad.slots banks at) i ≡ Goes None (state_at registers' pad'.slots banks next))

-- A run up to cycle n from one state shows, accesses and leaves what one from another state does.
pub record RunsAlike (o : Parts) (s t : State) (n : ℕ) : Type 0 where
  pub trace : trace_from o s n ≡ trace_from o t n
  pub final : final_from o s n ≡ final_from o t n
  pub accesses : accesses_from o s n ≡ accesses_from o t n

-- the same of runs up to cycle n, and up to each cycle from the second state's on
abbrev pub RunsAlikeOn : Parts → State → State → ℕ → Type 0
RunsAlikeOn o s t n = (m : ℕ) → (m ≡ n) ⊎ (t.cycle ≤ m) → RunsAlike o s t m

-- so does a machine that moved from one point to another, over any banks of its object
abbrev pub CameAlike : Parts → ℕ → List ℤ → List Slot → Point → List ℤ → List Slot → Point → Type 0
CameAlike o n registers slots at registers' slots' next =
    (banks : List (List (List ℤ))) → IsShaped o (state_at registers slots banks at)
    → IsShaped o (state_at registers' slots' banks next)
    × RunsAlikeOn o (state_at registers slots banks at) (state_at registers' slots' banks next) n
