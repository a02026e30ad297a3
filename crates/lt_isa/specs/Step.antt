-- One step of the machine. (GhostRider, ASPLOS 2015: the semantics of L_T. In this project the observer also sees the
-- cycle at which a step starts.)
use Rattle.std.specs.Prelude.{ℕ, ◌+◌, ◌-◌, ◌%◌, Bool, true, false, if◌then◌else◌, nat_lt, ℤ, pos, negsuc, List, length, slice_set, slice_get, Option, Some, None}
use Rattle.gr_word.specs.Words.{applied, compared, unsigned_of}
use Rattle.lt_isa.specs.declared.profiles.Profile.{Profile}
use Rattle.lt_isa.specs.declared.instructions.Instr.{Instr}
use Rattle.lt_isa.specs.declared.instructions.Instr.TheVariants.{Nop, Halt, Li, Alu, Ldb, Stb, Idb, Ldw, Stw, Jmp, Br}
use Rattle.lt_isa.specs.Object.{Parts, block_words, blocks_of}
use Rattle.lt_isa.specs.Machine.{Slot, Unbound, Bound, State, Observed, register, slot, block_at, word_in, set_register, set_slot, set_block, read_event, write_event}
use Rattle.lt_isa.specs.Costs.{cost_of}
use Rattle.lt_isa.specs.Windows.{access_start}

-- A step leads to a state and shows at most one event; or it stops the run and shows the halt; or it is a fault.
pub data StepResult : Type 0 where
  Goes : (event : Option Observed) (next : State) → StepResult
  Stops : (last : State) → StepResult
  Faults : StepResult

-- the cycle at which an instruction starts if the machine reaches it at a cycle: only a load or a store of a block may
-- wait
abbrev pub start_of : Profile → Instr → ℕ → ℕ
start_of profile (Ldb k b r) cycle = access_start profile cycle
start_of profile (Stb k) cycle = access_start profile cycle
start_of profile i cycle = cycle

-- The place to which an offset leads. Every place outside the code is a fault, so a target before the code is
-- represented by the place after its end.
-- Rule: step/jmp.
abbrev pub target_of : Parts → ℕ → ℤ → ℕ
target_of o place (pos n) = place + n
target_of o place (negsuc n) = if nat_lt n place then place - (n + 1) else length o.code

-- the state after an instruction: at another place, and at the cycle at which the instruction ends
abbrev pub passed : Parts → Instr → Bool → ℕ → ℕ → State → State
passed o i taken bank place s =
    record s { place = place; cycle = start_of o.profile i s.cycle + cost_of o i taken bank }

-- the state at the next place, if no block was accessed
abbrev pub went_on : Parts → Instr → State → State
went_on o i s = passed o i false 0 (s.place + 1) s

-- an action on a slot that must be bound
abbrev pub with_bound : Slot → (ℕ → ℕ → List ℤ → StepResult) → StepResult
with_bound Unbound act = Faults
with_bound (Bound bank block words) act = act bank block words

-- the number of the block that a word names in a bank, and of the word that it names in a block
-- Rule: profile/blocks.
abbrev pub block_named : Parts → ℕ → ℤ → ℕ
block_named o b word = unsigned_of word % blocks_of o b

abbrev pub word_named : Parts → ℤ → ℕ
word_named o word = unsigned_of word % block_words o

-- block a of bank b is loaded into slot k
abbrev pub loaded : State → ℕ → ℕ → ℕ → State
loaded s k b a = set_slot s k (Bound b a (block_at s b a))

-- what an instruction does
-- Rules: step/nop, step/halt, step/li, step/ldb, step/stb, step/idb, step/ldw, step/stw, step/br.
abbrev pub executed : Parts → State → Instr → StepResult
executed o s Nop = Goes None (went_on o Nop s)
executed o s Halt = Stops (passed o Halt false 0 s.place s)
executed o s (Li rd value) = Goes None (set_register (went_on o (Li rd value) s) rd value)
executed o s (Alu op rd ra rb) =
    Goes None (set_register (went_on o (Alu op rd ra rb) s) rd (applied op (register s ra) (register s rb)))
executed o s (Ldb k b r) =
    let a = block_named o b (register s r) in
    Goes (Some (read_event b a (block_at s b a))) (loaded (passed o (Ldb k b r) false b (s.place + 1) s) k b a)
executed o s (Stb k) = with_bound (slot s k) (λ b a words.
    Goes (Some (write_event b a words)) (set_block (passed o (Stb k) false b (s.place + 1) s) b a words))
executed o s (Idb rd k) = with_bound (slot s k) (λ b a words.
    Goes None (set_register (went_on o (Idb rd k) s) rd (pos a)))
executed o s (Ldw rd k ro) = with_bound (slot s k) (λ b a words.
    Goes None (set_register (went_on o (Ldw rd k ro) s) rd (word_in words (word_named o (register s ro)))))
executed o s (Stw rs k ro) = with_bound (slot s k) (λ b a words.
    Goes None (set_slot (went_on o (Stw rs k ro) s) k
    (Bound b a (slice_set words (word_named o (register s ro)) (register s rs)))))
executed o s (Jmp offset) = Goes None (passed o (Jmp offset) true 0 (target_of o s.place offset) s)
executed o s (Br cmp ra rb offset) =
    if compared cmp (register s ra) (register s rb)
    then Goes None (passed o (Br cmp ra rb offset) true 0 (target_of o s.place offset) s)
    else Goes None (passed o (Br cmp ra rb offset) false 0 (s.place + 1) s)

-- a place outside the code is a fault
abbrev pub executed_if : Parts → State → Option Instr → StepResult
executed_if o s None = Faults
executed_if o s (Some i) = executed o s i

-- one step from a state
unfoldable pub step : Parts → State → StepResult
step o s = executed_if o s (slice_get o.code s.place)

-- the cycle at which the next step starts
abbrev pub start_if : Parts → ℕ → Option Instr → ℕ
start_if o cycle None = cycle
start_if o cycle (Some i) = start_of o.profile i cycle

unfoldable pub step_start : Parts → State → ℕ
step_start o s = start_if o s.cycle (slice_get o.code s.place)
