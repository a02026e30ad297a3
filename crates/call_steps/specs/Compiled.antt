-- What `compile` writes: an object file of a program, for a machine of a profile and the usual latencies.
use Rattle.std.specs.Prelude.{◌≡◌, ℕ, ◌+◌, ◌*◌, ◌≤◌, Bool, true, false, List, [], length, Option, Some, None, Result, Ok, Err}
use Rattle.lt_isa.specs.Object.{Parts, usual_latencies}
use Rattle.src_tree.specs.Limits.{weight_of}
use Rattle.src_tree.specs.Trees.{Source}
use Rattle.trace_patterns.specs.Accepts.{Accepts}
use Rattle.bank_alloc.specs.Fits.{Fits}
use Rattle.bank_alloc.specs.Layout.{IsLaidOut}
use Rattle.scratch_alloc.specs.Plans.{Plan, standard_plan}
use Rattle.resident_alloc.specs.ResidentFits.{ResidentsFit}
use Rattle.source_folding.specs.Folded.{folded_source}
use Rattle.held_registers.specs.declared.registers.Held.{Held}
use Rattle.block_cache_gen.specs.StoredWords.{stored_words}
use Rattle.compiled_objects.specs.Compiles.{ExplainsResidents, ExplainsRoom, IsFor, stores_by}
use Rattle.compiled_objects.specs.FastLayout.{fast_plan}
use Rattle.compiled_objects.specs.Implements.{Implements}
use Rattle.compiled_objects.specs.declared.errors.CompileError.{CompileError}
use Rattle.call_replies.specs.declared.source_faults.SourceFault.{SourceFault}
use Rattle.call_steps.specs.declared.targets.Target.{Target}
use Rattle.call_steps.specs.Objects.{SpellsObject}
use Rattle.compiled_objects.specs.HeldNumbers as code
use Rattle.compiled_objects.specs.declared.errors.CompileError.TheVariants as room
use Rattle.call_replies.specs.declared.source_faults.SourceFault.TheVariants as fault

-- with `--fast` arrays that fit stay in the scratchpad
abbrev pub plan_for : Bool → Source → ℕ → Plan
plan_for false p w = standard_plan p w
plan_for true p w = fast_plan p w

abbrev pub HasRoom : Bool → Source → ℕ → Type 0
HasRoom false p w = Fits p w
HasRoom true p w = ResidentsFit p w

abbrev pub LacksRoom : Bool → CompileError → Source → ℕ → Type 0
LacksRoom false e p w = ExplainsRoom e p w
LacksRoom true e p w = ExplainsResidents e p w

-- the object has the places and the blocks of the program's plan
abbrev pub HasLayoutFor : Bool → Source → ℕ → Parts → Type 0
HasLayoutFor fast p w o = IsLaidOut p w (plan_for fast p w).places (plan_for fast p w).blocks o

-- the program that code is made of: with `--fast` one of cheaper expressions
abbrev pub source_for : Bool → Source → Source
source_for false p = p
source_for true p = folded_source p

-- the most instructions of the object's code
abbrev pub most_code : Bool → Source → ℕ
most_code false p = 120 * weight_of p + 64
most_code true p = 120 * weight_of p + 116

-- what registers hold for the whole run: with `--fast` the first scalars and numbers
abbrev pub held_for : Bool → Source → ℕ → List Held
held_for false p w = []
held_for true p w = code.held_for (folded_source p) (fast_plan p w).places

-- There is room for the program's variables. The bytes encode an object that is accepted, that computes what the
-- program means, and that has the program's layout for the profile's blocks, that profile with the usual latencies, and
-- no more instructions than the program's weight allows. It stores as many words as the padding makes; with `--fast`
-- the count includes the reads that padding has in place of stores.
pub record IsCompiledTo (p : Source) (target : Target) (bytes : List ℕ) : Type 0 where
  pub room : HasRoom target.fast p target.profile.block_log
  pub o : Parts
  pub spells : SpellsObject bytes o
  pub accepted : Accepts o
  pub implements : Implements p o
  pub layout : HasLayoutFor target.fast p target.profile.block_log o
  pub machine : IsFor target.profile usual_latencies o
  pub stores : stored_words target.fast o.code
      ≡ stores_by (source_for target.fast p) (plan_for target.fast p target.profile.block_log) target.profile
      target.fast (held_for target.fast p target.profile.block_log)
  pub size : length o.code ≤ most_code target.fast p

-- what lacks room, as it is printed; running out of memory isn't a fault
abbrev pub room_fault : CompileError → Option SourceFault
room_fault (room.TooManyScalars label) = Some (fault.Scalars label)
room_fault (room.BankFull bank) = Some (fault.BankFull bank)
room_fault room.Memory = None

-- an object file of the program, or what lacks room first
abbrev pub IsCompiled : Source → Target → Result (List ℕ) SourceFault → Type 0
IsCompiled p target (Ok bytes) = IsCompiledTo p target bytes
IsCompiled p target (Err shown) =
    (e : CompileError) × LacksRoom target.fast e p target.profile.block_log × (room_fault e ≡ Some shown)
