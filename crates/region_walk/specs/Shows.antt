-- For the proofs and for private clauses only: what one instruction of an arm shows, by what its slot is bound to.
-- (GhostRider, ASPLOS 2015: the type system of L_T; the order of refusals is this project's profile.)
use Rattle.std.specs.Prelude.{ℕ, Result, Ok, Err}
use Rattle.gr_base.specs.declared.errors.Memory.{Memory as NoMemory}
use Rattle.trace_patterns.specs.declared.reasons.Reason.TheVariants.{SecretAddress, UnboundSlot, RamStoreInSecret}
use Rattle.region_walk.specs.declared.states.Slot.{Slot}
use Rattle.region_walk.specs.declared.states.Slot.TheVariants.{Any, Ram, Eram, Oram}
use Rattle.region_walk.specs.declared.singles.Single.{Single}
use Rattle.region_walk.specs.declared.singles.Single.TheVariants.{Refuses, Quiet, Shows, Memory}
use Rattle.trace_patterns.specs.declared.events.SymEvent.TheVariants as event

-- no event, unless memory ran out
abbrev pub quiet_after : Result (Unit {0}) NoMemory → ℕ → Single
quiet_after (Ok done) cycles = Quiet cycles
quiet_after (Err e) cycles = Memory

-- a load of a block, whose slot is then bound to it
abbrev pub shown_block : Slot → Single
shown_block Any = Refuses SecretAddress
shown_block (Ram block origin) = Shows (event.RamRead block)
shown_block (Eram block) = Shows (event.EncRead block)
shown_block (Oram bank) = Shows (event.Oram bank)

abbrev pub shown_load : Result (Unit {0}) NoMemory → Slot → Single
shown_load (Ok done) bound = shown_block bound
shown_load (Err e) bound = Memory

-- a store of a block, never in plain memory
abbrev pub shown_store : Slot → Single
shown_store Any = Refuses UnboundSlot
shown_store (Ram block origin) = Refuses RamStoreInSecret
shown_store (Eram block) = Shows (event.EncWrite block)
shown_store (Oram bank) = Shows (event.Oram bank)

-- an instruction whose slot must be bound; and a store of a word, never in plain memory
abbrev pub if_bound : Slot → Single → Single
if_bound Any go = Refuses UnboundSlot
if_bound other go = go

abbrev pub if_stored : Slot → Single → Single
if_stored Any go = Refuses UnboundSlot
if_stored (Ram block origin) go = Refuses RamStoreInSecret
if_stored (Eram block) go = go
if_stored (Oram bank) go = go
