-- The verb `bus OBJ INPUT [OBJ INPUT ..] [--cycles n] [--seed s]`: one to eight pairs of an object file and an input
-- file, each pair a core of one bus.
use Rattle.std.specs.Prelude.{ℕ, ◌+◌, ℤ, Bool, true, false, List, [], ◌∷◌, ◌++◌, Option, Some, None}
use Rattle.lt_isa.specs.Object.{Parts}
use Rattle.bus_arbiter.specs.Refusals.{refusal}
use Rattle.bus_arbiter.specs.Shares.{share_of}
use Rattle.bus_arbiter.specs.declared.shares.Share.{Share}
use Rattle.bus_arbiter.specs.declared.errors.BusError.{BusError}
use Rattle.call_replies.specs.declared.replies.Verdict.TheVariants.{OffBus, Shared}
use Rattle.call_steps.specs.Questions.{WhatIsJoined, WhenItHalts}
use Rattle.call_steps.specs.Showing.{bus_seen, nothing_seen}
use Rattle.call_replies.specs.Texts.{Said, comes_to, no_memory}
use Rattle.call_steps.specs.Work.{Work, Asks, Ends}
use Rattle.call_steps.specs.Steps.{with_accepted, with_inputs}
use Rattle.command_words.specs.Pairs.{Pair}
use Rattle.bus_arbiter.specs.declared.errors.BusError.TheVariants as bus

-- what was read so far: the plan, and the objects and inputs of its cores
pub record Read : Type 0 where
  pub plan : List Share
  pub objects : List Parts
  pub inputs : List (List (List ℤ))

abbrev pub none_read : Read
none_read = record { plan = []; objects = []; inputs = [] }

abbrev pub one_read : Read → Parts → List (List ℤ) → Read
one_read read o d = record {
  plan = read.plan ++ share_of o ∷ [];
  objects = read.objects ++ o ∷ [];
  inputs = read.inputs ++ d ∷ [];
}

abbrev pub on_plan : ℕ → Option BusError → Work → Work
on_plan k None next = next
on_plan k (Some cause) next = Ends nothing_seen (OffBus k cause)

-- one pair as core k: its object, which the plan has to take, and its inputs
abbrev pub with_core : Pair → ℕ → Read → (Read → Work) → Work
with_core pair k read next =
    with_accepted pair.object (λ o.
    on_plan k (refusal read.plan (share_of o)) (with_inputs o pair.input (λ d. next (one_read read o d))))

-- pair after pair, from core k on
abbrev pub with_cores : List Pair → ℕ → Read → (Read → Work) → Work
with_cores [] k read next = next read
with_cores (pair ∷ pairs) k read next = with_core pair k read (λ more. with_cores pairs (k + 1) more next)

-- with the cycles at which runs halt, where they do
abbrev pub with_halts : ℕ → List Parts → List (List (List ℤ)) → (List (Option ℕ) → Work) → Work
with_halts cycles [] inputs next = next []
with_halts cycles (o ∷ os) [] next = next []
with_halts cycles (o ∷ os) (d ∷ ds) next =
    Asks (WhenItHalts o d cycles) (λ halt. with_halts cycles os ds (λ more. next (halt ∷ more)))

abbrev pub all_halted : List (Option ℕ) → Bool
all_halted [] = true
all_halted (None ∷ halts) = false
all_halted (Some at ∷ halts) = all_halted halts

-- the joined list of all cores' transfers, and how each core ended
abbrev pub shares_bus : ℕ → Read → Work
shares_bus cycles read =
    with_halts cycles read.objects read.inputs (λ halts.
    Asks (WhatIsJoined read.objects read.inputs cycles) (λ joined.
    Ends (bus_seen joined halts) (Shared (all_halted halts))))

abbrev pub bus_work : List Pair → ℕ → Work
bus_work pairs cycles = with_cores pairs 0 none_read (shares_bus cycles)

-- the line if the plan takes no object as core k
abbrev pub bus_said : ℕ → BusError → Said
bus_said k bus.NoWindow = comes_to (OffBus k bus.NoWindow)
bus_said k (bus.OtherPeriod period) = comes_to (OffBus k (bus.OtherPeriod period))
bus_said k (bus.TooLong end) = comes_to (OffBus k (bus.TooLong end))
bus_said k (bus.Overlap other) = comes_to (OffBus k (bus.Overlap other))
bus_said k bus.Memory = no_memory
