-- How far a part of the code has come with a run of a bus. (Only contracts of private functions and proofs say so.)
use Rattle.std.specs.Prelude.{◌≡◌, ℕ, ◌+◌, ◌≤◌, ℤ, Bool, true, false, List, [], ◌∷◌, length, map, Option}
use Rattle.gr_base.specs.Added.{Adds, AddsLess}
use Rattle.gr_base.specs.Counts.{Rose}
use Rattle.gr_outside.specs.Sink.{SinkSeen}
use Rattle.lt_isa.specs.Object.{Parts}
use Rattle.lt_isa.specs.Trace.{Stamped}
use Rattle.bus_arbiter.specs.Cores.{Core}
use Rattle.bus_arbiter.specs.Laws.{AllFit}
use Rattle.bus_arbiter.specs.Shares.{share_of}
use Rattle.bus_arbiter.specs.Transfers.{IsJoined, Transfer}
use Rattle.path_oram.specs.Orams.{Oram}
use Rattle.rand_chacha.specs.ChaCha.{ChaCha}
use Rattle.call_replies.specs.declared.replies.Verdict.TheVariants.{Shared}
use Rattle.call_steps.specs.Beginning.{BankBegins, HasBegun}
use Rattle.machine_verbs.specs.Bus.{Read, all_halted}
use Rattle.call_steps.specs.Outside.{PutsSaid}
use Rattle.call_steps.specs.Runs.{HaltOf}
use Rattle.call_steps.specs.Showing.{bus_seen, core_lines, transfer_lines}
use Rattle.call_replies.specs.Texts.{verdict_status}
use Rattle.call_steps.specs.Work.{IsVerdict, said_at}

-- the plan is that of the objects, and the inputs are theirs
pub record AreRead (read : Read) : Type 0 where
  pub planned : read.plan ≡ map share_of read.objects
  pub fit : AllFit read.objects read.inputs

-- cores from number k on at the start of their runs
abbrev pub AllBegin : ℕ → ℕ → List Parts → List (List (List ℤ)) → List (Core (Oram ChaCha)) → Type 0
AllBegin seed k [] [] [] = Unit {0}
AllBegin seed k [] [] (c ∷ cores) = ⊥
AllBegin seed k [] (d ∷ ds) cores = ⊥
AllBegin seed k (o ∷ os) [] cores = ⊥
AllBegin seed k (o ∷ os) (d ∷ ds) [] = ⊥
AllBegin seed k (o ∷ os) (d ∷ ds) (c ∷ cores) =
    HasBegun (BankBegins o d seed k) o d c.machine × AllBegin seed (k + 1) os ds cores

-- the halts of some traces
abbrev pub AreHalts : List (List Stamped) → List (Option ℕ) → Type 0
AreHalts [] [] = Unit {0}
AreHalts [] (h ∷ hs) = ⊥
AreHalts (es ∷ traces) [] = ⊥
AreHalts (es ∷ traces) (h ∷ hs) = HaltOf es h × AreHalts traces hs

abbrev pub halts_of : List (Core (Oram ChaCha)) → List (Option ℕ)
halts_of cores = map (λ c. c.halted) cores

-- a text was printed, or the sink failed
abbrev pub PutsLines : SinkSeen → SinkSeen → List ℕ → Bool → Type 0
PutsLines before after text true = Adds before.held after.held text × (after.faults ≡ before.faults)
PutsLines before after text false = Rose before.faults after.faults × AddsLess before.held after.held text

-- so it is with the lines of the joined list of some traces
pub record PutsJoined (before after : SinkSeen) (traces : List (List Stamped)) (all : Bool) : Type 0 where
  pub joined : List Transfer
  pub joins : IsJoined traces joined
  pub put : PutsLines before after (transfer_lines joined) all

-- the lines about how cores ended were printed, and their status is the exit status; or the sink failed at one
-- Rules: bus/halted, bus/spent.
pub record PutsHalts (before after : SinkSeen) (halts : List (Option ℕ)) (status : ℕ) : Type 0 where
  pub put : PutsSaid before after
      (record { status = verdict_status (Shared (all_halted halts)); text = core_lines 0 halts }) status
  pub some : status ≡ 4 → 1 ≤ length halts

-- all lines of a bus were printed, or the sink failed
pub record PutsShared (before after : SinkSeen) (traces : List (List Stamped)) (status : ℕ) : Type 0 where
  pub joined : List Transfer
  pub joins : IsJoined traces joined
  pub halts : List (Option ℕ)
  pub are : AreHalts traces halts
  pub put : PutsSaid before after
      (said_at (IsVerdict (bus_seen joined halts) (Shared (all_halted halts)))) status
