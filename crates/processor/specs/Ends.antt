-- How a run ends, and where a watcher fails in it. (This project's profile.)
use Rattle.std.specs.Prelude.{◌≡◌, ℕ, zero, suc, ◌+◌, ◌-◌, ◌^◌, ◌≤◌, Bool, true, false, List, [], ◌∷◌, ◌++◌, Result, Ok, Err, OnErr, is_ok}
use Rattle.gr_base.specs.Counts.{Rose}
use Rattle.lt_isa.specs.Machine.{State}
use Rattle.lt_isa.specs.Object.{Parts}
use Rattle.lt_isa.specs.Trace.{Stamped, HaltsAt, final_from}
use Rattle.banks.specs.declared.bank.Leaves.{Leaves}
use Rattle.banks.specs.Accesses.{Access, accesses_from}
use Rattle.processor.specs.ObliviousBanks.{ComeBy}
use Rattle.processor.specs.declared.ends.End.{End}
use Rattle.processor.specs.declared.ends.End.TheVariants.{Halted, Spent}
use Rattle.processor.specs.declared.watching.WatchFailed.{WatchFailed}
use Rattle.processor.specs.Watching.{WatcherTold, AnEvent, APath, events_in, run_shown}

-- no halt is among the events
abbrev pub NoHalt : List Stamped → Type 0
NoHalt events = (at : ℕ) → HaltsAt events at → ⊥

-- The end of a run that showed these events: halted at a cycle where they have a halt of that cycle, and of no other;
-- spent where they have none.
abbrev pub EndsAs : List Stamped → End → Type 0
EndsAs events (Halted at) = HaltsAt events at × ((other : ℕ) → HaltsAt events other → other ≡ at)
EndsAs events Spent = NoHalt events

-- the run used all its cycles, so it can be continued
abbrev pub is_spent : Result End WatchFailed → Bool
is_spent (Ok (Halted at)) = false
is_spent (Ok Spent) = true
is_spent (Err e) = false

-- A watcher failed while it received these reports: it received a proper prefix of them, and failed at the next one.
pub record Broke {W : Type 0} (hears : W → List WatcherTold → W → Type 0) (before now : W)
    (torn : WatcherTold → Type 0) (shown : List WatcherTold) : Type 0 where
  pub told : List WatcherTold
  pub next : WatcherTold
  pub rest : List WatcherTold
  pub front : shown ≡ told ++ next ∷ rest
  pub heard : hears before told now
  pub at : torn next

-- A watcher after calls with this result. It is whole if they didn't fail. Its count of faults rose if they failed, and
-- otherwise it didn't fall.
pub record AfterCalls {A E W : Type 0} (reveals : W → Type 0) (fault_count : W → ℕ) (unbroken : W → Bool)
    (alike : W → W → Type 0) (result : Result A E) (before now : W) : Type 0 where
  pub told_before : reveals now → reveals before
  pub failed : OnErr result (Rose (fault_count before) (fault_count now))
  pub whole : unbroken now ≡ is_ok result
  pub count : fault_count before ≤ fault_count now
  pub count_stays : fault_count before ≡ 2 ^ 64 - 1 → fault_count now ≡ 2 ^ 64 - 1
  pub same : alike before now

-- how many paths are reported, and how many accesses are made to oblivious banks
abbrev pub path_count : List WatcherTold → ℕ
path_count [] = 0
path_count (AnEvent event ∷ told) = path_count told
path_count (APath stamp bank leaves ∷ told) = path_count told + 1

abbrev pub one_if_oblivious : ℕ → ℕ
one_if_oblivious zero = 0
one_if_oblivious (suc zero) = 0
one_if_oblivious (suc (suc i)) = 1

abbrev pub oblivious_count : List Access → ℕ
oblivious_count [] = 0
oblivious_count (access ∷ accesses) = one_if_oblivious access.bank + oblivious_count accesses

-- A run up to cycle n was broken off by its watcher: it made a prefix of its accesses, and each oblivious bank results
-- from the one before by these; and the paths of all of them were reported, or of all but the last. The machine is in
-- the state that a run up to an earlier cycle leaves. That run makes these accesses. It shows what the watcher received
-- and what it failed at, and no event after that.
pub record BrokeOff {B W : Type 0} (shows : B → List ℕ → List Leaves) (comes : B → List ℕ → B → Type 0)
    (hears : W → List WatcherTold → W → Type 0) (o : Parts) (s : State) (n : ℕ) (before now : List B) (last : State)
    (was is : W) (torn : WatcherTold → Type 0) : Type 0 where
  pub broke : Broke hears was is torn (run_shown shows o s before n)
  pub made : List Access
  pub left : List Access
  pub front : accesses_from o s n ≡ made ++ left
  pub come : ComeBy comes before made now
  pub least : path_count broke.told ≤ oblivious_count made
  pub most : oblivious_count made ≤ path_count broke.told + 1
  pub cut : ℕ
  pub within : cut ≤ n
  pub state : last ≡ final_from o s cut
  pub accesses : made ≡ accesses_from o s cut
  pub behind : List WatcherTold
  pub shown : run_shown shows o s before cut ≡ broke.told ++ broke.next ∷ behind
  pub no_event : events_in behind ≡ []
