-- The levels of the blocks of a machine's oblivious banks, now and at the end of a run. For the contracts of private
-- functions, and for proofs.
use Rattle.std.specs.Prelude.{◌≡◌, ◌≢◌, ℕ, ◌+◌, ◌-◌, ◌<◌, ◌≤◌, Bool, true, false, List, [], length, Option, Some, None, slice_index_or, Result, OnErr, OnOk}
use Rattle.std.specs.List.{All}
use Rattle.lt_isa.specs.Machine.{State}
use Rattle.lt_isa.specs.Object.{Parts}
use Rattle.gr_outside.specs.Sink.{SinkSeen}
use Rattle.gr_outside.specs.declared.sink.SinkFailed.{SinkFailed}
use Rattle.banks.specs.Accesses.{accesses_from, in_bank}
use Rattle.processor.specs.ObliviousBanks.{oram_of}
use Rattle.rand_chacha.specs.ChaCha.{ChaCha}
use Rattle.rand_core.specs.Stream.{Stream}
use Rattle.path_oram.specs.Orams.{ComesBy, Oram}
use Rattle.path_oram.specs.Places.{Places}
use Rattle.path_oram.specs.Settles.{AreLevels}
use Rattle.path_oram.specs.Whole.{IsWhole}
use Rattle.run_data.specs.PathText.{levels_behind, levels_line}
use Rattle.run_data.specs.Putting.{PutsText}
use Rattle.call_steps.specs.Outside.{PutsSaid}
use Rattle.call_steps.specs.Seeds.{stream_from}

-- bank b is there, and this is true of it
abbrev pub OfOram : {B : Type 0} → Option B → (B → Type 0) → Type 0
OfOram None holds = ⊥
OfOram (Some oram) holds = holds oram

-- the levels of the first banks, from number 2 on
abbrev pub FirstBanks : (ℕ → List (Option ℕ) → Type 0) → List (List (Option ℕ)) → Type 0
FirstBanks Are levels = (b : ℕ) → 2 ≤ b → b < length levels + 2 → Are b (slice_index_or levels (b - 2) [])

-- the blocks of bank b are on these levels
abbrev pub StandNow : List (Oram ChaCha) → ℕ → List (Option ℕ) → Type 0
StandNow orams b levels = OfOram (oram_of orams b) (λ oram. AreLevels oram.places levels)

-- Levels that the blocks of a bank may have after accesses: the accesses may lead to places where they have them.
pub record MayEndOn (oram : Oram ChaCha) (blocks : List ℕ) (levels : List (Option ℕ)) : Type 0 where
  pub after : Places
  pub left : Stream
  pub come : ComesBy oram.places (stream_from oram.words) blocks after left
  pub are : AreLevels after levels

abbrev pub StandAfter : Parts → State → ℕ → List (Oram ChaCha) → ℕ → List (Option ℕ) → Type 0
StandAfter o s cycles orams b levels =
    OfOram (oram_of orams b) (λ oram. MayEndOn oram (in_bank b (accesses_from o s cycles)) levels)

-- the levels after a run: none without paths, and with them those of all oblivious banks
pub record AllStand (o : Parts) (s : State) (cycles : ℕ) (orams : List (Oram ChaCha))
    (levels : List (List (Option ℕ))) : Type 0 where
  pub count : length levels ≡ length o.banks - 2
  pub banks : FirstBanks (StandAfter o s cycles orams) levels

abbrev pub AreBehind : Bool → Parts → State → ℕ → List (Oram ChaCha) → List (List (Option ℕ)) → Type 0
AreBehind false o s cycles orams levels = levels ≡ []
AreBehind true o s cycles orams levels = AllStand o s cycles orams levels

-- before a run each block of a bank occurs once, and its accesses are to existing blocks
abbrev pub MayRun : Parts → State → ℕ → List (Oram ChaCha) → Type 0
MayRun o s cycles orams = (b : ℕ) → 2 ≤ b → b < length o.banks
    → OfOram (oram_of orams b) (λ oram.
    IsWhole oram.places × All (λ block. block < length oram.places.leaves) (in_bank b (accesses_from o s cycles)))

-- The line of a bank's levels was printed, or the sink failed at it.
pub record PutsBank (before after : SinkSeen) (b : ℕ) (places : Places)
    (result : Result (Unit {0}) SinkFailed) : Type 0 where
  pub levels : List (Option ℕ)
  pub are : AreLevels places levels
  pub put : PutsText before.held after.held before.faults after.faults (levels_line b levels) result

-- The lines of levels of all banks were printed, or the sink failed at the last of these.
pub record PutsLevels (before after : SinkSeen) (banks : ℕ) (orams : List (Oram ChaCha))
    (result : Result (Unit {0}) SinkFailed) : Type 0 where
  pub levels : List (List (Option ℕ))
  pub stand : FirstBanks (StandNow orams) levels
  pub most : length levels ≤ banks - 2
  pub all : OnOk result (length levels ≡ banks - 2)
  pub some : OnErr result (1 ≤ length levels)
  pub put : PutsText before.held after.held before.faults after.faults (levels_behind [] 2 levels) result

-- A last line was printed with its levels after it, or the sink failed at the line or at the last of these levels.
pub record PutsLast (before after : SinkSeen) (paths : Bool) (banks : ℕ) (orams : List (Oram ChaCha)) (status : ℕ)
    (line : List ℕ) (answer : ℕ) : Type 0 where
  pub levels : List (List (Option ℕ))
  pub stand : FirstBanks (StandNow orams) levels
  pub none : paths ≡ false → levels ≡ []
  pub most : length levels ≤ banks - 2
  pub all : paths ≡ true → answer ≢ 4 → length levels ≡ banks - 2
  pub put : PutsSaid before after (record { status = status; text = levels_behind line 2 levels }) answer
