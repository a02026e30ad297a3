-- The bytes of a sink to which a trace is written line by line.
use Rattle.std.specs.Prelude.{◌≡◌, false, ℕ, ◌-◌, ◌≤◌, Bool, true, List, [], ◌∷◌, ◌++◌, length, take, drop, Option, Some, None, is_some}
use Rattle.lt_isa.specs.Trace.{Stamped}
use Rattle.gr_base.specs.Counts.{Rose}
use Rattle.gr_base.specs.Added.{Adds, AddsLess}
use Rattle.processor.specs.declared.ends.End.{End}
use Rattle.processor.specs.Ends.{EndsAs}
use Rattle.processor.specs.Watching.{WatcherTold, AnEvent, APath}
use Rattle.gr_outside.specs.Sink.{SinkSeen}
use Rattle.call_replies.specs.declared.replies.Verdict.TheVariants.{Traced}
use Rattle.call_steps.specs.Outside.{PutsSaid}
use Rattle.call_steps.specs.Runs.{HaltOf}
use Rattle.bus_arbiter.specs.Transfers.{Transfer}
use Rattle.call_steps.specs.Showing.{run_seen, shown_line, shown_lines, transfer_line, transfer_lines}
use Rattle.call_steps.specs.Work.{IsVerdict, said_at}

-- which of a watcher's observations have a line: every event, and a path only if paths are printed
abbrev pub kept : Bool → List WatcherTold → List WatcherTold
kept paths [] = []
kept paths (AnEvent event ∷ told) = AnEvent event ∷ kept paths told
kept true (APath stamp bank leaves ∷ told) = APath stamp bank leaves ∷ kept true told
kept false (APath stamp bank leaves ∷ told) = kept false told

-- From a position on the sink holds this text of lines. If no print has failed, that is all; otherwise the lines end at
-- a mark, and what the failed print left follows.
pub record Lines (bytes : List ℕ) (start stop : ℕ) (whole : Bool) (text : List ℕ) : Type 0 where
  pub head : List ℕ
  pub tail : List ℕ
  pub all : bytes ≡ head ++ text ++ tail
  pub begins : length head ≡ start
  pub stops : whole ≡ false → length (head ++ text) ≡ stop
  pub nothing_more : whole ≡ true → tail ≡ []

-- a sink whose bytes aren't known may hold any lines
abbrev pub HoldsLines : Option (List ℕ) → ℕ → ℕ → Bool → List ℕ → Type 0
HoldsLines None start stop whole text = Unit {0}
HoldsLines (Some bytes) start stop whole text = Lines bytes start stop whole text

-- it holds the lines of what the watcher received
abbrev pub HoldsTold : Bool → Option (List ℕ) → ℕ → ℕ → Bool → List WatcherTold → Type 0
HoldsTold paths held start stop whole told = HoldsLines held start stop whole (shown_lines (kept paths told))

-- and the lines of transfers that the watcher received
abbrev pub HoldsTransfers : Option (List ℕ) → ℕ → ℕ → Bool → List Transfer → Type 0
HoldsTransfers held start stop whole told = HoldsLines held start stop whole (transfer_lines told)

-- after the whole lines the sink holds a proper prefix of this line
abbrev pub HoldsPart : List ℕ → ℕ → List ℕ → Type 0
HoldsPart bytes stop line = (n : ℕ) × (n ≤ length line - 1) × (drop stop bytes ≡ take n line)

-- it may have failed at something that has a line, and holds a part of that
abbrev pub Tears : Bool → Option (List ℕ) → ℕ → WatcherTold → Type 0
Tears paths None stop shown = Unit {0}
Tears paths (Some bytes) stop (AnEvent event) = HoldsPart bytes stop (shown_line (AnEvent event))
Tears true (Some bytes) stop (APath stamp bank leaves) = HoldsPart bytes stop (shown_line (APath stamp bank leaves))
Tears false (Some bytes) stop (APath stamp bank leaves) = ⊥

-- it may have failed at a transfer, and holds a part of its line
abbrev pub TearsTransfer : Option (List ℕ) → ℕ → Transfer → Type 0
TearsTransfer None stop t = Unit {0}
TearsTransfer (Some bytes) stop t = HoldsPart bytes stop (transfer_line t)

-- bytes were only added at the end; if a sink's bytes are known now, they were known before
abbrev pub Grows : Option (List ℕ) → Option (List ℕ) → Type 0
Grows (Some before) (Some now) = (more : List ℕ) × (now ≡ before ++ more)
Grows (Some before) None = Unit {0}
Grows None (Some now) = ⊥
Grows None None = Unit {0}

-- The lines of a run that showed these events were printed whole, and the run ended so; or the sink failed, its count
-- rose, and it gained less than all the lines.
abbrev pub PutsShown : SinkSeen → SinkSeen → List Stamped → List WatcherTold → Option End → Type 0
PutsShown before after events shown (Some end) =
    EndsAs events end × Adds before.held after.held (shown_lines shown) × (after.faults ≡ before.faults)
PutsShown before after events shown None =
    Rose before.faults after.faults × AddsLess before.held after.held (shown_lines shown)

-- The text of a trace was printed, followed by its last line and levels of this kind, and the exit status is its
-- status.
pub record PutsTrace (before after : SinkSeen) (events : List Stamped) (shown : List WatcherTold)
    (AreEnd : List (List (Option ℕ)) → Type 0) (status : ℕ) : Type 0 where
  pub halt : Option ℕ
  pub is : HaltOf events halt
  pub levels : List (List (Option ℕ))
  pub are : AreEnd levels
  pub put : PutsSaid before after
      (said_at (IsVerdict (run_seen shown levels) (Traced (is_some halt)))) status
