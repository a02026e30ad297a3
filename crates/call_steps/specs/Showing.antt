-- What `trace` prints around its last line: the lines of events and of paths, and the levels of blocks. And what `bus`
-- prints: the lines of transfers, and of how each core ended.
use Rattle.std.specs.Prelude.{◌≡◌, ℕ, ◌+◌, Bool, List, [], ◌∷◌, ◌++◌, codes, decimal, flat_map, map, take, Option, Some, None}
use Rattle.lt_isa.specs.Trace.{Stamped}
use Rattle.processor.specs.Watching.{WatcherTold, AnEvent, APath}
use Rattle.run_data.specs.PathText.{levels_behind, path_line}
use Rattle.run_data.specs.TraceText.{event_line, trace_text_of}
use Rattle.bus_arbiter.specs.Transfers.{Transfer}
use Rattle.call_replies.specs.declared.replies.Verdict.TheVariants.{Traced}
use Rattle.call_replies.specs.Texts.{Said, comes_to}

-- the line of an event, and of the paths of an access
abbrev pub shown_line : WatcherTold → List ℕ
shown_line (AnEvent s) = event_line s.stamp s.event
shown_line (APath stamp bank leaves) = path_line stamp bank (take leaves.len leaves.at)

abbrev pub shown_lines : List WatcherTold → List ℕ
shown_lines shown = flat_map shown_line shown

-- the line of a transfer: its core, and the line of its event
abbrev pub transfer_line : Transfer → List ℕ
transfer_line t = (decimal t.core ++ codes " ") ++ event_line t.stamp t.event

abbrev pub transfer_lines : List Transfer → List ℕ
transfer_lines transfers = flat_map transfer_line transfers

-- the line of a core: at which cycle it halted, if it did; and those of cores from a number on
abbrev pub halt_text : Option ℕ → List ℕ
halt_text None = codes " spent\n"
halt_text (Some at) = codes " halted " ++ decimal at ++ codes "\n"

abbrev pub core_line : ℕ → Option ℕ → List ℕ
core_line core halt = codes "core " ++ decimal core ++ halt_text halt

abbrev pub core_lines : ℕ → List (Option ℕ) → List ℕ
core_lines core [] = []
core_lines core (halt ∷ halts) = core_line core halt ++ core_lines (core + 1) halts

-- The lines before the last one, and the lines after it: for each oblivious bank from number 2 on the levels of its
-- blocks. For a bus the lines of its transfers and of how each core ended.
pub record Seen : Type 0 where
  pub shown : List WatcherTold
  pub levels : List (List (Option ℕ))
  pub transfers : List Transfer
  pub halts : List (Option ℕ)

abbrev pub run_seen : List WatcherTold → List (List (Option ℕ)) → Seen
run_seen shown levels = record { shown = shown; levels = levels; transfers = []; halts = [] }

abbrev pub bus_seen : List Transfer → List (Option ℕ) → Seen
bus_seen transfers halts = record { shown = []; levels = []; transfers = transfers; halts = halts }

abbrev pub nothing_seen : Seen
nothing_seen = run_seen [] []

-- events without paths and levels
abbrev pub events_alone : List Stamped → Seen
events_alone events = run_seen (map AnEvent events) []

-- a last line, with what is seen around it
abbrev pub around : Seen → Said → Said
around seen said = record {
  status = said.status;
  text =
      levels_behind
      (transfer_lines seen.transfers ++ (core_lines 0 seen.halts ++ (shown_lines seen.shown ++ said.text))) 2
      seen.levels;
}

-- without paths the text of a run is that of its trace
abbrev pub IsTraceText : Type 0
IsTraceText =
    (events : List Stamped) (halted : Bool)
    → (around (events_alone events) (comes_to (Traced halted))).text ≡ trace_text_of events halted
