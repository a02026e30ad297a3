-- The bytes of a sink to which a watcher writes the lines of events.
use Rattle.std.proofs.Common.{◌≡◌, ℕ, ◌<◌, Bool, true, false, List, [], ◌∷◌, ◌++◌, length, map, take, Option, Some, None, refl, sym, ap, ◌∙◌, subst, arith, length-append}
use Rattle.std.proofs.lemmas.List.{append-nil}
use Rattle.std.proofs.lemmas.Grind.{flat_map-append}
use Rattle.gr_base.specs.Prelude.{Adds, AddsLess}
use Rattle.lt_isa.specs.Prelude.{Stamped}
use Rattle.std.specs.Prelude.{codes, decimal, flat_map}
use Rattle.run_data.specs.Prelude.{event_line, event_text, leaves_text}
use Rattle.banks.specs.declared.bank.Leaves.{Leaves}
use Rattle.processor.specs.Prelude.{WatcherTold, AnEvent, APath, TellsMore, events_in}
use Rattle.machine_verbs.specs.Prelude.{Lines, HoldsLines, HoldsTold, Tears, Grows, kept}
use Rattle.machine_verbs.proofs.PutLines.{cut_at_next, line_held, lines_put}
use Rattle.call_steps.specs.Prelude.{IsTraceText, shown_line, shown_lines}

-- events that the watcher received in two parts
kept-append : (paths : Bool) (xs ys : List WatcherTold) → kept paths (xs ++ ys) ≡ kept paths xs ++ kept paths ys
kept-append paths [] ys = refl
kept-append paths (AnEvent event ∷ xs) ys = ap (λ rest. AnEvent event ∷ rest) (kept-append paths xs ys)
kept-append true (APath stamp bank leaves ∷ xs) ys =
    ap (λ rest. APath stamp bank leaves ∷ rest) (kept-append true xs ys)
kept-append false (APath stamp bank leaves ∷ xs) ys = kept-append false xs ys

-- with paths everything has a line, and without them only the events
pub kept-all : (shown : List WatcherTold) → kept true shown ≡ shown
kept-all [] = refl
kept-all (AnEvent event ∷ shown) = ap (λ rest. AnEvent event ∷ rest) (kept-all shown)
kept-all (APath stamp bank leaves ∷ shown) = ap (λ rest. APath stamp bank leaves ∷ rest) (kept-all shown)

-- without paths the events are kept
pub kept-events : (shown : List WatcherTold) → kept false shown ≡ map AnEvent (events_in shown)
kept-events [] = refl
kept-events (AnEvent event ∷ shown) = ap (λ rest. AnEvent event ∷ rest) (kept-events shown)
kept-events (APath stamp bank leaves ∷ shown) = kept-events shown

-- the lines of events without paths are those of a trace's text
pub lines-alone : (events : List Stamped)
    → shown_lines (map AnEvent events) ≡ flat_map (λ s. event_line s.stamp s.event) events
lines-alone [] = refl
lines-alone (s ∷ events) = ap (λ rest. event_line s.stamp s.event ++ rest) (lines-alone events)

lines-more : (events : List WatcherTold) (s : WatcherTold) → shown_lines (events ++ s ∷ []) ≡ shown_lines events
    ++ shown_line s
lines-more events s = flat_map-append shown_line events (s ∷ [])
    ∙ ap (λ l. shown_lines events ++ l) (append-nil (shown_line s))

-- the watcher received something that has a line
told_line : (paths : Bool) (before now : Option (List ℕ)) (start stop mark : ℕ) (s : WatcherTold)
    → kept paths (s ∷ []) ≡ s ∷ [] → Adds before now (shown_line s)
    → TellsMore (HoldsTold paths before start stop true) (HoldsTold paths now start mark true) (s ∷ [])
told_line paths before now start stop mark s has added told lines =
    subst (HoldsLines now start mark true)
    (sym (ap shown_lines (kept-append paths told (s ∷ []) ∙ ap (λ l. kept paths told ++ l) has)
    ∙ lines-more (kept paths told) s))
    (line_held before now start stop mark (shown_line s) added (shown_lines (kept paths told)) lines)

-- the line of an event
pub seen_told : (paths : Bool) (before now : Option (List ℕ)) (start stop mark : ℕ) (s : Stamped)
    → Adds before now (shown_line (AnEvent s))
    → TellsMore (HoldsTold paths before start stop true) (HoldsTold paths now start mark true) (AnEvent s ∷ [])
seen_told paths before now start stop mark s added = told_line paths before now start stop mark (AnEvent s) refl added

-- the line of a path
pub path_told : (before now : Option (List ℕ)) (start stop mark stamp bank : ℕ) (leaves : Leaves)
    → Adds before now (shown_line (APath stamp bank leaves)) → TellsMore (HoldsTold true before start stop true)
    (HoldsTold true now start mark true) (APath stamp bank leaves ∷ [])
path_told before now start stop mark stamp bank leaves added =
    told_line true before now start stop mark (APath stamp bank leaves) refl added

-- the watcher received paths, which have no line
pub path_untold : (held : Option (List ℕ)) (start stop : ℕ) (whole : Bool) (stamp bank : ℕ) (leaves : Leaves)
    → TellsMore (HoldsTold false held start stop whole) (HoldsTold false held start stop whole)
    (APath stamp bank leaves ∷ [])
path_untold held start stop whole stamp bank leaves told lines =
    subst (λ l. HoldsLines held start stop whole (shown_lines l))
    (sym (kept-append false told (APath stamp bank leaves ∷ []) ∙ append-nil (kept false told))) lines

-- all the lines were written
pub events_put : (before now : Option (List ℕ)) (start stop stop' : ℕ) (events : List WatcherTold)
    → HoldsLines before start stop true [] → Grows before now → HoldsLines now start stop' true (shown_lines events)
    → Adds before now (shown_lines events)
events_put before now start stop stop' events made grew lines =
    lines_put before now start stop stop' (shown_lines events) made grew lines

length-line : (s : WatcherTold) → 0 < length (shown_line s)
length-line (AnEvent s) = omega (arith, length-append (decimal s.stamp ++ codes " " ++ event_text s.event) (codes "\n"))
length-line (APath stamp bank leaves) =
    omega (
      arith,
      length-append (decimal stamp ++ codes " P" ++ decimal bank ++ leaves_text (take leaves.len leaves.at))
          (codes "\n"),
    )

cut_at : (paths : Bool) (before now : List ℕ) (start stop stop' : ℕ) (told : List WatcherTold) (next : WatcherTold)
    (rest : List WatcherTold) → Lines before start stop true [] → (more : List ℕ) → now ≡ before ++ more
    → Lines now start stop' false (shown_lines (kept paths told)) → Tears paths (Some now) stop' next
    → AddsLess (Some before) (Some now) (shown_lines (kept paths (told ++ next ∷ rest)))
cut_at paths before now start stop stop' told (AnEvent s) rest made more grew lines torn =
    subst (AddsLess (Some before) (Some now))
    (sym (ap shown_lines (kept-append paths told (AnEvent s ∷ rest))
    ∙ flat_map-append shown_line (kept paths told) (AnEvent s ∷ kept paths rest)))
    (cut_at_next before now start stop stop' (shown_lines (kept paths told)) (shown_line (AnEvent s))
    (shown_lines (kept paths rest)) (length-line (AnEvent s)) made more grew lines torn)
cut_at true before now start stop stop' told (APath stamp bank leaves) rest made more grew lines torn =
    subst (AddsLess (Some before) (Some now))
    (sym (ap shown_lines (kept-append true told (APath stamp bank leaves ∷ rest))
    ∙ flat_map-append shown_line (kept true told) (APath stamp bank leaves ∷ kept true rest)))
    (cut_at_next before now start stop stop' (shown_lines (kept true told)) (shown_line (APath stamp bank leaves))
    (shown_lines (kept true rest)) (length-line (APath stamp bank leaves)) made more grew lines torn)
cut_at false before now start stop stop' told (APath stamp bank leaves) rest made more grew lines torn = absurd torn

-- a line that breaks off
pub events_cut : (paths : Bool) (before now : Option (List ℕ)) (start stop stop' : ℕ) (shown told : List WatcherTold)
    (next : WatcherTold) (rest : List WatcherTold) → shown ≡ told ++ next ∷ rest
    → HoldsLines before start stop true [] → Grows before now
    → TellsMore (HoldsTold paths before start stop true) (HoldsTold paths now start stop' false) told
    → Tears paths now stop' next → AddsLess before now (shown_lines (kept paths shown))
events_cut paths (Some b) (Some n) start stop stop' shown told next rest front made grew heard torn =
    subst (λ l. AddsLess (Some b) (Some n) (shown_lines (kept paths l))) (sym front)
    (cut_at paths b n start stop stop' told next rest made grew.0 grew.1 (heard [] made) torn)
events_cut paths (Some b) None start stop stop' shown told next rest front made grew heard torn = tt
events_cut paths None (Some n) start stop stop' shown told next rest front made grew heard torn = absurd grew
events_cut paths None None start stop stop' shown told next rest front made grew heard torn = tt

-- the text of events without paths
pub text-alone : IsTraceText
text-alone events true = ap (λ lines. lines ++ codes "end halted\n") (lines-alone events)
text-alone events false = ap (λ lines. lines ++ codes "end spent\n") (lines-alone events)
