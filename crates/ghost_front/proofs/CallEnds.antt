-- How the parts of a call come together: what each exit of the front shows, and that every other file is as it was.
use Rattle.std.proofs.Common.{◌≡◌, ◌≢◌, ◌≤◌, inl, inr, ℕ, true, false, List, [], Option, None, Some, refl, sym, ap, ◌∙◌, subst, arith, true≢false}
use Rattle.std.specs.Option.{option_map}
use Rattle.std.specs.FinMap.{get}
use Rattle.std.specs.Str.{bytes_eq}
use Rattle.std.proofs.lemmas.Bool.{false_from_ne_true}
use Rattle.std.proofs.lemmas.Option.{none-some, same_Some}
use Rattle.std.proofs.lemmas.Slice.Eq.{bytes_eq-Decides}
use Rattle.gr_base.specs.Prelude.{Adds, AddsLess, Rose}
use Rattle.gr_outside.specs.Prelude.{Files, SameBut, SinkSeen}
use Rattle.real_outside.specs.Known.{InputSeen, IsFrontOf}
use Rattle.call_replies.specs.Prelude.{no_memory}
use Rattle.call_steps.specs.Prelude.{PutsSaid, outside, Work}
use Rattle.call_laws.specs.Prelude.{Promises, IsOutput, work_of}
use Rattle.call_laws.proofs.Safe.{promises-follow}
use Rattle.ghost_front.specs.Prelude.{Streams, as_shelf, overlaid, stream_of, told, Around, Delivers, NotDone, Whole, NotPut, IsCall, Takes, Untaken, Taken, NotTaken, Serves, Refused, NoRoom, Printed, Streamed, StreamsFile, KeepsOthers, Echoes, SaysPlain, around, begun, bytes_of, dashes_in, held_seen, most_input}
use Rattle.ghost_front.proofs.Overlaid.{get_other, kept_below}
use Rattle.ghost_front.proofs.Saying.{echoes_then, says_nothing, says_then}

-- ---- bytes that are put, and then passed on

pub added_before_flush : (before mid after : SinkSeen) (bytes : List ℕ) → Adds before.held mid.held bytes
    → after.held ≡ mid.held → Adds before.held after.held bytes
added_before_flush before mid after bytes adds flushed = subst (λ held. Adds before.held held bytes) (sym flushed) adds

pub rose_in_flush : (before mid after : SinkSeen) → mid.faults ≡ before.faults → Rose mid.faults after.faults
    → Rose before.faults after.faults
rose_in_flush before mid after calm rose = subst (λ n. Rose n after.faults) calm rose

-- ---- a line that is put, and then passed on

pub said_whole : (before mid after : SinkSeen) (text : List ℕ) (status : ℕ) → Adds before.held mid.held text
    → mid.faults ≡ before.faults → after.held ≡ mid.held → after.faults ≡ mid.faults
    → PutsSaid before after (record { status = status; text = text }) status
said_whole before mid after text status adds calm flushed still =
    inl (refl, added_before_flush before mid after text adds flushed, still ∙ calm)

pub said_cut : (before after : SinkSeen) (text : List ℕ) (status : ℕ) → AddsLess before.held after.held text
    → Rose before.faults after.faults → PutsSaid before after (record { status = status; text = text }) 4
said_cut before after text status less rose = inr (refl, rose, less)

-- nothing is stated of the bytes of a sink that may fail to pass them on
untold : (before now : Option (List ℕ)) (text : List ℕ) → now ≡ None → AddsLess before now text
untold (Some held) None text none = tt
untold None None text none = tt
untold before (Some held) text none = absurd (let f : ◌≡◌ {A = Option (List ℕ)} (Some held) None = none in cc)

pub said_unflushed : (before mid after : SinkSeen) (text : List ℕ) (status : ℕ) → mid.faults ≡ before.faults
    → mid.held ≡ None → after.held ≡ mid.held → Rose mid.faults after.faults
    → PutsSaid before after (record { status = status; text = text }) 4
said_unflushed before mid after text status calm none flushed rose =
    inr (refl, rose_in_flush before mid after calm rose, untold before.held after.held text (flushed ∙ none))

-- ---- the file for standard output

pub not_done : (file : Option (List ℕ)) (before : SinkSeen) (verdict : ℕ) → verdict ≢ 0
    → Delivers file before before verdict verdict
not_done file before verdict other = NotDone other refl

pub whole : (file : Option (List ℕ)) (before mid after : SinkSeen) (verdict : ℕ) (bytes : List ℕ) → verdict ≡ 0
    → bytes ≡ bytes_of file → Adds before.held mid.held bytes → mid.faults ≡ before.faults
    → after.held ≡ mid.held → after.faults ≡ mid.faults → Delivers file before after verdict 0
whole file before mid after verdict bytes done same adds calm flushed still =
    Whole done (subst (λ held. Adds before.held held (bytes_of file)) (sym flushed)
    (subst (λ b. Adds before.held mid.held b) same adds)) (still ∙ calm)

pub not_put : (file : Option (List ℕ)) (before after : SinkSeen) (verdict : ℕ) → verdict ≡ 0
    → Rose before.faults after.faults → Delivers file before after verdict 4
not_put file before after verdict done rose = NotPut done rose

pub not_flushed : (file : Option (List ℕ)) (before mid after : SinkSeen) (verdict : ℕ) → verdict ≡ 0
    → mid.faults ≡ before.faults → Rose mid.faults after.faults → Delivers file before after verdict 4
not_flushed file before mid after verdict done calm rose = NotPut done (subst (λ n. Rose n after.faults) calm rose)

-- the file is delivered, while another sink keeps the text
pub streams_file : (words : List (List ℕ)) (before after : Streams) (input : InputSeen)
    (output output-after errors errors-after : SinkSeen) (text : Option (List ℕ)) (verdict status : ℕ)
    → IsCall words (outside (as_shelf before) (held_seen (Some []))) (outside (as_shelf after) (held_seen text)) verdict
    → Delivers after.output output output-after verdict status → Echoes errors errors-after (bytes_of text)
    → StreamsFile words before (around before input output errors) (around after input output-after errors-after) status
streams_file words before after input output output-after errors errors-after text verdict status call delivers echoes =
    record { verdict = verdict; text = text; call = call; delivered = delivers; echoed = echoes }

-- ---- standard input

pub untaken : (count : ℕ) (input : InputSeen) (shelf : Streams) → count ≡ 0 → Takes count input input shelf shelf
untaken count input shelf none = Untaken none refl

one_of : (count : ℕ) → count ≤ 1 → count ≢ 0 → count ≡ 1
one_of count most some = omega (arith, most, some)

pub taken : (count : ℕ) (before after : InputSeen) (shelf now : Streams) (bytes : List ℕ) → count ≤ 1 → count ≢ 0
    → IsFrontOf before.left most_input bytes → after.faults ≡ before.faults
    → now ≡ record shelf { input = Some bytes } → Takes count before after shelf now
taken count before after shelf now bytes most some front calm is =
    subst (Takes count before after shelf) (sym is) (Taken bytes (one_of count most some) front calm)

pub not_taken : (count : ℕ) (before after : InputSeen) (shelf : Streams) → count ≤ 1 → count ≢ 0
    → Rose before.faults after.faults → Takes count before after shelf shelf
not_taken count before after shelf most some rose = NotTaken (one_of count most some) rose

-- only the input of the shelf changes
pub takes_only : (count : ℕ) (before after : InputSeen) (shelf now : Streams) → Takes count before after shelf now
    → now ≡ record shelf { input = now.input }
takes_only count before after shelf now (Untaken none same) = refl
takes_only count before after shelf now (Taken bytes one front calm) = refl
takes_only count before after shelf now (NotTaken one rose) = refl

-- ---- the exits of a call

pub refused : (words : List (List ℕ)) (before after : Streams) (input : InputSeen)
    (output output-after errors : SinkSeen) (status : ℕ) → 2 ≤ (dashes_in words).read
    → IsCall [] (outside (as_shelf before) output) (outside (as_shelf after) output-after) status
    → Serves words (around before input output errors) (around after input output-after errors) status
refused words before after input output output-after errors status twice call =
    Refused twice refl call (says_nothing errors)

pub no_room : (words : List (List ℕ)) (before after : Streams) (input input-after : InputSeen)
    (output output-after errors : SinkSeen) (status : ℕ) → PutsSaid output output-after no_memory status
    → after ≡ before
    → Serves words (around before input output errors) (around after input-after output-after errors) status
no_room words before after input input-after output output-after errors status said same =
    NoRoom same said (says_nothing errors)

pub printed : (words : List (List ℕ)) (before mid after : Streams) (input input-after : InputSeen)
    (output output-after errors : SinkSeen) (status : ℕ)
    → Takes (dashes_in words).read input input-after before mid → (dashes_in words).written ≡ false
    → IsCall words (outside (as_shelf mid) output) (outside (as_shelf after) output-after) status
    → Serves words (around before input output errors) (around after input-after output-after errors) status
printed words before mid after input input-after output output-after errors status takes written call =
    Printed mid takes written call (says_nothing errors)

pub streamed : (words : List (List ℕ)) (before mid after : Streams) (input input-after : InputSeen)
    (output output-after errors errors-after : SinkSeen) (status : ℕ)
    → Takes (dashes_in words).read input input-after before mid → (dashes_in words).written ≡ true
    → StreamsFile words mid (around mid input-after output errors) (around after input-after output-after errors-after) status
    → Serves words (around before input output errors) (around after input-after output-after errors-after) status
streamed words before mid after input input-after output output-after errors errors-after status takes written file =
    Streamed mid takes written (record {
      verdict = file.verdict;
      text = file.text;
      call = file.call;
      delivered = file.delivered;
      echoed = file.echoed;
    })

-- an explanation may follow on standard error
pub said_later : (words : List (List ℕ)) (before : Around) (shelf : Streams) (input : InputSeen)
    (output errors errors-after : SinkSeen) (status : ℕ) → SaysPlain errors errors-after
    → Serves words before (around shelf input output errors) status
    → Serves words before (around shelf input output errors-after) status
said_later words before shelf input output errors errors-after status says (Refused twice same call plain) =
    Refused twice same call (says_then before.errors errors errors-after plain says)
said_later words before shelf input output errors errors-after status says (NoRoom same said plain) =
    NoRoom same said (says_then before.errors errors errors-after plain says)
said_later words before shelf input output errors errors-after status says (Printed mid takes written call plain) =
    Printed mid takes written call (says_then before.errors errors errors-after plain says)
said_later words before shelf input output errors errors-after status says (Streamed mid takes written file) =
    Streamed mid takes written (record {
      verdict = file.verdict;
      text = file.text;
      call = file.call;
      delivered = file.delivered;
      echoed = echoes_then before.errors errors errors-after (bytes_of file.text) file.echoed says;
    })

-- ---- a call over a real system

-- a sink whose bytes aren't visible
abbrev pub sink_of : ℕ → SinkSeen
sink_of faults = record { held = None; faults = faults }

pub begins : (words : List (List ℕ)) (shelf shelf-after : Streams) (input input-after : InputSeen)
    (output output-after errors errors-after : SinkSeen) (left : Option (List ℕ)) (status : ℕ)
    → shelf ≡ (begun left).shelf → input ≡ (begun left).input → output ≡ (begun left).output
    → errors ≡ (begun left).errors
    → Serves words (around shelf input output errors) (around shelf-after input-after output-after errors-after) status
    → (after : Around) × Serves words (begun left) after status
begins words shelf shelf-after input input-after output output-after errors errors-after left status of-shelf of-input
    of-output of-errors serves =
    let after : Around = around shelf-after input-after output-after errors-after in
    let first = begun left in (
      after,
      subst (λ (s : Streams). Serves words (around s first.input first.output first.errors) after status) of-shelf
          (subst (λ (i : InputSeen). Serves words (around shelf i first.output first.errors) after status) of-input
          (subst (λ (o : SinkSeen). Serves words (around shelf input o first.errors) after status) of-output
          (subst (λ (e : SinkSeen). Serves words (around shelf input output e) after status) of-errors serves))),
    )

-- a call whose file doesn't go to standard output says nothing but plain text
pub serves_plain : (words : List (List ℕ)) (before after : Around) (status : ℕ) → (dashes_in words).written ≡ false
    → Serves words before after status → SaysPlain before.errors after.errors
serves_plain words before after status written (Refused twice same call plain) = plain
serves_plain words before after status written (NoRoom same said plain) = plain
serves_plain words before after status written (Printed mid takes is call plain) = plain
serves_plain words before after status written (Streamed mid takes is file) = absurd (true≢false (sym is ∙ written))

-- ---- every other file is as it was

-- both shelves, if the files below are told
told_both : (own now : Option (List ℕ)) (before after : Option Files) (one other : Files) → before ≡ Some one
    → after ≡ Some other → option_map (overlaid now) after ≡ option_map (overlaid own) before
    → overlaid now other ≡ overlaid own one
told_both own now before after one other is-one is-other same =
    same_Some _ _ (sym (ap (option_map (overlaid now)) is-other) ∙ same ∙ ap (option_map (overlaid own)) is-one)

pub told_keeps : (asked : Option Work) (before after : Streams) → told after ≡ told before
    → KeepsOthers asked before.files after.files
told_keeps asked before after same one other is-one is-other name others unwritten =
    let own : Option (List ℕ) = stream_of before.input before.output in
    let now : Option (List ℕ) = stream_of after.input after.output in
    sym (get_other now other name others)
    ∙ ap (λ files. get files name) (told_both own now before.files after.files one other is-one is-other same)
    ∙ get_other own one name others

pub same_files_keep : (asked : Option Work) (before after : Option Files) → after ≡ before → KeepsOthers asked before after
same_files_keep asked before after same one other is-one is-other name others unwritten =
    ap (λ files. get files name) (same_Some _ _ (sym is-other ∙ same ∙ is-one))

-- the same if standard input was read before
pub told_keeps_after : (asked : Option Work) (before mid after : Streams) → mid ≡ record before { input = mid.input }
    → told after ≡ told mid → KeepsOthers asked before.files after.files
told_keeps_after asked before mid after read same one other is-one is-other name others unwritten =
    told_keeps asked mid after same one other (ap (λ s. s.files) read ∙ is-one) is-other name others unwritten

-- and so if what follows keeps them
keeps_after : (asked : Option Work) (before mid after : Streams) → mid ≡ record before { input = mid.input }
    → KeepsOthers asked mid.files after.files → KeepsOthers asked before.files after.files
keeps_after asked before mid after read keeps one other is-one is-other name others unwritten =
    keeps one other (ap (λ s. s.files) read ∙ is-one) is-other name others unwritten

pub input_keeps : (asked : Option Work) (before after : Streams) → after ≡ record before { input = after.input }
    → KeepsOthers asked before.files after.files
input_keeps asked before after read = same_files_keep asked before.files after.files (ap (λ s. s.files) read)

-- a file that isn't the output isn't named as the output is
not_named : (asked : Option Work) (name output : List ℕ) → IsOutput asked output → (IsOutput asked name → ⊥)
    → bytes_eq name output ≡ false
not_named asked name output is unwritten =
    false_from_ne_true (bytes_eq name output)
    (λ same. unwritten (subst (IsOutput asked) (sym ((bytes_eq-Decides name output).0 same)) is))

but_output : (asked : Option Work) (before after : Streams) (output : List ℕ) → IsOutput asked output
    → SameBut output (told before) (told after) → KeepsOthers asked before.files after.files
but_output asked before after output is same one other is-one is-other name others unwritten =
    let own : Option (List ℕ) = stream_of before.input before.output in
    let now : Option (List ℕ) = stream_of after.input after.output in
    kept_below own now output name one other others (not_named asked name output is unwritten)
    (subst (λ f. SameBut output (option_map (overlaid own) f) (Some (overlaid now other))) is-one
    (subst (λ f. SameBut output (option_map (overlaid own) before.files) (option_map (overlaid now) f)) is-other same))

pub promises_keep : (asked : Option Work) (before after : Streams) (sink sink-after : SinkSeen) (status : ℕ)
    → Promises asked (outside (as_shelf before) sink) (outside (as_shelf after) sink-after) status
    → KeepsOthers asked before.files after.files
promises_keep asked before after sink sink-after status promises =
    elim ((promises-follow asked _ _ status promises).others) [
      | inl same ↦ told_keeps asked before after same
      | inr only ↦ but_output asked before after only.name only.output only.others
    ]

-- no words ask for work, so every file but `-` is as it was
no-work : (name : List ℕ) → IsOutput (work_of []) name → ⊥
no-work name written = none-some written.0 written.1

none-kept : (asked : Option Work) (before after : Option Files) → KeepsOthers (work_of []) before after
    → KeepsOthers asked before after
none-kept asked before after keeps one other is-one is-other name others unwritten =
    keeps one other is-one is-other name others (no-work name)

pub serves_keep : (words : List (List ℕ)) (before after : Around) (status : ℕ) → Serves words before after status
    → KeepsOthers (work_of words) before.shelf.files after.shelf.files
serves_keep words before after status (Refused twice same call says) =
    none-kept (work_of words) before.shelf.files after.shelf.files
    (promises_keep (work_of []) before.shelf after.shelf before.output after.output status call.promises)
serves_keep words before after status (NoRoom same said says) =
    same_files_keep (work_of words) before.shelf.files after.shelf.files (ap (λ s. s.files) same)
serves_keep words before after status (Printed mid takes written call says) =
    keeps_after (work_of words) before.shelf mid after.shelf (takes_only _ _ _ before.shelf mid takes)
    (promises_keep (work_of words) mid after.shelf before.output after.output status call.promises)
serves_keep words before after status (Streamed mid takes written file) =
    keeps_after (work_of words) before.shelf mid after.shelf (takes_only _ _ _ before.shelf mid takes)
    (promises_keep (work_of words) mid after.shelf (held_seen (Some [])) (held_seen file.text) file.verdict
    file.call.promises)
