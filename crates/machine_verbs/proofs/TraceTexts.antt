-- The text of a trace in a sink that holds nothing else.
use Rattle.std.proofs.Common.{◌≡◌, ◌≢◌, ℕ, ℤ, false, List, [], Option, Some, None, is_some, inl, inr, ap, sym, ◌∙◌, subst, Bool, true, refl}
use Rattle.std.proofs.lemmas.Option.{same_Some}
use Rattle.std.specs.Prelude.{map}
use Rattle.gr_base.specs.Prelude.{Adds}
use Rattle.gr_outside.specs.Prelude.{SinkSeen}
use Rattle.lt_isa.specs.Prelude.{Parts, trace}
use Rattle.run_data.specs.Prelude.{trace_text_of}
use Rattle.processor.specs.Prelude.{AnEvent, WatcherTold, events_in}
use Rattle.call_replies.specs.declared.replies.Verdict.TheVariants.{Traced}
use Rattle.call_steps.specs.Prelude.{PutsSaid, Seen, events_alone, run_seen, IsVerdict, said_at, Ends, IsRight, WhatIsShown, WhenItHalts, ExplainsRest}
use Rattle.machine_verbs.specs.Prelude.{IsTextOfTrace, PutsTrace, kept, traces_on, shows_on}
use Rattle.machine_verbs.proofs.Watches.{kept-events, text-alone, kept-all}
use Rattle.call_steps.proofs.Reaching.{with-answer}
use Rattle.call_steps.proofs.Answering.{judged-said}

added-only : (held : Option (List ℕ)) (bytes text : List ℕ) → held ≡ Some bytes → Adds (Some []) held text → bytes ≡ text
added-only (Some other) bytes text is adds = sym (same_Some other bytes is) ∙ adds
added-only None bytes text is adds = absurd cc

pub traced-text : (before after : SinkSeen) (o : Parts) (inputs : List (List ℤ)) (cycles : ℕ) (told : List WatcherTold)
    (status : ℕ) → before.held ≡ Some [] → events_in told ≡ trace o inputs cycles
    → PutsTrace before after (trace o inputs cycles) (kept false told) (λ levels. levels ≡ []) status → status ≢ 4
    → (bytes : List ℕ) → after.held ≡ Some bytes → IsTextOfTrace o inputs cycles bytes
traced-text before after o inputs cycles told status empty events put whole bytes held =
    record { halt = put.halt; ends = put.is; is = by put.put }
  where
    alone : run_seen (kept false told) put.levels ≡ events_alone (trace o inputs cycles)
    alone =
        ap (λ l. run_seen (kept false told) l) put.are
        ∙ ap (λ l. run_seen l []) (kept-events told ∙ ap (map AnEvent) events)

    by : PutsSaid before after
        (said_at (IsVerdict (run_seen (kept false told) put.levels) (Traced (is_some put.halt)))) status
        → bytes ≡ trace_text_of (trace o inputs cycles) (is_some put.halt)
    by (inl done) =
        added-only after.held bytes _ held (subst (λ h. Adds h after.held
        (said_at (IsVerdict (run_seen (kept false told) put.levels) (Traced (is_some put.halt)))).text) empty done.1)
        ∙ ap (λ (seen : Seen). (said_at (IsVerdict seen (Traced (is_some put.halt)))).text) alone
        ∙ text-alone (trace o inputs cycles) (is_some put.halt)
    by (inr cut) = absurd (whole cut.0)

-- the text of a trace was printed
pub traced-said : (before after : SinkSeen) (status cycles seed : ℕ) (paths recursive : Bool) (o : Parts)
    (inputs : List (List ℤ)) (told : List WatcherTold) (Are : List (List (Option ℕ)) → Type 0)
    → events_in told ≡ trace o inputs cycles
    → (paths ≡ false → (levels : List (List (Option ℕ))) → Are levels → levels ≡ [])
    → (paths ≡ true → (levels : List (List (Option ℕ))) → Are levels
    → IsRight (WhatIsShown recursive o inputs cycles seed) (run_seen told levels))
    → PutsTrace before after (trace o inputs cycles) (kept paths told) Are status
    → ExplainsRest before after status (traces_on paths recursive cycles seed o inputs)
traced-said before after status cycles seed false recursive o inputs told Are events none right put shelf now work
    reached =
    let alone : run_seen (kept false told) put.levels ≡ events_alone (trace o inputs cycles) =
    ap (λ l. run_seen (kept false told) l) (none refl put.levels put.are)
    ∙ ap (λ l. run_seen l []) (kept-events told ∙ ap (map AnEvent) events) in
    judged-said shelf now before after status work (events_alone (trace o inputs cycles)) (Traced (is_some put.halt))
    (with-answer (WhenItHalts o inputs cycles) (shows_on false recursive cycles seed o inputs) put.halt reached put.is)
    (subst (λ (seen : Seen). PutsSaid before after (said_at (IsVerdict seen (Traced (is_some put.halt)))) status)
    alone put.put)
traced-said before after status cycles seed true recursive o inputs told Are events none right put shelf now work
    reached =
    let seen : Seen = run_seen told put.levels in
    let first =
    with-answer (WhenItHalts o inputs cycles) (shows_on true recursive cycles seed o inputs) put.halt reached put.is in
    judged-said shelf now before after status work seen (Traced (is_some put.halt))
    (with-answer (WhatIsShown recursive o inputs cycles seed)
    (λ seen. Ends seen (Traced (is_some put.halt))) seen first (right refl put.levels put.are))
    (subst (λ l. PutsSaid before after
    (said_at (IsVerdict (run_seen l put.levels) (Traced (is_some put.halt)))) status)
    (kept-all told) put.put)
