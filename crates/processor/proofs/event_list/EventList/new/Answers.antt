use Rattle.std.proofs.Common.{[], ap, sym, arith}
use Rattle.processor.specs.Prelude.{Told, word_count}
use Rattle.processor.proofs.KeptEvents.{events_of-none}
use Rattle.processor.proofs.event_list.EventList.new.Goals as goal

pub invariant_of-result : goal.invariant_of-result
invariant_of-result c =
    let entries = c.in_ok-entries.ensures in
    let words = c.in_ok-words.ensures in
    record {
      within = rw entries.items (λ k d below. absurd (omega arith));
      counted = rw (entries.items, words.items) (ap word_count (sym (events_of-none [])));
      entries_fit = rw entries.items (omega arith);
      words_fit = rw words.items (omega arith);
      entries_reserved = omega (arith, entries.exact);
      words_reserved = omega (arith, words.exact);
    }

pub returns : goal.returns
returns c =
    let entries = c.in_ok-entries.ensures in
    rw entries.items
    (ap (λ events.
    let t : Told = record { events = events; event_room = c.args.event_room; word_room = c.args.word_room } in t)
    (events_of-none c.in_ok-words.words.items))
