use Rattle.std.proofs.Common.{◌∙◌, ap, arith, length-append, ◌∷◌, [], refl, length, ◌≡◌}
use Rattle.lt_isa.specs.Prelude.{observed_of}
use Rattle.processor.proofs.KeptEvents.{entry_of, room_for_one, room_for_words, pushed_within, pushed_counted, pushed_seen}
use Rattle.processor.proofs.event_list.EventList.push.Goals as goal

pub push_within-requires : goal.push_within-requires
push_within-requires c =
    omega (
      arith,
      room_for_one c.self.inside.words.items c.self.inside.entries c.self.inside.event_room _ _ c.self.view_is
          (observed_of c.args.event.now) c.requires,
      c.self.invariant.entries_reserved,
    )

pub invariant_of-self : goal.invariant_of-self
invariant_of-self c =
    let entry = entry_of c.args.stamp c.of_event.result c.len.result (length c.words_shown-words.result.now) in
    let words = c.self.inside.words.items in
    let entries = c.self.inside.entries.items in
    let more = c.words_shown-words.result.now in
    let starts : c.len.result ≡ length words = c.len.ensures ∙ c.self.inside.words.ok.0 in
    let one =
    room_for_one words c.self.inside.entries c.self.inside.event_room _ _ c.self.view_is
    (observed_of c.args.event.now) c.requires in
    let fit =
    room_for_words words c.self.inside.entries c.self.inside.event_room _ _ c.self.view_is
    (observed_of c.args.event.now) c.requires c.self.invariant.counted in
    record {
      within = pushed_within words more c.extend_within.new.words.items entries c.push_within.new.items.items
          c.args.stamp c.len.result (length more) c.of_event.result (observed_of c.args.event.now)
          c.self.invariant.within starts refl c.words_shown-words.ensures c.of_event.ensures
          c.extend_within.ensures.items c.push_within.ensures.items;
      counted = pushed_counted words more c.extend_within.new.words.items entries c.push_within.new.items.items
          c.args.stamp c.len.result (length more) c.of_event.result (observed_of c.args.event.now)
          c.self.invariant.within starts refl c.words_shown-words.ensures c.of_event.ensures
          c.extend_within.ensures.items c.push_within.ensures.items c.self.invariant.counted;
      entries_fit = omega (
        arith,
        one,
        ap length c.push_within.ensures.items,
        length-append entries (entry ∷ []),
        c.self.inside.entries.ok.0,
      );
      words_fit = omega (
        arith,
        fit,
        ap length c.extend_within.ensures.items,
        length-append words more,
        ap length c.words_shown-words.ensures,
      );
      entries_reserved = omega (arith, c.push_within.ensures.capacity, c.self.invariant.entries_reserved);
      words_reserved = omega (arith, c.extend_within.ensures.capacity, c.self.invariant.words_reserved);
    }

pub returns : goal.returns
returns c =
    pushed_seen c.self.inside.words.items c.words_shown-words.result.now c.extend_within.new.words.items
    c.self.inside.entries.items c.push_within.new.items.items
    c.args.stamp c.len.result (length c.words_shown-words.result.now) c.of_event.result (observed_of c.args.event.now)
    c.self.invariant.within (c.len.ensures ∙ c.self.inside.words.ok.0) refl c.words_shown-words.ensures
    c.of_event.ensures c.extend_within.ensures.items c.push_within.ensures.items
    _ _ _ c.self.view_is
