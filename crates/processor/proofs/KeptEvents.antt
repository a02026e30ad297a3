-- Events that are kept as entries with their words: what is seen of them, and one more.
use Rattle.std.proofs.Common.{◌≡◌, ℕ, ◌+◌, ◌-◌, ◌<◌, ◌≤◌, true, false, ◌||◌, ltb, leb, ℤ, List, [], ◌∷◌, ◌++◌, length, get_or, take, drop, refl, sym, ap, ◌∙◌, subst, ⊎_elim, arith, vec_len, zero-add}
use Rattle.std.proofs.lemmas.Bool.{cases_lt, lt-ltb, le-ltb, le-leb, or_left, or_parts, ltb-false}
use Rattle.std.proofs.lemmas.List.{get_or-map, length-map, map-append, take-append-le, drop-append-le, length-append, length-drop, take_all, drop_at}
use Rattle.std.proofs.lemmas.List.Elements.{All-push, All-tail}
use Rattle.std.proofs.lemmas.List.Sums.{sum_by-append}
use Rattle.std.specs.declared.vec.Vec.{Vec}
use Rattle.lt_isa.specs.Prelude.{Observed, Halted, Stamped, seen_at}
use Rattle.processor.specs.declared.event_list.EventEntry.{EventEntry}
use Rattle.processor.specs.declared.event_list.EventKind.{EventKind}
use Rattle.processor.specs.Prelude.{event_of, entry_words, told_by, events_of, AreWithin, Told, event_words, word_count, passes_room, told_more}

pub length-events_of : (words : List ℤ) (entries : List EventEntry) → length (events_of words entries) ≡ length entries
unfolding events_of
length-events_of words entries = length-map entries (told_by words)

pub event-at : (words : List ℤ) (entries : List EventEntry) (i : ℕ) (d : EventEntry) (e : Stamped)
    → i < length entries → get_or (events_of words entries) i e ≡ told_by words (get_or entries i d)
unfolding events_of
event-at words entries i d e within = get_or-map (told_by words) entries i d e within

-- no entries mean no events
pub events_of-none : (words : List ℤ) → events_of words [] ≡ []
unfolding events_of
events_of-none words = refl

word_count-push : (events : List Stamped) (s : Stamped)
    → word_count (events ++ s ∷ []) ≡ word_count events + length (event_words s.event)
word_count-push events s =
    sum_by-append (λ t. length (event_words t.event)) events (s ∷ [])
    ∙ ap (λ n. word_count events + n) (zero-add (length (event_words s.event)))

-- further words change no entry
words_in-more : (words more : List ℤ) (entry : EventEntry)
    → entry.start + entry.len ≤ length words → entry_words (words ++ more) entry ≡ entry_words words entry
words_in-more words more entry within =
    ap (take entry.len) (drop-append-le entry.start words more (omega arith))
    ∙ take-append-le entry.len (drop entry.start words) more (omega (arith, length-drop entry.start words))

events_of-same : (words more : List ℤ) (entries : List EventEntry)
    → AreWithin words entries → events_of (words ++ more) entries ≡ events_of words entries
unfolding events_of
events_of-same words more [] within = refl
events_of-same words more (entry ∷ entries) within =
    let here : entry.start + entry.len ≤ length words = within 0 entry (omega arith) in
    ap (λ ws. seen_at entry.stamp (event_of entry.kind ws) ∷ events_of (words ++ more) entries)
    (words_in-more words more entry here)
    ∙ ap (λ list. told_by words entry ∷ list)
    (events_of-same words more entries (All-tail (λ e. e.start + e.len ≤ length words) entry entries within))

AreWithin-more : (words more : List ℤ) (entries : List EventEntry)
    → AreWithin words entries → AreWithin (words ++ more) entries
AreWithin-more words more entries within k d exists =
    let old : (get_or entries k d).start + (get_or entries k d).len ≤ length words = within k d exists in
    omega (arith, old, length-append words more)

-- one more entry, of the words at the end
module _ (words more : List ℤ) (entries : List EventEntry) (entry : EventEntry) (within : AreWithin words entries)
    (starts : entry.start ≡ length words) (counts : entry.len ≡ length more) where
  last-words : entry_words (words ++ more) entry ≡ more
  last-words =
      rw (starts, counts)
      (ap (take (length more)) (drop_at words more (length words) refl) ∙ take_all (length more) more (omega arith))

  pub events_of-more : events_of (words ++ more) (entries ++ entry ∷ [])
      ≡ events_of words entries ++ seen_at entry.stamp (event_of entry.kind more) ∷ []
  unfolding events_of
  events_of-more =
      map-append (told_by (words ++ more)) entries (entry ∷ [])
      ∙ (ap (λ list. list ++ told_by (words ++ more) entry ∷ []) (events_of-same words more entries within)
      ∙ ap (λ ws. events_of words entries ++ seen_at entry.stamp (event_of entry.kind ws) ∷ []) last-words)

  pub AreWithin-push : AreWithin (words ++ more) (entries ++ entry ∷ [])
  AreWithin-push =
      All-push (λ e. e.start + e.len ≤ length (words ++ more)) entries entry (AreWithin-more words more entries within)
      (omega (arith, starts, counts, length-append words more))

-- a limit with what is used of it taken off, and with it
ltb-rest : (room used more : ℕ) → used ≤ room → ltb (room - used) more ≡ ltb room (used + more)
ltb-rest room used more within =
    ⊎_elim
    (λ over. lt-ltb (room - used) more over ∙ sym (lt-ltb room (used + more) (omega arith)))
    (λ fits. le-ltb (room - used) more fits ∙ sym (le-ltb room (used + more) (omega arith)))
    (cases_lt (room - used) more)

-- What is seen of a list of events: how many there are, the one at a place, and whether one more would pass a room.
abbrev pub seen_as : List ℤ → List EventEntry → ℕ → ℕ → Told
seen_as words entries event_room word_room =
    record { events = events_of words entries; event_room = event_room; word_room = word_room }

module _ {Z : Type 0} (words : List ℤ) (entries : Vec EventEntry Z) (event_room word_room : ℕ) (told : Told)
    (is : seen_as words entries.items event_room word_room ≡ told) where
  -- one entry an event
  pub event_count : vec_len entries ≡ length told.events
  event_count = entries.ok.0 ∙ (sym (length-events_of words entries.items) ∙ ap (λ t. length t.events) is)

  -- an event has an entry
  pub event_exists : (i : ℕ) → i < length told.events → i < vec_len entries
  event_exists i exists = subst (λ n. i < n) (sym event_count) exists

  -- the words of an entry are among the words kept
  pub entry_within : AreWithin words entries.items → (i : ℕ) (entry : EventEntry) → entry ≡ get_or entries.items i entry
      → i < length told.events → entry.start + entry.len ≤ length words
  entry_within within i entry read exists =
      subst (λ e. e.start + e.len ≤ length words) (sym read)
      (within i entry (subst (λ n. i < n) entries.ok.0 (event_exists i exists)))

  -- the event of an entry
  pub told_at : (i : ℕ) (entry : EventEntry) → entry ≡ get_or entries.items i entry → i < length told.events
      → told_by words entry ≡ get_or told.events i (seen_at 0 Halted)
  told_at i entry read exists =
      ap (told_by words) read
      ∙ (sym (event-at words entries.items i entry (seen_at 0 Halted)
      (subst (λ n. i < n) entries.ok.0 (event_exists i exists)))
      ∙ ap (λ t. get_or t.events i (seen_at 0 Halted)) is)

  -- no room for one event more
  pub full_of_events : (event : Observed)
      → event_room ≤ vec_len entries → leb event_room (vec_len entries) ≡ passes_room event told
  full_of_events event full =
      le-leb event_room (vec_len entries) full
      ∙ subst (λ t. true ≡ passes_room event t) is
      (sym (or_left (ltb event_room (length (events_of words entries.items) + 1)) _
      (lt-ltb _ _ (omega (arith, full, entries.ok.0, length-events_of words entries.items)))))

  -- no room for its words
  pub full_of_words : (event : Observed) (used : ℕ) (more : List ℤ) → vec_len entries < event_room → used ≡ length words
      → length words ≤ word_room → length words ≡ word_count (events_of words entries.items) → more ≡ event_words event
      → ltb (word_room - used) (length more) ≡ passes_room event told
  full_of_words event used more free counts fits counted shown =
      rw (counts, shown)
      (ltb-rest word_room (length words) (length (event_words event)) fits
      ∙ (ap (λ n. ltb word_room (n + length (event_words event))) counted
      ∙ subst (λ t.
      ltb word_room (word_count (events_of words entries.items) + length (event_words event)) ≡ passes_room event t) is
      (sym (ap (λ b. b || ltb word_room (word_count (events_of words entries.items) + length (event_words event)))
      (le-ltb event_room (length (events_of words entries.items) + 1)
      (omega (arith, free, entries.ok.0, length-events_of words entries.items)))))))

  -- where one more passes no room, there is room for it and its words
  pub room_for_one : (event : Observed) → passes_room event told ≡ false → vec_len entries < event_room
  room_for_one event free =
      let rooms : passes_room event (seen_as words entries.items event_room word_room) ≡ false =
      subst (λ t. passes_room event t ≡ false) (sym is) free in
      let one : length (events_of words entries.items) + 1 ≤ event_room =
      ltb-false event_room (length (events_of words entries.items) + 1)
      (or_parts (ltb event_room (length (events_of words entries.items) + 1))
      (ltb word_room (word_count (events_of words entries.items) + length (event_words event))) rooms).0 in
      omega (arith, one, entries.ok.0, length-events_of words entries.items)

  -- room for its words
  pub room_for_words : (event : Observed) → passes_room event told ≡ false
      → length words ≡ word_count (events_of words entries.items) → length words + length (event_words event)
      ≤ word_room
  room_for_words event free counted =
      let rooms : passes_room event (seen_as words entries.items event_room word_room) ≡ false =
      subst (λ t. passes_room event t ≡ false) (sym is) free in
      let all : word_count (events_of words entries.items) + length (event_words event) ≤ word_room =
      ltb-false word_room (word_count (events_of words entries.items) + length (event_words event))
      (or_parts (ltb event_room (length (events_of words entries.items) + 1))
      (ltb word_room (word_count (events_of words entries.items) + length (event_words event))) rooms).1 in
      omega (arith, all, counted)

-- an entry, its words at the end of all words
abbrev pub entry_of : ℕ → EventKind → ℕ → ℕ → EventEntry
entry_of stamp kind start len = record { stamp = stamp; kind = kind; start = start; len = len }

-- What is seen after an event was added, and that entries and words still go together.
module _ (words more all : List ℤ) (entries list : List EventEntry) (stamp start len : ℕ) (kind : EventKind)
    (event : Observed)
    (within : AreWithin words entries) (starts : start ≡ length words) (counts : len ≡ length more)
    (shown : more ≡ event_words event) (kinds : event_of kind (event_words event) ≡ event) (gained : all ≡ words
    ++ more)
    (longer : list ≡ entries ++ entry_of stamp kind start len ∷ []) where
  events_of-push : events_of all list ≡ events_of words entries ++ seen_at stamp event ∷ []
  events_of-push =
      ap (λ ws. events_of ws list) gained
      ∙ (ap (events_of (words ++ more)) longer
      ∙ (events_of-more words more entries (entry_of stamp kind start len) within starts counts
      ∙ ap (λ seen. events_of words entries ++ seen_at stamp seen ∷ []) (ap (event_of kind) shown ∙ kinds)))

  -- one more entry is within the words
  pub pushed_within : AreWithin all list
  pushed_within =
      rw (gained, longer) (AreWithin-push words more entries (entry_of stamp kind start len) within starts counts)

  -- and its words are counted
  pub pushed_counted : length words ≡ word_count (events_of words entries)
      → length all ≡ word_count (events_of all list)
  pushed_counted counted =
      let together : length all ≡ length words + length (event_words event) =
      ap length gained ∙ (length-append words more ∙ ap (λ ws. length words + length ws) shown) in
      together
      ∙ (ap (λ n. n + length (event_words event)) counted
      ∙ (sym (word_count-push (events_of words entries) (seen_at stamp event)) ∙ ap word_count (sym events_of-push)))

  -- an entry more is an event more
  pub pushed_seen : (event_room word_room : ℕ) (told : Told) → seen_as words entries event_room word_room ≡ told
      → seen_as all list event_room word_room ≡ told_more stamp event told
  pushed_seen event_room word_room told is =
      ap (λ (events : List Stamped).
      let t : Told = record { events = events; event_room = event_room; word_room = word_room } in t) events_of-push
      ∙ ap (told_more stamp event) is
