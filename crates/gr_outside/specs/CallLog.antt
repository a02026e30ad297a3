-- The calls that a log has noted. (This project's profile.)
use Rattle.std.specs.Prelude.{ℕ, ◌≤◌, Bool, List, map, slice_range, Option, Some, None, if◌then◌else◌, refl}
use Rattle.std.specs.Coded.{Coded, code_by, coded×, coded_ℕ, coded_bool, coded_list, coded_option}
use Rattle.gr_outside.specs.Shelf.{Noted, ShelfCall}
use Rattle.gr_outside.specs.declared.call_log.Note.{Note}

-- the call of a note, whose name and bytes are in a text, and the calls of a list of notes
abbrev pub call_of : List ℕ → Note → ShelfCall
call_of text note = record {
  writes = note.writes;
  name = slice_range text note.start note.name_end;
  bytes = if note.done then Some (slice_range text note.name_end note.end) else None;
}

abbrev pub calls_of : List ℕ → List Note → List ShelfCall
calls_of text notes = map (call_of text) notes

-- the note's name and bytes are within so many bytes
abbrev pub IsWithin : ℕ → Note → Type 0
IsWithin size note = (note.start ≤ note.name_end) × (note.name_end ≤ note.end) × (note.end ≤ size)

-- the ghost values that represent a call, and a log: the tuples of their fields
abbrev pub call_code : Coded ShelfCall
call_code =
    code_by (Bool × (List ℕ × Option (List ℕ)))
    (coded× coded_bool (coded× (coded_list coded_ℕ) (coded_option (coded_list coded_ℕ))))
    (λ c. (c.writes, (c.name, c.bytes)))
    (λ p. record { writes = p.0; name = p.1.0; bytes = p.1.1 })
    (λ _. refl)

abbrev pub noted_code : Coded Noted
noted_code =
    code_by (Option (List ShelfCall) × (ℕ × ℕ)) (coded× (coded_option (coded_list call_code)) (coded× coded_ℕ coded_ℕ))
    (λ n. (n.calls, (n.room, n.bytes)))
    (λ p. record { calls = p.0; room = p.1.0; bytes = p.1.1 })
    (λ _. refl)
