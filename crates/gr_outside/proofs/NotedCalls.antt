-- A log that notes a call: the earlier calls stay, and the new one is the last.
use Rattle.std.proofs.Common.{◌≡◌, ℕ, suc, ◌+◌, ◌-◌, ◌<◌, ◌≤◌, Bool, true, false, List, [], ◌∷◌, ◌++◌, length, take, drop, slice_range, Option, Some, None, if◌then◌else◌, All, refl, sym, ap, ap₂, ◌∙◌, arith}
use Rattle.std.proofs.lemmas.Bool.Decides.{nat_tests}
use Rattle.std.specs.Option.{option_map, unwrap_or}
use Rattle.std.proofs.lemmas.List.{append_assoc, append-nil, drop_at, drop-append-le, length-drop, map-append, length-append, take-append-le, take_at}
use Rattle.gr_outside.specs.Prelude.{IsWithin, Noted, ShelfCall, after_note, bytes_of, call_of, calls_of, fits}
use Rattle.gr_outside.specs.declared.call_log.Note.{Note}

-- ---- places in a text

-- what is appended to a text is no part of a range in it
range-before : (text more : List ℕ) (from to : ℕ) → from ≤ to → to ≤ length text
    → slice_range (text ++ more) from to ≡ slice_range text from to
range-before text more from to le within =
    ap (take (to - from)) (drop-append-le from text more (omega (arith, le, within)))
    ∙ take-append-le (to - from) (drop from text) more (omega (arith, length-drop from text, le, within))

-- a range that begins after a text
range-after : (text piece more : List ℕ) (from to : ℕ) → length text ≡ from → to ≡ from + length piece
    → slice_range (text ++ (piece ++ more)) from to ≡ piece
range-after text piece more from to starts ends =
    ap (take (to - from)) (drop_at text (piece ++ more) from starts)
    ∙ take_at piece more (to - from) (omega (arith, ends))

-- ---- the calls of notes

same-bytes : (done : Bool) (one other : List ℕ) → one ≡ other
    → (if done then Some one else None) ≡ (if done then Some other else None)
same-bytes done one other is = ap (λ (bytes : List ℕ). if done then Some bytes else None) is

same-call : (text more : List ℕ) (note : Note) → IsWithin (length text) note
    → call_of (text ++ more) note ≡ call_of text note
same-call text more note within =
    ap₂ (λ (name : List ℕ) (bytes : Option (List ℕ)). record { writes = note.writes; name = name; bytes = bytes })
    (range-before text more note.start note.name_end within.0 (omega (arith, within.1, within.2)))
    (same-bytes note.done _ _ (range-before text more note.name_end note.end within.1 within.2))

-- the calls of the notes stay as the text grows
same-calls : (text more : List ℕ) (notes : List Note) → All (IsWithin (length text)) notes
    → calls_of (text ++ more) notes ≡ calls_of text notes
same-calls text more [] within = refl
same-calls text more (note ∷ notes) within =
    ap₂ (λ (c : ShelfCall) (cs : List ShelfCall). c ∷ cs)
    (same-call text more note (within 0 note (omega arith)))
    (same-calls text more notes (λ k d lt. within (suc k) d (omega (arith, lt))))

-- ---- one more note

module _ (text name bytes : List ℕ) (notes : List Note) (note : Note)
    (within : All (IsWithin (length text)) notes) (starts : note.start ≡ length text)
    (named : note.name_end ≡ note.start + length name) (ends : note.end ≡ note.name_end + length bytes) where
  noted-call : call_of (text ++ (name ++ bytes)) note
      ≡ record { writes = note.writes; name = name; bytes = if note.done then Some bytes else None }
  noted-call =
      ap₂ (λ (n : List ℕ) (b : Option (List ℕ)). record { writes = note.writes; name = n; bytes = b })
      (range-after text name bytes note.start note.name_end (sym starts) named)
      (same-bytes note.done _ _
      (ap (λ (t : List ℕ). slice_range t note.name_end note.end)
      (sym (append_assoc text name bytes) ∙ ap (λ (b : List ℕ). (text ++ name) ++ b) (sym (append-nil bytes)))
      ∙ range-after (text ++ name) bytes [] note.name_end note.end
      (omega (arith, length-append text name, starts, named)) ends))

  noted-calls : calls_of (text ++ (name ++ bytes)) (notes ++ note ∷ [])
      ≡ calls_of text notes
      ++ record { writes = note.writes; name = name; bytes = if note.done then Some bytes else None } ∷ []
  noted-calls =
      map-append (call_of (text ++ (name ++ bytes))) notes (note ∷ [])
      ∙ ap₂ (λ (cs : List ShelfCall) (c : ShelfCall). cs ++ c ∷ []) (same-calls text (name ++ bytes) notes within)
      noted-call

taken : (done : Bool) (bytes : List ℕ) → (done ≡ false → bytes ≡ [])
    → length (unwrap_or (if done then Some bytes else None) []) ≡ length bytes
taken true bytes none = refl
taken false bytes none = sym (ap length (none refl))

-- after a call that fits
fitting : (call : ShelfCall) (noted : Noted) → 0 < noted.room → bytes_of call ≤ noted.bytes
    → after_note call noted ≡ record {
      calls = option_map (λ (calls : List ShelfCall). calls ++ call ∷ []) noted.calls;
      room = noted.room - 1;
      bytes = noted.bytes - bytes_of call;
    }
fitting call noted some fit =
    let here : fits call noted ≡ true = grind (arith, nat_tests) in
    ap (λ (b : Bool). if b then record {
      calls = option_map (λ (calls : List ShelfCall). calls ++ call ∷ []) noted.calls;
      room = noted.room - 1;
      bytes = noted.bytes - bytes_of call;
    } else record { calls = None; room = 0; bytes = 0 }) here

told-more : (told : Bool) (calls more : List ShelfCall) (call : ShelfCall) → more ≡ calls ++ call ∷ []
    → (if told then Some more else None)
    ≡ option_map (λ (cs : List ShelfCall). cs ++ call ∷ []) (if told then Some calls else None)
told-more true calls more call is = ap Some is
told-more false calls more call is = refl

-- the log after a call that fits
pub noted : (told : Bool) (text name bytes after : List ℕ) (notes : List Note) (writes done : Bool)
    (start name_end end room left : ℕ) → All (IsWithin (length text)) notes → after ≡ text ++ name ++ bytes
    → start ≡ length text → name_end ≡ start + length name → end ≡ name_end + length bytes
    → (done ≡ false → bytes ≡ []) → 0 < room → length name + length bytes ≤ left
    → record {
      calls = if told
          then Some (calls_of after (notes ++ record {
            writes = writes;
            start = start;
            name_end = name_end;
            end = end;
            done = done;
          } ∷ []))
          else None;
      room = room - 1;
      bytes = left - (length name + length bytes);
    }
    ≡ after_note (record { writes = writes; name = name; bytes = if done then Some bytes else None })
    (record { calls = if told then Some (calls_of text notes) else None; room = room; bytes = left })
noted told text name bytes after notes writes done start name_end end room left within grown starts named ends none
    some fit =
    let call : ShelfCall = record { writes = writes; name = name; bytes = if done then Some bytes else None } in
    let note : Note = record { writes = writes; start = start; name_end = name_end; end = end; done = done } in
    let before : Noted =
    record { calls = if told then Some (calls_of text notes) else None; room = room; bytes = left } in
    let size : bytes_of call ≡ length name + length bytes = ap (λ n. length name + n) (taken done bytes none) in
    let more : calls_of after (notes ++ note ∷ []) ≡ calls_of text notes ++ call ∷ [] =
    ap (λ (t : List ℕ). calls_of t (notes ++ note ∷ [])) (grown ∙ append_assoc text name bytes)
    ∙ noted-calls text name bytes notes note within starts named ends in
    ap₂ (λ (cs : Option (List ShelfCall)) (n : ℕ). record { calls = cs; room = room - 1; bytes = left - n })
    (told-more told (calls_of text notes) (calls_of after (notes ++ note ∷ [])) call more) (sym size)
    ∙ sym (fitting call before some (omega (arith, size, fit)))
