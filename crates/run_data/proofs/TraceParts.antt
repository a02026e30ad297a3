-- The parts of a trace's text are its lines and nothing after the last; what may follow lines that were read.
use Rattle.std.proofs.Common.{◌≡◌, ◌≢◌, ℕ, ◌+◌, ◌<◌, ◌≤◌, ◌^◌, Bool, true, false, not, eqb, ⊎_elim, ◌⊎◌, inl, inr, List, [], ◌∷◌, ◌++◌, length, get_or, refl, sym, ap, ◌∙◌, subst, arith, decimal, append_assoc}
use Rattle.std.specs.List.{slice_split, join_with_byte, flat_map, list_all}
use Rattle.std.specs.Int.{IsInRange}
use Rattle.std.specs.Str.Parse.{AllDigits}
use Rattle.std.proofs.lemmas.Fmt.{digits_decimal}
use Rattle.std.proofs.lemmas.Str.Parse.{digit_at, tells_digits, numerals_by_value}
use Rattle.std.proofs.lemmas.List.{append-nil}
use Rattle.std.proofs.lemmas.List.Elements.{All-cons}
use Rattle.lt_isa.specs.Prelude.{Observed, RamRead, RamWrite, EncRead, EncWrite, Oram, Halted, Stamped}
use Rattle.run_data.specs.Prelude.{line_of, ending_text, event_line, trace_text_of, LineFits, GoesOn, AreEvents, trace_lines}
use Rattle.run_data.proofs.NameTexts.{and_first}
use Rattle.run_data.proofs.Numerals.{Without}
use Rattle.run_data.proofs.Splits.{NoneHas, split-join, joined, join-ended}
use Rattle.run_data.proofs.TraceSpelling.{split-line, Without-line}

-- each line with its line feed
lines-text : (events : List Stamped) (halted : Bool)
    → flat_map (λ l. l ++ 10 ∷ []) (trace_lines events halted) ≡ trace_text_of events halted
lines-text [] halted = append-nil (ending_text halted ++ 10 ∷ [])
lines-text (s ∷ events) halted =
    ap (λ text. (line_of s.stamp s.event ++ 10 ∷ []) ++ text) (lines-text events halted)
    ∙ sym (append_assoc (event_line s.stamp s.event) (flat_map (λ t. event_line t.stamp t.event) events)
    (ending_text halted ++ 10 ∷ []))

text-joined : (events : List Stamped) (halted : Bool)
    → join_with_byte 10 (trace_lines events halted ++ [] ∷ []) ≡ trace_text_of events halted
text-joined [] halted = join-ended 10 (ending_text halted) [] ∙ lines-text [] halted
text-joined (s ∷ events) halted =
    join-ended 10 (line_of s.stamp s.event) (trace_lines events halted) ∙ lines-text (s ∷ events) halted

-- other events follow after an event, or it is a halt and the last
pub GoesOn-cases : (e : Observed) (events : List Stamped) (halted : Bool) (others : Type 0)
    → GoesOn e events halted others → others ⊎ ((events ≡ []) × (halted ≡ true))
GoesOn-cases Halted events halted others goes = inr goes
GoesOn-cases other events halted others goes = inl goes

-- no line has a line feed
not_true : (b : Bool) → not b ≡ true → b ≡ false
not_true true is = absurd (let f : ◌≡◌ {A = Bool} false true = is in cc)
not_true false is = refl

Without-from_test : (c : ℕ) (bytes : List ℕ) → list_all (λ byte. not (eqb byte c)) bytes ≡ true → Without c bytes
Without-from_test c [] all = λ i d within. absurd (omega arith)
Without-from_test c (byte ∷ bytes) all =
    let both = and_first (not (eqb byte c)) (list_all (λ b. not (eqb b c)) bytes) all in
    All-cons (λ b. eqb b c ≡ false) byte bytes (not_true (eqb byte c) both.0) (Without-from_test c bytes both.1)

Without-end : (halted : Bool) → Without 10 (ending_text halted)
Without-end true = Without-from_test 10 (ending_text true) refl
Without-end false = Without-from_test 10 (ending_text false) refl

none-lines : (size least : ℕ) (events : List Stamped) (halted : Bool)
    → AreEvents size least events halted → NoneHas 10 (trace_lines events halted)
none-lines size least [] halted are = (Without-end halted, tt)
none-lines size least (s ∷ events) halted are =
    let later : AreEvents size (s.stamp + 1) events halted → NoneHas 10 (trace_lines events halted) =
    none-lines size (s.stamp + 1) events halted in (
      Without-line size s are.1,
      ⊎_elim later
          (λ last. subst (λ es. NoneHas 10 (trace_lines es halted)) (sym last.0) (Without-end halted, tt))
          (GoesOn-cases s.event events halted (AreEvents size (s.stamp + 1) events halted) are.2),
    )

none-ended : (lines : List (List ℕ)) → NoneHas 10 lines → NoneHas 10 (lines ++ [] ∷ [])
none-ended [] none = (λ i d within. absurd (omega arith), tt)
none-ended (line ∷ lines) none = (none.0, none-ended lines none.1)

split-ended : (line : List ℕ) (lines : List (List ℕ)) → NoneHas 10 (line ∷ lines)
    → slice_split (λ byte. eqb byte 10) (join_with_byte 10 (line ∷ (lines ++ [] ∷ []))) ≡ line ∷ (lines ++ [] ∷ [])
split-ended line lines none = split-join 10 line (lines ++ [] ∷ []) (none-ended (line ∷ lines) none)

split-lines : (events : List Stamped) (halted : Bool) → NoneHas 10 (trace_lines events halted)
    → slice_split (λ byte. eqb byte 10) (join_with_byte 10 (trace_lines events halted ++ [] ∷ []))
    ≡ trace_lines events halted ++ [] ∷ []
split-lines [] halted none = split-ended (ending_text halted) [] none
split-lines (s ∷ events) halted none = split-ended (line_of s.stamp s.event) (trace_lines events halted) none

-- the parts of a trace's text, and the text of such parts
pub split-text : (size least : ℕ) (events : List Stamped) (halted : Bool) → AreEvents size least events halted
    → slice_split (λ byte. eqb byte 10) (trace_text_of events halted) ≡ trace_lines events halted ++ [] ∷ []
split-text size least events halted are =
    ap (slice_split (λ byte. eqb byte 10)) (sym (text-joined events halted))
    ∙ split-lines events halted (none-lines size least events halted are)

-- the lines of a trace are its text
pub text-from_parts : (text : List ℕ) (events : List Stamped) (halted : Bool)
    → slice_split (λ byte. eqb byte 10) text ≡ trace_lines events halted ++ [] ∷ [] → text ≡ trace_text_of events halted
text-from_parts text events halted is =
    joined 10 text (trace_lines events halted ++ [] ∷ []) is ∙ text-joined events halted

-- the line of an event isn't a last line
first_digit : (n : ℕ) → n < 2 ^ 64 → 0 < length (decimal n) → get_or (decimal n) 0 0 ≤ 57
first_digit n below some =
    let digit : IsInRange 48 57 (get_or (decimal n) 0 0) =
    digit_at (decimal n) 0 (digits_decimal (numerals_by_value (AllDigits 10) tells_digits) n below) some in
    omega (arith, digit.1)

first_piece : (halted : Bool) → get_or (slice_split (λ byte. eqb byte 32) (ending_text halted)) 0 [] ≡ 101 ∷ 110 ∷ 100
    ∷ []
first_piece true = refl
first_piece false = refl

-- an event's line is not the last line
pub no_end : (size : ℕ) (s : Stamped) (halted : Bool) → LineFits size s → line_of s.stamp s.event ≢ ending_text halted
no_end size s halted fits is =
    let same : decimal s.stamp ≡ 101 ∷ 110 ∷ 100 ∷ [] =
    ap (λ pieces. get_or pieces 0 []) (sym (split-line size s fits) ∙ ap (slice_split (λ byte. eqb byte 32)) is)
    ∙ first_piece halted in
    let some : 0 < length (decimal s.stamp) = omega (arith, ap length same) in
    omega (arith, first_digit s.stamp (omega (arith, fits.0)) some, ap (λ bytes. get_or bytes 0 0) same)
