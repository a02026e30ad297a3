-- What is read from pieces is what they encode, and nothing is read only if they encode nothing that fits.
use Rattle.std.proofs.Common.{◌≡◌, ◌≢◌, ℕ, ◌<◌, ◌≤◌, ◌+◌, ◌^◌, eqb, ℤ, pos, List, [], ◌∷◌, ◌++◌, length, map, get_or, Bor, Option, Some, None, true, bytes_eq, take, refl, sym, ap, ◌∙◌, subst, arith, decimal}
use Rattle.std.specs.Fmt.{signed_decimal}
use Rattle.std.specs.List.{slice_split}
use Rattle.std.proofs.lemmas.Fmt.{decimal_injective}
use Rattle.std.proofs.lemmas.List.{get_or-map, length-map, map-append, take_more}
use Rattle.std.proofs.lemmas.List.Elements.{All-append, All-cons}
use Rattle.std.proofs.lemmas.Slice.Eq.{bytes_eq-Decides}
use Rattle.gr_word.specs.Prelude.{AreWords, IsWord}
use Rattle.lt_isa.specs.Prelude.{Observed, Oram, Halted, Stamped}
use Rattle.run_data.specs.declared.trace_files.TraceLine.{TraceLine}
use Rattle.run_data.specs.Prelude.{line_of, EventFits, LineFits, observed_in, stamped_in, contents, event_pieces, PiecesFound, LineFound}
use Rattle.run_data.proofs.TraceSpelling.{split-line, line-from_pieces, same-line}

-- a bank that isn't oblivious
pub no_bank : (size : ℕ) (number : List ℕ) (bank : ℕ)
    → number ≡ decimal bank → bank < 2 ^ 32 → (2 ≤ bank → bank ≤ 9 → ⊥) → (event : Observed) → EventFits size event
    → (79 ∷ number) ∷ [] ≡ event_pieces event → ⊥
no_bank size number bank is below other (Oram b) fits pieces =
    let same : number ≡ decimal b = cc in
    let e : bank ≡ b = decimal_injective bank b (omega arith) (omega (arith, fits.1)) (sym is ∙ same) in
    other (omega (arith, fits.0)) (omega (arith, fits.1))
no_bank size number bank is below other Halted fits pieces =
    let first : 79 ∷ number ≡ 72 ∷ [] = cc in
    omega (arith, ap (λ bytes. get_or bytes 0 0) first)
no_bank size number bank is below other event fits pieces = omega (arith, ap length pieces)

-- a piece that isn't a word
pub no_words : (pieces : List (Bor (List ℕ))) (i : ℕ) (d : Bor (List ℕ))
    → i < length pieces → ((z : ℤ) → IsWord z → (get_or pieces i d).now ≢ signed_decimal z) → (words : List ℤ)
    → AreWords words → contents pieces ≢ map signed_decimal words
no_words pieces i d within none words fit is =
    let same : length pieces ≡ length words =
    sym (length-map pieces (λ piece. piece.now)) ∙ ap length is ∙ length-map words signed_decimal in
    none (get_or words i (pos 0)) (fit i (pos 0) (omega arith))
    (sym (get_or-map (λ piece. piece.now) pieces i d [] within) ∙ ap (λ lists. get_or lists i []) is
    ∙ get_or-map signed_decimal words i (pos 0) [] (omega arith))

-- the line of pieces
pub line-found : (size : ℕ) (bytes : List ℕ) (pieces : List (List ℕ)) (found : Option TraceLine)
    → pieces ≡ slice_split (λ byte. eqb byte 32) bytes → PiecesFound size pieces found → LineFound size bytes found
line-found size bytes pieces (Some line) is found =
    (found.0, line-from_pieces bytes (stamped_in line) (sym is ∙ found.1))
line-found size bytes pieces None is none =
    λ s fits spelled. none s fits (is ∙ ap (slice_split (λ byte. eqb byte 32)) spelled ∙ split-line size s fits)

-- an access of plain memory that was read
pub plain-read : (letter : ℕ) (bank way block : List ℕ) (pieces : List (Bor (List ℕ))) (b : ℕ) (words new : List ℤ)
    → true ≡ bytes_eq bank (68 ∷ []) → true ≡ bytes_eq way (letter ∷ []) → (b < 2 ^ 32) × (block ≡ decimal b)
    → AreWords words × (contents pieces ≡ map signed_decimal words) → new ≡ words
    → ((b < 2 ^ 32) × (length new ≡ length pieces) × AreWords new)
    × (bank ∷ way ∷ block ∷ contents pieces ≡ (68 ∷ []) ∷ (letter ∷ []) ∷ decimal b ∷ map signed_decimal new)
plain-read letter bank way block pieces b words new one two number found new_is =
    let count : length new ≡ length pieces =
    ap length new_is ∙ sym (length-map words signed_decimal) ∙ ap length (sym found.1)
    ∙ length-map pieces (λ piece. piece.now) in
    let bank_is : bank ≡ 68 ∷ [] = (bytes_eq-Decides bank (68 ∷ [])).0 (sym one) in
    let way_is : way ≡ letter ∷ [] = (bytes_eq-Decides way (letter ∷ [])).0 (sym two) in
    ((number.0, count, subst AreWords (sym new_is) found.0), rw (bank_is, way_is, number.1, found.1, new_is) refl)

-- one word more
pub word-read : (pieces : List (Bor (List ℕ))) (i : ℕ) (d : Bor (List ℕ)) (words new : List ℤ) (z : ℤ)
    → i < length pieces → contents (take i pieces) ≡ map signed_decimal words
    → (get_or pieces i d).now ≡ signed_decimal z → new ≡ words ++ z ∷ []
    → contents (take (i + 1) pieces) ≡ map signed_decimal new
word-read pieces i d words new z within before is new_is =
    rw (take_more pieces i d within, new_is, map-append, map-append, before, is) refl

-- a word more among words
pub words-push : (words new : List ℤ) (z : ℤ) → AreWords words → IsWord z → new ≡ words ++ z ∷ [] → AreWords new
words-push words new z fit fits is =
    subst AreWords (sym is)
    (All-append IsWord words (z ∷ []) fit (All-cons IsWord z [] fits (λ i d within. absurd (omega arith))))

-- the line is another than one with a smaller stamp
pub too_low : (size : ℕ) (bytes : List ℕ) (line : TraceLine) (least : ℕ)
    → LineFits size (stamped_in line) → bytes ≡ line_of line.stamp (observed_in line.event) → line.stamp < least
    → (s : Stamped) → LineFits size s → least ≤ s.stamp → bytes ≢ line_of s.stamp s.event
too_low size bytes line least fits is low s gits high spelled =
    let same = same-line size (stamped_in line) s fits gits (sym is ∙ spelled) in
    omega (arith, ap (λ t. t.stamp) same)
