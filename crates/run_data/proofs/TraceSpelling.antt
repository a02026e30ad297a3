-- Lines and texts of traces, their pieces and their parts: each is known from the other.
use Rattle.std.proofs.Common.{◌≡◌, ℕ, suc, ◌<◌, ◌≤◌, false, eqb, ℤ, List, [], ◌∷◌, ◌++◌, map, get_or, refl, sym, ap, ◌∙◌, subst, arith, decimal, append_assoc}
use Rattle.std.specs.Fmt.{signed_decimal}
use Rattle.std.specs.List.{slice_split, join_with_byte}
use Rattle.std.proofs.lemmas.Bool.{ne_eqb}
use Rattle.std.proofs.lemmas.Fmt.{decimal_injective, signed_decimal_injective}
use Rattle.std.proofs.lemmas.List.{append-nil}
use Rattle.std.proofs.lemmas.List.Elements.{All-cons}
use Rattle.gr_word.specs.Prelude.{AreWords}
use Rattle.lt_isa.specs.Prelude.{Observed, RamRead, RamWrite, EncRead, EncWrite, Oram, Halted, Stamped, seen_at}
use Rattle.run_data.specs.Prelude.{words_text, line_of, EventFits, LineFits, event_pieces, line_pieces}
use Rattle.run_data.proofs.Numerals.{Without, Without-decimal, Without-signed, mag-word}
use Rattle.run_data.proofs.Splits.{NoneHas, split-join, joined, Without-join}

-- words after a piece
join-words : (piece : List ℕ) (words : List ℤ)
    → join_with_byte 32 (piece ∷ map signed_decimal words) ≡ piece ++ words_text words
join-words piece [] = sym (append-nil piece)
join-words piece (word ∷ words) = ap (λ text. piece ++ 32 ∷ text) (join-words (signed_decimal word) words)

line-joined_at : (stamp : ℕ) (event : Observed)
    → join_with_byte 32 (decimal stamp ∷ event_pieces event) ≡ line_of stamp event
line-joined_at stamp (RamRead block words) = rw (join-words (decimal block) words) (simp append_assoc)
line-joined_at stamp (RamWrite block words) = rw (join-words (decimal block) words) (simp append_assoc)
line-joined_at stamp other = simp append_assoc

pub line-joined : (s : Stamped) → join_with_byte 32 (line_pieces s) ≡ line_of s.stamp s.event
line-joined s = line-joined_at s.stamp s.event

-- no piece has a space or a line feed
none-words : (c : ℕ) (words : List ℤ) → c < 45 → AreWords words → NoneHas c (map signed_decimal words)
none-words c [] low fit = tt
none-words c (word ∷ words) low fit = (
  Without-signed c word low (fit 0 word (omega arith)),
  none-words c words low (λ i d within. fit (suc i) d (omega arith)),
)

letter : (c byte : ℕ) → c < 45 → 45 ≤ byte → Without c (byte ∷ [])
letter c byte low high =
    All-cons (λ b. eqb b c ≡ false) byte [] (ne_eqb byte c (omega arith)) (λ i d within. absurd (omega arith))

none-event : (c size : ℕ) (event : Observed) → c < 45 → EventFits size event → NoneHas c (event_pieces event)
none-event c size (RamRead block words) low fits = (
  letter c 68 low (omega arith),
  (
    letter c 114 low (omega arith),
    (Without-decimal c block low (omega (arith, fits.0)), none-words c words low fits.2),
  ),
)
none-event c size (RamWrite block words) low fits = (
  letter c 68 low (omega arith),
  (
    letter c 119 low (omega arith),
    (Without-decimal c block low (omega (arith, fits.0)), none-words c words low fits.2),
  ),
)
none-event c size (EncRead block) low fits =
    (letter c 69 low (omega arith), (letter c 114 low (omega arith), (Without-decimal c block low (omega arith), tt)))
none-event c size (EncWrite block) low fits =
    (letter c 69 low (omega arith), (letter c 119 low (omega arith), (Without-decimal c block low (omega arith), tt)))
none-event c size (Oram bank) low fits = (
  All-cons (λ b. eqb b c ≡ false) 79 (decimal bank) (ne_eqb 79 c (omega arith))
      (Without-decimal c bank low (omega (arith, fits.1))),
  tt,
)
none-event c size Halted low fits = (letter c 72 low (omega arith), tt)

none-line : (c size : ℕ) (s : Stamped) → c < 45 → LineFits size s → NoneHas c (line_pieces s)
none-line c size s low fits =
    (Without-decimal c s.stamp low (omega (arith, fits.0)), none-event c size s.event low fits.1)

-- the pieces of a line
pub split-line : (size : ℕ) (s : Stamped)
    → LineFits size s → slice_split (λ byte. eqb byte 32) (line_of s.stamp s.event) ≡ line_pieces s
split-line size s fits =
    ap (slice_split (λ byte. eqb byte 32)) (sym (line-joined s))
    ∙ split-join 32 (decimal s.stamp) (event_pieces s.event) (none-line 32 size s (omega arith) fits)

-- the line of pieces
pub line-from_pieces : (bytes : List ℕ) (s : Stamped)
    → slice_split (λ byte. eqb byte 32) bytes ≡ line_pieces s → bytes ≡ line_of s.stamp s.event
line-from_pieces bytes s is = joined 32 bytes (line_pieces s) is ∙ line-joined s

-- a line has no line feed
pub Without-line : (size : ℕ) (s : Stamped) → LineFits size s → Without 10 (line_of s.stamp s.event)
Without-line size s fits =
    subst (Without 10) (line-joined s)
    (Without-join 10 32 (decimal s.stamp) (event_pieces s.event) refl (none-line 10 size s (omega arith) fits))

-- pieces are those of one event
same-words : (one two : List ℤ)
    → AreWords one → AreWords two → map signed_decimal one ≡ map signed_decimal two → one ≡ two
same-words [] [] fits gits is = refl
same-words [] (w ∷ two) fits gits is =
    absurd (let f : ◌≡◌ {A = List (List ℕ)} [] (signed_decimal w ∷ map signed_decimal two) = is in cc)
same-words (v ∷ one) [] fits gits is =
    absurd (let f : ◌≡◌ {A = List (List ℕ)} (signed_decimal v ∷ map signed_decimal one) [] = is in cc)
same-words (v ∷ one) (w ∷ two) fits gits is =
    let head : signed_decimal v ≡ signed_decimal w = cc in
    let tail : map signed_decimal one ≡ map signed_decimal two = cc in
    let first : v ≡ w =
    signed_decimal_injective v w (mag-word v (fits 0 v (omega arith))) (mag-word w (gits 0 w (omega arith))) head in
    let rest =
    same-words one two (λ i d within. fits (suc i) d (omega arith)) (λ i d within. gits (suc i) d (omega arith)) tail in
    cc

first_letter : List (List ℕ) → ℕ
first_letter pieces = get_or (get_or pieces 0 []) 0 0

second_letter : List (List ℕ) → ℕ
second_letter pieces = get_or (get_or pieces 1 []) 0 0

same-event : (size : ℕ) (e f : Observed) → EventFits size e → EventFits size f → event_pieces e ≡ event_pieces f → e ≡ f
unfolding first_letter second_letter
same-event size (RamRead a ws) (RamRead b vs) fits gits is =
    let number : decimal a ≡ decimal b = cc in
    let words : map signed_decimal ws ≡ map signed_decimal vs = cc in
    let block : a ≡ b = decimal_injective a b (omega (arith, fits.0)) (omega (arith, gits.0)) number in
    let same = same-words ws vs fits.2 gits.2 words in
    cc
same-event size (RamWrite a ws) (RamWrite b vs) fits gits is =
    let number : decimal a ≡ decimal b = cc in
    let words : map signed_decimal ws ≡ map signed_decimal vs = cc in
    let block : a ≡ b = decimal_injective a b (omega (arith, fits.0)) (omega (arith, gits.0)) number in
    let same = same-words ws vs fits.2 gits.2 words in
    cc
same-event size (EncRead a) (EncRead b) fits gits is =
    let number : decimal a ≡ decimal b = cc in
    ap EncRead (decimal_injective a b (omega arith) (omega arith) number)
same-event size (EncWrite a) (EncWrite b) fits gits is =
    let number : decimal a ≡ decimal b = cc in
    ap EncWrite (decimal_injective a b (omega arith) (omega arith) number)
same-event size (Oram a) (Oram b) fits gits is =
    let number : decimal a ≡ decimal b = cc in
    ap Oram (decimal_injective a b (omega (arith, fits.1)) (omega (arith, gits.1)) number)
same-event size Halted Halted fits gits is = refl
same-event size e f fits gits is = absurd (omega (arith, ap first_letter is, ap second_letter is))

-- one line encodes one event
pub same-line : (size : ℕ) (s t : Stamped)
    → LineFits size s → LineFits size t → line_of s.stamp s.event ≡ line_of t.stamp t.event → s ≡ t
same-line size s t fits gits is =
    let pieces : line_pieces s ≡ line_pieces t =
    sym (split-line size s fits) ∙ ap (slice_split (λ byte. eqb byte 32)) is ∙ split-line size t gits in
    let number : decimal s.stamp ≡ decimal t.stamp = cc in
    let events : event_pieces s.event ≡ event_pieces t.event = cc in
    let stamp : s.stamp ≡ t.stamp =
    decimal_injective s.stamp t.stamp (omega (arith, fits.0)) (omega (arith, gits.0)) number in
    ap (λ n. seen_at n s.event) stamp ∙ ap (seen_at t.stamp) (same-event size s.event t.event fits.1 gits.1 events)
