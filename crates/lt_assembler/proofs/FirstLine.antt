-- The words of a text's first line, found from its beginning on.
use Rattle.std.proofs.Common.{◌≡◌, ℕ, ◌+◌, ◌<◌, ◌≤◌, Bool, true, false, cond, not, eqb, List, [], ◌∷◌, length, take, drop, refl, sym, ap, ◌∙◌, arith}
use Rattle.std.specs.Prelude.{filter, slice_index, ◌-◌, ◌&&◌}
use Rattle.std.specs.Char.{is_ascii}
use Rattle.std.specs.List.{prefix_len, slice_split, onto_first}
use Rattle.std.proofs.lemmas.List.{length-drop, take_all}
use Rattle.std.proofs.lemmas.Bool.Decides.{nat_tests}
use Rattle.lt_assembler.specs.Prelude.{is_blank, has_bytes, pieces, uncommented, is_ascii_line, line_len, first_line, behind_line, line_words, is_part, is_comment}
use Rattle.lt_assembler.proofs.Splitting.{on_test, one_more}

-- bytes

blank_no_feed : (b : ℕ) → is_blank b ≡ true → eqb b 10 ≡ false
blank_no_feed b h = grind (arith, nat_tests)

blank_no_semicolon : (b : ℕ) → is_blank b ≡ true → eqb b 59 ≡ false
blank_no_semicolon b h = grind (arith, nat_tests)

blank_ascii : (b : ℕ) → is_blank b ≡ true → is_ascii b ≡ true
blank_ascii b h = grind (arith, nat_tests)

record IsOfWord (b : ℕ) : Type 0 where
  blank : is_blank b ≡ false
  semicolon : eqb b 59 ≡ false
  feed : eqb b 10 ≡ false
  ascii : is_ascii b ≡ true

four : (b c d e : Bool) → (not b && (not c && (not d && e))) ≡ true
    → (b ≡ false) × (c ≡ false) × (d ≡ false) × (e ≡ true)
four false false false true h = (refl, refl, refl, refl)
four true c d e h = absurd cc
four false true d e h = absurd cc
four false false true e h = absurd cc
four false false false false h = absurd cc

of_word : (b : ℕ) → is_part b ≡ true → IsOfWord b
of_word b h =
    let x = four (is_blank b) (eqb b 59) (eqb b 10) (is_ascii b) h in
    record { blank = x.0; semicolon = x.1; feed = x.2; ascii = x.3 }

last : (b c d e : Bool) → (not b && (not c && (not d && e))) ≡ false → b ≡ false → c ≡ false → d ≡ false → e ≡ false
last false false false false h p q r = refl
last false false false true h p q r = absurd cc
last true c d e h p q r = absurd cc
last false true d e h p q r = absurd cc
last false false true e h p q r = absurd cc

-- a byte isn't ASCII if it isn't part of a word, isn't a blank, begins no comment, and ends no line
foreign : (b : ℕ) → is_part b ≡ false → is_blank b ≡ false → eqb b 59 ≡ false → eqb b 10 ≡ false → is_ascii b ≡ false
foreign b h p q r = last (is_blank b) (eqb b 59) (eqb b 10) (is_ascii b) h p q r

-- one more byte at the beginning

first_more : (b : ℕ) (t : List ℕ) → eqb b 10 ≡ false → first_line (b ∷ t) ≡ b ∷ first_line t
first_more b t other = rw (other, one_more (line_len t)) refl

behind_more : (b : ℕ) (t : List ℕ) → eqb b 10 ≡ false → behind_line (b ∷ t) ≡ behind_line t
behind_more b t other = rw (other, one_more (line_len t)) refl

first_none : (b : ℕ) (t : List ℕ) → eqb b 10 ≡ true → first_line (b ∷ t) ≡ []
first_none b t feed = rw feed refl

behind_feed : (b : ℕ) (t : List ℕ) → eqb b 10 ≡ true → behind_line (b ∷ t) ≡ t
behind_feed b t feed = rw feed refl

uncommented_more : (b : ℕ) (l : List ℕ) → eqb b 59 ≡ false → uncommented (b ∷ l) ≡ b ∷ uncommented l
unfolding uncommented
uncommented_more b l other = rw (other, one_more (prefix_len (λ x. not (eqb x 59)) l)) refl

uncommented_none : (b : ℕ) (l : List ℕ) → eqb b 59 ≡ true → uncommented (b ∷ l) ≡ []
unfolding uncommented
uncommented_none b l semicolon = rw semicolon refl

nothing_left : uncommented [] ≡ []
unfolding uncommented
nothing_left = refl

no_words : pieces [] ≡ []
unfolding pieces
no_words = refl

pieces_blank : (b : ℕ) (l : List ℕ) → is_blank b ≡ true → pieces (b ∷ l) ≡ pieces l
unfolding pieces
pieces_blank b l blank = rw blank refl

ascii_more : (b : ℕ) (t : List ℕ) → eqb b 10 ≡ false → is_ascii b ≡ true
    → is_ascii_line (first_line (b ∷ t)) ≡ is_ascii_line (first_line t)
ascii_more b t feed ascii = ap is_ascii_line (first_more b t feed) ∙ rw ascii refl

ascii_not : (b : ℕ) (t : List ℕ) → eqb b 10 ≡ false → is_ascii b ≡ false → is_ascii_line (first_line (b ∷ t)) ≡ false
ascii_not b t feed other = ap is_ascii_line (first_more b t feed) ∙ rw other refl

-- the part of the first line before a comment
abbrev code : List ℕ → List ℕ
code t = uncommented (first_line t)

code_more : (b : ℕ) (t : List ℕ) → eqb b 10 ≡ false → eqb b 59 ≡ false → code (b ∷ t) ≡ b ∷ code t
code_more b t feed semicolon = ap uncommented (first_more b t feed) ∙ uncommented_more b (first_line t) semicolon

-- a text without some first bytes, still in the same line
pub record IsInLine (t u : List ℕ) : Type 0 where
  pub ascii : is_ascii_line (first_line t) ≡ is_ascii_line (first_line u)
  pub behind : behind_line t ≡ behind_line u

in_line_more : (b : ℕ) (t u : List ℕ) → eqb b 10 ≡ false → is_ascii b ≡ true → IsInLine t u → IsInLine (b ∷ t) u
in_line_more b t u feed ascii h =
    record { ascii = ascii_more b t feed ascii ∙ h.ascii; behind = behind_more b t feed ∙ h.behind }

-- blanks

pub record IsBehindBlanks (t u : List ℕ) : Type 0 where
  pub line : IsInLine t u
  pub words : line_words t ≡ line_words u
  pub front : (b : ℕ) (rest : List ℕ) → u ≡ b ∷ rest → is_blank b ≡ false

-- the text after the blanks at its beginning
pub blanks : (t : List ℕ) → IsBehindBlanks t (drop (prefix_len is_blank t) t)
blanks [] = record { line = record { ascii = refl; behind = refl }; words = refl; front = λ b rest e. absurd cc }
blanks (c ∷ t) = on_test (is_blank c)
    (λ (blank : is_blank c ≡ true).
    let h = blanks t in
    let feed = blank_no_feed c blank in
    rw (blank, one_more (prefix_len is_blank t)) (record {
      line = in_line_more c t _ feed (blank_ascii c blank) h.line;
      words = ap pieces (code_more c t feed (blank_no_semicolon c blank)) ∙ pieces_blank c (code t) blank ∙ h.words;
      front = h.front;
    }))
    (λ (other : is_blank c ≡ false). rw other (record {
      line = record { ascii = refl; behind = refl };
      words = refl;
      front = λ b rest e. let same : c ≡ b = cc in rw (← same) other;
    }))

-- words

abbrev pub part_len : List ℕ → ℕ
part_len t = prefix_len is_part t

-- the text after the bytes of a word
pub parts : (t : List ℕ) → IsInLine t (drop (part_len t) t)
parts [] = record { ascii = refl; behind = refl }
parts (b ∷ t) = on_test (is_part b)
    (λ (part : is_part b ≡ true).
    let w = of_word b part in
    rw (part, one_more (part_len t)) (in_line_more b t _ w.feed w.ascii (parts t)))
    (λ (other : is_part b ≡ false). rw other (record { ascii = refl; behind = refl }))

-- the code of a line, split at the end of its first word
record IsCut (t : List ℕ) : Type 0 where
  behind : List (List ℕ)
  split : slice_split is_blank (code t) ≡ take (part_len t) t ∷ behind
  same : filter has_bytes behind ≡ filter has_bytes (slice_split is_blank (code (drop (part_len t) t)))

cut_end : (t : List ℕ) → code t ≡ [] → part_len t ≡ 0 → IsCut t
cut_end t none nothing = record {
  behind = [];
  split = ap (slice_split is_blank) none ∙ rw nothing refl;
  same = rw nothing (rw none refl);
}

cut : (t : List ℕ) → is_ascii_line (first_line t) ≡ true → IsCut t
cut [] ascii = cut_end [] nothing_left refl
cut (b ∷ t) ascii = on_test (is_part b)
    (λ (part : is_part b ≡ true).
    let w = of_word b part in
    let rest = cut t (sym (ascii_more b t w.feed w.ascii) ∙ ascii) in
    let more : slice_split is_blank (code (b ∷ t)) ≡ onto_first b (slice_split is_blank (code t)) =
    ap (slice_split is_blank) (code_more b t w.feed w.semicolon) ∙ rw w.blank refl in
    record {
      behind = rest.behind;
      split = rw (part, one_more (part_len t)) (more ∙ ap (onto_first b) rest.split);
      same = rw (part, one_more (part_len t)) rest.same;
    })
    (λ (other : is_part b ≡ false).
    let none : part_len (b ∷ t) ≡ 0 = rw other refl in
    on_test (eqb b 10)
    (λ (feed : eqb b 10 ≡ true). cut_end (b ∷ t) (ap uncommented (first_none b t feed) ∙ nothing_left) none)
    (λ (line : eqb b 10 ≡ false). on_test (eqb b 59)
    (λ (comment : eqb b 59 ≡ true).
    cut_end (b ∷ t) (ap uncommented (first_more b t line) ∙ uncommented_none b (first_line t) comment) none)
    (λ (no_comment : eqb b 59 ≡ false). on_test (is_blank b)
    (λ (blank : is_blank b ≡ true).
    let more : slice_split is_blank (code (b ∷ t)) ≡ [] ∷ slice_split is_blank (code t) =
    ap (slice_split is_blank) (code_more b t line no_comment) ∙ rw blank refl in
    record { behind = slice_split is_blank (code t); split = rw none more; same = rw none (rw more refl) })
    (λ (no_blank : is_blank b ≡ false).
    let not_ascii = ascii_not b t line (foreign b other no_blank no_comment line) in
    absurd (let bad : true ≡ false = sym ascii ∙ not_ascii in cc)))))

-- the first word of a line, and the words after it
pub first_word : (b : ℕ) (t : List ℕ) → is_part b ≡ true → is_ascii_line (first_line (b ∷ t)) ≡ true
    → line_words (b ∷ t) ≡ take (part_len (b ∷ t)) (b ∷ t) ∷ line_words (drop (part_len (b ∷ t)) (b ∷ t))
unfolding pieces
first_word b t part ascii =
    let h = cut (b ∷ t) ascii in
    ap (filter has_bytes) h.split ∙ rw (part, one_more (part_len t))
    (ap (λ ws. (b ∷ take (part_len t) t) ∷ ws) (rw (part, one_more (part_len t)) at h.same))

-- a line that begins with neither a blank nor a word has no words
pub no_word : (b : ℕ) (t : List ℕ) → is_part b ≡ false → is_blank b ≡ false → is_ascii_line (first_line (b ∷ t)) ≡ true
    → line_words (b ∷ t) ≡ []
no_word b t other no_blank ascii = on_test (eqb b 10)
    (λ (feed : eqb b 10 ≡ true). ap pieces (ap uncommented (first_none b t feed) ∙ nothing_left) ∙ no_words)
    (λ (line : eqb b 10 ≡ false). on_test (eqb b 59)
    (λ (comment : eqb b 59 ≡ true).
    ap pieces (ap uncommented (first_more b t line) ∙ uncommented_none b (first_line t) comment) ∙ no_words)
    (λ (no_comment : eqb b 59 ≡ false).
    absurd (let bad : true ≡ false = sym ascii ∙ ascii_not b t line (foreign b other no_blank no_comment line) in cc)))

pub empty_words : line_words [] ≡ []
empty_words = ap pieces nothing_left ∙ no_words

-- the end of a line

-- the text from where the ASCII bytes of the first line end
abbrev pub EndsAt : List ℕ → List ℕ → Type 0
EndsAt t [] = (is_ascii_line (first_line t) ≡ true) × (behind_line t ≡ [])
EndsAt t (b ∷ rest) = cond (eqb b 10) ((is_ascii_line (first_line t) ≡ true) × (behind_line t ≡ rest))
    (is_ascii_line (first_line t) ≡ false)

ends_in_line : (t u at : List ℕ) → IsInLine t u → EndsAt u at → EndsAt t at
ends_in_line t u [] h e = (h.ascii ∙ e.0, h.behind ∙ e.1)
ends_in_line t u (b ∷ rest) h e = by_test (eqb b 10) e where
  by_test : (f : Bool) → cond f ((is_ascii_line (first_line u) ≡ true) × (behind_line u ≡ rest))
      (is_ascii_line (first_line u) ≡ false) → cond f ((is_ascii_line (first_line t) ≡ true) × (behind_line t ≡ rest))
      (is_ascii_line (first_line t) ≡ false)
  by_test true x = (h.ascii ∙ x.0, h.behind ∙ x.1)
  by_test false x = h.ascii ∙ x

comment_parts : (b c : Bool) → (not b && c) ≡ true → (b ≡ false) × (c ≡ true)
comment_parts false true h = (refl, refl)
comment_parts true c h = absurd cc
comment_parts false false h = absurd cc

comment_last : (b c : Bool) → (not b && c) ≡ false → b ≡ false → c ≡ false
comment_last false false h p = refl
comment_last false true h p = absurd cc
comment_last true c h p = absurd cc

of_true : (X Y : Type 0) (f : Bool) → f ≡ true → X → cond f X Y
of_true X Y true h x = x
of_true X Y false h x = absurd cc

of_false : (X Y : Type 0) (f : Bool) → f ≡ false → Y → cond f X Y
of_false X Y false h y = y
of_false X Y true h y = absurd cc

pub ends : (t : List ℕ) → EndsAt t (drop (prefix_len is_comment t) t)
ends [] = (refl, refl)
ends (b ∷ t) = on_test (is_comment b)
    (λ (in_line : is_comment b ≡ true).
    let h = comment_parts (eqb b 10) (is_ascii b) in_line in
    rw (in_line, one_more (prefix_len is_comment t))
    (ends_in_line (b ∷ t) t (drop (prefix_len is_comment t) t)
    (in_line_more b t t h.0 h.1 (record { ascii = refl; behind = refl })) (ends t)))
    (λ (other : is_comment b ≡ false). rw other (on_test (eqb b 10)
    (λ (feed : eqb b 10 ≡ true).
    of_true _ _ (eqb b 10) feed (ap is_ascii_line (first_none b t feed), behind_feed b t feed))
    (λ (line : eqb b 10 ≡ false).
    of_false _ _ (eqb b 10) line (ascii_not b t line (comment_last (eqb b 10) (is_ascii b) other line)))))

-- the end of the text
pub ends_empty : (t at : List ℕ) → EndsAt t at → length at < 1
    → (is_ascii_line (first_line t) ≡ true) × (behind_line t ≡ at)
ends_empty t [] e less = e
ends_empty t (b ∷ rest) e less = absurd (omega arith)

-- the end of the line
pub ends_feed : (t at : List ℕ) → EndsAt t at → 1 ≤ length at → slice_index at 0 ≡ 10
    → (is_ascii_line (first_line t) ≡ true) × (behind_line t ≡ take (length at - 1) (drop 1 at))
ends_feed t [] e some feed = absurd (omega arith)
ends_feed t (b ∷ rest) e some feed =
    let same : eqb b 10 ≡ true = grind (arith, feed, nat_tests) in
    let h : (is_ascii_line (first_line t) ≡ true) × (behind_line t ≡ rest) = rw same at e in
    (h.0, h.1 ∙ sym (take_all (length (b ∷ rest) - 1) rest (omega arith)))

-- a byte that isn't ASCII
pub ends_foreign : (t at : List ℕ) → EndsAt t at → 1 ≤ length at → (slice_index at 0 ≡ 10 → ⊥)
    → is_ascii_line (first_line t) ≡ false
ends_foreign t [] e some other = absurd (omega arith)
ends_foreign t (b ∷ rest) e some other =
    let differs : eqb b 10 ≡ false = grind (arith, other, nat_tests) in
    rw differs at e

-- the next word

at_end : (u : List ℕ) → ((b : ℕ) (rest : List ℕ) → u ≡ b ∷ rest → is_blank b ≡ false) → part_len u ≡ 0
    → is_ascii_line (first_line u) ≡ true → line_words u ≡ []
at_end [] front none ascii = empty_words
at_end (b ∷ t) front none ascii = on_test (is_part b)
    (λ (part : is_part b ≡ true).
    absurd (let size : part_len (b ∷ t) ≡ 1 + part_len t = rw part refl in omega (arith, size, none)))
    (λ (other : is_part b ≡ false). no_word b t other (front b t refl) ascii)

-- if no word begins after the blanks, no words are left
pub no_next : (text u : List ℕ) → u ≡ drop (prefix_len is_blank text) text → part_len u ≡ 0
    → is_ascii_line (first_line text) ≡ true → line_words text ≡ []
no_next text u is none ascii =
    let h = blanks text in
    h.words ∙ ap line_words (sym is)
    ∙ at_end u (λ b rest e. h.front b rest (sym is ∙ e)) none
    (ap (λ l. is_ascii_line (first_line l)) is ∙ sym h.line.ascii ∙ ascii)

word_at : (u : List ℕ) → 0 < part_len u → is_ascii_line (first_line u) ≡ true
    → line_words u ≡ take (part_len u) u ∷ line_words (drop (part_len u) u)
word_at [] some ascii = absurd (omega arith)
word_at (b ∷ t) some ascii = on_test (is_part b)
    (λ (part : is_part b ≡ true). first_word b t part ascii)
    (λ (other : is_part b ≡ false).
    absurd (let size : part_len (b ∷ t) ≡ 0 = rw other refl in omega (arith, size, some)))

pub record IsNextWord (text u : List ℕ) : Type 0 where
  pub words : is_ascii_line (first_line text) ≡ true
      → line_words text ≡ take (part_len u) u ∷ line_words (drop (part_len u) u)
  pub line : IsInLine text (drop (part_len u) u)

-- a word that begins after the blanks
pub next_word : (text u : List ℕ) → u ≡ drop (prefix_len is_blank text) text → 0 < part_len u → IsNextWord text u
next_word text u is some =
    let h = blanks text in
    let rest = parts u in
    record {
      words = λ ascii. h.words ∙ ap line_words (sym is)
          ∙ word_at u some (ap (λ l. is_ascii_line (first_line l)) is ∙ sym h.line.ascii ∙ ascii);
      line = record {
        ascii = h.line.ascii ∙ ap (λ l. is_ascii_line (first_line l)) (sym is) ∙ rest.ascii;
        behind = h.line.behind ∙ ap behind_line (sym is) ∙ rest.behind;
      };
    }

-- the text after a line is shorter
pub behind_less : (text : List ℕ) → 0 < length text → length (behind_line text) < length text
behind_less text some =
    omega (arith, length-drop 1 (drop (line_len text) text), length-drop (line_len text) text, some)
