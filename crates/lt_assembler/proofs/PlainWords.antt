-- Words of plain bytes that are joined into lines are split into the same words.
use Rattle.std.proofs.Common.{◌≡◌, ℕ, Bool, true, false, not, eqb, leb, List, [], ◌∷◌, ◌++◌, map, refl, ap, ◌∙◌, append_assoc, arith}
use Rattle.std.specs.Prelude.{◌&&◌, flat_map}
use Rattle.std.specs.List.{All, list_all, prefix_len, onto_first, join_with_byte}
use Rattle.std.specs.Char.{is_ascii}
use Rattle.std.proofs.lemmas.Bool.{and_parts, and_from}
use Rattle.std.proofs.lemmas.Bool.Decides.{nat_tests}
use Rattle.std.proofs.lemmas.List.Elements.{All-nil, All-cons}
use Rattle.std.proofs.lemmas.List.Splits.{slice_split_none, slice_split_at}
use Rattle.lt_assembler.specs.Prelude.{Word, lines, is_semicolon, uncommented, is_blank, has_bytes, pieces, words, is_ascii_line, line}
use Rattle.lt_assembler.proofs.Splitting.{one_more}

-- a byte that is allowed in a word, and one that is allowed in a line
abbrev pub is_plain : ℕ → Bool
is_plain b = leb 33 b && (leb b 126 && not (eqb b 59))

abbrev pub is_of_line : ℕ → Bool
is_of_line b = leb 32 b && (leb b 126 && not (eqb b 59))

-- a word that isn't empty and consists of plain bytes
pub record IsPlain (word : Word) : Type 0 where
  pub some : has_bytes word ≡ true
  pub bytes : list_all is_plain word ≡ true

-- each of the words is plain
abbrev pub ArePlain : List Word → Type 0
ArePlain [] = Unit {0}
ArePlain (w ∷ ws) = IsPlain w × ArePlain ws

-- each line consists of plain words
abbrev pub AreLines : List (List Word) → Type 0
AreLines [] = Unit {0}
AreLines (ws ∷ wss) = ArePlain ws × AreLines wss

plain_blank : (b : ℕ) → is_plain b ≡ true → is_blank b ≡ false
plain_blank b e = grind (arith, nat_tests)

plain_of_line : (b : ℕ) → is_plain b ≡ true → is_of_line b ≡ true
plain_of_line b e = grind (arith, nat_tests)

line_feed : (b : ℕ) → is_of_line b ≡ true → eqb b 10 ≡ false
line_feed b e = grind (arith, nat_tests)

line_semicolon : (b : ℕ) → is_of_line b ≡ true → is_semicolon b ≡ false
line_semicolon b e = grind (arith, nat_tests)

line_ascii : (b : ℕ) → is_of_line b ≡ true → is_ascii b ≡ true
line_ascii b e = grind (arith, nat_tests)

all_of_line : (w : Word) → list_all is_plain w ≡ true → list_all is_of_line w ≡ true
all_of_line [] e = refl
all_of_line (b ∷ w) e = let p = and_parts _ _ e in and_from _ _ (plain_of_line b p.0) (all_of_line w p.1)

none_blank : (w : Word) → list_all is_plain w ≡ true → All (λ b. is_blank b ≡ false) w
none_blank [] e = All-nil (λ b. is_blank b ≡ false)
none_blank (b ∷ w) e =
    let p = and_parts _ _ e in All-cons (λ b. is_blank b ≡ false) b w (plain_blank b p.0) (none_blank w p.1)

all_append : (xs ys : List ℕ)
    → list_all is_of_line xs ≡ true → list_all is_of_line ys ≡ true → list_all is_of_line (xs ++ ys) ≡ true
all_append [] ys h k = k
all_append (x ∷ xs) ys h k = let p = and_parts _ _ h in and_from _ _ p.0 (all_append xs ys p.1 k)

-- words with a space between them
abbrev pub joined : List Word → List ℕ
joined ws = join_with_byte 32 ws

joined_bytes : (ws : List Word) → ArePlain ws → list_all is_of_line (joined ws) ≡ true
joined_bytes [] h = refl
joined_bytes (w ∷ []) h = all_of_line w h.0.bytes
joined_bytes (w ∷ v ∷ ws) h = all_append w (32 ∷ joined (v ∷ ws)) (all_of_line w h.0.bytes) (joined_bytes (v ∷ ws) h.1)

-- lines

line_first : (xs rest : List ℕ) → list_all is_of_line xs ≡ true → lines (xs ++ 10 ∷ rest) ≡ xs ∷ lines rest
unfolding lines
line_first [] rest e = refl
line_first (x ∷ xs) rest e =
    let p = and_parts _ _ e in
    rw (line_feed x p.0) (ap (onto_first x) (line_first xs rest p.1))

no_lines : lines [] ≡ []
unfolding lines
no_lines = refl

-- lines that are written are split into the same lines
pub lines_of : (wss : List (List Word)) → AreLines wss → lines (flat_map line wss) ≡ map joined wss
lines_of [] h = no_lines
lines_of (ws ∷ wss) h =
    ap lines (append_assoc (joined ws) (10 ∷ []) (flat_map line wss))
    ∙ line_first (joined ws) (flat_map line wss) (joined_bytes ws h.0)
    ∙ ap (λ (ls : List (List ℕ)). joined ws ∷ ls) (lines_of wss h.1)

-- words

uncommented_same : (xs : List ℕ) → list_all is_of_line xs ≡ true → uncommented xs ≡ xs
unfolding uncommented
uncommented_same [] e = refl
uncommented_same (x ∷ xs) e =
    let p = and_parts _ _ e in
    rw (line_semicolon x p.0, one_more (prefix_len (λ b. not (is_semicolon b)) xs))
    (ap (λ (ys : List ℕ). x ∷ ys) (uncommented_same xs p.1))

pieces_joined : (ws : List Word) → ArePlain ws → pieces (joined ws) ≡ ws
unfolding pieces
pieces_joined [] h = refl
pieces_joined (w ∷ []) h = rw (slice_split_none is_blank w (none_blank w h.0.bytes), h.0.some) refl
pieces_joined (w ∷ v ∷ ws) h =
    rw (slice_split_at is_blank w 32 (joined (v ∷ ws)) (none_blank w h.0.bytes) refl, h.0.some)
    (ap (λ (us : List Word). w ∷ us) (pieces_joined (v ∷ ws) h.1))

-- words that are joined are split into the same words
pub words_joined : (ws : List Word) → ArePlain ws → words (joined ws) ≡ ws
words_joined ws h = ap pieces (uncommented_same (joined ws) (joined_bytes ws h)) ∙ pieces_joined ws h

ascii_of_line : (xs : List ℕ) → list_all is_of_line xs ≡ true → list_all is_ascii xs ≡ true
ascii_of_line [] e = refl
ascii_of_line (x ∷ xs) e = let p = and_parts _ _ e in and_from _ _ (line_ascii x p.0) (ascii_of_line xs p.1)

-- plain words are ASCII
pub ascii_joined : (ws : List Word) → ArePlain ws → is_ascii_line (joined ws) ≡ true
ascii_joined ws h = ascii_of_line (joined ws) (joined_bytes ws h)

-- reading lines as their words
