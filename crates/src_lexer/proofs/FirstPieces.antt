-- The splitting of a text begins with the piece that is found first, and with no other.
use Rattle.std.proofs.Common.{◌≡◌, ◌⊎◌, inl, inr, ℕ, zero, suc, ◌+◌, ◌<◌, ◌≤◌, Bool, true, false, List, [], ◌∷◌, ◌++◌, length, drop, refl, ap, subst, arith, Option, Some, None, Err, eqb}
use Rattle.std.specs.Prelude.{slice_index, if◌then◌else◌}
use Rattle.std.specs.List.{prefix_len, take_while}
use Rattle.std.proofs.lemmas.List.{take-append-drop}
use Rattle.std.proofs.lemmas.List.Sums.{prefix_len-le-length}
use Rattle.std.proofs.lemmas.List.Folds.{length-prefix_len}
use Rattle.std.proofs.lemmas.Bool.Decides.{nat_tests}
use Rattle.gr_word.specs.Prelude.{is_name_byte}
use Rattle.src_lexer.specs.declared.tokens.Kind.{Kind}
use Rattle.src_lexer.specs.Prelude.{is_white, is_in_line, LetterRun, Is, Big, Long, Mixed, letter_run_of, sign_of, BytePair, Two, Slashes, Apart, pair_of, Lexed, with_token, token_at, IsLongest, Splits, Blank, Comment, Word, Double, Single, TooBig, TooLong, Behind, Bad, Found, Skipped, Piece, Faulty, run_found, single_found, sign_found, found_in}
use Rattle.src_lexer.proofs.Longest.{prefix_each, prefix_ends}

-- what the first piece says about the splitting of a text
abbrev pub Allows : ℕ → List ℕ → Found → Type 0
Allows at text (Skipped n) =
    (0 < n) × (n ≤ length text) × ((r : Lexed) → Splits (at + n) (drop n text) r → Splits at text r)
Allows at text (Piece k n) =
    (0 < n) × (n ≤ length text)
    × ((r : Lexed) → Splits (at + n) (drop n text) r → Splits at text (with_token (token_at k at n) r))
Allows at text (Faulty e) = Splits at text (Err e)

longest : (p : ℕ → Bool) (text : List ℕ) → IsLongest p (take_while p text) (drop (prefix_len p text) text)
longest p text = record { each = prefix_each p text; ends = prefix_ends p text }

splits_at : {r : Lexed} (at : ℕ) (xs ys : List ℕ) → xs ≡ ys → Splits at xs r → Splits at ys r
splits_at {r} at xs ys e s = subst (λ z. Splits at z r) e s

-- the same splitting, from the same place written as another sum
pub place_at : {r : Lexed} {text : List ℕ} (a b : ℕ) → a ≡ b → Splits a text r → Splits b text r
place_at {r} {text} a b e s = subst (λ z. Splits z text r) e s

positive : (p : ℕ → Bool) (b : ℕ) (rest : List ℕ) → p b ≡ true → 0 < prefix_len p (b ∷ rest)
positive p b rest h = rw h (omega arith)

run_allows : (at : ℕ) (text : List ℕ) → 0 < prefix_len is_name_byte text → (r : LetterRun)
    → letter_run_of (take_while is_name_byte text) ≡ r → Allows at text (run_found at (prefix_len is_name_byte text) r)
run_allows at text some (Is k) is =
    let size = length-prefix_len is_name_byte text in (
      some,
      prefix_len-le-length is_name_byte text,
      λ r s.
          splits_at at _ text (take-append-drop (prefix_len is_name_byte text) text)
          (subst (λ n. Splits at (take_while is_name_byte text ++ drop (prefix_len is_name_byte text) text)
          (with_token (token_at k at n) r)) size
          (Word k (take_while is_name_byte text) (omega arith) (longest is_name_byte text) is
          (place_at (at + prefix_len is_name_byte text) _ (omega arith) s))),
    )
run_allows at text some Big is =
    let size = length-prefix_len is_name_byte text in
    splits_at at _ text (take-append-drop (prefix_len is_name_byte text) text)
    (TooBig (take_while is_name_byte text) (omega arith) (longest is_name_byte text) is)
run_allows at text some Long is =
    let size = length-prefix_len is_name_byte text in
    splits_at at _ text (take-append-drop (prefix_len is_name_byte text) text)
    (TooLong (take_while is_name_byte text) (omega arith) (longest is_name_byte text) is)
run_allows at text some (Mixed digits) is =
    let size = length-prefix_len is_name_byte text in
    splits_at at _ text (take-append-drop (prefix_len is_name_byte text) text)
    (Behind (take_while is_name_byte text) digits (omega arith) (longest is_name_byte text) is)

single_allows : (at b : ℕ) (rest : List ℕ)
    → is_white b ≡ false → is_name_byte b ≡ false → pair_of b (slice_index rest 0) ≡ Apart → (o : Option Kind)
    → sign_of b ≡ o → Allows at (b ∷ rest) (single_found at o)
single_allows at b rest white name apart (Some k) is =
    (omega arith, omega arith, λ r s. Single k b (record { no_white = white; no_word = name }) is apart s)
single_allows at b rest white name apart None is = Bad (record { no_white = white; no_word = name }) is apart

drop_two : (b c : ℕ) (rest : List ℕ) (n : ℕ) → drop (2 + n) (b ∷ c ∷ rest) ≡ drop n rest
drop_two b c rest n = let e : 2 + n ≡ suc (suc n) = omega arith in rw e refl

sign_allows : (at b : ℕ) (rest : List ℕ)
    → is_white b ≡ false → is_name_byte b ≡ false → (p : BytePair) → pair_of b (slice_index rest 0) ≡ p
    → (0 < length rest) ⊎ (p ≡ Apart) → Allows at (b ∷ rest) (sign_found at b rest p)
sign_allows at b [] white name (Two k) is (inl h) = absurd (omega arith)
sign_allows at b [] white name (Two k) is (inr e) = absurd (cc)
sign_allows at b (c ∷ rest) white name (Two k) is h =
    (omega arith, omega arith, λ r s. Double k b c (record { no_white = white; no_word = name }) is s)
sign_allows at b [] white name Slashes is (inl h) = absurd (omega arith)
sign_allows at b [] white name Slashes is (inr e) = absurd (cc)
sign_allows at b (c ∷ rest) white name Slashes is h =
    let le = prefix_len-le-length is_in_line rest in
    let size = length-prefix_len is_in_line rest in (
      omega arith,
      omega arith,
      λ r s.
          splits_at at (b ∷ c ∷ (take_while is_in_line rest ++ drop (prefix_len is_in_line rest) rest)) (b ∷ c ∷ rest)
          (ap (λ z. b ∷ c ∷ z) (take-append-drop (prefix_len is_in_line rest) rest))
          (Comment b c (take_while is_in_line rest) (record { no_white = white; no_word = name }) is
          (longest is_in_line rest)
          (place_at (at + (2 + prefix_len is_in_line rest)) _ (omega arith)
          (splits_at _ (drop (2 + prefix_len is_in_line rest) (b ∷ c ∷ rest)) _
          (drop_two b c rest (prefix_len is_in_line rest)) s))),
    )
sign_allows at b rest white name Apart is h = single_allows at b rest white name is (sign_of b) refl

apart_end : (b : ℕ) → pair_of b 0 ≡ Apart
unfolding pair_of
apart_end zero = refl
apart_end (suc n) = let e : eqb (suc n) 0 ≡ false = grind (arith, nat_tests) in rw e refl

some_or_apart : (b : ℕ) (rest : List ℕ) → (0 < length rest) ⊎ (pair_of b (slice_index rest 0) ≡ Apart)
some_or_apart b [] = inr (apart_end b)
some_or_apart b (c ∷ rest) = inl (omega arith)

byte_allows : (at b : ℕ) (rest : List ℕ) (white name : Bool) → is_white b ≡ white → is_name_byte b ≡ name
    → Allows at (b ∷ rest) (if white then Skipped 1
    else (if name then run_found at (prefix_len is_name_byte (b ∷ rest))
    (letter_run_of (take_while is_name_byte (b ∷ rest)))
    else sign_found at b rest (pair_of b (slice_index rest 0))))
byte_allows at b rest true name w n = (omega arith, omega arith, λ r s. Blank w s)
byte_allows at b rest false true w n = run_allows at (b ∷ rest) (positive is_name_byte b rest n) _ refl
byte_allows at b rest false false w n = sign_allows at b rest w n _ refl (some_or_apart b rest)

-- the piece that is found first may begin the splitting
pub found_allows : (at b : ℕ) (rest : List ℕ) → Allows at (b ∷ rest) (found_in at (b ∷ rest))
found_allows at b rest = byte_allows at b rest (is_white b) (is_name_byte b) refl refl
