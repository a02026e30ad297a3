-- Numbers and their bytes: only a number's own bytes are read as that number.
use Rattle.std.proofs.Common.{◌≡◌, ℕ, zero, suc, ◌+◌, ◌^◌, ◌<◌, List, [], ◌∷◌, ◌++◌, length, get_or, take, drop, refl, sym, ap, ◌∙◌, arith, inl, inr}
use Rattle.std.specs.Prelude.{All}
use Rattle.std.proofs.lemmas.Bool.{cases_lt}
use Rattle.std.proofs.lemmas.List.{get_or-drop, get_or-take, get_or_past, length-take, append-nil}
use Rattle.std.specs.Int.{byte_at, bytes_low_first}
use Rattle.byteorder.specs.Endian.{little_from, little_number, little_bytes}
use Rattle.byteorder.specs.Numbers.{little_from-cons, little_from-lt, little_number-reads_back, length-bytes_low_first}

-- all of them are bytes
abbrev pub IsBytes : List ℕ → Type 0
IsBytes bytes = (i : ℕ) → get_or bytes i 0 < 256

-- numbers below 256 are bytes
pub IsBytes-All : (bytes : List ℕ) → All (λ byte. byte < 256) bytes → IsBytes bytes
IsBytes-All bytes all i =
    elim (cases_lt i (length bytes)) [
      | inl within ↦ all i 0 within
      | inr past ↦ rw (get_or_past bytes i 0 past) (omega arith)
    ]

-- bytes without the first n are bytes
pub IsBytes-drop : (n : ℕ) (bytes : List ℕ) → IsBytes bytes → IsBytes (drop n bytes)
IsBytes-drop n bytes h i = rw get_or-drop (h (n + i))

-- the first n bytes are bytes
pub IsBytes-take : (n : ℕ) (bytes : List ℕ) → IsBytes bytes → IsBytes (take n bytes)
IsBytes-take n bytes h i =
    elim (cases_lt i n) [
      | inl lt ↦ rw (get_or-take n bytes i 0 lt) (h i)
      | inr le ↦ rw (get_or_past (take n bytes) i 0 (omega (arith, length-take n bytes))) (omega arith)
    ]

byte_at-lt : (i x : ℕ) → byte_at i x < 256
byte_at-lt zero x = omega arith
byte_at-lt (suc i) x = omega arith

IsBytes-bytes_low_first : (i n x : ℕ) → IsBytes (bytes_low_first i n x)
IsBytes-bytes_low_first i zero x k = omega arith
IsBytes-bytes_low_first i (suc n) x zero = byte_at-lt i x
IsBytes-bytes_low_first i (suc n) x (suc k) = IsBytes-bytes_low_first (suc i) n x k

-- two lists of bytes of the same length that are read as the same number are equal
same_bytes : (xs ys : List ℕ) → length xs ≡ length ys → IsBytes xs → IsBytes ys
    → little_from 0 (length xs) xs ≡ little_from 0 (length ys) ys → xs ≡ ys
same_bytes [] [] len h k e = refl
same_bytes [] (y ∷ ys) len h k e = absurd (omega arith)
same_bytes (x ∷ xs) [] len h k e = absurd (omega arith)
same_bytes (x ∷ xs) (y ∷ ys) len h k e =
    let a = little_from-cons 0 (length xs) x xs in
    let b = little_from-cons 0 (length ys) y ys in
    let p : x < 256 = h 0 in
    let q : y < 256 = k 0 in
    let first : x ≡ y = omega (arith, a, b, p, q, e) in
    let others : little_from 0 (length xs) xs ≡ little_from 0 (length ys) ys = omega (arith, a, b, p, q, e) in
    let rest : xs ≡ ys = same_bytes xs ys (omega arith) (λ i. h (suc i)) (λ i. k (suc i)) others in
    cc

-- the bytes of the number that is read are the bytes that were read
pub little_bytes-little_number : (n : ℕ) (bytes : List ℕ) → length bytes ≡ n → IsBytes bytes
    → little_bytes n (little_number n bytes) ≡ bytes
little_bytes-little_number n bytes len fits =
    let x : ℕ = little_number n bytes in
    let size = length-bytes_low_first 0 n x in
    let below : x < 256 ^ n = little_from-lt 0 n bytes fits in
    let nothing : bytes_low_first 0 n x ++ [] ≡ bytes_low_first 0 n x = append-nil (bytes_low_first 0 n x) in
    let back : little_from 0 n (bytes_low_first 0 n x) ≡ x =
    ap (little_from 0 n) (sym nothing) ∙ little_number-reads_back n x [] below in
    same_bytes (bytes_low_first 0 n x) bytes (size ∙ sym len) (IsBytes-bytes_low_first 0 n x) fits (rw (size, len) back)
