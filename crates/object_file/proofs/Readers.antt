-- The two laws of a reader: it only reads a value from the value's encoding, and it reads each encoding.
use Rattle.std.proofs.Common.{◌≡◌, ℕ, ◌^◌, ◌<◌, ◌≤◌, Bool, true, false, ltb, List, ◌++◌, length, take, drop, Ok, refl, sym, ap, ◌∙◌, append_assoc, arith}
use Rattle.std.proofs.lemmas.Bool.{ltb-false, le-ltb}
use Rattle.std.proofs.lemmas.List.{drop_at, take-append-drop, length-append, length-take-le}
use Rattle.byteorder.specs.Endian.{little_number, little_bytes}
use Rattle.byteorder.specs.Numbers.{little_from-take, little_from-lt, little_number-reads_back, length-bytes_low_first}
use Rattle.gr_base.specs.Prelude.{Within, is_within}
use Rattle.object_file.specs.Prelude.{number, Read, number_at, field_at}
use Rattle.gr_base.proofs.ListTests.{Within-is_within, is_within-Within}
use Rattle.gr_base.proofs.Results.{IfRead, read_ok, read_then, read_if, read_unless, read_weaker}
use Rattle.object_file.proofs.Numbers.{IsBytes, IsBytes-drop, IsBytes-take, little_bytes-little_number}

-- the bytes are this text and then the rest
pub record Takes (bytes text rest : List ℕ) : Type 0 where
  pub parts : bytes ≡ text ++ rest
  pub rest_fits : IsBytes rest

-- two texts that are taken in sequence are taken together
pub Takes-then : {a x b y c : List ℕ} → Takes a x b → Takes b y c → Takes a (x ++ y) c
Takes-then {x = x} {y = y} {c = c} p q =
    record { parts = p.parts ∙ ap (λ (t : List ℕ). x ++ t) q.parts ∙ sym (append_assoc x y c); rest_fits = q.rest_fits }

-- the bytes begin with the encoding of the value that was read, and the value fits
abbrev pub Found : {X : Type 0} → (X → List ℕ) → (X → Type 0) → List ℕ → X × List ℕ → Type 0
Found text Fits bytes x = Takes bytes (text x.0) x.1 × Fits x.0

-- the two laws of a reader
pub record IsReader {X : Type 0} (read : List ℕ → Read X) (text : X → List ℕ) (Fits : X → Type 0) : Type 0 where
  pub reads : (bytes : List ℕ) → IsBytes bytes → IfRead (read bytes) (Found text Fits bytes)
  pub again : (x : X) (rest : List ℕ) → Fits x → read (text x ++ rest) ≡ Ok (x, rest)

-- numbers

-- the bytes begin with a number that is read
pub number_read : (n all : ℕ) (bytes : List ℕ) → IsBytes bytes
    → IfRead (number_at n all bytes) (Found (number n) (λ x. x < 256 ^ n) bytes)
unfolding number_at number
number_read n all bytes fits = read_unless _ _ _ _ (λ enough.
    let long : n ≤ length bytes = ltb-false _ _ enough in
    let x : ℕ = little_number n bytes in
    let same : little_number n (take n bytes) ≡ x = little_from-take 0 n n bytes (omega arith) in
    let front = little_bytes-little_number n (take n bytes) (length-take-le n bytes long) (IsBytes-take n bytes fits) in
    let text : little_bytes n x ≡ take n bytes = ap (little_bytes n) (sym same) ∙ front in
    let whole : bytes ≡ little_bytes n x ++ drop n bytes =
    sym (take-append-drop n bytes) ∙ ap (λ (t : List ℕ). t ++ drop n bytes) (sym text) in
    read_ok _ _ (record { parts = whole; rest_fits = IsBytes-drop n bytes fits }, little_from-lt 0 n bytes fits))

-- the encoding of a number is read
pub number_again : (n all x : ℕ) (rest : List ℕ) → x < 256 ^ n → number_at n all (number n x ++ rest) ≡ Ok (x, rest)
unfolding number_at number
number_again n all x rest lt =
    let len = length-bytes_low_first 0 n x in
    let long : ltb (length (little_bytes n x ++ rest)) n ≡ false =
    le-ltb _ _ (omega (arith, length-append (little_bytes n x) rest, len)) in
    rw (long, little_number-reads_back n x rest lt, drop_at (little_bytes n x) rest n len) refl

-- a number is read from its encoding, and from nothing else
pub numbers : (n all : ℕ) → IsReader (number_at n all) (number n) (λ x. x < 256 ^ n)
numbers n all = record { reads = number_read n all; again = number_again n all }

-- numbers in a range

-- the bytes begin with a field that is read, and the field is allowed
pub field_read : (n all : ℕ) (allowed : ℕ → Bool) (bytes : List ℕ) → IsBytes bytes
    → IfRead (field_at n all allowed bytes) (Found (number n) (λ x. (x < 256 ^ n) × (allowed x ≡ true)) bytes)
unfolding field_at
field_read n all allowed bytes fits =
    read_then _ _ _ _ (number_read n all bytes fits) (λ x found. read_if _ _ _ _ (λ ok. (found.0, (found.1, ok))))

-- the encoding of an allowed field is read
pub field_again : (n all : ℕ) (allowed : ℕ → Bool) (x : ℕ) (rest : List ℕ) → x < 256 ^ n → allowed x ≡ true
    → field_at n all allowed (number n x ++ rest) ≡ Ok (x, rest)
unfolding field_at
field_again n all allowed x rest lt ok = rw (number_again n all x rest lt, ok) refl

-- a number in a range
pub range : (n all low high : ℕ) → high < 256 ^ n
    → IsReader (field_at n all (is_within low high)) (number n) (Within low high)
range n all low high small = record {
  reads = λ bytes fits. read_weaker _ _ _ (field_read n all (is_within low high) bytes fits)
      (λ x found. (found.0, Within-is_within low high x.0 found.1.1));
  again = λ x rest h. field_again n all (is_within low high) x rest (omega (arith, h.1))
      (is_within-Within low high x h);
}
