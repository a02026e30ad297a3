-- Rooms, and the arrays that find none, one variable more at a time.
use Rattle.std.proofs.Common.{◌≡◌, ℕ, zero, suc, ◌+◌, ◌-◌, ◌<◌, ◌≤◌, nat_lt, Bool, true, false, cond, List, [], ◌∷◌, ◌++◌, length, drop, get_or, refl, sym, ap, ◌∙◌, arith, append_assoc}
use Rattle.std.specs.Prelude.{nat_le, ◌&&◌}
use Rattle.std.specs.List.{All}
use Rattle.std.proofs.lemmas.Bool.{ltb-true, ltb-false, le-leb, lt-leb, lt-ltb}
use Rattle.std.proofs.lemmas.List.{append-nil, at_drop_more, at_drop_all}
use Rattle.std.proofs.lemmas.List.Elements.{All-nil, All-cons, All-head, All-tail}
use Rattle.bank_alloc.specs.declared.classes.Class.{Class}
use Rattle.resident_alloc.specs.declared.wants.Want.{Want}
use Rattle.resident_alloc.specs.Prelude.{AreShort, is_left_out, is_skipped, room_behind, is_of, is_short, left_out, room_after, without_short}
use Rattle.resident_alloc.proofs.Rooms.{none_without}

-- a room after one more variable
pub room_more : (c : Class) (room left now : ℕ) (vs : List Want) (i : ℕ) (d : Want) → i < length vs
    → now ≡ room_behind c left (get_or vs i d) → room_after c left (drop i vs) ≡ room_after c room vs
    → room_after c now (drop (i + 1) vs) ≡ room_after c room vs
room_more c room left now vs i d within is so_far =
    ap (λ n. room_after c n (drop (i + 1) vs)) is ∙ sym (at_drop_more (room_after c left) vs i d within) ∙ so_far

pub room_all : (c : Class) (room left : ℕ) (vs : List Want) (i : ℕ) → length vs ≤ i
    → room_after c left (drop i vs) ≡ room_after c room vs → left ≡ room_after c room vs
room_all c room left vs i past so_far = sym (at_drop_all (room_after c left) vs i past) ∙ so_far

-- an array that is left out is the first of those that are
left_out_first : (c : Class) (room : ℕ) (v : Want) (vs : List Want) → is_left_out c room v ≡ true
    → left_out c room (v ∷ vs) ≡ v ∷ left_out c room vs
left_out_first c room v vs is = by (is_of c v) (nat_lt room v.words) refl is where
  by : (a b : Bool) → nat_lt room v.words ≡ b → (a && b) ≡ true
      → cond a (cond (nat_le v.words room) (left_out c (room - v.words) vs) (v ∷ left_out c room vs))
      (left_out c room vs) ≡ v ∷ left_out c room vs
  by true true long is =
      ap (λ b. cond b (left_out c (room - v.words) vs) (v ∷ left_out c room vs))
      (lt-leb v.words room (ltb-true room v.words long))
  by true false long is = absurd cc
  by false b long is = absurd cc

-- after any other variable the room may be smaller
left_out_others : (c : Class) (room : ℕ) (v : Want) (vs : List Want) → is_left_out c room v ≡ false
    → left_out c room (v ∷ vs) ≡ left_out c (room_behind c room v) vs
left_out_others c room v vs is = by (is_of c v) (nat_lt room v.words) refl is where
  by : (a b : Bool) → nat_lt room v.words ≡ b → (a && b) ≡ false
      → cond a (cond (nat_le v.words room) (left_out c (room - v.words) vs) (v ∷ left_out c room vs))
      (left_out c room vs) ≡ left_out c (cond (a && nat_le v.words room) (room - v.words) room) vs
  by true true long is = absurd cc
  by true false long is =
      ap (λ b. cond b (left_out c (room - v.words) vs) (v ∷ left_out c room vs))
      (le-leb v.words room (ltb-false room v.words long))
      ∙ sym (ap (λ b. left_out c (cond b (room - v.words) room) vs)
      (le-leb v.words room (ltb-false room v.words long)))
  by false b long is = refl

-- one array more is left over by a function of the rest
pushed_on : (left : List Want → List Want) (vs : List Want) (i : ℕ) (d : Want) (out more all : List Want) → i < length vs
    → left (get_or vs i d ∷ drop (i + 1) vs) ≡ get_or vs i d ∷ left (drop (i + 1) vs)
    → more ≡ out ++ get_or vs i d ∷ []
    → out ++ left (drop i vs) ≡ all → more ++ left (drop (i + 1) vs) ≡ all
pushed_on left vs i d out more all within first pushed so_far =
    let v = get_or vs i d in
    ap (λ (m : List Want). m ++ left (drop (i + 1) vs)) pushed
    ∙ append_assoc out (v ∷ []) (left (drop (i + 1) vs))
    ∙ ap (λ (rest : List Want). out ++ rest) (sym first)
    ∙ ap (λ (rest : List Want). out ++ rest) (sym (at_drop_more left vs i d within))
    ∙ so_far

-- one array more is left out
pub left_out_pushed : (c : Class) (left : ℕ) (vs : List Want) (i : ℕ) (d : Want) (out more all : List Want)
    → i < length vs → is_left_out c left (get_or vs i d) ≡ true → more ≡ out ++ get_or vs i d ∷ []
    → out ++ left_out c left (drop i vs) ≡ all → more ++ left_out c left (drop (i + 1) vs) ≡ all
left_out_pushed c left vs i d out more all within is pushed so_far =
    pushed_on (left_out c left) vs i d out more all within
    (left_out_first c left (get_or vs i d) (drop (i + 1) vs) is) pushed so_far

pub left_out_passed : (c : Class) (left now : ℕ) (vs : List Want) (i : ℕ) (d : Want) (out all : List Want)
    → i < length vs → is_left_out c left (get_or vs i d) ≡ false → now ≡ room_behind c left (get_or vs i d)
    → out ++ left_out c left (drop i vs) ≡ all → out ++ left_out c now (drop (i + 1) vs) ≡ all
left_out_passed c left now vs i d out all within is behind so_far =
    ap (λ n. out ++ left_out c n (drop (i + 1) vs)) behind
    ∙ ap (λ (rest : List Want). out ++ rest) (sym (left_out_others c left (get_or vs i d) (drop (i + 1) vs) is))
    ∙ ap (λ (rest : List Want). out ++ rest) (sym (at_drop_more (left_out c left) vs i d within))
    ∙ so_far

left_out_fewer : (c : Class) (room : ℕ) (vs : List Want) → length (left_out c room vs) ≤ length vs
left_out_fewer c room [] = omega arith
left_out_fewer c room (v ∷ vs) =
    by (is_of c v) (nat_le v.words room) (left_out_fewer c (room - v.words) vs) (left_out_fewer c room vs)
  where
    by : (a b : Bool) → length (left_out c (room - v.words) vs) ≤ length vs → length (left_out c room vs) ≤ length vs
        → length (cond a (cond b (left_out c (room - v.words) vs) (v ∷ left_out c room vs)) (left_out c room vs))
        ≤ suc (length vs)
    by true true taken kept = omega (arith, taken)
    by true false taken kept = omega (arith, kept)
    by false b taken kept = omega (arith, kept)

left_out_each : (P : Want → Type 0) (c : Class) (room : ℕ) (vs : List Want) → All P vs → All P (left_out c room vs)
left_out_each P c room [] each = All-nil P
left_out_each P c room (v ∷ vs) each =
    by (is_of c v) (nat_le v.words room) (left_out_each P c (room - v.words) vs (All-tail P v vs each))
    (left_out_each P c room vs (All-tail P v vs each))
  where
    by : (a b : Bool) → All P (left_out c (room - v.words) vs) → All P (left_out c room vs)
        → All P (cond a (cond b (left_out c (room - v.words) vs) (v ∷ left_out c room vs)) (left_out c room vs))
    by true true taken kept = taken
    by true false taken kept = All-cons P v (left_out c room vs) (All-head P v vs each) kept
    by false b taken kept = kept

-- arrays among few and short ones are few and short
pub left_out_short : (c : Class) (room : ℕ) (vs : List Want) → AreShort vs → AreShort (left_out c room vs)
left_out_short c room vs short = record {
  count = omega (arith, left_out_fewer c room vs, short.count);
  lengths = left_out_each (λ v. v.words ≤ 1048576) c room vs short.lengths;
}

-- the first short arrays are skipped
skipped_first : (size n : ℕ) (v : Want) (vs : List Want) → is_skipped size n v ≡ true
    → without_short size n (v ∷ vs) ≡ without_short size (n - 1) vs
skipped_first size zero v vs is = absurd cc
skipped_first size (suc n) v vs is =
    ap (λ b. cond b (without_short size n vs) (v ∷ without_short size (suc n) vs)) (short (nat_lt 0 (suc n)) is)
    ∙ ap (λ k. without_short size k vs) (omega arith)
  where
    short : (b : Bool) → (b && is_short size v) ≡ true → is_short size v ≡ true
    short true is = is
    short false is = absurd cc

kept_first : (size n : ℕ) (v : Want) (vs : List Want) → is_skipped size n v ≡ false
    → without_short size n (v ∷ vs) ≡ v ∷ without_short size n vs
kept_first size zero v vs is = refl
kept_first size (suc n) v vs is =
    ap (λ b. cond b (without_short size n vs) (v ∷ without_short size (suc n) vs))
    (long (nat_lt 0 (suc n)) (lt-ltb 0 (suc n) (omega arith)) is)
  where
    long : (b : Bool) → b ≡ true → (b && is_short size v) ≡ false → is_short size v ≡ false
    long true some is = is
    long false some is = absurd cc

pub skipped : (size n : ℕ) (vs : List Want) (i : ℕ) (d : Want) (out all : List Want)
    → i < length vs → is_skipped size n (get_or vs i d) ≡ true
    → out ++ without_short size n (drop i vs) ≡ all → out ++ without_short size (n - 1) (drop (i + 1) vs) ≡ all
skipped size n vs i d out all within is so_far =
    ap (λ (rest : List Want). out ++ rest) (sym (skipped_first size n (get_or vs i d) (drop (i + 1) vs) is))
    ∙ ap (λ (rest : List Want). out ++ rest) (sym (at_drop_more (without_short size n) vs i d within))
    ∙ so_far

pub kept : (size n : ℕ) (vs : List Want) (i : ℕ) (d : Want) (out more all : List Want)
    → i < length vs → is_skipped size n (get_or vs i d) ≡ false → more ≡ out ++ get_or vs i d ∷ []
    → out ++ without_short size n (drop i vs) ≡ all → more ++ without_short size n (drop (i + 1) vs) ≡ all
kept size n vs i d out more all within is pushed so_far =
    pushed_on (without_short size n) vs i d out more all within
    (kept_first size n (get_or vs i d) (drop (i + 1) vs) is) pushed so_far

pub skipped_done : (size n : ℕ) (vs : List Want) (i : ℕ) (out all : List Want) → length vs ≤ i
    → out ++ without_short size n (drop i vs) ≡ all → out ≡ all
skipped_done size n vs i out all past so_far =
    sym (append-nil out)
    ∙ ap (λ (rest : List Want). out ++ rest)
    (sym (at_drop_all (without_short size n) vs i past ∙ none_without size n))
    ∙ so_far

without_fewer : (size n : ℕ) (vs : List Want) → length (without_short size n vs) ≤ length vs
without_fewer size zero vs = omega arith
without_fewer size (suc n) [] = omega arith
without_fewer size (suc n) (v ∷ vs) =
    by (is_short size v) (without_fewer size n vs) (without_fewer size (suc n) vs)
  where
    by : (b : Bool)
        → length (without_short size n vs) ≤ length vs → length (without_short size (suc n) vs) ≤ length vs
        → length (cond b (without_short size n vs) (v ∷ without_short size (suc n) vs)) ≤ suc (length vs)
    by true gone kept = omega (arith, gone)
    by false gone kept = omega (arith, kept)

without_each : (P : Want → Type 0) (size n : ℕ) (vs : List Want) → All P vs → All P (without_short size n vs)
without_each P size zero vs each = each
without_each P size (suc n) [] each = each
without_each P size (suc n) (v ∷ vs) each =
    by (is_short size v) (without_each P size n vs (All-tail P v vs each))
    (without_each P size (suc n) vs (All-tail P v vs each))
  where
    by : (b : Bool) → All P (without_short size n vs) → All P (without_short size (suc n) vs)
        → All P (cond b (without_short size n vs) (v ∷ without_short size (suc n) vs))
    by true gone kept = gone
    by false gone kept = All-cons P v (without_short size (suc n) vs) (All-head P v vs each) kept

pub without_short_short : (size n : ℕ) (vs : List Want) → AreShort vs → AreShort (without_short size n vs)
without_short_short size n vs short = record {
  count = omega (arith, without_fewer size n vs, short.count);
  lengths = without_each (λ v. v.words ≤ 1048576) size n vs short.lengths;
}
