-- What the arrays of a list take, one after another: of a room, of the slots, and of the oblivious banks.
use Rattle.std.proofs.Common.{◌≡◌, ℕ, zero, suc, ◌+◌, ◌-◌, ◌≤◌, Bool, true, false, cond, List, [], ◌∷◌, ◌++◌, length, refl, sym, ap, ◌∙◌, arith}
use Rattle.std.specs.Prelude.{nat_le, nat_lt, ◌&&◌}
use Rattle.std.proofs.lemmas.Bool.{ltb-false}
use Rattle.std.proofs.lemmas.List.Sums.{sum_by-cons}
use Rattle.bank_alloc.specs.declared.classes.Class.{Class}
use Rattle.resident_alloc.specs.declared.wants.Want.{Want}
use Rattle.resident_alloc.specs.Prelude.{is_of, room_after, left_out, is_short, short_among, without_short, blocks_in_turn}

-- what is left of a room after two lists, and never more than before

pub room_after-append : (c : Class) (room : ℕ) (xs ys : List Want)
    → room_after c room (xs ++ ys) ≡ room_after c (room_after c room xs) ys
room_after-append c room [] ys = refl
room_after-append c room (x ∷ xs) ys =
    room_after-append c (cond (is_of c x && nat_le x.words room) (room - x.words) room) xs ys

took : (b : Bool) (room words : ℕ) → cond b (room - words) room ≤ room
took true room words = omega arith
took false room words = omega arith

pub room_after-le : (c : Class) (room : ℕ) (vs : List Want) → room_after c room vs ≤ room
room_after-le c room [] = omega arith
room_after-le c room (v ∷ vs) =
    let test = is_of c v && nat_le v.words room in
    let later = room_after-le c (cond test (room - v.words) room) vs in
    let first = took test room v.words in
    omega (arith, later, first)

pub room_after_push : (c : Class) (room : ℕ) (vs : List Want) (v : Want) → is_of c v ≡ true
    → nat_le v.words (room_after c room vs) ≡ true
    → room_after c room (vs ++ v ∷ []) ≡ room_after c room vs - v.words
room_after_push c room vs v of fits =
    let left = room_after c room vs in
    room_after-append c room vs (v ∷ [])
    ∙ ap (λ b. cond (b && nat_le v.words left) (left - v.words) left) of
    ∙ ap (λ b. cond b (left - v.words) left) fits

-- which are left out

pub left_out-append : (c : Class) (room : ℕ) (xs ys : List Want)
    → left_out c room (xs ++ ys) ≡ left_out c room xs ++ left_out c (room_after c room xs) ys
left_out-append c room [] ys = refl
left_out-append c room (x ∷ xs) ys =
    by (is_of c x) (nat_le x.words room) (λ r. left_out-append c r xs ys) where
      by : (b o : Bool)
          → ((r : ℕ) → left_out c r (xs ++ ys) ≡ left_out c r xs ++ left_out c (room_after c r xs) ys)
          → cond b (cond o (left_out c (room - x.words) (xs ++ ys)) (x ∷ left_out c room (xs ++ ys)))
          (left_out c room (xs ++ ys))
          ≡ cond b (cond o (left_out c (room - x.words) xs) (x ∷ left_out c room xs)) (left_out c room xs)
          ++ left_out c (room_after c (cond (b && o) (room - x.words) room) xs) ys
      by true true rest = rest (room - x.words)
      by true false rest = ap (λ l. x ∷ l) (rest room)
      by false o rest = rest room

pub left_out_push : (c : Class) (room : ℕ) (vs : List Want) (v : Want) → is_of c v ≡ true
    → nat_le v.words (room_after c room vs) ≡ false → left_out c room (vs ++ v ∷ []) ≡ left_out c room vs ++ v ∷ []
left_out_push c room vs v of long =
    left_out-append c room vs (v ∷ [])
    ∙ ap (λ b. left_out c room vs ++ cond b (cond (nat_le v.words (room_after c room vs)) [] (v ∷ [])) []) of
    ∙ ap (λ b. left_out c room vs ++ cond b [] (v ∷ [])) long

-- arrays without the first short ones

pub none_without : (size n : ℕ) → without_short size n [] ≡ []
none_without size zero = refl
none_without size (suc n) = refl

pub without_short-append : (size n m : ℕ) (xs ys : List Want) → m ≡ n - short_among size xs
    → without_short size n (xs ++ ys) ≡ without_short size n xs ++ without_short size m ys
without_short-append size n m [] ys is =
    let same : n ≡ m = omega (arith, is) in
    ap (λ k. without_short size k ys) same ∙ ap (λ l. l ++ without_short size m ys) (sym (none_without size n))
without_short-append size zero m (x ∷ xs) ys is =
    let none : zero ≡ m = omega (arith, is) in ap (λ k. (x ∷ xs) ++ without_short size k ys) none
without_short-append size (suc n) m (x ∷ xs) ys is =
    by (is_short size x) (sym (sum_by-cons (λ v. cond (is_short size v) 1 0) x xs))
    (λ k. without_short-append size k m xs ys) where
      by : (b : Bool) → cond b 1 0 + short_among size xs ≡ short_among size (x ∷ xs)
          → ((k : ℕ) → m ≡ k - short_among size xs
          → without_short size k (xs ++ ys) ≡ without_short size k xs ++ without_short size m ys)
          → cond b (without_short size n (xs ++ ys)) (x ∷ without_short size (suc n) (xs ++ ys))
          ≡ cond b (without_short size n xs) (x ∷ without_short size (suc n) xs) ++ without_short size m ys
      by true count rest = rest n (omega (arith, is, count))
      by false count rest = ap (λ l. x ∷ l) (rest (suc n) (omega (arith, is, count)))

-- an array that isn't one of the first short ones
pub without_short_push : (size n : ℕ) (vs : List Want) (v : Want)
    → (is_short size v && nat_lt (short_among size vs) n) ≡ false
    → without_short size n (vs ++ v ∷ []) ≡ without_short size n vs ++ v ∷ []
without_short_push size n vs v past =
    without_short-append size n (n - short_among size vs) vs (v ∷ []) refl
    ∙ ap (λ l. without_short size n vs ++ l) (by (n - short_among size vs) refl (is_short size v) refl past) where
      by : (m : ℕ) → n - short_among size vs ≡ m → (b : Bool) → is_short size v ≡ b
          → (b && nat_lt (short_among size vs) n) ≡ false → without_short size m (v ∷ []) ≡ v ∷ []
      by zero left b here past = refl
      by (suc m) left true here past = absurd (omega (arith, left, ltb-false (short_among size vs) n past))
      by (suc m) left false here past =
          ap (λ b. cond b (without_short size m []) (v ∷ without_short size (suc m) [])) here

-- the blocks in the oblivious banks
pub blocks_in_turn-append : (size turn j : ℕ) (xs ys : List Want)
    → blocks_in_turn size turn j (xs ++ ys)
    ≡ blocks_in_turn size turn j xs + blocks_in_turn size turn (j + length xs) ys
blocks_in_turn-append size turn j [] ys =
    let same : j ≡ j + 0 = omega arith in
    let here = ap (λ k. blocks_in_turn size turn k ys) same in
    omega (arith, here)
blocks_in_turn-append size turn j (x ∷ xs) ys =
    let same : j + 1 + length xs ≡ j + length (x ∷ xs) = omega arith in
    let later = blocks_in_turn-append size turn (j + 1) xs ys in
    let here = ap (λ k. blocks_in_turn size turn k ys) same in
    omega (arith, later, here)
