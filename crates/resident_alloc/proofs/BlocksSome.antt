-- Every bank has a block.
use Rattle.std.proofs.Common.{◌≡◌, ℕ, zero, suc, ◌+◌, ◌-◌, ◌<◌, ◌≤◌, ◌%◌, Bool, true, false, cond, eqb, List, [], ◌∷◌, length, map, ◌⊎◌, inl, inr, ap, ◌∙◌, arith}
use Rattle.std.specs.Prelude.{nat_le}
use Rattle.std.specs.List.{AllByRecursion}
use Rattle.std.proofs.Math.Nat.{mod-eq_of_lt}
use Rattle.std.proofs.lemmas.Bool.{cases_order, eq-eqb}
use Rattle.src_tree.specs.declared.trees.Decl.{Decl}
use Rattle.src_tree.specs.Prelude.{words_of, LengthFits, Source}
use Rattle.bank_alloc.specs.declared.classes.Class.{Class}
use Rattle.bank_alloc.specs.declared.classes.Class.TheVariants.{ObliviousArray}
use Rattle.bank_alloc.specs.Prelude.{class_of, blocks_for}
use Rattle.bank_alloc.proofs.EachPlace.{blocks_for-some}
use Rattle.resident_alloc.specs.declared.wants.Want.{Want}
use Rattle.resident_alloc.specs.Prelude.{is_of, room_for, left_out, is_short, own_most, wants_of, without_short, in_oblivious_banks, blocks_in_turn, resident_blocks, resident_banks}
use Rattle.resident_alloc.proofs.Stored.{want}
use Rattle.resident_alloc.proofs.PlannedEach.{some_word}

-- each of some variables has a word at least
abbrev pub AllSome : List Want → Type 0
AllSome vs = AllByRecursion (λ v. 1 ≤ v.words) vs

left_out-some : (c : Class) (room : ℕ) (vs : List Want) → AllSome vs → AllSome (left_out c room vs)
left_out-some c room [] some = tt
left_out-some c room (v ∷ vs) some =
    by (is_of c v) (nat_le v.words room) (λ r. left_out-some c r vs some.1) where
      by : (b o : Bool) → ((r : ℕ) → AllSome (left_out c r vs))
          → AllSome (cond b (cond o (left_out c (room - v.words) vs) (v ∷ left_out c room vs)) (left_out c room vs))
      by true true rest = rest (room - v.words)
      by true false rest = (some.0, rest room)
      by false o rest = rest room

without_short-some : (size n : ℕ) (vs : List Want) → AllSome vs → AllSome (without_short size n vs)
without_short-some size zero vs some = some
without_short-some size (suc n) [] some = tt
without_short-some size (suc n) (v ∷ vs) some =
    by (is_short size v) (λ k. without_short-some size k vs some.1) where
      by : (b : Bool) → ((k : ℕ) → AllSome (without_short size k vs))
          → AllSome (cond b (without_short size n vs) (v ∷ without_short size (suc n) vs))
      by true rest = rest n
      by false rest = (some.0, rest (suc n))

wants_some : (p : Source) (ds : List Decl) → AllByRecursion (λ d. LengthFits d.length) ds
    → AllSome (map (λ d. want (class_of p d) (words_of d)) ds)
wants_some p [] fits = tt
wants_some p (d ∷ ds) fits = (some_word d.length fits.0, wants_some p ds fits.1)

-- an array among some takes a block of the bank whose turn it is
turn_some : (size turn j : ℕ) (vs : List Want) → 0 < size → AllSome vs → turn < 8 → j ≤ turn → turn < j + length vs
    → 1 ≤ blocks_in_turn size turn j vs
turn_some size turn j [] some all few from within = absurd (omega (arith, from, within))
turn_some size turn j (v ∷ vs) some all few from within =
    by (cases_order j turn) (λ later. turn_some size turn (j + 1) vs some all.1 few later (omega (arith, within))) where
      by : (j ≡ turn) ⊎ ((j < turn) ⊎ (turn < j)) → (j + 1 ≤ turn → 1 ≤ blocks_in_turn size turn (j + 1) vs)
          → 1 ≤ blocks_in_turn size turn j (v ∷ vs)
      by (inl here) later =
          let same : j % 8 ≡ turn = ap (λ k. k % 8) here ∙ mod-eq_of_lt few in
          let takes : ◌≡◌ {A = ℕ} (cond (eqb (j % 8) turn) (blocks_for size v.words) 0) (blocks_for size v.words) =
          ap (λ b. cond b (blocks_for size v.words) 0) (eq-eqb (j % 8) turn same) in
          omega (arith, takes, blocks_for-some size v.words some all.0)
      by (inr (inl less)) later = let rest = later (omega (arith, less)) in omega (arith, rest)
      by (inr (inr more)) later = absurd (omega (arith, more, from))

blocks_some : (size : ℕ) (all : List Want) (bank : ℕ) → 0 < size → AllSome all → bank < resident_banks size all
    → 1 ≤ resident_blocks size all bank
blocks_some size all zero some words within = omega arith
blocks_some size all (suc zero) some words within = omega arith
blocks_some size all (suc (suc turn)) some words within =
    let number : turn ≡ suc (suc turn) - 2 = omega arith in
    let few : turn < 8 = omega arith in
    let last : turn < 0 + length (in_oblivious_banks size all all) = omega arith in
    let rest =
    turn_some size turn 0 (in_oblivious_banks size all all) some
    (without_short-some size (own_most size all ObliviousArray) _
    (left_out-some ObliviousArray (room_for size all ObliviousArray) all words)) few (omega arith) last in
    let same = ap (λ t. blocks_in_turn size t 0 (in_oblivious_banks size all all)) number in
    omega (arith, rest, same)

-- every bank of a program has a block
pub bank_some : (p : Source) (size bank : ℕ) → 0 < size → AllByRecursion (λ d. LengthFits d.length) p.decls
    → bank < resident_banks size (wants_of p) → 1 ≤ resident_blocks size (wants_of p) bank
bank_some p size bank some lengths within =
    blocks_some size (wants_of p) bank some (wants_some p p.decls lengths) within
