-- What holds for each two items of a list holds for each two items of the list in another order.
use Rattle.std.proofs.Common.{◌≡◌, ◌≢◌, ℕ, ◌<◌, List, length, get_or, refl, sym, subst, ⊎_elim, arith}
use Rattle.std.specs.List.{swap}
use Rattle.std.specs.List.Sorted.{IsPermutation}
use Rattle.std.proofs.lemmas.Bool.{cases_eq}
use Rattle.std.proofs.lemmas.List.Edits.{length-swap, swapped_from_swap}
use Rattle.std.proofs.lemmas.List.Sorted.{IsPermutation-keeps}

-- a relation that each item has to each other item
pub record EachTwo {X : Type 0} (R : X → X → Type 0) (xs : List X) : Type 0 where
  pub at : (i j : ℕ) (d : X) → i < length xs → j < length xs → i ≢ j → R (get_or xs i d) (get_or xs j d)

-- the place of an item before two were exchanged
data Moved (a b : ℕ) (i : ℕ) : ℕ → Type 0 where
  First : i ≡ a → Moved a b i b
  Second : i ≢ a → i ≡ b → Moved a b i a
  Elsewhere : i ≢ a → i ≢ b → Moved a b i i

record Stood {X : Type 0} (xs : List X) (d : X) (a b i : ℕ) : Type 0 where
  pub place : ℕ
  pub moved : Moved a b i place
  pub same : get_or (swap xs a b) i d ≡ get_or xs place d

stood : {X : Type 0} (xs : List X) (d : X) (a b i : ℕ) → a < length xs → b < length xs → Stood xs d a b i
stood xs d a b i in_a in_b =
    let swapped = swapped_from_swap xs (swap xs a b) a b d in_a in_b refl in
    ⊎_elim
    (λ first. record {
      place = b;
      moved = First first;
      same = subst (λ k. get_or (swap xs a b) k d ≡ get_or xs b d) (sym first) swapped.0;
    })
    (λ other.
    ⊎_elim
    (λ second. record {
      place = a;
      moved = Second other second;
      same = subst (λ k. get_or (swap xs a b) k d ≡ get_or xs a d) (sym second) swapped.1;
    })
    (λ neither. record { place = i; moved = Elsewhere other neither; same = swapped.2 i other neither })
    (cases_eq i b))
    (cases_eq i a)

moved-lt : (a b i k n : ℕ) → Moved a b i k → a < n → b < n → i < n → k < n
moved-lt a b i k n (First is) in_a in_b in_i = in_b
moved-lt a b i k n (Second not is) in_a in_b in_i = in_a
moved-lt a b i k n (Elsewhere not other) in_a in_b in_i = in_i

moved-differ : (a b i j k l : ℕ) → Moved a b i k → Moved a b j l → i ≢ j → k ≢ l
moved-differ a b i j k l (First is) (First js) differ = absurd (omega (arith, is, js, differ))
moved-differ a b i j k l (First is) (Second not js) differ = omega (arith, is, js, not, differ)
moved-differ a b i j k l (First is) (Elsewhere not other) differ = omega (arith, is, not, other, differ)
moved-differ a b i j k l (Second nor is) (First js) differ = omega (arith, is, js, nor, differ)
moved-differ a b i j k l (Second nor is) (Second not js) differ = absurd (omega (arith, is, js, differ))
moved-differ a b i j k l (Second nor is) (Elsewhere not other) differ = omega (arith, is, not, other, differ)
moved-differ a b i j k l (Elsewhere nor another) (First js) differ = omega (arith, js, nor, another, differ)
moved-differ a b i j k l (Elsewhere nor another) (Second not js) differ = omega (arith, js, nor, another, differ)
moved-differ a b i j k l (Elsewhere nor another) (Elsewhere not other) differ = differ

exchanged : {X : Type 0} (R : X → X → Type 0) (xs : List X) (a b : ℕ)
    → a < length xs → b < length xs → EachTwo R xs → EachTwo R (swap xs a b)
exchanged {X} R xs a b in_a in_b each = record {
  at = λ i j d in_i in_j differ.
      let s = stood xs d a b i in_a in_b in
      let t = stood xs d a b j in_a in_b in
      let size = length-swap xs a b in
      subst (λ x. R x (get_or (swap xs a b) j d)) (sym s.same)
      (subst (λ y. R (get_or xs s.place d) y) (sym t.same)
      (each.at s.place t.place d
      (moved-lt a b i s.place (length xs) s.moved in_a in_b (omega (arith, in_i, size)))
      (moved-lt a b j t.place (length xs) t.moved in_a in_b (omega (arith, in_j, size)))
      (moved-differ a b i j s.place t.place s.moved t.moved differ)));
}

-- a relation that each item has to each other item holds in any other order of the list
pub each_two_permuted : {X : Type 0} (R : X → X → Type 0) (xs ys : List X)
    → IsPermutation xs ys → EachTwo R xs → EachTwo R ys
each_two_permuted R xs ys permuted each =
    IsPermutation-keeps xs (EachTwo R) each (λ l a b in_a in_b e. exchanged R l a b in_a in_b e) ys permuted
