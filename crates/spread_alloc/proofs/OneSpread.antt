-- The free slots for an array, and the variables that are spread, one after another.
use Rattle.std.proofs.Common.{◌≡◌, ℕ, suc, ◌+◌, ◌-◌, ◌<◌, Bool, true, false, cond, List, [], ◌∷◌, ◌++◌, All, length, take, drop, get_or, Option, sym, ap, ◌∙◌, arith, append_assoc}
use Rattle.std.specs.List.{range_with_len}
use Rattle.std.proofs.lemmas.List.{at_drop_more}
use Rattle.std.proofs.lemmas.List.Elements.{All-from_get_or}
use Rattle.scratch_alloc.specs.declared.plans.Pin.{Pin}
use Rattle.scratch_alloc.specs.Prelude.{Plan}
use Rattle.spread_alloc.specs.Prelude.{free_among, free_slots, is_free, spread_each, spread_one}
use Rattle.spread_alloc.proofs.Slots.{first-free, free-at, free_slots-are}

module _ (pins : List (Option Pin)) (slots : List ℕ) (k : ℕ) where
  abbrev Free : List ℕ → List ℕ
  Free xs = free_among pins slots k xs

  first_by : (x : ℕ) (rest : List ℕ) (b : Bool) → is_free pins slots k x ≡ b
      → Free (x ∷ rest) ≡ cond b (x ∷ Free rest) (Free rest)
  first_by x rest b is = ap (λ t. cond t (x ∷ Free rest) (Free rest)) is

  -- one more of some slots is free, or isn't
  pub taken : (xs : List ℕ) (i d : ℕ) (out more all : List ℕ) → i < length xs → is_free pins slots k (get_or xs i d) ≡ true
      → more ≡ out ++ get_or xs i d ∷ [] → out ++ free_among pins slots k (drop i xs) ≡ all
      → more ++ free_among pins slots k (drop (i + 1) xs) ≡ all
  taken xs i d out more all within is pushed so_far =
      let x = get_or xs i d in
      ap (λ (m : List ℕ). m ++ Free (drop (i + 1) xs)) pushed
      ∙ append_assoc out (x ∷ []) (Free (drop (i + 1) xs))
      ∙ ap (λ (rest : List ℕ). out ++ rest) (sym (first_by x (drop (i + 1) xs) true is))
      ∙ ap (λ (rest : List ℕ). out ++ rest) (sym (at_drop_more (free_among pins slots k) xs i d within))
      ∙ so_far

  pub passed : (xs : List ℕ) (i d : ℕ) (out more all : List ℕ) → i < length xs → is_free pins slots k (get_or xs i d) ≡ false
      → more ≡ out → out ++ free_among pins slots k (drop i xs) ≡ all → more ++ free_among pins slots k (drop (i + 1) xs) ≡ all
  passed xs i d out more all within is same so_far =
      let x = get_or xs i d in
      ap (λ (m : List ℕ). m ++ Free (drop (i + 1) xs)) same
      ∙ ap (λ (rest : List ℕ). out ++ rest) (sym (first_by x (drop (i + 1) xs) false is))
      ∙ ap (λ (rest : List ℕ). out ++ rest) (sym (at_drop_more (free_among pins slots k) xs i d within))
      ∙ so_far

-- each of the first free slots is one of eight
pub chosen-few : (plan : Plan) (k n : ℕ) → All (λ s. s < 8) (take n (free_slots plan.pins plan.slots k))
chosen-few plan k n =
    let chosen = take n (free_slots plan.pins plan.slots k) in
    All-from_get_or (λ s. s < 8) chosen 0
    (λ i within.
    (free-at plan k 2 chosen i (first-free plan k 2 n (free_slots plan.pins plan.slots k) (free_slots-are plan k)) within).1.few)

-- one more variable is spread, or isn't
pub each-next : (size : ℕ) (oblivious : Bool) (plan after : Plan) (v count : ℕ) → v < count
    → after ≡ spread_one size oblivious plan v
    → spread_each size oblivious after (range_with_len (v + 1) (count - (v + 1)))
    ≡ spread_each size oblivious plan (range_with_len v (count - v))
each-next size oblivious plan after v count within is =
    ap (λ p. spread_each size oblivious p (range_with_len (v + 1) (count - (v + 1)))) is
    ∙ ap (λ n. spread_each size oblivious plan (range_with_len v n))
    (let e : suc (count - (v + 1)) ≡ count - v = omega (arith, within) in e)
