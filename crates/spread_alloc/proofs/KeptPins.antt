-- Spreading arrays leaves the pins of slots 0 and 1 as they are.
use Rattle.std.proofs.Common.{◌≡◌, ℕ, zero, suc, ◌+◌, ◌^◌, ◌<◌, Bool, true, false, take, refl, ◌∙◌, arith}
use Rattle.std.specs.List.{range_with_len}
use Rattle.std.specs.Prelude.{length}
use Rattle.std.proofs.lemmas.Bool.{cond_both}
use Rattle.bank_alloc.specs.Prelude.{blocks_for}
use Rattle.scratch_alloc.specs.Prelude.{Plan, pin_of_slot, place_at}
use Rattle.spread_alloc.specs.Prelude.{free_slots, may_spread, spread_place, spread_over, spread_one, spread_each, spread_turn, spread_plan}
use Rattle.spread_alloc.proofs.Slots.{first-free, free-at, free_slots-are, pinned-other}

module _ (size : ℕ) (oblivious : Bool) (t : ℕ) (low : t < 2) where
  -- the slots that are taken are above these
  over-pins : (plan : Plan) (k n : ℕ)
      → pin_of_slot (spread_over size oblivious plan k (take n (free_slots plan.pins plan.slots k))) t
      ≡ pin_of_slot plan t
  over-pins plan k n =
      let slots = free_slots plan.pins plan.slots k in
      pinned-other plan.pins (take n slots) 1 (spread_place oblivious plan (place_at plan k)).block t
      (λ j within same.
      let at = (free-at plan k 2 (take n slots) j (first-free plan k 2 n slots (free_slots-are plan k)) within).0 in
      omega (arith, at, same, low))

  one-pins : (plan : Plan) (k : ℕ) → pin_of_slot (spread_one size oblivious plan k) t ≡ pin_of_slot plan t
  one-pins plan k =
      let n = blocks_for size (place_at plan k).length in
      cond_both (may_spread size oblivious plan k)
      (spread_over size oblivious plan k (take n (free_slots plan.pins plan.slots k))) plan
      (λ after. pin_of_slot after t ≡ pin_of_slot plan t) (λ yes. over-pins plan k n) (λ no. refl)

  each-pins : (plan : Plan) (k n : ℕ)
      → pin_of_slot (spread_each size oblivious plan (range_with_len k n)) t ≡ pin_of_slot plan t
  each-pins plan k zero = refl
  each-pins plan k (suc n) = each-pins (spread_one size oblivious plan k) (k + 1) n ∙ one-pins plan k

  turn-pins : (plan : Plan) → pin_of_slot (spread_turn size oblivious plan) t ≡ pin_of_slot plan t
  turn-pins plan = each-pins plan 0 (length plan.places)

pub spread-pins : (w : ℕ) (plan : Plan) (t : ℕ) → t < 2 → pin_of_slot (spread_plan w plan) t ≡ pin_of_slot plan t
spread-pins w plan t low =
    turn-pins (2 ^ w) false t low (spread_turn (2 ^ w) true plan) ∙ turn-pins (2 ^ w) true t low plan
