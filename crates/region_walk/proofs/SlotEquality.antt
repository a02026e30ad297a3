-- Slots are equal exactly if they compare as equal.
use Rattle.std.proofs.Common.{◌≡◌, ℕ, ◌+◌, ◌<◌, ◌≤◌, true, List, length, get_or, set, refl, ◌∙◌, subst, rules, arith, get_or-set_other}
use Rattle.std.proofs.lemmas.Bool.{false≢true}
use Rattle.region_walk.specs.declared.states.Origin.{Origin}
use Rattle.region_walk.specs.declared.states.Origin.TheVariants.{Entry, Loaded}
use Rattle.region_walk.specs.declared.states.Slot.{Slot}
use Rattle.region_walk.specs.declared.states.Slot.TheVariants.{Any, Ram, Eram, Oram}
use Rattle.region_walk.specs.Prelude.{IsCommonOf}
use Rattle.region_walk.specs.contracts.states.OriginPartialEq.TheImpl.{ghosts as origins}
use Rattle.region_walk.specs.contracts.states.SlotPartialEq.TheImpl.{ghosts}
use Rattle.region_walk.specs.contracts.states.SlotEq.TheImpl.Laws.{laws-law}
use Rattle.region_walk.proofs.Numbered.{known_more}

same_origin : (a b : Origin) → origins.eq a b ≡ true → a ≡ b
same_origin (Entry j) (Entry k) e = grind rules
same_origin Loaded Loaded e = refl
same_origin a b e = absurd (false≢true e)

-- slots that the derived test finds equal are equal
pub same_slot : (a b : Slot) → ghosts.eq a b ≡ true → a ≡ b
same_slot Any Any e = refl
same_slot (Ram block origin) (Ram other origin') e = grind (rules, same_origin)
same_slot (Eram block) (Eram other) e = grind rules
same_slot (Oram bank) (Oram other) e = grind rules
same_slot a b e = absurd (false≢true e)

-- equal slots are found equal by the test
pub own_slot : (a b : Slot) → a ≡ b → ghosts.eq a b ≡ true
own_slot a b e = subst (λ (x : Slot). ghosts.eq a x ≡ true) e (laws-law.refl a)

-- one more slot of a list, in an iteration of a loop
module _ (xs ys zs : List Slot) (n : ℕ) (w : Slot) (inside : n < length zs)
    (rest : (q : ℕ) → n ≤ q → get_or zs q Any ≡ get_or xs q Any) where
  -- one more slot has what is known in common
  pub common-more : ((q : ℕ) → q < n → IsCommonOf Any (get_or xs q Any) (get_or ys q Any) (get_or zs q Any))
      → IsCommonOf Any (get_or zs n Any) (get_or ys n Any) w → (q : ℕ) → q < n + 1
      → IsCommonOf Any (get_or xs q Any) (get_or ys q Any) (get_or (set zs n w) q Any)
  common-more done here =
      known_more (λ q z. IsCommonOf Any (get_or xs q Any) (get_or ys q Any) z) zs n w Any inside done
      (subst (λ (x : Slot). IsCommonOf Any x (get_or ys n Any) w) (rest n (omega arith)) here)

  -- the slots after it are as they were
  pub rest-more : (q : ℕ) → n + 1 ≤ q → get_or (set zs n w) q Any ≡ get_or xs q Any
  rest-more q le =
      let other : q ≡ n → ⊥ = λ e. omega arith in
      get_or-set_other zs n q w Any other ∙ rest q (omega arith)
