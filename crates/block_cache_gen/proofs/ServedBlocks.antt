-- The first variable that a slot serves: its number, and its block; and the blocks that slots begin with.
use Rattle.std.proofs.Common.{◌≡◌, ◌≢◌, ℕ, zero, suc, ◌+◌, ◌<◌, ◌≤◌, ◌==◌, Bool, true, false, ◌||◌, cond, not, List, [], ◌∷◌, length, Option, Some, None, inl, inr, refl, sym, ap, ◌∙◌, subst, arith}
use Rattle.std.specs.Prelude.{find, position, nat_lt, slice_index_or}
use Rattle.std.specs.List.{list_any, position_or_len}
use Rattle.std.specs.Option.{option_map}
use Rattle.std.proofs.lemmas.Bool.{ltb-true, ltb-false, false≢true}
use Rattle.bank_alloc.specs.declared.places.Place.{Place}
use Rattle.block_cache_gen.specs.Prelude.{Home, Pin, Setting, no_home, pin_at, is_used, block_served, first_blocks, pin_in, pin_or, home_at, homes_at}
use Rattle.block_cache_gen.proofs.HomeFacts.{bank_served}

-- the place where a search of slots ends
abbrev end_of_search : List ℕ → ℕ → ℕ
end_of_search slots slot = position_or_len (λ s. s == slot) slots

abbrev found : List Home → ℕ → Option ℕ
found homes slot = option_map (λ h. h.block) (find (λ h. h.slot == slot) homes)

-- what is found is where the search ended, and that is one of the slots
found-at : (slots : List ℕ) (slot n : ℕ) → position (λ s. s == slot) slots ≡ Some n
    → (end_of_search slots slot ≡ n) × (n < length slots)
found-at slots slot n is = by (nat_lt (end_of_search slots slot) (length slots)) refl is
  where
    by : (b : Bool) → nat_lt (end_of_search slots slot) (length slots) ≡ b
        → cond b (Some (end_of_search slots slot)) None ≡ Some n
        → (end_of_search slots slot ≡ n) × (n < length slots)
    by true within e =
        let same : end_of_search slots slot ≡ n = cc in
        (same, omega (arith, same, ltb-true (end_of_search slots slot) (length slots) within))
    by false within e = absurd (let f : ◌≡◌ {A = Option ℕ} None (Some n) = e in cc)

-- if nothing is found the search ended after the last
lost-past : (slots : List ℕ) (slot : ℕ) → position (λ s. s == slot) slots ≡ None
    → length slots ≤ end_of_search slots slot
lost-past slots slot is = by (nat_lt (end_of_search slots slot) (length slots)) refl is
  where
    by : (b : Bool) → nat_lt (end_of_search slots slot) (length slots) ≡ b
        → cond b (Some (end_of_search slots slot)) None ≡ None → length slots ≤ end_of_search slots slot
    by true within e = absurd (let f : ◌≡◌ {A = Option ℕ} (Some (end_of_search slots slot)) None = e in cc)
    by false within e = ltb-false (end_of_search slots slot) (length slots) within

-- homes are searched as their slots are
block-inside : (pins : List (Option Pin)) (w : ℕ) (places : List Place) (slots : List ℕ) (slot : ℕ) (d : Place) → length places ≡ length slots
    → end_of_search slots slot < length slots
    → Some (slice_index_or places (end_of_search slots slot) d).block ≡ found (homes_at pins w places slots) slot
block-inside pins w [] [] slot d same within = absurd (omega arith)
block-inside pins w [] (s ∷ slots) slot d same within = absurd (omega arith)
block-inside pins w (q ∷ places) [] slot d same within = absurd (omega arith)
block-inside pins w (q ∷ places) (s ∷ slots) slot d same within =
    by (s == slot) within (block-inside pins w places slots slot d (omega arith))
  where
    by : (b : Bool) → cond (not b) (1 + end_of_search slots slot) 0 < length (s ∷ slots)
        → (end_of_search slots slot < length slots
        → Some (slice_index_or places (end_of_search slots slot) d).block ≡ found (homes_at pins w places slots) slot)
        → Some (slice_index_or (q ∷ places) (cond (not b) (1 + end_of_search slots slot) 0) d).block
        ≡ option_map (λ h. h.block) (cond b (Some (home_at pins w q s)) (find (λ h. h.slot == slot) (homes_at pins w places slots)))
    by true low rest = refl
    by false low rest =
        let next : 1 + end_of_search slots slot ≡ suc (end_of_search slots slot) = omega arith in
        ap (λ k. Some (slice_index_or (q ∷ places) k d).block) next ∙ rest (omega arith)

none-inside : (pins : List (Option Pin)) (w : ℕ) (places : List Place) (slots : List ℕ) (slot : ℕ) → length slots ≤ end_of_search slots slot
    → None ≡ found (homes_at pins w places slots) slot
none-inside pins w [] slots slot past = refl
none-inside pins w (q ∷ places) [] slot past = refl
none-inside pins w (q ∷ places) (s ∷ slots) slot past = by (s == slot) past (none-inside pins w places slots slot)
  where
    by : (b : Bool) → length (s ∷ slots) ≤ cond (not b) (1 + end_of_search slots slot) 0
        → (length slots ≤ end_of_search slots slot → None ≡ found (homes_at pins w places slots) slot)
        → None
        ≡ option_map (λ h. h.block) (cond b (Some (home_at pins w q s)) (find (λ h. h.slot == slot) (homes_at pins w places slots)))
    by true high rest = absurd (omega arith)
    by false high rest = rest (omega arith)

-- the block is that of the variable of the number that is found
pub served-at : (pins : List (Option Pin)) (w : ℕ) (places : List Place) (slots : List ℕ) (slot n : ℕ) (d : Place) → length places ≡ length slots
    → position (λ s. s == slot) slots ≡ Some n
    → Some (slice_index_or places n d).block ≡ found (homes_at pins w places slots) slot
served-at pins w places slots slot n d same is =
    let h = found-at slots slot n is in
    ap (λ k. Some (slice_index_or places k d).block) (sym h.0)
    ∙ block-inside pins w places slots slot d same (omega (arith, h.0, h.1))

-- there is none where no variable has the slot
pub served-none : (pins : List (Option Pin)) (w : ℕ) (places : List Place) (slots : List ℕ) (slot : ℕ) → position (λ s. s == slot) slots ≡ None
    → None ≡ found (homes_at pins w places slots) slot
served-none pins w places slots slot is = none-inside pins w places slots slot (lost-past slots slot is)

-- a slot that is used has one
any-found : (homes : List Home) (slot : ℕ) → list_any (λ h. h.slot == slot) homes ≡ true
    → (block : ℕ) × (found homes slot ≡ Some block)
any-found [] slot e = absurd (false≢true e)
any-found (h ∷ homes) slot e = by (h.slot == slot) e (any-found homes slot)
  where
    by : (b : Bool) → (b || list_any (λ h. h.slot == slot) homes) ≡ true
        → (list_any (λ h. h.slot == slot) homes ≡ true → (block : ℕ) × (found homes slot ≡ Some block))
        → (block : ℕ)
        × (option_map (λ h. h.block) (cond b (Some h) (find (λ h. h.slot == slot) homes)) ≡ Some block)
    by true any rest = (h.block, refl)
    by false any rest = rest any

-- a slot with a first block is used
pub served-used : (f : Setting) (slot : ℕ) → is_used f slot ≡ true → (block : ℕ) × (block_served f slot ≡ Some block)
served-used f slot used = any-found f.homes slot used

-- it is that of a home
home-found : (homes : List Home) (slot block : ℕ) → found homes slot ≡ Some block
    → (k : ℕ) × (k < length homes) × ((slice_index_or homes k no_home).block ≡ block)
home-found [] slot block is = absurd (let f : ◌≡◌ {A = Option ℕ} None (Some block) = is in cc)
home-found (h ∷ homes) slot block is = by (h.slot == slot) is (home-found homes slot block)
  where
    by : (b : Bool)
        → option_map (λ h. h.block) (cond b (Some h) (find (λ h. h.slot == slot) homes)) ≡ Some block
        → (found homes slot ≡ Some block
        → (k : ℕ) × (k < length homes) × ((slice_index_or homes k no_home).block ≡ block))
        → (k : ℕ) × (k < length (h ∷ homes)) × ((slice_index_or (h ∷ homes) k no_home).block ≡ block)
    by true is rest = (0, omega arith, let f : ◌≡◌ {A = Option ℕ} (Some h.block) (Some block) = is in cc)
    by false is rest = let n = rest is in (suc n.0, omega (arith, n.1), n.2)

-- and a variable's home is there
pub served-home : (f : Setting) (slot block : ℕ) → block_served f slot ≡ Some block
    → (k : ℕ) × (k < length f.homes) × ((slice_index_or f.homes k no_home).block ≡ block)
served-home f slot block is = home-found f.homes slot block is

-- a pinned slot begins with its block
pub first-pinned : (f : Setting) (k : ℕ) (p : Pin) → k < 8 → k ≢ 6 → pin_at f k ≡ Some p
    → slice_index_or (first_blocks f) k None ≡ Some p
first-pinned f zero p few apart is = is
first-pinned f (suc zero) p few apart is = is
first-pinned f (suc (suc zero)) p few apart is = ap (λ q. pin_or q (pin_in 0 (block_served f 2))) is
first-pinned f (suc (suc (suc zero))) p few apart is = ap (λ q. pin_or q (pin_in 0 (block_served f 3))) is
first-pinned f (suc (suc (suc (suc zero)))) p few apart is = ap (λ q. pin_or q (pin_in 1 (block_served f 4))) is
first-pinned f (suc (suc (suc (suc (suc zero))))) p few apart is = ap (λ q. pin_or q (pin_in 1 (block_served f 5))) is
first-pinned f (suc (suc (suc (suc (suc (suc zero)))))) p few apart is = absurd (apart refl)
first-pinned f (suc (suc (suc (suc (suc (suc (suc zero))))))) p few apart is = is
first-pinned f (suc (suc (suc (suc (suc (suc (suc (suc n)))))))) p few apart is = absurd (omega (arith, few))

-- and one that serves a bank in turn, and is used, with a block of that bank
pub first-served : (f : Setting) (slot bank : ℕ) → bank_served slot bank → pin_at f slot ≡ None
    → is_used f slot ≡ true
    → (block : ℕ) × (slice_index_or (first_blocks f) slot None ≡ Some (record { bank = bank; block = block }))
first-served f slot bank serves free used =
    let h = served-used f slot used in
    (h.0, first slot bank h.0 serves free h.1)
  where
    in_turn : (pin : Option Pin) (one bank : ℕ) (served : Option ℕ) (block : ℕ) → pin ≡ None → served ≡ Some block
        → bank ≡ one → pin_or pin (pin_in one served) ≡ Some (record { bank = bank; block = block })
    in_turn pin one bank served block free is same =
        subst (λ n. pin_or pin (pin_in one served) ≡ Some (record { bank = n; block = block })) (sym same)
        (ap (λ q. pin_or q (pin_in one served)) free ∙ ap (pin_in one) is)

    first : (slot bank block : ℕ) → bank_served slot bank → pin_at f slot ≡ None → block_served f slot ≡ Some block
        → slice_index_or (first_blocks f) slot None ≡ Some (record { bank = bank; block = block })
    first zero bank block (inl h) free is = absurd (omega (arith, h.0))
    first zero bank block (inr h) free is = absurd (omega (arith, h.0))
    first (suc zero) bank block (inl h) free is = absurd (omega (arith, h.0))
    first (suc zero) bank block (inr h) free is = absurd (omega (arith, h.0))
    first (suc (suc zero)) bank block (inl h) free is =
        in_turn (pin_at f 2) 0 bank (block_served f 2) block free is h.1
    first (suc (suc zero)) bank block (inr h) free is = absurd (omega (arith, h.0))
    first (suc (suc (suc zero))) bank block (inl h) free is =
        in_turn (pin_at f 3) 0 bank (block_served f 3) block free is h.1
    first (suc (suc (suc zero))) bank block (inr h) free is = absurd (omega (arith, h.0))
    first (suc (suc (suc (suc zero)))) bank block (inl h) free is = absurd (omega (arith, h.0))
    first (suc (suc (suc (suc zero)))) bank block (inr h) free is =
        in_turn (pin_at f 4) 1 bank (block_served f 4) block free is h.1
    first (suc (suc (suc (suc (suc zero))))) bank block (inl h) free is = absurd (omega (arith, h.0))
    first (suc (suc (suc (suc (suc zero))))) bank block (inr h) free is =
        in_turn (pin_at f 5) 1 bank (block_served f 5) block free is h.1
    first (suc (suc (suc (suc (suc (suc n)))))) bank block (inl h) free is = absurd (omega (arith, h.0))
    first (suc (suc (suc (suc (suc (suc n)))))) bank block (inr h) free is = absurd (omega (arith, h.0))

-- what holds of all pins, and of the first blocks that are served, holds of all blocks that slots begin with
module _ (f : Setting) (P : Pin → Type 0) (pinned : (slot : ℕ) (p : Pin) → pin_at f slot ≡ Some p → P p)
    (served : (slot bank block : ℕ) → bank < 2 → block_served f slot ≡ Some block
    → P (record { bank = bank; block = block })) where
  of-served : (slot bank : ℕ) (block : Option ℕ) (p : Pin) → bank < 2 → block_served f slot ≡ block
      → pin_in bank block ≡ Some p → P p
  of-served slot bank None p low is e = absurd (let g : ◌≡◌ {A = Option Pin} None (Some p) = e in cc)
  of-served slot bank (Some block) p low is e =
      let g : ◌≡◌ {A = Option Pin} (Some (record { bank = bank; block = block })) (Some p) = e in
      let same : record { bank = bank; block = block } ≡ p = cc in
      subst P same (served slot bank block low is)

  of-either : (slot bank : ℕ) (pin : Option Pin) (p : Pin) → bank < 2 → pin_at f slot ≡ pin
      → pin_or pin (pin_in bank (block_served f slot)) ≡ Some p → P p
  of-either slot bank None p low is e = of-served slot bank (block_served f slot) p low refl e
  of-either slot bank (Some q) p low is e = pinned slot p (is ∙ e)

  pub first-all : (k : ℕ) (p : Pin) → slice_index_or (first_blocks f) k None ≡ Some p → P p
  first-all zero p is = pinned 0 p is
  first-all (suc zero) p is = pinned 1 p is
  first-all (suc (suc zero)) p is = of-either 2 0 (pin_at f 2) p (omega arith) refl is
  first-all (suc (suc (suc zero))) p is = of-either 3 0 (pin_at f 3) p (omega arith) refl is
  first-all (suc (suc (suc (suc zero)))) p is = of-either 4 1 (pin_at f 4) p (omega arith) refl is
  first-all (suc (suc (suc (suc (suc zero))))) p is = of-either 5 1 (pin_at f 5) p (omega arith) refl is
  first-all (suc (suc (suc (suc (suc (suc zero)))))) p is =
      absurd (let g : ◌≡◌ {A = Option Pin} None (Some p) = is in cc)
  first-all (suc (suc (suc (suc (suc (suc (suc zero))))))) p is = pinned 7 p is
  first-all (suc (suc (suc (suc (suc (suc (suc (suc n)))))))) p is =
      absurd (let g : ◌≡◌ {A = Option Pin} None (Some p) = is in cc)
